-- Demand 3 of a repair and the recovery after it (paper 02, W3): it speaks of the repaired pages as the lent ones, where each copy taken is its page at a moment of the history.
use Rattle.std.specs.Prelude.{ℕ, ◌≤◌, ◌<◌, ◌≡◌, ◌⊎◌, true, false, List, length, take}
use Rattle.endian.specs.Numbers.{Bytes}
use Rattle.wal.specs.Walk.{entries}
use Rattle.page.specs.Layout.{data_type, pages_in, page_at, type_of, slot_at}
use Rattle.doublewrite.specs.Repair.{copy_of, is_taken, repair_verdict, pages_after}
use Rattle.rules.specs.Lent.{lent}
use Rattle.rules.specs.Recover.{recover_of}
use Rattle.rules.specs.declared.Record.{Record}
use Rattle.history.specs.History.{run, start, ledger}
use Rattle.history.specs.Demand3.{History, file, HasFelt}

-- The page p as page i stood when m steps had been made; asked is what `Stands` of the history asks of each page.
pub record StandsAt (h : History) (m i : ℕ) (p : List ℕ) : Type 0 where
  pub type : type_of p ≡ data_type → type_of (page_at i h.pages) ≡ data_type
  pub slots : type_of p ≡ data_type → (k : ℕ) → slot_at p k ≡ (run (start h.pages) (take m h.steps)).slot i k

-- Page by page: where a copy is taken, the copy stands at a moment; elsewhere the lent page does.
pub record StandsRepaired (h : History) (moment : ℕ → ℕ) (magic : ℕ) (P f : List ℕ) : Type 0 where
  pub copy : (i : ℕ) → i < pages_in P → is_taken magic i (copy_of f i) (page_at i P) ≡ true → StandsAt h (moment i) i (copy_of f i)
  pub own : (i : ℕ) → i < pages_in P → is_taken magic i (copy_of f i) (page_at i P) ≡ false → StandsAt h (moment i) i (page_at i P)

-- The pages Q that a power failure leaves in the repair, or in a recovery after it: each wholly as lent, as repaired, or as the full recovery left it, in any mixture.
pub record MixedRepaired (lent repaired after Q : List ℕ) : Type 0 where
  pub size : length Q ≡ length lent
  pub each : (i : ℕ) → i < pages_in lent → (page_at i Q ≡ page_at i lent) ⊎ ((page_at i Q ≡ page_at i repaired) ⊎ (page_at i Q ≡ page_at i after))

pub record Demand3Repaired (h : History) : Type 0 where
  -- Where the repair and the recovery after it are accepted, each slot of each page of type 1 holds what the ledger says, fed the whole entries found in the log's file.
  pub exact : (magic floor : ℕ) (moment : ℕ → ℕ) (P f : List ℕ) (c z : ℕ) (table : List Record) → (repair_verdict P f).number ≡ 0
      → StandsRepaired h moment magic P f → HasFelt h moment (pages_after magic P f) (file h c z)
      → (recover_of (lent magic floor (pages_after magic P f) (file h c z)) table).answer.number ≡ 0
      → (i k : ℕ) → i < pages_in P → type_of (page_at i (pages_after magic P f)) ≡ data_type
      → slot_at (page_at i (recover_of (lent magic floor (pages_after magic P f) (file h c z)) table).pages) k ≡ ledger h.pages (entries (file h c z)) i k
  -- Stopped anywhere in the repair, or in a recovery from a first file of the log, and begun again with the same double-write file: the repair is accepted, and so is the recovery from a second file
  -- of the log where it was before, with the same answer and the same bytes. Neither the second cut nor its file with the zeros is shorter than the first's.
  pub repeats : (magic floor₁ floor : ℕ) (P f : List ℕ) (c₁ z₁ c₂ z₂ : ℕ) (T₁ T₂ T₃ : List Record) → Bytes P → Bytes f → Bytes h.log
      → c₁ ≤ c₂ → length (file h c₁ z₁) ≤ length (file h c₂ z₂) → length T₁ ≡ length T₂ → length T₃ ≡ length T₂
      → (repair_verdict P f).number ≡ 0
      → (recover_of (lent magic floor (pages_after magic P f) (file h c₂ z₂)) T₂).answer.number ≡ 0
      → (Q : List ℕ) → MixedRepaired P (pages_after magic P f) (recover_of (lent magic floor₁ (pages_after magic P f) (file h c₁ z₁)) T₁).pages Q
      → ((repair_verdict Q f).number ≡ 0)
      × ((recover_of (lent magic floor (pages_after magic Q f) (file h c₂ z₂)) T₃).answer ≡ (recover_of (lent magic floor (pages_after magic P f) (file h c₂ z₂)) T₂).answer)
      × ((recover_of (lent magic floor (pages_after magic Q f) (file h c₂ z₂)) T₃).pages ≡ (recover_of (lent magic floor (pages_after magic P f) (file h c₂ z₂)) T₂).pages)
