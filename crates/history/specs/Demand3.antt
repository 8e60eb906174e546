-- Demand 3: from pages of any moments of an honest history and any cut of its log, with any number of zero bytes behind it (paper 02, W11), accepted recovery gives exactly what the
-- committed transactions made; and recovery interrupted and run again, from the same or a longer cut, ends in the same bytes.
use Rattle.std.specs.Prelude.{ℕ, ◌≤◌, ◌<◌, ◌≡◌, ◌⊎◌, List, length, take, drop}
use Rattle.endian.specs.Numbers.{Bytes}
use Rattle.wal.specs.Walk.{entries, ending_of, file_of}
use Rattle.wal.specs.declared.Reading.TheVariants.{End}
use Rattle.page.specs.Layout.{data_type, pages_in, page_at, type_of, slot_at}
use Rattle.rules.specs.Mend.{top_of}
use Rattle.rules.specs.Recover.{recover_of}
use Rattle.rules.specs.declared.Record.{Record}
use Rattle.history.specs.History.{Step, logged_in, run, Honest, start, ledger}
use Rattle.rules.specs.Lent.{lent}

-- An honest history: its starting pages, its steps, and its log, whose entries are those that the steps logged, with nothing behind them: what a power failure tore and the zero
-- bytes that were set aside belong to its files. Nothing is asked of changes on pages that are not of type 1.
pub record History : Type 0 where
  pub pages : List ℕ
  pub steps : List Step
  pub log : List ℕ
  pub honest : Honest (λ i. type_of (page_at i pages) ≡ data_type) (start pages) steps
  pub in_log : entries log ≡ logged_in steps
  pub ends : ending_of log ≡ End

-- A file of the history: the first c bytes of its log, and z zero bytes behind them.
abbrev pub file : History → ℕ → ℕ → List ℕ
file h c z = file_of h.log c z

-- The pages P, each as it stood at a moment of the history of its own: moment i is how many steps had been made. A page of type 1 was so from the start. Nothing is asked of other pages, nothing of
-- layout, flags, item counts, LSNs and checksums, and not that the pages are good: acceptance shows that.
pub record Stands (h : History) (moment : ℕ → ℕ) (P : List ℕ) : Type 0 where
  pub type : (i : ℕ) → i < pages_in P → type_of (page_at i P) ≡ data_type → type_of (page_at i h.pages) ≡ data_type
  pub slots : (i k : ℕ) → i < pages_in P → type_of (page_at i P) ≡ data_type → slot_at (page_at i P) k ≡ (run (start h.pages) (take (moment i) h.steps)).slot i k

-- The file F has each change that a page has felt by its moment: what was logged by then and is not among the whole entries found in F is no change on that page.
pub record HasFelt (h : History) (moment : ℕ → ℕ) (P F : List ℕ) : Type 0 where
  pub felt : (i : ℕ) → i < pages_in P → type_of (page_at i P) ≡ data_type → top_of i (drop (length (entries F)) (logged_in (take (moment i) h.steps))) ≡ 0

-- The pages Q that a power failure in a run leaves: each wholly as lent or wholly as the full run left it, in any mixture. (A refused run left all as lent.)
pub record Mixed (lent after Q : List ℕ) : Type 0 where
  pub size : length Q ≡ length lent
  pub each : (i : ℕ) → i < pages_in lent → (page_at i Q ≡ page_at i lent) ⊎ (page_at i Q ≡ page_at i after)

pub record Demand3 (h : History) : Type 0 where
  -- What recovery leaves in each slot of each page of type 1 is what the ledger says, fed the whole entries found in the file.
  pub exact : (magic floor : ℕ) (moment : ℕ → ℕ) (P : List ℕ) (c z : ℕ) (table : List Record) → Stands h moment P → HasFelt h moment P (file h c z)
      → (recover_of (lent magic floor P (file h c z)) table).answer.number ≡ 0
      → (i k : ℕ) → i < pages_in P → type_of (page_at i P) ≡ data_type
      → slot_at (page_at i (recover_of (lent magic floor P (file h c z)) table).pages) k ≡ ledger h.pages (entries (file h c z)) i k
  -- Where the run from a second file is accepted, it is accepted again, with the same answer, so the same offset and ending, and the same bytes, after a run from a first file was stopped anywhere
  -- or refused; neither the second cut nor its file with the zeros is shorter than the first's. The runs take the same magic and as many records; the earlier may have had another floor. The
  -- buffers are bytes.
  pub repeats : (magic floor₁ floor : ℕ) (P : List ℕ) (c₁ z₁ c₂ z₂ : ℕ) (T₁ T₂ T₃ : List Record) → Bytes P → Bytes h.log
      → c₁ ≤ c₂ → length (file h c₁ z₁) ≤ length (file h c₂ z₂) → length T₁ ≡ length T₂ → length T₃ ≡ length T₂
      → (recover_of (lent magic floor P (file h c₂ z₂)) T₂).answer.number ≡ 0
      → (Q : List ℕ) → Mixed P (recover_of (lent magic floor₁ P (file h c₁ z₁)) T₁).pages Q
      → ((recover_of (lent magic floor Q (file h c₂ z₂)) T₃).answer ≡ (recover_of (lent magic floor P (file h c₂ z₂)) T₂).answer)
      × ((recover_of (lent magic floor Q (file h c₂ z₂)) T₃).pages ≡ (recover_of (lent magic floor P (file h c₂ z₂)) T₂).pages)
