-- Demand 3, first half: what recovery leaves in each slot of each page is what the ledger says, fed the entries of the file.
-- Assumes nothing.
use mathlib.Core.Path.{◌≡◌, refl, sym, ap, ◌∙◌}
use Prim.Native.Nat.{ℕ, zero, suc, ◌+◌, ◌≤◌, ◌<◌}
use native.Mathlib.Omega.{arith}
use mathlib.Core.List.{List, [], ◌∷◌, ◌++◌}
use lib.ListN.{length, take, drop, replicate, length-append}
use lib.Seq.{drop-drop}
use Rattle.wal.specs.Entry.{Entry}
use Rattle.wal.specs.Walk.{entries, file_of}
use Rattle.wal.proofs.Cuts.{longer-entries}
use Rattle.wal.proofs.Files.{of-log}
use Rattle.page.specs.Layout.{data_type, pages_in, page_at, type_of, slot_at}
use Rattle.rules.specs.Mend.{committed, changes, decided, winner, top_of}
use Rattle.rules.specs.Recover.{recover_of}
use Rattle.rules.specs.declared.Record.{Record}
use Rattle.rules.proofs.Again.{zero-accepted, slot-after}
use Rattle.history.specs.History.{logged_in, start, ledger}
use Rattle.history.specs.Demand3.{History, Stands, HasFelt}
use Rattle.history.proofs.OneSlot.{slot-recovers, fed-last}
use Rattle.rules.specs.Lent.{lent}

module _ (h : History) (magic floor : ℕ) (moment : ℕ → ℕ) (P : List ℕ) (c z : ℕ) (table : List Record)
    (stands : Stands h moment P) (felt : HasFelt h moment P (file_of h.log c z)) (ok : (recover_of (lent magic floor P (file_of h.log c z)) table).answer.number ≡ 0) where
  abbrev E : List Entry
  E = entries (file_of h.log c z)

  -- the entries of the file are the first of the history's
  cut : (zs : List Entry) × (E ++ zs ≡ entries h.log)
  cut = of-log h.log c z h.ends

  pub exact : (i k : ℕ) → i < pages_in P → type_of (page_at i P) ≡ data_type
      → slot_at (page_at i (recover_of (lent magic floor P (file_of h.log c z)) table).pages) k ≡ ledger h.pages E i k
  unfolding decided ledger
  exact i k l d =
      slot-after magic floor P (file_of h.log c z) table (zero-accepted magic floor P (file_of h.log c z) table ok) i l k
      ∙ ap (winner (committed E) (changes i k E)) (stands.slots i k l d)
      ∙ slot-recovers i k (λ j. type_of (page_at j h.pages) ≡ data_type) (stands.type i l d) (start h.pages) h.steps (moment i) (committed E) E cut.0 (λ t. refl) h.honest (cut.1 ∙ h.in_log) (felt.felt i l d)
      ∙ sym (fed-last i k (committed E) E (slot_at (page_at i h.pages) k))

-- ---- what the bare cut has of a page's felt changes, the file has

top-drop : (i n : ℕ) (es : List Entry) → top_of i (drop n es) ≤ top_of i es
unfolding top_of
top-drop i zero es = omega arith
top-drop i (suc n) [] = omega arith
top-drop i (suc n) (e ∷ es) = omega (arith, top-drop i n es)

pub felt-file : (h : History) (moment : ℕ → ℕ) (P : List ℕ) (c z : ℕ) → HasFelt h moment P (take c h.log) → HasFelt h moment P (file_of h.log c z)
felt-file h moment P c z f = record { felt = λ i l d. go i (f.felt i l d) }
  where
    go : (i : ℕ) → top_of i (drop (length (entries (take c h.log))) (logged_in (take (moment i) h.steps))) ≡ 0
        → top_of i (drop (length (entries (file_of h.log c z))) (logged_in (take (moment i) h.steps))) ≡ 0
    go i e =
        let w = longer-entries (take c h.log) (replicate z 0) in
        let A : List Entry = logged_in (take (moment i) h.steps) in
        let n : length (entries (take c h.log)) + length w.0 ≡ length (entries (file_of h.log c z)) = sym (length-append (entries (take c h.log)) w.0) ∙ ap length w.1 in
        let d : drop (length w.0) (drop (length (entries (take c h.log))) A) ≡ drop (length (entries (file_of h.log c z))) A =
        drop-drop (length w.0) (length (entries (take c h.log))) A ∙ ap (λ (k : ℕ). drop k A) n in
        let t = top-drop i (length w.0) (drop (length (entries (take c h.log))) A) in
        let u = ap (top_of i) d in
        omega arith
