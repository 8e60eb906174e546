-- Joined with demand 3: what the ledger of a file of the log holds visibly under a mark is found on the recovered pages, there or at an earlier row.
-- Assumes nothing.
use mathlib.Core.Path.{◌≡◌, refl, sym, ap, ◌∙◌}
use mathlib.Core.Logic.{inr}
use mathlib.Core.Bool.{true}
use Prim.Native.Nat.{ℕ, zero, suc, ◌*◌, ◌≤◌, ◌<◌}
use native.Mathlib.Omega.{arith}
use native.Mathlib.Decide.{dec_le}
use mathlib.Core.List.{List, [], append-nil}
use lib.ListN.{length, take}
use Rattle.endian.specs.Numbers.{Bytes}
use Rattle.wal.specs.Entry.{Entry}
use Rattle.wal.specs.Walk.{entries}
use Rattle.page.specs.Layout.{page_bytes, data_type, pages_in, page_at, type_of, count_of, slot_at, payload_of}
use Rattle.page.specs.Fault.{verdict_of}
use Rattle.page.specs.Rows.{visible, row}
use Rattle.page.proofs.FaultLaws.{sound-good}
use Rattle.page.proofs.ListedRows.{InSlot}
use Rattle.page.proofs.Picks.{never}
use Rattle.page.proofs.Slots.{slot-past}
use Rattle.page.proofs.Verdicts.{page-length, right-size, good-accepted, number_of}
use Rattle.page.proofs.Visibility.{empty}
use Rattle.rules.specs.Lent.{lent}
use Rattle.rules.specs.Mend.{top_of, committed, mend, mend_by, unless, repacked}
use Rattle.rules.specs.Order.{full_at}
use Rattle.rules.specs.Recover.{recover_of}
use Rattle.rules.specs.declared.Answer.{Answer}
use Rattle.rules.specs.declared.Record.{Record}
use Rattle.rules.proofs.Again.{again, zero-accepted, recover-zero, recover-done, page-after}
use Rattle.rules.proofs.Area.{length-mended}
use Rattle.rules.proofs.Mended.{length-mended as page-mended}
use Rattle.rules.proofs.Verdicts.{Accepted}
use Rattle.history.specs.History.{ledger}
use Rattle.history.specs.Demand3.{History, file, Stands, HasFelt}
use Rattle.history.proofs.Demand3.{bytes-file}
use Rattle.history.proofs.Exact.{exact}
use Rattle.intake.specs.Orders.{mark_of}
use Rattle.intake.proofs.Findings.{FoundBy, there-found}
use Rattle.intake.proofs.Marks.{begins-bears}

-- accepted recovery leaves good pages, as many as it was lent, and Data pages as Data pages
module _ (magic floor : ℕ) (P F : List ℕ) (table : List Record) (b_p : Bytes P) (b_f : Bytes F) (ok : (recover_of (lent magic floor P F) table).answer.number ≡ 0) where
  abbrev after : List ℕ
  after = (recover_of (lent magic floor P F) table).pages

  abbrev E : List Entry
  E = entries F

  A : Accepted (full_at (length table)) magic floor P F
  A = zero-accepted magic floor P F table ok

  size-kept : length after ≡ length P
  unfolding mend
  size-kept =
      let n : length after ≡ pages_in P * page_bytes =
      ap length (recover-done magic floor P F table (recover-zero magic floor P F table ok)).1
      ∙ length-mended E P (pages_in P) 0 (λ k x y. page-mended (committed E) E k (page_at k P) (page-length P k (omega arith)) (A.roomy k (omega arith))) in
      omega (arith, (right-size P A.size).0)

  B : Accepted (full_at (length table)) magic floor after F
  B = zero-accepted magic floor after F table (ap (λ (a : Answer). a.number) (again magic floor floor P F F b_p b_f b_f ([], append-nil E) table table table refl refl ok after size-kept (λ i l. inr refl)).0 ∙ ok)

  pub verified : (verdict_of magic after).number ≡ 0
  verified =
      let r = right-size after B.size in
      ap number_of (good-accepted magic after 0 r.0 r.1 (λ i f l. sound-good magic i (page_at i after) (page-length after i l) (B.sane i l).sound))

  pub lent-kept : (i : ℕ) → i < pages_in P → i < pages_in after
  lent-kept i l = omega (arith, size-kept)

  pub type-kept : (i : ℕ) → i < pages_in P → type_of (page_at i P) ≡ data_type → type_of (page_at i after) ≡ data_type
  unfolding mend mend_by
  type-kept i l d = go (top_of i E) refl
    where
      go : (n : ℕ) → top_of i E ≡ n → type_of (page_at i after) ≡ data_type
      go zero e = ap type_of (page-after magic floor P F table A i l ∙ ap (λ (n : ℕ). unless (committed E) E i n (page_at i P) (repacked (committed E) E i (page_at i P))) e) ∙ d
      go (suc n) e = (B.on_data i (omega arith)).is_data

-- a slot that holds a visible tuple is a visible row
shown : (s : List ℕ) (i k : ℕ) → i < pages_in s → type_of (page_at i s) ≡ data_type → visible (slot_at (page_at i s) k) ≡ true → InSlot visible s i k
shown s i k l d v =
    elim (dec_le (count_of (page_at i s)) k) [
      | yes h ↦ never (sym (ap visible (slot-past (page_at i s) k h) ∙ empty true) ∙ v)
      | no h ↦ record { lent = l; typed = d; below = omega arith; seen = v }
    ]

module _ (h : History) (magic floor : ℕ) (moment : ℕ → ℕ) (P : List ℕ) (c z : ℕ) (table : List Record) (stands : Stands h moment P) (felt : HasFelt h moment P (file h c z)) (b_p : Bytes P) (b_l : Bytes h.log)
    (ok : (recover_of (lent magic floor P (file h c z)) table).answer.number ≡ 0) (i k : ℕ) (l : i < pages_in P) (d : type_of (page_at i P) ≡ data_type) where
  abbrev recovered : List ℕ
  recovered = (recover_of (lent magic floor P (file h c z)) table).pages

  -- what the ledger of the file holds in slot k of page i
  abbrev held : List ℕ
  held = ledger h.pages (entries (file h c z)) i k

  pub order-kept : (mark : List ℕ) → visible held ≡ true → 24 ≤ length (payload_of held) → take 16 (payload_of held) ≡ mark → FoundBy magic recovered (mark_of mark) (row i k (page_at i recovered))
  order-kept mark v n b =
      let e : slot_at (page_at i recovered) k ≡ held = exact h magic floor moment P c z table stands felt ok i k l d in
      there-found magic recovered (mark_of mark) (verified magic floor P (file h c z) table b_p (bytes-file c z b_l) ok) i k
      (shown recovered i k (lent-kept magic floor P (file h c z) table b_p (bytes-file c z b_l) ok i l) (type-kept magic floor P (file h c z) table b_p (bytes-file c z b_l) ok i l d) (ap visible e ∙ v))
      (begins-bears (payload_of (slot_at (page_at i recovered) k)) mark (rw e n) (rw e b))
