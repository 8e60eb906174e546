-- What a run leaves of pages that are bytes, stopped anywhere or not, is bytes. Assumes nothing.
use Prim.Native.Nat.{ℕ, zero, suc, ◌*◌, ◌%◌, ◌<◌, max}
use mathlib.Core.Path.{◌≡◌, refl, sym, ap, subst, ◌∙◌}
use mathlib.Core.Logic.{⊎_elim}
use mathlib.Core.Bool.{Bool, true, false}
use mathlib.Core.List.{List, []}
use native.Mathlib.Decide.{dec_lt}
use native.Mathlib.Omega.{arith}
use lib.ListN.{length, get_or, get_or-eq_default}
use lib.Dec.{eqb}
use borrow.Author.Tests.{eqb-true}
use Rattle.endian.specs.Numbers.{Bytes}
use Rattle.endian.proofs.Bytes.{bytes-nil, bytes_take, bytes_drop}
use Rattle.wal.specs.Entry.{Entry}
use Rattle.wal.specs.Walk.{entries}
use Rattle.page.specs.Layout.{page_bytes, pages_in, page_at, count_of, slot_at}
use Rattle.page.proofs.Tables.{length-tab, get_d-tab}
use Rattle.page.proofs.Goodness.{packed-bytes}
use Rattle.rules.specs.Lent.{lent}
use Rattle.rules.specs.Shape.{is_change, before_of, after_of}
use Rattle.rules.specs.Order.{full_at}
use Rattle.rules.specs.Mend.{committed, changes, top_of, decided, slots_for, head_for, repacked, unless, mend_by, mend}
use Rattle.rules.specs.Recover.{Recovered, recover_verdict, recover_of}
use Rattle.rules.specs.declared.Record.{Record}
use Rattle.rules.proofs.Slots.{Images, decided-keeps}
use Rattle.rules.proofs.OrderLaws.{Every, every_map}
use Rattle.rules.proofs.ImageLaws.{InRange, images-bytes, images-of}
use Rattle.rules.proofs.Range.{in-range}
use Rattle.rules.proofs.Accepted.{slot-bytes}
use Rattle.rules.proofs.Verdicts.{is-accepted}
use Rattle.rules.proofs.Again.{page-after, recover-refused}
use Rattle.history.specs.Demand3.{Mixed}
use Rattle.history.proofs.Areas.{area-bytes}

-- ---- a mended page

module _ (es : List Entry) (range : Every InRange es) (i : ℕ) (p : List ℕ) (b : Bytes p) where
  images : (k : ℕ) → Images Bytes (changes i k es)
  images k = images-of Bytes i k es (every_map InRange (λ e. is_change e ≡ true → Bytes (before_of e) × Bytes (after_of e)) (λ e r c. images-bytes e r) es range)

  tuples : (k : ℕ) → Bytes (get_or (slots_for (committed es) es i p) k [])
  unfolding slots_for
  tuples k =
      elim (dec_lt k (max (count_of p) (top_of i es))) as (λ _. Bytes (get_or (slots_for (committed es) es i p) k [])) [
        | yes l ↦ rw (get_d-tab (max (count_of p) (top_of i es)) (λ j. decided (committed es) es i j (slot_at p j)) k l) (decided-keeps Bytes (committed es) es i k (slot_at p k) (images k) (slot-bytes p k b))
        | no l ↦ rw (get_or-eq_default (slots_for (committed es) es i p) [] {n = k} (omega (arith, length-tab (max (count_of p) (top_of i es)) (λ j. decided (committed es) es i j (slot_at p j))))) bytes-nil
      ]

  bytes-mended : Bytes (mend es i p)
  unfolding mend mend_by
  bytes-mended = go (top_of i es)
    where
      go : (n : ℕ) → Bytes (unless (committed es) es i n p (repacked (committed es) es i p))
      go zero = b
      go (suc n) = packed-bytes (head_for (committed es) es i p) (slots_for (committed es) es i p) (bytes_take 28 (bytes_drop 36 b)) tuples

-- ---- a run

module _ (magic floor : ℕ) (P F : List ℕ) (T : List Record) (b_p : Bytes P) (b_f : Bytes F) where
  lent-bytes : (i : ℕ) → Bytes (page_at i P)
  lent-bytes i = bytes_take page_bytes (bytes_drop (i * page_bytes) b_p)

  page-bytes : (i : ℕ) → i < pages_in P → Bytes (page_at i (recover_of (lent magic floor P F) T).pages)
  page-bytes i l = go (eqb (recover_verdict (full_at (length T)) (lent magic floor P F)).number 0) refl
    where
      go : (b : Bool) → eqb (recover_verdict (full_at (length T)) (lent magic floor P F)).number 0 ≡ b → Bytes (page_at i (recover_of (lent magic floor P F) T).pages)
      go true e =
          let a = is-accepted (full_at (length T)) magic floor P F (eqb-true _ _ e) in
          rw (page-after magic floor P F T a i l) (bytes-mended (entries F) (in-range F b_f) i (page_at i P) (lent-bytes i))
      go false e = subst (λ (r : Recovered). Bytes (page_at i r.pages)) (sym (recover-refused magic floor P F T e)) (lent-bytes i)

  pub bytes_left : length P % page_bytes ≡ 0 → (R : List ℕ) → Mixed P (recover_of (lent magic floor P F) T).pages R → Bytes R
  bytes_left whole R m =
      let s = m.size in
      area-bytes R (ap (λ (n : ℕ). n % page_bytes) s ∙ whole) (λ i l. each i (omega arith))
    where
      each : (i : ℕ) → i < pages_in P → Bytes (page_at i R)
      each i l = ⊎_elim {C = Bytes (page_at i R)} (λ e. rw e (lent-bytes i)) (λ e. rw e (page-bytes i l)) (m.each i l)
