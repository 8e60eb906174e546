-- Mending the pages in their places, in any order and with repetitions. Assumes nothing.
use Prim.Native.Nat.{ℕ, zero, suc, ◌+◌, ◌*◌, ◌%◌, ◌<◌, ◌≤◌}
use mathlib.Core.Path.{◌≡◌, refl, sym, ap, subst, ◌∙◌}
use mathlib.Core.Logic.{◌⊎◌, inl, inr, ⊎_elim}
use mathlib.Core.List.{List, [], ◌∷◌, append-nil}
use native.Mathlib.Decide.{dec_lt}
use native.Mathlib.Omega.{arith}
use lib.ListN.{length}
use lib.Seq.{length-paste}
use Rattle.endian.specs.Numbers.{Bytes}
use Rattle.endian.proofs.Places.{part_same, part-before, part-behind}
use Rattle.wal.specs.Entry.{Entry}
use Rattle.wal.specs.Walk.{entries}
use Rattle.page.specs.Layout.{page_bytes, pages_in, page_at}
use Rattle.page.proofs.Areas.{same-pages}
use Rattle.page.proofs.Verdicts.{right-size, page-length}
use Rattle.rules.specs.Lent.{lent}
use Rattle.rules.specs.Order.{full_at}
use Rattle.rules.specs.Mend.{committed, top_of, mend_by, mend}
use Rattle.rules.specs.Recover.{mended_from, recover_of}
use Rattle.rules.specs.declared.Answer.{Answer}
use Rattle.rules.specs.declared.Record.{Record}
use Rattle.rules.proofs.Area.{page-mended, length-mended}
use Rattle.rules.proofs.Mended.{length-mended as page-long}
use Rattle.rules.proofs.Verdicts.{Accepted}
use Rattle.rules.proofs.Again.{zero-accepted, recover-zero, recover-done, page-after, again}
use Rattle.history.specs.Demand3.{Mixed}
use Rattle.history.specs.Night.{store, stored, Has, AllBelow}

-- an untouched page keeps every byte
untouched-kept : (es : List Entry) (i : ℕ) (p : List ℕ) → top_of i es ≡ 0 → mend es i p ≡ p
unfolding mend mend_by
untouched-kept es i p h = rw h

-- pages that mending leaves as long as they are, and as they are the second time
module _ (es : List Entry) (P : List ℕ)
    (long : (k : ℕ) → k < pages_in P → length (mend es k (page_at k P)) ≡ page_bytes)
    (twice : (k : ℕ) → k < pages_in P → mend es k (mend es k (page_at k P)) ≡ mend es k (page_at k P)) where
  -- page k is as it was, or mended
  abbrev Either : ℕ → List ℕ → Type 0
  Either k Q = (page_at k Q ≡ page_at k P) ⊎ (page_at k Q ≡ mend es k (page_at k P))

  -- some of the pages are mended
  record Between (Q : List ℕ) : Type 0 where
    size : length Q ≡ length P
    each : (k : ℕ) → k < pages_in P → Either k Q

  module _ (Q : List ℕ) (b : Between Q) (i : ℕ) (l : i < pages_in P) where
    mended-here : mend es i (page_at i Q) ≡ mend es i (page_at i P)
    mended-here = ⊎_elim {C = mend es i (page_at i Q) ≡ mend es i (page_at i P)} (λ e. ap (mend es i) e) (λ e. ap (mend es i) e ∙ twice i l) (b.each i l)

    here-long : length (mend es i (page_at i Q)) ≡ page_bytes
    here-long = ap length mended-here ∙ long i l

    room : i * page_bytes + page_bytes ≤ length Q
    room = let s = b.size in omega arith

    store-here : page_at i (store es i Q) ≡ mend es i (page_at i P)
    unfolding store
    store-here = part_same Q (mend es i (page_at i Q)) (i * page_bytes) page_bytes here-long room ∙ mended-here

    store_other : (k : ℕ) → (k ≡ i → ⊥) → page_at k (store es i Q) ≡ page_at k Q
    unfolding store
    store_other k n =
        elim (dec_lt k i) [
          | yes h ↦ part-before Q (mend es i (page_at i Q)) (i * page_bytes) page_bytes here-long room (k * page_bytes) page_bytes (omega arith)
          | no h ↦ part-behind Q (mend es i (page_at i Q)) (i * page_bytes) page_bytes here-long room (k * page_bytes) page_bytes (omega arith)
        ]

    store-size : length (store es i Q) ≡ length P
    unfolding store
    store-size = length-paste Q (i * page_bytes) (mend es i (page_at i Q)) page_bytes room (omega (arith, here-long)) ∙ b.size

    -- page k after the store: i itself is mended, another is as it was
    after : (D : List ℕ → Type 0) (k : ℕ) → D (mend es k (page_at k P)) → D (page_at k Q) → D (page_at k (store es i Q))
    after D k here other =
        elim (dec_lt k i) as (λ _. D (page_at k (store es i Q))) [
          | yes h ↦ subst D (sym (store_other k (λ z. omega arith))) other
          | no h ↦ elim (dec_lt i k) as (λ _. D (page_at k (store es i Q))) [
            | yes g ↦ subst D (sym (store_other k (λ z. omega arith))) other
            | no g ↦ let z : k ≡ i = omega arith in subst D (rw z (sym store-here)) here
          ]
        ]

    store-between : Between (store es i Q)
    store-between = record { size = store-size; each = λ k lk. after (λ (p : List ℕ). (p ≡ page_at k P) ⊎ (p ≡ mend es k (page_at k P))) k (inr refl) (b.each k lk) }

    -- a page that was mended stays so
    store_keeps : (k : ℕ) → page_at k Q ≡ mend es k (page_at k P) → page_at k (store es i Q) ≡ mend es k (page_at k P)
    store_keeps k e = after (λ (p : List ℕ). p ≡ mend es k (page_at k P)) k refl e

  stored-between : (is : List ℕ) (Q : List ℕ) → AllBelow (pages_in P) is → Between Q → Between (stored es is Q)
  stored-between [] Q a b = b
  stored-between (i ∷ is) Q a b = stored-between is (store es i Q) a.1 (store-between Q b i a.0)

  stored-keeps : (is : List ℕ) (Q : List ℕ) → AllBelow (pages_in P) is → Between Q → (k : ℕ) → page_at k Q ≡ mend es k (page_at k P) → page_at k (stored es is Q) ≡ mend es k (page_at k P)
  stored-keeps [] Q a b k e = e
  stored-keeps (i ∷ is) Q a b k e = stored-keeps is (store es i Q) a.1 (store-between Q b i a.0) k (store_keeps Q b i a.0 k e)

  stored-has : (is : List ℕ) (Q : List ℕ) → AllBelow (pages_in P) is → Between Q → (k : ℕ) → Has k is → page_at k (stored es is Q) ≡ mend es k (page_at k P)
  stored-has [] Q a b k h = absurd h
  stored-has (i ∷ is) Q a b k (inl e) = stored-keeps is (store es i Q) a.1 (store-between Q b i a.0) k (rw (← e) (store-here Q b i a.0))
  stored-has (i ∷ is) Q a b k (inr h) = stored-has is (store es i Q) a.1 (store-between Q b i a.0) k h

  stored_other : (is : List ℕ) (Q : List ℕ) → AllBelow (pages_in P) is → Between Q → (k : ℕ) → (Has k is → ⊥) → page_at k (stored es is Q) ≡ page_at k Q
  stored_other [] Q a b k n = refl
  stored_other (i ∷ is) Q a b k n = stored_other is (store es i Q) a.1 (store-between Q b i a.0) k (λ h. n (inr h)) ∙ store_other Q b i a.0 k (λ z. n (inl (sym z)))

  fresh : Between P
  fresh = record { size = refl; each = λ k l. inl refl }

  page-of : (k : ℕ) → k < pages_in P → page_at k (mended_from es P (pages_in P) 0) ≡ mend es k (page_at k P)
  page-of k l =
      page-mended es P (pages_in P) 0 k (λ j a b. long j (omega arith)) l ∙ let z : 0 + k ≡ k = omega arith in ap (λ (j : ℕ). mend es j (page_at j P)) z

  -- stopped after any of the stores, each page is wholly old or wholly mended
  stored-mixed : (is : List ℕ) → AllBelow (pages_in P) is → Mixed P (mended_from es P (pages_in P) 0) (stored es is P)
  stored-mixed is a =
      let b = stored-between is P a fresh in
      record {
        size = b.size;
        each = λ k l. ⊎_elim {C = (page_at k (stored es is P) ≡ page_at k P) ⊎ (page_at k (stored es is P) ≡ page_at k (mended_from es P (pages_in P) 0))} (λ e. inl e) (λ e. inr (e ∙ sym (page-of k l))) (b.each k l);
      }

  -- where each touched page was stored, that is all
  stored-all : length P % page_bytes ≡ 0 → (is : List ℕ) → AllBelow (pages_in P) is → ((k : ℕ) → k < pages_in P → 0 < top_of k es → Has k is) → stored es is P ≡ mended_from es P (pages_in P) 0
  stored-all whole is a h =
      let b = stored-between is P a fresh in
      let s : length (stored es is P) ≡ length P = b.size in
      let n : length (mended_from es P (pages_in P) 0) ≡ pages_in P * page_bytes = length-mended es P (pages_in P) 0 (λ j x y. long j (omega arith)) in
      same-pages (pages_in P) (stored es is P) (mended_from es P (pages_in P) 0) (omega arith) n each
    where
      each : (k : ℕ) → k < pages_in P → page_at k (stored es is P) ≡ page_at k (mended_from es P (pages_in P) 0)
      each k l = go (top_of k es) refl ∙ sym (page-of k l)
        where
          go : (n : ℕ) → top_of k es ≡ n → page_at k (stored es is P) ≡ mend es k (page_at k P)
          go zero e = stored-keeps is P a fresh k (sym (untouched-kept es k (page_at k P) e))
          go (suc n) e = stored-has is P a fresh k (h k l (omega arith))

-- ---- of an accepted run, from any log

module _ (magic floor : ℕ) (P F : List ℕ) (T : List Record) (b_p : Bytes P) (b_f : Bytes F) (ok : (recover_of (lent magic floor P F) T).answer.number ≡ 0) where
  taken : Accepted (full_at (length T)) magic floor P F
  taken = zero-accepted magic floor P F T ok

  abbrev after_run : List ℕ
  after_run = (recover_of (lent magic floor P F) T).pages

  long_after : (k : ℕ) → k < pages_in P → length (mend (entries F) k (page_at k P)) ≡ page_bytes
  unfolding mend
  long_after k l = page-long (committed (entries F)) (entries F) k (page_at k P) (page-length P k l) (taken.roomy k l)

  pages-after : after_run ≡ mended_from (entries F) P (pages_in P) 0
  pages-after = (recover-done magic floor P F T (recover-zero magic floor P F T ok)).1

  size-after : length after_run ≡ length P
  size-after =
      let w = (right-size P taken.size).0 in
      let n : length (mended_from (entries F) P (pages_in P) 0) ≡ pages_in P * page_bytes = length-mended (entries F) P (pages_in P) 0 (λ j x y. long_after j (omega arith)) in
      ap length pages-after ∙ omega arith

  -- the run after itself leaves the same, so each page mended twice is as mended once
  twice-after : (k : ℕ) → k < pages_in P → mend (entries F) k (mend (entries F) k (page_at k P)) ≡ mend (entries F) k (page_at k P)
  twice-after k l =
      let s = size-after in
      let r = again magic floor floor P F F b_p b_f b_f ([], append-nil (entries F)) T T T refl refl ok after_run s (λ i m. inr refl) in
      let b = zero-accepted magic floor after_run F T (ap (λ (a : Answer). a.number) r.0 ∙ ok) in
      let once = page-after magic floor P F T taken k l in
      ap (mend (entries F) k) (sym once) ∙ sym (page-after magic floor after_run F T b k (omega arith)) ∙ ap (page_at k) r.1 ∙ once

  -- a page of the list is as the run leaves it, another as it was lent
  pub page-stored : (is : List ℕ) → AllBelow (pages_in P) is → (k : ℕ) → k < pages_in P → Has k is → page_at k (stored (entries F) is P) ≡ page_at k after_run
  page-stored is a k l h = stored-has (entries F) P long_after twice-after is P a (fresh (entries F) P long_after twice-after) k h ∙ sym (page-after magic floor P F T taken k l)

  pub page-left : (is : List ℕ) → AllBelow (pages_in P) is → (k : ℕ) → (Has k is → ⊥) → page_at k (stored (entries F) is P) ≡ page_at k P
  page-left is a k n = stored_other (entries F) P long_after twice-after is P a (fresh (entries F) P long_after twice-after) k n

  pub any_order_lem : (is : List ℕ) → AllBelow (pages_in P) is → ((k : ℕ) → k < pages_in P → 0 < top_of k (entries F) → Has k is) → stored (entries F) is P ≡ after_run
  any_order_lem is a h = stored-all (entries F) P long_after twice-after (right-size P taken.size).0 is a h ∙ sym pages-after

  pub any-stop : (is : List ℕ) → AllBelow (pages_in P) is → Mixed P after_run (stored (entries F) is P)
  any-stop is a = rw pages-after (stored-mixed (entries F) P long_after twice-after is a)
