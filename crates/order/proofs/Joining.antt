-- The verdict of all rules but that on clashes: 5, 6, 7 and 10 by one walk, then 8 as far as it is of interest; and with 9 searched for up to there, that of all rules.
-- Assumes nothing.
use Prim.Native.Nat.{ℕ, suc, ◌≤◌, ◌<◌}
use mathlib.Core.Path.{◌≡◌, refl, sym, ap, ap₂, ◌∙◌, subst}
use mathlib.Core.Bool.{Bool, true, false}
use mathlib.Core.List.{List, []}
use native.Mathlib.Omega.{arith}
use native.Mathlib.Decide.{dec_lt}
use lib.Dec.{ltb}
use Rattle.endian.specs.Pick.{pick}
use Rattle.endian.specs.declared.Lsn.{Lsn}
use Rattle.std.specs.Prelude.{Result, Ok, Err}
use Rattle.refusals.specs.Refusal.{number_of}
use Rattle.refusals.specs.Verdict.{verdict, accepted, told, told_by, ◌then◌}
use Rattle.refusals.specs.declared.Refusal.TheVariants.{TransactionOrder}
use Rattle.refusals.specs.declared.Refused.{Refused}
use Rattle.refusals.proofs.Then.{then-refused}
use Rattle.refusals.proofs.Told.{some-number}
use Rattle.refusals.specs.declared.Verdict.{Verdict}
use Rattle.wal.specs.Entry.{Entry}
use Rattle.wal.specs.Walk.{entries, end_of, ending_of}
use Rattle.wal.specs.Prefix.{Met}
use Rattle.wal.specs.declared.Reading.{Reading}
use Rattle.wal.specs.declared.Reading.TheVariants.{Whole, End, Torn, Unused, Damage}
use Rattle.wal.proofs.Prefix.{met-below, stands_at}
use Rattle.rules.specs.Shape.{both, is_known, is_shaped}
use Rattle.rules.specs.Order.{count, is_begin, last_lsn, in_order, end_verdict}
use Rattle.rules.proofs.Tests.{false-true, into, past}
use Rattle.firsts.specs.First.{FirstOf}
use Rattle.firsts.specs.Judge.{verdict_from, Judged, stop_for, narrowed, Breaks, unknown, unshaped, unrisen, unordered, clashing, unrecorded, Only, own, but_order, but_clash}
use Rattle.firsts.proofs.Judging.{Least, judged-from, judged-one, stop-accepted, stop-at, stop-with, narrowed-found, narrowed_none}
use Rattle.firsts.proofs.OrderVerdict.{plain-judged, order-next}
use Rattle.firsts.proofs.Log.{end_is, log-some}
use Rattle.order.specs.First.{stop_of, basic_fault, basic_verdict, FirstWalk}
use Rattle.order.specs.Scanning.{ended, plain_verdict, Halts, whole, early, late, Scanned}
use Rattle.order.specs.Blocks.{FirstWrong, every_number}
use Rattle.order.specs.declared.Walked.{Walked}
use Rattle.order.proofs.Wrongs.{wrong-order}

-- ---- the least of the faults of all rules but 9

module _ (full : ℕ → Bool) where
  pub least-basic : Least own (Only full but_clash) (basic_fault full)
  unfolding basic_fault
  least-basic = record { free = free; here = here; least = λ xs e m n h l b. omega (arith, le xs e m b) }
    where
      free : (xs : List Entry) (e : Entry) → basic_fault full xs e ≡ 0 → (n : ℕ) → Only full but_clash n xs e → ⊥
      free xs e h n b =
          let k = into (is_known e.kind) (λ z. omega arith) h in
          let s = into (is_shaped e) (λ z. omega arith) k.1 in
          let l = into (ltb (last_lsn xs) e.lsn) (λ z. omega arith) s.1 in
          let o = into (in_order xs e) (λ z. omega arith) l.1 in
          let r = past (both (is_begin e) (full (count is_begin xs))) (λ z. omega arith) o.1 in
          go n b.0 b.1 k.0 s.0 l.0 o.0 r.0
        where
          go : (n : ℕ) → but_clash n ≡ true → Breaks full xs e n → is_known e.kind ≡ true → is_shaped e ≡ true → ltb (last_lsn xs) e.lsn ≡ true → in_order xs e ≡ true → both (is_begin e) (full (count is_begin xs)) ≡ false → ⊥
          go n i (unknown q) k s l o r = false-true (sym q ∙ k)
          go n i (unshaped q) k s l o r = false-true (sym q ∙ s)
          go n i (unrisen q) k s l o r = false-true (sym q ∙ l)
          go n i (unordered q) k s l o r = false-true (sym q ∙ o)
          go n i (clashing q) k s l o r = false-true i
          go n i (unrecorded q) k s l o r = false-true (sym r ∙ q)

      here : (xs : List Entry) (e : Entry) (n : ℕ) → basic_fault full xs e ≡ suc n → Only full but_clash (suc n) xs e
      here xs e n = go (is_known e.kind) refl (is_shaped e) refl (ltb (last_lsn xs) e.lsn) refl (in_order xs e) refl (both (is_begin e) (full (count is_begin xs))) refl
        where
          go : (k : Bool) → is_known e.kind ≡ k → (s : Bool) → is_shaped e ≡ s → (l : Bool) → ltb (last_lsn xs) e.lsn ≡ l → (o : Bool) → in_order xs e ≡ o
              → (r : Bool) → both (is_begin e) (full (count is_begin xs)) ≡ r → pick k (pick s (pick l (pick o (pick r 10 0) 8) 7) 6) 5 ≡ suc n → Only full but_clash (suc n) xs e
          go false k s t l m o p r q h = subst (λ (x : ℕ). Only full but_clash x xs e) h (refl, unknown k)
          go true k false t l m o p r q h = subst (λ (x : ℕ). Only full but_clash x xs e) h (refl, unshaped t)
          go true k true t false m o p r q h = subst (λ (x : ℕ). Only full but_clash x xs e) h (refl, unrisen m)
          go true k true t true m false p r q h = subst (λ (x : ℕ). Only full but_clash x xs e) h (refl, unordered p)
          go true k true t true m true p true q h = subst (λ (x : ℕ). Only full but_clash x xs e) h (refl, unrecorded q)
          go true k true t true m true p false q h = absurd (omega arith)

      le : (xs : List Entry) (e : Entry) (n : ℕ) → Only full but_clash n xs e → basic_fault full xs e ≤ n
      le xs e n b = go n b.0 b.1
        where
          two : (k : Bool) → pick {A = ℕ} k 6 5 ≤ 6
          two true = omega arith
          two false = omega arith

          three : (k s : Bool) → pick {A = ℕ} k (pick s 7 6) 5 ≤ 7
          three true true = omega arith
          three true false = omega arith
          three false s = omega arith

          four : (k s l : Bool) → pick {A = ℕ} k (pick s (pick l 8 7) 6) 5 ≤ 8
          four true true true = omega arith
          four true true false = omega arith
          four true false l = omega arith
          four false s l = omega arith

          five : (k s l o r : Bool) → pick {A = ℕ} k (pick s (pick l (pick o (pick r 10 0) 8) 7) 6) 5 ≤ 10
          five true true true true true = omega arith
          five true true true true false = omega arith
          five true true true false r = omega arith
          five true true false o r = omega arith
          five true false l o r = omega arith
          five false s l o r = omega arith

          go : (n : ℕ) → but_clash n ≡ true → Breaks full xs e n → basic_fault full xs e ≤ n
          go n i (unknown q) = rw q (omega arith)
          go n i (unshaped q) = rw q (two (is_known e.kind))
          go n i (unrisen q) = rw q (three (is_known e.kind) (is_shaped e))
          go n i (unordered q) = rw q (four (is_known e.kind) (is_shaped e) (ltb (last_lsn xs) e.lsn))
          go n i (clashing q) = false-true i
          go n i (unrecorded q) = five (is_known e.kind) (is_shaped e) (ltb (last_lsn xs) e.lsn) (in_order xs e) (both (is_begin e) (full (count is_begin xs)))

  pub basic-judged : (es : List Entry) (at : ℕ) → Judged own (Only full but_clash) es at (verdict_from (basic_fault full) [] es at)
  basic-judged es at = judged-from own (Only full but_clash) (basic_fault full) least-basic es at

  -- the verdict after 5, 6, 7 and 10, and then 8
  basic-next : (s : List ℕ) {v : Verdict} {r : ℕ} → plain_verdict full s ≡ v → FirstOf (λ xs e. in_order xs e ≡ false) (entries s) 32 (stop_for own (end_of s) 8 v) r
      → verdict_from (basic_fault full) [] (entries s) 32 ≡ narrowed own (end_of s) 8 r v
  basic-next s {v} {r} z f =
      judged-one own (Only full but_clash) (λ m n xs e a b q. q) (basic-judged (entries s) 32)
      (order-next full (subst (Judged own (Only full but_order) (entries s) 32) z (plain-judged full (entries s) 32)) (omega (arith, end_is s)) f)

  -- what a walk ends with tells the end's verdict
  told-end : (r : Reading) (at : ℕ) (last : Lsn) → told (ended r at last) ≡ end_verdict r at
  told-end (Whole v) at last = refl
  told-end End at last = refl
  told-end Torn at last = refl
  told-end Unused at last = refl
  told-end Damage at last = refl

  -- ---- the two searches joined

  abbrev wrongs_in : List ℕ → ℕ → ℕ → Type 0
  wrongs_in s x q = FirstOf (λ xs e. in_order xs e ≡ false) (entries s) 32 x q

  abbrev ending_in : List ℕ → Verdict → Verdict
  ending_in s v = v then end_verdict (ending_of s) (end_of s)

  module _ (s : List ℕ) {w : Result Walked Refused} {stop r : ℕ} where
    -- rule 8 is broken first
    join-wrong : Met s (stop_of w) → Halts full s w stop → wrongs_in s stop r → r < stop → verdict 8 r ≡ basic_verdict full s
    unfolding basic_verdict
    join-wrong m (whole last z p q a) f l =
        let st : stop_for own (end_of s) 8 accepted ≡ stop = stop-accepted own (end_of s) 8 accepted refl ∙ sym p in
        let b = basic-next s z (subst (λ (x : ℕ). wrongs_in s x r) (sym st) f) ∙ narrowed-found own (end_of s) 8 r accepted (omega (arith, st)) in
        sym (ap (ending_in s) b)
    join-wrong m (early e q z u p) f l =
        let st : stop_for own (end_of s) 8 (told_by e) ≡ stop = stop-at own (end_of s) 8 (told_by e) (some-number e.refusal) (omega arith) ∙ sym p in
        let k = basic-next s z (subst (λ (x : ℕ). wrongs_in s x r) (sym st) f) ∙ narrowed-found own (end_of s) 8 r (told_by e) (omega (arith, st)) in
        sym (ap (ending_in s) k)
    join-wrong m (late e q z h b p) f l =
        let n : number_of e.refusal ≡ 10 = ap number_of h in
        let here : Met s e.place = subst (λ (x : Result Walked Refused). Met s (stop_of x)) q m in
        let st : stop_for own (end_of s) 8 (told_by e) ≡ suc e.place = stop-with own (end_of s) 8 (told_by e) (some-number e.refusal) (omega arith) in
        let low : r ≤ e.place = reach here (dec_lt e.place r) (log-some s f l).met in
        let g : wrongs_in s (suc e.place) r = record { low = omega arith; none = f.none; some = λ k. f.some l } in
        let k = basic-next s z (subst (λ (x : ℕ). wrongs_in s x r) (sym st) g) ∙ narrowed-found own (end_of s) 8 r (told_by e) (omega (arith, st)) in
        sym (ap (ending_in s) k)
      where
        reach : Met s e.place → Dec (e.place < r) → Met s r → r ≤ e.place
        reach y (yes a) x = absurd (omega (arith, (met-below s y x a).next))
        reach y (no a) x = omega arith

    -- no entry up to there breaks it
    join-others : Halts full s w stop → wrongs_in s stop r → stop ≤ r → told w ≡ basic_verdict full s
    unfolding basic_verdict
    join-others (whole last z p q a) f l =
        let st : stop_for own (end_of s) 8 accepted ≡ stop = stop-accepted own (end_of s) 8 accepted refl ∙ sym p in
        let b = basic-next s z (subst (λ (x : ℕ). wrongs_in s x r) (sym st) f) ∙ narrowed_none own (end_of s) 8 r accepted (omega (arith, st)) in
        ap told q ∙ told-end (ending_of s) stop last ∙ ap (end_verdict (ending_of s)) p ∙ sym (ap (ending_in s) b)
    join-others (early e q z u p) f l =
        let st : stop_for own (end_of s) 8 (told_by e) ≡ stop = stop-at own (end_of s) 8 (told_by e) (some-number e.refusal) (omega arith) ∙ sym p in
        let k = basic-next s z (subst (λ (x : ℕ). wrongs_in s x r) (sym st) f) ∙ narrowed_none own (end_of s) 8 r (told_by e) (omega (arith, st)) in
        ap told q ∙ sym (ap (ending_in s) k ∙ then-refused (told_by e) (end_verdict (ending_of s) (end_of s)) (some-number e.refusal))
    join-others (late e q z h b p) f l =
        let n : number_of e.refusal ≡ 10 = ap number_of h in
        let st : stop_for own (end_of s) 8 (told_by e) ≡ suc e.place = stop-with own (end_of s) 8 (told_by e) (some-number e.refusal) (omega arith) in
        let w = stands_at b in
        let g : wrongs_in s (suc e.place) (suc e.place) = record { low = omega arith; none = λ xs d ys q k. f.none xs d ys q (omega (arith, w.front, w.low)); some = λ k. absurd (omega arith) } in
        let k = basic-next s z (subst (λ (y : ℕ). wrongs_in s y (suc e.place)) (sym st) g) ∙ narrowed_none own (end_of s) 8 (suc e.place) (told_by e) (omega (arith, st)) in
        ap told q ∙ sym (ap (ending_in s) k ∙ then-refused (told_by e) (end_verdict (ending_of s) (end_of s)) (some-number e.refusal))

  -- an accepted walk is one to the end
  to-end : (s : List ℕ) {w : Result Walked Refused} {stop : ℕ} → Halts full s w stop → (x : Walked) → w ≡ Ok x → (x.end ≡ end_of s) × (x.last.0 ≡ last_lsn (entries s))
  to-end s {w} {stop} (whole last z p q a) x e = go (ending_of s) (sym q ∙ e)
    where
      both_are : (y : Walked) → y.end ≡ stop → y.last ≡ last → y ≡ x → (x.end ≡ end_of s) × (x.last.0 ≡ last_lsn (entries s))
      both_are y g h f = (ap (λ (u : Walked). u.end) (sym f) ∙ g ∙ p, ap (λ (u : Walked). u.last.0) (sym f) ∙ ap (λ (l : Lsn). l.0) h ∙ a)

      go : (r : Reading) → ended r stop last ≡ Ok x → (x.end ≡ end_of s) × (x.last.0 ≡ last_lsn (entries s))
      go (Whole v) f = let g : record { end = stop; last = last } ≡ x = cc in both_are _ refl refl g
      go End f = let g : record { end = stop; last = last } ≡ x = cc in both_are _ refl refl g
      go Torn f = let g : record { end = stop; last = last } ≡ x = cc in both_are _ refl refl g
      go Unused f = let g : record { end = stop; last = last } ≡ x = cc in both_are _ refl refl g
      go Damage f = absurd (cc)
  to-end s (early e q z u p) x f = let g : Err e ≡ Ok x = sym q ∙ f in absurd (cc)
  to-end s (late e q z h b p) x f = let g : Err e ≡ Ok x = sym q ∙ f in absurd (cc)

  -- the first walk's answer: a fault by rule 8 that comes before the others, or theirs
  module _ (s : List ℕ) {w : Result Walked Refused} {stop r : ℕ} (k : Scanned full s w stop) (f : FirstWrong s every_number stop r) where
    pub walked-wrong : (e : Refused) → e.refusal ≡ TransactionOrder → e.place ≡ r → r < stop → FirstWalk full s (Err e)
    walked-wrong e a b l =
        record {
          met = subst (Met s) (sym b) f.met;
          tells = ap₂ verdict (ap number_of a) b ∙ join-wrong s k.met k.halts (wrong-order f) l;
          ends = λ x z. absurd (cc);
          last = λ x z. absurd (cc);
        }

    pub walked-others : stop ≤ r → FirstWalk full s w
    walked-others l =
        record {
          met = k.met;
          tells = join-others s k.halts (wrong-order f) l;
          ends = λ x z. (to-end s k.halts x z).0;
          last = λ x z. (to-end s k.halts x z).1;
        }
