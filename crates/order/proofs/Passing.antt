-- What the first walk's answer is good for: no entry before its place breaks a rule but that on clashes; and with a search for clashes up to there, it makes the verdict of all rules.
-- Assumes nothing.
use Prim.Native.Nat.{ℕ, zero, suc, ◌+◌, ◌≤◌, ◌<◌}
use mathlib.Core.Path.{◌≡◌, refl, sym, ap, ◌∙◌, subst}
use mathlib.Core.Bool.{Bool, true, false, not}
use mathlib.Core.List.{List, [], ◌∷◌, ◌++◌}
use native.Mathlib.Omega.{arith}
use native.Mathlib.Decide.{dec_lt, ℕ_discrete}
use lib.Dec.{ltb, eqb}
use borrow.Author.Tests.{lt-ltb, le-ltb, eqb-true, ltb-true}
use Rattle.endian.specs.Pick.{pick}
use Rattle.refusals.specs.Verdict.{verdict, told, ◌then◌}
use Rattle.refusals.specs.declared.Refused.{Refused}
use Rattle.refusals.proofs.Told.{some-number}
use Rattle.std.specs.Prelude.{Result, Ok, Err}
use Rattle.refusals.specs.declared.Verdict.{Verdict}
use Rattle.refusals.proofs.Then.{then-refused, then-accepted}
use Rattle.wal.specs.Entry.{Entry, sizes_of, begin}
use Rattle.wal.specs.Read.{length_at}
use Rattle.wal.specs.Walk.{entries, end_of, ending_of}
use Rattle.wal.specs.Prefix.{Met, Stands, said, before, onward}
use Rattle.wal.specs.declared.Reading.{Reading}
use Rattle.wal.specs.declared.Reading.TheVariants.{Whole, End, Torn, Unused, Damage}
use Rattle.rules.specs.Shape.{both, either, is_known, is_change, is_changing, is_shaped, is_on, page_of, slot_of, same_slot}
use Rattle.rules.specs.Order.{any, count, is_begin, ended, last_lsn, in_order, clashes, end_verdict, order_from}
use Rattle.rules.proofs.Tests.{false-true, both_true, into}
use Rattle.change.specs.Places.{AllShaped, LsnsRise}
use Rattle.firsts.specs.First.{FirstOf}
use Rattle.firsts.specs.Judge.{verdict_from, Judged, stop_for, narrowed, Breaks, unknown, unshaped, unrisen, unordered, clashing, unrecorded, Only, own, but_clash}
use Rattle.firsts.proofs.FirstLaws.{sizes-append}
use Rattle.firsts.proofs.Judging.{stop-accepted, stop-at, stop-with, narrowed-found, narrowed_none, same_place}
use Rattle.firsts.proofs.OrderVerdict.{clash-next}
use Rattle.firsts.proofs.Outcomes.{InOrder}
use Rattle.firsts.proofs.Log.{place_is, end_is, split_at}
use Rattle.order.specs.First.{stop_of, basic_fault, basic_verdict, FirstWalk}
use Rattle.order.specs.declared.Walked.{Walked}
use Rattle.order.proofs.Joining.{least-basic, basic-judged}

-- what is refused is refused where the walk stops
told-refusal : (r : Result Walked Refused) (v : Verdict) → told r ≡ v → (v.number ≡ 0 → ⊥) → stop_of r ≡ v.place
told-refusal (Ok w) v e b = absurd (b (sym (ap (λ (u : Verdict). u.number) e)))
told-refusal (Err x) v e b = ap (λ (u : Verdict). u.place) e

-- the end's verdict is told at the end
told-ending : (x : Reading) (r : Result Walked Refused) (end : ℕ) → told r ≡ end_verdict x end → ((w : Walked) → r ≡ Ok w → w.end ≡ end) → stop_of r ≡ end
told-ending x (Ok w) end e f = f w refl
told-ending (Whole v) (Err y) end e f = absurd (some-number y.refusal (ap (λ (u : Verdict). u.number) e))
told-ending End (Err y) end e f = absurd (some-number y.refusal (ap (λ (u : Verdict). u.number) e))
told-ending Torn (Err y) end e f = absurd (some-number y.refusal (ap (λ (u : Verdict). u.number) e))
told-ending Unused (Err y) end e f = absurd (some-number y.refusal (ap (λ (u : Verdict). u.number) e))
told-ending Damage (Err y) end e f = ap (λ (u : Verdict). u.place) e

-- only a change clashes, and a Begin is none
clash-change : (xs : List Entry) (e f : Entry) → clashes xs e f ≡ true → is_change e ≡ true
unfolding clashes same_slot
clash-change xs e f h = (both_true (is_change e) (eqb (slot_of e) (slot_of f)) (both_true (is_on (page_of e) f) (both (is_change e) (eqb (slot_of e) (slot_of f))) (both_true (same_slot e f) (both (not (eqb f.txn e.txn)) (both (not (eqb f.txn 0)) (not (ended xs f.txn)))) h).0).1).0

begin-still : (e : Entry) → is_begin e ≡ true → is_change e ≡ true → ⊥
unfolding is_changing
begin-still e b h = let k : e.kind ≡ begin = eqb-true e.kind begin b in false-true (rw k at h)

neither : (a b : Bool) → (a ≡ true → ⊥) → (b ≡ true → ⊥) → either a b ≡ true → ⊥
neither true b x y h = x refl
neither false b x y h = y h

begin-apart : (xs : List Entry) (e : Entry) → is_begin e ≡ true → (fs : List Entry) → any (clashes xs e) fs ≡ true → ⊥
begin-apart xs e b [] h = false-true h
begin-apart xs e b (f ∷ fs) h = neither (clashes xs e f) (any (clashes xs e) fs) (λ c. begin-still e b (clash-change xs e f c)) (begin-apart xs e b fs) h

-- what breaks a rule above 9 is a Begin
record-less : (full : ℕ → Bool) {us : List Entry} {d : Entry} (n : ℕ) → Breaks full us d n → 9 < n → is_begin d ≡ true
record-less full n (unknown h) m = absurd (omega arith)
record-less full n (unshaped h) m = absurd (omega arith)
record-less full n (unrisen h) m = absurd (omega arith)
record-less full n (unordered h) m = absurd (omega arith)
record-less full n (clashing h) m = absurd (omega arith)
record-less full {us} {d} n (unrecorded h) m = (both_true (is_begin d) (full (count is_begin us)) h).0

module _ {full : ℕ → Bool} {s : List ℕ} {w : Result Walked Refused} (k : FirstWalk full s w) where
  abbrev v : Verdict
  v = verdict_from (basic_fault full) [] (entries s) 32

  judged : Judged own (Only full but_clash) (entries s) 32 v
  judged = basic-judged full (entries s) 32

  tells : told w ≡ (v then end_verdict (ending_of s) (end_of s))
  unfolding basic_verdict
  tells = k.tells

  refused : (v.number ≡ 0 → ⊥) → stop_of w ≡ v.place
  refused b = told-refusal w v (tells ∙ then-refused v (end_verdict (ending_of s) (end_of s)) b) b

  at-end : v.number ≡ 0 → stop_of w ≡ end_of s
  at-end z = told-ending (ending_of s) w (end_of s) (tells ∙ then-accepted v (end_verdict (ending_of s) (end_of s)) z) k.ends

  -- ---- no fault before the place

  pub no-fault : (xs : List Entry) (e : Entry) (ys : List Entry) → entries s ≡ xs ++ (e ∷ ys) → 32 + sizes_of xs < stop_of w → basic_fault full xs e ≡ 0
  no-fault xs e ys q l = go (basic_fault full xs e) refl (ℕ_discrete v.number 0)
    where
      go : (n : ℕ) → basic_fault full xs e ≡ n → Dec (v.number ≡ 0) → n ≡ 0
      go zero h d = refl
      go (suc n) h (yes z) = absurd (judged.none z (suc n) xs e ys q ((least-basic full).here xs e n h))
      go (suc n) h (no z) = absurd (judged.early z (suc n) xs e ys q (omega (arith, refused z)) ((least-basic full).here xs e n h))

  pub no-fault-at : {p : ℕ} → Met s p → Stands s p → p < stop_of w → basic_fault full (before s p) (said s p) ≡ 0
  no-fault-at {p} m h l = no-fault (before s p) (said s p) (onward s (p + length_at s p)) (split_at s m h) (omega (arith, place_is s m))

  -- ---- with clashes

  pub with-clashes : {r : ℕ} → FirstOf (λ xs e. any (clashes xs e) xs ≡ true) (entries s) 32 (stop_of w) r
      → (order_from full [] (entries s) 32 then end_verdict (ending_of s) (end_of s)) ≡ pick (ltb r (stop_of w)) (verdict 9 r) (told w)
  with-clashes {r} f = go (ℕ_discrete v.number 0) (dec_lt 9 v.number) (dec_lt r (stop_of w))
    where
      all : (q : ℕ) → FirstOf (λ xs e. any (clashes xs e) xs ≡ true) (entries s) 32 (stop_for own (end_of s) 9 v) q → order_from full [] (entries s) 32 ≡ narrowed own (end_of s) 9 q v
      all q g = clash-next full judged (omega (arith, end_is s)) g

      -- a clash before the place
      found : order_from full [] (entries s) 32 ≡ verdict 9 r → r < stop_of w → (order_from full [] (entries s) 32 then end_verdict (ending_of s) (end_of s)) ≡ pick (ltb r (stop_of w)) (verdict 9 r) (told w)
      found e l = rw (e, lt-ltb r (stop_of w) l)

      none : order_from full [] (entries s) 32 ≡ v → stop_of w ≤ r → (order_from full [] (entries s) 32 then end_verdict (ending_of s) (end_of s)) ≡ pick (ltb r (stop_of w)) (verdict 9 r) (told w)
      none e l = rw (e, le-ltb r (stop_of w) l) (sym tells)

      here : {stop : ℕ} → stop ≡ stop_of w → FirstOf (λ xs e. any (clashes xs e) xs ≡ true) (entries s) 32 stop r
      here z = subst (λ (x : ℕ). FirstOf (λ xs e. any (clashes xs e) xs ≡ true) (entries s) 32 x r) (sym z) f

      -- the search goes up to the place
      upto : stop_for own (end_of s) 9 v ≡ stop_of w → Dec (r < stop_of w) → (order_from full [] (entries s) 32 then end_verdict (ending_of s) (end_of s)) ≡ pick (ltb r (stop_of w)) (verdict 9 r) (told w)
      upto z (yes l) = found (all r (here z) ∙ narrowed-found own (end_of s) 9 r v (omega (arith, z))) l
      upto z (no l) = none (all r (here z) ∙ narrowed_none own (end_of s) 9 r v (omega (arith, z))) (omega arith)

      -- the entry with no record left is a Begin
      apart : (v.number ≡ 0 → ⊥) → 9 < v.number → (xs : List Entry) (e : Entry) (ys : List Entry) → entries s ≡ xs ++ (e ∷ ys) → 32 + sizes_of xs ≡ v.place → any (clashes xs e) xs ≡ true → ⊥
      apart b l xs e ys q p =
          let t = judged.found b in
          let z = same_place t.xs t.e t.ys xs e ys (sym t.split ∙ q) (omega (arith, t.place)) in
          begin-apart xs e (ap is_begin (sym z.entry) ∙ record-less full v.number t.holds.1 l) xs

      -- one more than the place
      past : (v.number ≡ 0 → ⊥) → 9 < v.number → stop_for own (end_of s) 9 v ≡ suc (stop_of w) → Dec (r < stop_of w) → (order_from full [] (entries s) 32 then end_verdict (ending_of s) (end_of s)) ≡ pick (ltb r (stop_of w)) (verdict 9 r) (told w)
      past b m z (yes l) =
          let g : FirstOf (λ xs e. any (clashes xs e) xs ≡ true) (entries s) 32 (suc (stop_of w)) r = record { low = omega (arith, f.low); none = f.none; some = λ x. f.some l } in
          found (all r (subst (λ (x : ℕ). FirstOf (λ xs e. any (clashes xs e) xs ≡ true) (entries s) 32 x r) (sym z) g) ∙ narrowed-found own (end_of s) 9 r v (omega (arith, z))) l
      past b m z (no l) =
          let g : FirstOf (λ xs e. any (clashes xs e) xs ≡ true) (entries s) 32 (suc (stop_of w)) (suc (stop_of w)) = record { low = omega arith; none = λ xs e ys q x. at-it xs e ys q x (dec_lt (32 + sizes_of xs) (stop_of w)); some = λ x. absurd (omega arith) } in
          none (all (suc (stop_of w)) (subst (λ (x : ℕ). FirstOf (λ xs e. any (clashes xs e) xs ≡ true) (entries s) 32 x (suc (stop_of w))) (sym z) g) ∙ narrowed_none own (end_of s) 9 (suc (stop_of w)) v (omega (arith, z))) (omega arith)
        where
          at-it : (xs : List Entry) (e : Entry) (ys : List Entry) → entries s ≡ xs ++ (e ∷ ys) → 32 + sizes_of xs < suc (stop_of w) → Dec (32 + sizes_of xs < stop_of w) → any (clashes xs e) xs ≡ true → ⊥
          at-it xs e ys q x (yes y) = f.none xs e ys q (omega (arith, f.low))
          at-it xs e ys q x (no y) = apart b m xs e ys q (omega (arith, (refused b)))

      go : Dec (v.number ≡ 0) → Dec (9 < v.number) → Dec (r < stop_of w) → (order_from full [] (entries s) 32 then end_verdict (ending_of s) (end_of s)) ≡ pick (ltb r (stop_of w)) (verdict 9 r) (told w)
      go (yes z) x d = upto (stop-accepted own (end_of s) 9 v z ∙ sym (at-end z)) d
      go (no b) (no x) d = upto (stop-at own (end_of s) 9 v b (omega arith) ∙ sym (refused b)) d
      go (no b) (yes x) d = past b x (stop-with own (end_of s) 9 v b x ∙ ap suc (sym (refused b))) d

-- ---- an accepted log

module _ {full : ℕ → Bool} {s : List ℕ} {w : Walked} (k : FirstWalk full s (Ok w)) where
  none_at_all : (xs : List Entry) (e : Entry) (ys : List Entry) → entries s ≡ xs ++ (e ∷ ys) → basic_fault full xs e ≡ 0
  none_at_all xs e ys q = no-fault k xs e ys q (omega (arith, k.ends w refl, end_is s, stands-before xs e ys q))
    where
      stands-before : (xs : List Entry) (e : Entry) (ys : List Entry) → entries s ≡ xs ++ (e ∷ ys) → sizes_of xs < sizes_of (entries s)
      stands-before xs e ys q = rw (q, sizes-append xs (e ∷ ys)) (omega arith)

  pub all-shaped : AllShaped (entries s)
  unfolding basic_fault
  all-shaped = record { at = λ xs e ys q. (into (is_shaped e) (λ y. omega arith) (into (is_known e.kind) (λ y. omega arith) (none_at_all xs e ys q)).1).0 }

  pub lsns-rise : LsnsRise (entries s)
  unfolding basic_fault
  lsns-rise = record { at = λ xs e ys q. ltb-true (last_lsn xs) e.lsn (into (ltb (last_lsn xs) e.lsn) (λ y. omega arith) (into (is_shaped e) (λ y. omega arith) (into (is_known e.kind) (λ y. omega arith) (none_at_all xs e ys q)).1).1).0 }

  pub all-in-order : InOrder (entries s)
  unfolding basic_fault
  all-in-order xs e ys q = (into (in_order xs e) (λ y. omega arith) (into (ltb (last_lsn xs) e.lsn) (λ y. omega arith) (into (is_shaped e) (λ y. omega arith) (into (is_known e.kind) (λ y. omega arith) (none_at_all xs e ys q)).1).1).1).0
