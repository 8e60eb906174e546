-- The least of some faults: by one fold, by one search after another, and that there is one only.
-- Assumes nothing.
use mathlib.Core.Path.{◌≡◌, refl, sym, ap, ap₂, ◌∙◌, subst}
use mathlib.Core.Bool.{Bool, true, false}
use Prim.Native.Nat.{ℕ, zero, suc, ◌+◌, ◌≤◌, ◌<◌}
use native.Mathlib.Omega.{arith}
use native.Mathlib.Decide.{dec_lt, ℕ_discrete}
use mathlib.Core.List.{List, [], ◌∷◌, ◌++◌, append_assoc, append-nil}
use lib.Dec.{ltb, eqb}
use borrow.Author.Tests.{lt-ltb, le-ltb, ltb-true, ltb-false, eqb-true, eqb-false, eq-eqb, ne_eqb}
use Rattle.endian.specs.Pick.{pick}
use Rattle.wal.specs.Entry.{Entry, size_of, sizes_of}
use Rattle.refusals.specs.Verdict.{verdict, accepted}
use Rattle.refusals.specs.declared.Verdict.{Verdict}
use Rattle.rules.specs.Order.{or_else}
use Rattle.firsts.specs.First.{Stands, FirstOf}
use Rattle.firsts.specs.Judge.{verdict_from, Judged, stop_for, narrowed}
use Rattle.firsts.proofs.FirstLaws.{Clean, clean-snoc, front, within, cancel, sizes-append}

-- two entries at one place are one
pub record Same (xs us : List Entry) (e f : Entry) : Type 0 where
  pub front : xs ≡ us
  pub entry : e ≡ f

pub same_place : (xs : List Entry) (e : Entry) (ys us : List Entry) (f : Entry) (bs : List Entry) → xs ++ (e ∷ ys) ≡ us ++ (f ∷ bs) → sizes_of xs ≡ sizes_of us → Same xs us e f
same_place xs e ys us f bs h k =
    let w = front xs (e ∷ ys) us (f ∷ bs) h (omega arith) in
    go w.rest w.is
  where
    go : (rest : List Entry) → us ≡ xs ++ rest → Same xs us e f
    go [] q =
        let z : us ≡ xs = q ∙ append-nil xs in
        let u : e ∷ ys ≡ f ∷ bs = cancel xs (e ∷ ys) (f ∷ bs) (h ∙ ap (λ (l : List Entry). l ++ (f ∷ bs)) z) in
        record { front = sym z; entry = cc }
    go (d ∷ rest) q = absurd (omega (arith, ap sizes_of q, sizes-append xs (d ∷ rest)))

module _ (turn : ℕ → ℕ) (F : ℕ → List Entry → Entry → Type 0) where
  -- g gives the fault of an entry whose turn is first, 0 where it has none
  pub record Least (g : List Entry → Entry → ℕ) : Type 0 where
    pub free : (xs : List Entry) (e : Entry) → g xs e ≡ 0 → (n : ℕ) → F n xs e → ⊥
    pub here : (xs : List Entry) (e : Entry) (n : ℕ) → g xs e ≡ suc n → F (suc n) xs e
    pub least : (xs : List Entry) (e : Entry) (m n : ℕ) → g xs e ≡ suc n → turn m < turn (suc n) → F m xs e → ⊥

  module _ (g : List Entry → Entry → ℕ) (k : Least g) (es : List Entry) (at : ℕ) where
    fold : (xs fs : List Entry) (p : ℕ) → p ≡ at + sizes_of xs → es ≡ xs ++ fs → ((n : ℕ) → Clean (F n) xs) → Judged turn F es at (verdict_from g xs fs p)
    unfolding verdict_from
    fold xs [] p z q c =
        record {
          none = λ t n us e ys h. c n us e ys (sym (q ∙ append-nil xs) ∙ h);
          plain = λ t. refl;
          early = λ t. absurd (t refl);
          lower = λ t. absurd (t refl);
          found = λ t. absurd (t refl);
        }
    fold xs (f ∷ fs) p z q c =
        go (g xs f) refl (λ t. fold (xs ++ (f ∷ [])) fs (p + size_of f) (omega (arith, sizes-append xs (f ∷ []))) (q ∙ sym (append_assoc xs (f ∷ []) fs)) (λ n. clean-snoc (F n) xs f (c n) (k.free xs f t n)))
      where
        go : (m : ℕ) → g xs f ≡ m → (g xs f ≡ 0 → Judged turn F es at (verdict_from g (xs ++ (f ∷ [])) fs (p + size_of f))) → Judged turn F es at (or_else m p (verdict_from g (xs ++ (f ∷ [])) fs (p + size_of f)))
        go zero t r = r t
        go (suc m) t r =
            record {
              none = λ t. absurd (omega arith);
              plain = λ t. absurd (omega arith);
              early = λ t n us e ys h l. let w = within us e ys xs (f ∷ fs) (sym h ∙ q) (omega arith) in c n us e w.rest (w.is ∙ append_assoc us (e ∷ []) w.rest);
              lower = λ b n us e ys h l o y. let w = same_place us e ys xs f fs (sym h ∙ q) (omega arith) in k.least xs f n m t o (subst (λ (x : List Entry). F n x f) w.front (subst (F n us) w.entry y));
              found = λ b. record { xs = xs; e = f; ys = fs; split = q; place = z; holds = k.here xs f m t };
            }

    pub judged-from : Judged turn F es at (verdict_from g [] es at)
    judged-from = fold [] es at (omega arith) refl (λ n us e bs p y. omega (arith, ap sizes_of p, sizes-append us (e ∷ bs)))

  -- no two faults of an entry have one turn
  module _ (apart : (m n : ℕ) (xs : List Entry) (e : Entry) → F m xs e → F n xs e → turn m ≡ turn n → m ≡ n) {es : List Entry} {at : ℕ} where
    pub judged-one : {v w : Verdict} → Judged turn F es at v → Judged turn F es at w → v ≡ w
    judged-one {v} {w} a b = go (ℕ_discrete v.number 0) (ℕ_discrete w.number 0)
      where
        go : Dec (v.number ≡ 0) → Dec (w.number ≡ 0) → v ≡ w
        go (yes i) (yes j) = ap₂ (λ (x y : ℕ). verdict x y) (i ∙ sym j) (a.plain i ∙ sym (b.plain j))
        go (yes i) (no j) = let s = b.found j in absurd (a.none i w.number s.xs s.e s.ys s.split s.holds)
        go (no i) (yes j) = let s = a.found i in absurd (b.none j v.number s.xs s.e s.ys s.split s.holds)
        go (no i) (no j) = ap₂ (λ (x y : ℕ). verdict x y) numbers places
          where
            s : Stands (F v.number) es at v.place
            s = a.found i

            t : Stands (F w.number) es at w.place
            t = b.found j

            places : v.place ≡ w.place
            places =
                let l : v.place < w.place → ⊥ = λ h. b.early j v.number s.xs s.e s.ys s.split (omega (arith, s.place)) s.holds in
                let m : w.place < v.place → ⊥ = λ h. a.early i w.number t.xs t.e t.ys t.split (omega (arith, t.place)) t.holds in
                at_once (dec_lt v.place w.place) (dec_lt w.place v.place) l m
              where
                at_once : Dec (v.place < w.place) → Dec (w.place < v.place) → (v.place < w.place → ⊥) → (w.place < v.place → ⊥) → v.place ≡ w.place
                at_once (yes x) d l m = absurd (l x)
                at_once (no x) (yes y) l m = absurd (m y)
                at_once (no x) (no y) l m = omega arith

            one : Same s.xs t.xs s.e t.e
            one = same_place s.xs s.e s.ys t.xs t.e t.ys (sym s.split ∙ t.split) (omega (arith, s.place, t.place, places))

            numbers : v.number ≡ w.number
            numbers = at_once (dec_lt (turn v.number) (turn w.number)) (dec_lt (turn w.number) (turn v.number))
              where
                at_once : Dec (turn v.number < turn w.number) → Dec (turn w.number < turn v.number) → v.number ≡ w.number
                at_once (yes x) d = absurd (b.lower j v.number s.xs s.e s.ys s.split (sym s.place ∙ places) x s.holds)
                at_once (no x) (yes y) = absurd (a.lower i w.number t.xs t.e t.ys t.split (sym t.place ∙ sym places) y t.holds)
                at_once (no x) (no y) =
                    apart v.number w.number t.xs t.e (subst (λ (l : List Entry). F v.number l t.e) one.front (subst (F v.number s.xs) one.entry s.holds)) t.holds (omega arith)

-- nothing was judged yet
pub judged-none : (turn : ℕ → ℕ) {F : ℕ → List Entry → Entry → Type 0} (es : List Entry) (at : ℕ) → ((n : ℕ) (xs : List Entry) (e : Entry) → F n xs e → ⊥) → Judged turn F es at accepted
judged-none turn es at h =
    record { none = λ t n xs e ys q. h n xs e; plain = λ t. refl; early = λ t. absurd (t refl); lower = λ t. absurd (t refl); found = λ t. absurd (t refl) }

pub stands-in : {es : List Entry} {end : ℕ} (at : ℕ) (xs : List Entry) (e : Entry) (ys : List Entry) → es ≡ xs ++ (e ∷ ys) → at + sizes_of es ≤ end → at + sizes_of xs < end
stands-in at xs e ys q h = omega (arith, ap sizes_of q, sizes-append xs (e ∷ ys))

-- a search for n more, as far as it is of interest
module _ {turn : ℕ → ℕ} {F G : ℕ → List Entry → Entry → Type 0} {T : List Entry → Entry → Type 0} {es : List Entry} {at : ℕ} (n : ℕ) (some : n ≡ 0 → ⊥)
    (or : (m : ℕ) (xs : List Entry) (e : Entry) → (F m xs e → ⊥) → (m ≡ n → T xs e → ⊥) → G m xs e → ⊥)
    (left : (m : ℕ) (xs : List Entry) (e : Entry) → F m xs e → G m xs e) (right : (xs : List Entry) (e : Entry) → T xs e → G n xs e)
    {v : Verdict} (j : Judged turn F es at v) {end r : ℕ} (whole : at + sizes_of es ≤ end) where
  -- it found one
  found-one : FirstOf T es at (stop_for turn end n v) r → r < stop_for turn end n v → Judged turn G es at (verdict n r)
  unfolding stop_for
  found-one f l =
      record {
        none = λ z. absurd (some z);
        plain = λ z. absurd (some z);
        early = λ z m xs e ys q k. or m xs e (old m xs e ys q k (eqb v.number 0) refl (ltb (turn n) (turn v.number)) refl l) (λ i. f.none xs e ys q k);
        lower = λ z m xs e ys q k o. or m xs e (same m xs e ys q k o (eqb v.number 0) refl (ltb (turn n) (turn v.number)) refl l) (λ i. absurd (omega (arith, ap turn i)));
        found = λ z. let s = f.some l in record { xs = s.xs; e = s.e; ys = s.ys; split = s.split; place = s.place; holds = right s.xs s.e s.holds };
      }
    where
      old : (m : ℕ) (xs : List Entry) (e : Entry) (ys : List Entry) → es ≡ xs ++ (e ∷ ys) → at + sizes_of xs < r → (a : Bool) → eqb v.number 0 ≡ a → (b : Bool) → ltb (turn n) (turn v.number) ≡ b
          → r < pick a end (pick b (suc v.place) v.place) → F m xs e → ⊥
      old m xs e ys q k true x b y l = j.none (eqb-true _ _ x) m xs e ys q
      old m xs e ys q k false x true y l = j.early (eqb-false _ _ x) m xs e ys q (omega arith)
      old m xs e ys q k false x false y l = j.early (eqb-false _ _ x) m xs e ys q (omega arith)

      same : (m : ℕ) (xs : List Entry) (e : Entry) (ys : List Entry) → es ≡ xs ++ (e ∷ ys) → at + sizes_of xs ≡ r → turn m < turn n → (a : Bool) → eqb v.number 0 ≡ a → (b : Bool) → ltb (turn n) (turn v.number) ≡ b
          → r < pick a end (pick b (suc v.place) v.place) → F m xs e → ⊥
      same m xs e ys q k o true x b y l = j.none (eqb-true _ _ x) m xs e ys q
      same m xs e ys q k o false x true y l = at-it (dec_lt r v.place)
        where
          at-it : Dec (r < v.place) → F m xs e → ⊥
          at-it (yes d) = j.early (eqb-false _ _ x) m xs e ys q (omega arith)
          at-it (no d) = j.lower (eqb-false _ _ x) m xs e ys q (omega arith) (omega (arith, ltb-true (turn n) (turn v.number) y))
      same m xs e ys q k o false x false y l = j.early (eqb-false _ _ x) m xs e ys q (omega arith)

  -- it found none
  found_none : FirstOf T es at (stop_for turn end n v) r → stop_for turn end n v ≤ r → Judged turn G es at v
  unfolding stop_for
  found_none f l =
      record {
        none = λ z m xs e ys q. or m xs e (j.none z m xs e ys q) (λ i. f.none xs e ys q (omega (arith, stands-in at xs e ys q whole, first z)));
        plain = j.plain;
        early = λ z m xs e ys q k. or m xs e (j.early z m xs e ys q k) (λ i. f.none xs e ys q (omega (arith, up_to z)));
        lower = λ z m xs e ys q k o. or m xs e (j.lower z m xs e ys q k o) (λ i. f.none xs e ys q (omega (arith, with_it z (subst (λ (x : ℕ). turn x < turn v.number) i o))));
        found = λ z. let s = j.found z in record { xs = s.xs; e = s.e; ys = s.ys; split = s.split; place = s.place; holds = left v.number s.xs s.e s.holds };
      }
    where
      first : v.number ≡ 0 → end ≤ r
      first z = rw (eq-eqb v.number 0 z) at l

      up_to : (v.number ≡ 0 → ⊥) → v.place ≤ r
      up_to z = go (ltb (turn n) (turn v.number)) (rw (ne_eqb v.number 0 z) at l)
        where
          go : (b : Bool) → pick b (suc v.place) v.place ≤ r → v.place ≤ r
          go true h = omega arith
          go false h = h

      with_it : (v.number ≡ 0 → ⊥) → turn n < turn v.number → v.place < r
      with_it z o = rw (ne_eqb v.number 0 z, lt-ltb (turn n) (turn v.number) o) at l

  pub judged-more : FirstOf T es at (stop_for turn end n v) r → Judged turn G es at (narrowed turn end n r v)
  unfolding narrowed
  judged-more f = go (ltb r (stop_for turn end n v)) refl
    where
      go : (b : Bool) → ltb r (stop_for turn end n v) ≡ b → Judged turn G es at (pick b (verdict n r) v)
      go true q = found-one f (ltb-true r (stop_for turn end n v) q)
      go false q = found_none f (ltb-false r (stop_for turn end n v) q)

-- ---- how far to search

pub stop-accepted : (turn : ℕ → ℕ) (end n : ℕ) (v : Verdict) → v.number ≡ 0 → stop_for turn end n v ≡ end
unfolding stop_for
stop-accepted turn end n v z = rw (eq-eqb v.number 0 z)

pub stop-at : (turn : ℕ → ℕ) (end n : ℕ) (v : Verdict) → (v.number ≡ 0 → ⊥) → turn v.number ≤ turn n → stop_for turn end n v ≡ v.place
unfolding stop_for
stop-at turn end n v z h = rw (ne_eqb v.number 0 z, le-ltb (turn n) (turn v.number) h)

pub stop-with : (turn : ℕ → ℕ) (end n : ℕ) (v : Verdict) → (v.number ≡ 0 → ⊥) → turn n < turn v.number → stop_for turn end n v ≡ suc v.place
unfolding stop_for
stop-with turn end n v z h = rw (ne_eqb v.number 0 z, lt-ltb (turn n) (turn v.number) h)

pub narrowed-found : (turn : ℕ → ℕ) (end n r : ℕ) (v : Verdict) → r < stop_for turn end n v → narrowed turn end n r v ≡ verdict n r
unfolding narrowed
narrowed-found turn end n r v h = rw (lt-ltb r (stop_for turn end n v) h)

pub narrowed_none : (turn : ℕ → ℕ) (end n r : ℕ) (v : Verdict) → stop_for turn end n v ≤ r → narrowed turn end n r v ≡ v
unfolding narrowed
narrowed_none turn end n r v h = rw (le-ltb r (stop_for turn end n v) h)
