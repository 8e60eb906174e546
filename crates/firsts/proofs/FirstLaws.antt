-- Firsts: what they tell, how they are found, narrowed and joined.
-- Assumes nothing.
use mathlib.Core.Path.{◌≡◌, refl, sym, ap, ap₂, ◌∙◌, subst}
use mathlib.Core.Bool.{Bool, true, false, not}
use Prim.Native.Nat.{ℕ, ◌+◌, ◌≤◌, ◌<◌}
use native.Mathlib.Omega.{arith}
use native.Mathlib.Decide.{dec_lt, ℕ_discrete}
use mathlib.Core.List.{List, [], ◌∷◌, ◌++◌, append_assoc, append-nil}
use lib.Dec.{ltb, eqb}
use borrow.Author.Tests.{lt-ltb, le-ltb, eq-eqb, ne_eqb}
use Rattle.endian.specs.Pick.{pick}
use Rattle.wal.specs.Entry.{Entry, size_of, sizes_of}
use Rattle.rules.specs.Shape.{both, either}
use Rattle.rules.specs.Order.{any}
use Rattle.rules.proofs.Tests.{false-true}
use Rattle.firsts.specs.First.{first_at, Tells, Stands, FirstOf}

-- ---- lists

pub sizes-append : (es fs : List Entry) → sizes_of (es ++ fs) ≡ sizes_of es + sizes_of fs
sizes-append [] fs = omega arith
sizes-append (e ∷ es) fs = omega (arith, sizes-append es fs)

pub any_append : (f : Entry → Bool) (es fs : List Entry) → any f (es ++ fs) ≡ either (any f es) (any f fs)
any_append f [] fs = refl
any_append f (e ∷ es) fs = rw (any_append f es fs) (go (f e))
  where
    go : (b : Bool) → either b (either (any f es) (any f fs)) ≡ either (either b (any f es)) (any f fs)
    go true = refl
    go false = refl

-- of two parts in front of one list the shorter one is in front of the longer one
pub record Longer (xs zs : List Entry) : Type 0 where
  pub rest : List Entry
  pub is : zs ≡ xs ++ rest

pub front : (xs ys zs ws : List Entry) → xs ++ ys ≡ zs ++ ws → sizes_of xs ≤ sizes_of zs → Longer xs zs
front [] ys zs ws h k = record { rest = zs; is = refl }
front (x ∷ xs) ys [] ws h k = absurd (omega arith)
front (x ∷ xs) ys (z ∷ zs) ws h k =
    let a : x ≡ z = cc in
    let b : xs ++ ys ≡ zs ++ ws = cc in
    let s : size_of x ≡ size_of z = ap size_of a in
    let r = front xs ys zs ws b (omega arith) in
    record { rest = r.rest; is = ap₂ (λ (d : Entry) (l : List Entry). d ∷ l) (sym a) r.is }

-- an entry that stands before a place is one of those before it
pub within : (xs : List Entry) (e : Entry) (ys zs ws : List Entry) → xs ++ (e ∷ ys) ≡ zs ++ ws → sizes_of xs < sizes_of zs → Longer (xs ++ (e ∷ [])) zs
within xs e ys zs ws h k =
    let r = front xs (e ∷ ys) zs ws h (omega arith) in
    go r.rest r.is
  where
    go : (l : List Entry) → zs ≡ xs ++ l → Longer (xs ++ (e ∷ [])) zs
    go [] q = absurd (omega (arith, ap sizes_of (q ∙ append-nil xs)))
    go (d ∷ l) q =
        let u : xs ++ (e ∷ ys) ≡ xs ++ (d ∷ (l ++ ws)) = h ∙ ap (λ (x : List Entry). x ++ ws) q ∙ append_assoc xs (d ∷ l) ws in
        let v = cancel xs (e ∷ ys) (d ∷ (l ++ ws)) u in
        let w : e ≡ d = cc in
        record { rest = l; is = q ∙ ap (λ (c : Entry). xs ++ (c ∷ l)) (sym w) ∙ sym (append_assoc xs (e ∷ []) l) }
      where
        cancel : (us bs cs : List Entry) → us ++ bs ≡ us ++ cs → bs ≡ cs
        cancel [] bs cs p = p
        cancel (a ∷ us) bs cs p = cancel us bs cs (cc)

-- ---- a test of each entry by itself

pub first-from : (f : Entry → Bool) (es : List Entry) (at : ℕ) → at ≤ first_at f es at
unfolding first_at
first-from f [] at = omega arith
first-from f (e ∷ es) at = go (f e) (first-from f es (at + size_of e))
  where
    go : (b : Bool) → at + size_of e ≤ first_at f es (at + size_of e) → at ≤ pick b at (first_at f es (at + size_of e))
    go true h = omega arith
    go false h = omega arith

pub first_any : (f : Entry → Bool) (xs ys : List Entry) (at : ℕ) → any f xs ≡ ltb (first_at f (xs ++ ys) at) (at + sizes_of xs)
unfolding first_at
first_any f [] ys at = sym (le-ltb (first_at f ys at) (at + 0) (omega (arith, first-from f ys at)))
first_any f (x ∷ xs) ys at = go (f x) (first_any f xs ys (at + size_of x))
  where
    place : at + size_of x + sizes_of xs ≡ at + sizes_of (x ∷ xs)
    place = omega arith

    go : (b : Bool) → any f xs ≡ ltb (first_at f (xs ++ ys) (at + size_of x)) (at + size_of x + sizes_of xs)
        → either b (any f xs) ≡ ltb (pick b at (first_at f (xs ++ ys) (at + size_of x))) (at + sizes_of (x ∷ xs))
    go true h = sym (lt-ltb at (at + sizes_of (x ∷ xs)) (omega arith))
    go false h = h ∙ ap (ltb (first_at f (xs ++ ys) (at + size_of x))) place

-- the first place of all tells at every place
pub tells_first : (f : Entry → Bool) (es : List Entry) (at stop : ℕ) → Tells f es at stop (first_at f es at)
tells_first f es at stop = record { tell = λ xs ys h k. rw h (first_any f xs ys at) }

-- entries none of which passes
pub none_any : (f : Entry → Bool) (xs : List Entry) → ((us : List Entry) (e : Entry) (bs : List Entry) → xs ≡ us ++ (e ∷ bs) → f e ≡ true → ⊥) → any f xs ≡ false
none_any f [] h = refl
none_any f (x ∷ xs) h = go (f x) refl (none_any f xs (λ us e bs q. h (x ∷ us) e bs (rw q)))
  where
    go : (b : Bool) → f x ≡ b → any f xs ≡ false → either b (any f xs) ≡ false
    go true q k = absurd (h [] x xs refl q)
    go false q k = k

pub any_here : (f : Entry → Bool) (xs : List Entry) (e : Entry) (ys : List Entry) → f e ≡ true → any f (xs ++ (e ∷ ys)) ≡ true
any_here f [] e ys h = rw h
any_here f (x ∷ xs) e ys h = go (f x) (any_here f xs e ys h)
  where
    go : (b : Bool) → any f (xs ++ (e ∷ ys)) ≡ true → either b (any f (xs ++ (e ∷ ys))) ≡ true
    go true k = refl
    go false k = k

-- what a search before stop found tells up to there
pub tells-of : (f : Entry → Bool) {es : List Entry} {at stop r : ℕ} → FirstOf (λ xs e. f e ≡ true) es at stop r → Tells f es at stop r
tells-of f {es} {at} {stop} {r} h = record { tell = λ xs ys q k. go xs ys q k (dec_lt r (at + sizes_of xs)) }
  where
    go : (xs ys : List Entry) → es ≡ xs ++ ys → at + sizes_of xs ≤ stop → Dec (r < at + sizes_of xs) → any f xs ≡ ltb r (at + sizes_of xs)
    go xs ys q k (yes l) =
        let s = h.some (omega arith) in
        let w = within s.xs s.e s.ys xs ys (sym s.split ∙ q) (omega (arith, s.place)) in
        let y : any f ((s.xs ++ (s.e ∷ [])) ++ w.rest) ≡ true = rw (append_assoc s.xs (s.e ∷ []) w.rest) (any_here f s.xs s.e w.rest s.holds) in
        ap (any f) w.is ∙ y ∙ sym (lt-ltb _ _ l)
    go xs ys q k (no l) =
        none_any f xs (λ us e bs p t. h.none us e (bs ++ ys) (q ∙ ap (λ (x : List Entry). x ++ ys) p ∙ append_assoc us (e ∷ bs) ys)
        (omega (arith, ap sizes_of p, sizes-append us (e ∷ bs))) t)
        ∙ sym (le-ltb r (at + sizes_of xs) (omega arith))

-- the place of the first is found
pub first-is : (f : Entry → Bool) (es : List Entry) (at : ℕ) → FirstOf (λ xs e. f e ≡ true) es at (at + sizes_of es) (first_at f es at)
unfolding first_at
first-is f [] at = record { low = omega arith; none = λ xs e ys q l t. absurd (omega arith); some = λ l. absurd (omega arith) }
first-is f (d ∷ es) at = go (f d) refl (first-is f es (at + size_of d))
  where
    go : (b : Bool) → f d ≡ b → FirstOf (λ xs e. f e ≡ true) es (at + size_of d) (at + size_of d + sizes_of es) (first_at f es (at + size_of d))
        → FirstOf (λ xs e. f e ≡ true) (d ∷ es) at (at + sizes_of (d ∷ es)) (pick b at (first_at f es (at + size_of d)))
    go true q h =
        record {
          low = omega arith;
          none = λ xs e ys p l t. omega arith;
          some = λ l. record { xs = []; e = d; ys = es; split = refl; place = omega arith; holds = q };
        }
    go false q h =
        record {
          low = omega (arith, h.low);
          none = none;
          some = λ l. let s = h.some (omega arith) in record { xs = d ∷ s.xs; e = s.e; ys = s.ys; split = ap (λ (l : List Entry). d ∷ l) s.split; place = omega (arith, s.place); holds = s.holds };
        }
      where
        none : (xs : List Entry) (e : Entry) (ys : List Entry) → d ∷ es ≡ xs ++ (e ∷ ys) → at + sizes_of xs < first_at f es (at + size_of d) → f e ≡ true → ⊥
        none [] e ys p l t = let w : d ≡ e = cc in false-true (sym q ∙ ap f w ∙ t)
        none (x ∷ xs) e ys p l t = let w : d ≡ x = cc in let s : size_of d ≡ size_of x = ap size_of w in h.none xs e ys (cc) (omega arith) t

-- ---- searches

-- a search in what an earlier search left finds the first of both
pub first-join : {T U W : List Entry → Entry → Type 0} {es : List Entry} {at stop limit r : ℕ}
    → ((xs : List Entry) (e : Entry) → (T xs e → ⊥) → (U xs e → ⊥) → W xs e → ⊥) → ((xs : List Entry) (e : Entry) → T xs e → W xs e) → ((xs : List Entry) (e : Entry) → U xs e → W xs e)
    → FirstOf T es at stop limit → FirstOf U es at limit r → FirstOf W es at stop r
first-join {T} {U} {W} {es} {at} {stop} {limit} {r} or left right f g =
    record {
      low = omega (arith, f.low, g.low);
      none = λ xs e ys q l. or xs e (f.none xs e ys q (omega (arith, g.low))) (g.none xs e ys q l);
      some = λ l. go l (dec_lt r limit);
    }
  where
    go : r < stop → Dec (r < limit) → Stands W es at r
    go l (yes k) = let s = g.some k in record { xs = s.xs; e = s.e; ys = s.ys; split = s.split; place = s.place; holds = right _ _ s.holds }
    go l (no k) =
        let z : r ≡ limit = omega (arith, g.low) in
        let s = f.some (omega arith) in
        record { xs = s.xs; e = s.e; ys = s.ys; split = s.split; place = z ∙ s.place; holds = left _ _ s.holds }

-- nothing was searched for yet
pub first-never : {T : List Entry → Entry → Type 0} (es : List Entry) (at stop : ℕ) → ((xs : List Entry) (e : Entry) → T xs e → ⊥) → FirstOf T es at stop stop
first-never es at stop h = record { low = omega arith; none = λ xs e ys q l. h xs e; some = λ l. absurd (omega arith) }

-- no entry of xs has T, after those before it
abbrev pub Clean : (List Entry → Entry → Type 0) → List Entry → Type 0
Clean T xs = (us : List Entry) (e : Entry) (bs : List Entry) → xs ≡ us ++ (e ∷ bs) → T us e → ⊥

pub cancel : (us bs cs : List Entry) → us ++ bs ≡ us ++ cs → bs ≡ cs
cancel [] bs cs p = p
cancel (a ∷ us) bs cs p = cancel us bs cs (cc)

-- where an entry of xs and e stands
pub data Last (xs : List Entry) (e : Entry) (us : List Entry) (f : Entry) : Type 0 where
  old : (rest : List Entry) → xs ≡ us ++ (f ∷ rest) → Last xs e us f
  new : xs ≡ us → e ≡ f → Last xs e us f

pub last_of : (xs : List Entry) (e : Entry) (us : List Entry) (f : Entry) (bs : List Entry) → xs ++ (e ∷ []) ≡ us ++ (f ∷ bs) → Last xs e us f
last_of xs e us f bs h = go (dec_lt (sizes_of us) (sizes_of xs))
  where
    end : (rest : List Entry) → us ≡ xs ++ rest → Last xs e us f
    end rest q = at rest (cancel xs (e ∷ []) (rest ++ (f ∷ bs)) (h ∙ ap (λ (l : List Entry). l ++ (f ∷ bs)) q ∙ append_assoc xs rest (f ∷ bs))) q
      where
        at : (rest : List Entry) → e ∷ [] ≡ rest ++ (f ∷ bs) → us ≡ xs ++ rest → Last xs e us f
        at [] p q = new (sym (q ∙ append-nil xs)) (cc)
        at (d ∷ rest) p q = absurd (omega (arith, sizes-append rest (f ∷ bs), ap sizes_of (tail p)))
          where
            tail : e ∷ [] ≡ d ∷ (rest ++ (f ∷ bs)) → [] ≡ rest ++ (f ∷ bs)
            tail p = cc

    go : Dec (sizes_of us < sizes_of xs) → Last xs e us f
    go (yes l) =
        let w = within us f bs xs (e ∷ []) (sym h) l in
        old w.rest (w.is ∙ append_assoc us (f ∷ []) w.rest)
    go (no l) = let w = front xs (e ∷ []) us (f ∷ bs) h (omega arith) in end w.rest w.is

pub clean-snoc : (T : List Entry → Entry → Type 0) (xs : List Entry) (e : Entry) → Clean T xs → (T xs e → ⊥) → Clean T (xs ++ (e ∷ []))
clean-snoc T xs e c n us f bs q t = go (last_of xs e us f bs q)
  where
    go : Last xs e us f → ⊥
    go (old rest p) = c us f rest p t
    go (new p r) = n (subst (λ (l : List Entry). T l e) (sym p) (subst (T us) (sym r) t))

-- the entries before a place that no search reached
pub clean-before : (T : List Entry → Entry → Type 0) {es : List Entry} {at stop r : ℕ} → FirstOf T es at stop r → (xs ys : List Entry) → es ≡ xs ++ ys → at + sizes_of xs ≤ r → Clean T xs
clean-before T h xs ys q k us e bs p =
    h.none us e (bs ++ ys) (q ∙ ap (λ (x : List Entry). x ++ ys) p ∙ append_assoc us (e ∷ bs) ys) (omega (arith, ap sizes_of p, sizes-append us (e ∷ bs)))

-- what is the same as long as nothing was found has the same first
module _ (T U : List Entry → Entry → Type 0) (es : List Entry)
    (agree : (xs : List Entry) (e : Entry) (ys : List Entry) → es ≡ xs ++ (e ∷ ys) → Clean T xs → (T xs e → U xs e) × (U xs e → T xs e)) where
  clean-go : {at stop r : ℕ} → FirstOf U es at stop r → (done todo ys : List Entry) → es ≡ (done ++ todo) ++ ys → at + sizes_of (done ++ todo) ≤ r → Clean T done → Clean T (done ++ todo)
  clean-go h done [] ys q k c = rw (append-nil done) c
  clean-go {at} {stop} {r} h done (d ∷ todo) ys q k c =
      let a : (done ++ (d ∷ [])) ++ todo ≡ done ++ (d ∷ todo) = append_assoc done (d ∷ []) todo in
      let b : es ≡ done ++ (d ∷ (todo ++ ys)) = q ∙ append_assoc done (d ∷ todo) ys in
      let n : T done d → ⊥ = λ t. h.none done d (todo ++ ys) b (omega (arith, sizes-append done (d ∷ todo))) ((agree done d (todo ++ ys) b c).0 t) in
      subst (Clean T) a (clean-go h (done ++ (d ∷ [])) todo ys (q ∙ ap (λ (l : List Entry). l ++ ys) (sym a)) (omega (arith, ap sizes_of a)) (clean-snoc T done d c n))

  pub first-agree : {at stop r : ℕ} → FirstOf U es at stop r → FirstOf T es at stop r
  first-agree {at} {stop} {r} h =
      record {
        low = h.low;
        none = λ xs e ys q l t. h.none xs e ys q l ((agree xs e ys q (clean-go h [] xs (e ∷ ys) q (omega arith) (λ us f bs p. empty us f bs p))).0 t);
        some = λ l. let s = h.some l in record { xs = s.xs; e = s.e; ys = s.ys; split = s.split; place = s.place; holds = (agree s.xs s.e s.ys s.split (clean-go h [] s.xs (s.e ∷ s.ys) s.split (omega (arith, s.place)) (λ us f bs p. empty us f bs p))).1 s.holds };
      }
    where
      empty : (us : List Entry) (f : Entry) (bs : List Entry) → [] ≡ us ++ (f ∷ bs) → T us f → ⊥
      empty us f bs p t = omega (arith, ap sizes_of p, sizes-append us (f ∷ bs))

-- ---- the same in other words

-- a search that stops earlier
pub first-less : {T : List Entry → Entry → Type 0} {es : List Entry} {at stop r : ℕ} (less : ℕ) → less ≤ stop → FirstOf T es at stop r → FirstOf T es at less (pick (ltb r less) r less)
first-less {T} {es} {at} {stop} {r} less h f = go (dec_lt r less)
  where
    go : Dec (r < less) → FirstOf T es at less (pick (ltb r less) r less)
    go (yes l) = rw (lt-ltb r less l) (record { low = omega arith; none = f.none; some = λ k. f.some (omega arith) })
    go (no l) = rw (le-ltb r less (omega arith)) (record { low = omega arith; none = λ xs e ys q k. f.none xs e ys q (omega arith); some = λ k. absurd (omega arith) })

pub tells-less : {f : Entry → Bool} {es : List Entry} {at stop b : ℕ} (less : ℕ) → less ≤ stop → Tells f es at stop b → Tells f es at less b
tells-less less h k = record { tell = λ xs ys q l. k.tell xs ys q (omega arith) }

-- there is one first only
pub first_one : {T : List Entry → Entry → Type 0} {es : List Entry} {at stop r q : ℕ} → FirstOf T es at stop r → FirstOf T es at stop q → r ≡ q
first_one {T} {es} {at} {stop} {r} {q} f g = go (dec_lt r q) (dec_lt q r)
  where
    go : Dec (r < q) → Dec (q < r) → r ≡ q
    go (yes l) d = let s = f.some (omega (arith, g.low)) in absurd (g.none s.xs s.e s.ys s.split (omega (arith, s.place)) s.holds)
    go (no l) (yes m) = let s = g.some (omega (arith, f.low)) in absurd (f.none s.xs s.e s.ys s.split (omega (arith, s.place)) s.holds)
    go (no l) (no m) = omega arith

-- what finds the first of the places before stop, or 0 where there is none
pub first-zero : {T : List Entry → Entry → Type 0} {es : List Entry} {at stop q : ℕ} → ((q ≡ 0 → ⊥) → (q < stop) × Stands T es at q)
    → ((xs : List Entry) (e : Entry) (ys : List Entry) → es ≡ xs ++ (e ∷ ys) → at + sizes_of xs < stop → T xs e → (q ≡ 0 → ⊥) × (q ≤ at + sizes_of xs)) → FirstOf T es at stop (pick (eqb q 0) stop q)
first-zero {T} {es} {at} {stop} {q} found least = go (ℕ_discrete q 0)
  where
    go : Dec (q ≡ 0) → FirstOf T es at stop (pick (eqb q 0) stop q)
    go (yes z) = rw (eq-eqb q 0 z) (record { low = omega arith; none = λ xs e ys p l t. (least xs e ys p l t).0 z; some = λ l. absurd (omega arith) })
    go (no n) =
        let k = found n in
        let l : q < stop = k.0 in
        rw (ne_eqb q 0 n) (record { low = omega arith; none = λ xs e ys p m t. omega (arith, (least xs e ys p (omega arith) t).1); some = λ m. k.1 })

-- and the test by it
pub zero_test : (q stop p : ℕ) → p ≤ stop → ltb (pick (eqb q 0) stop q) p ≡ both (not (eqb q 0)) (ltb q p)
zero_test q stop p h = go (eqb q 0)
  where
    go : (b : Bool) → ltb (pick b stop q) p ≡ both (not b) (ltb q p)
    go true = le-ltb stop p h
    go false = refl

-- two searches by themselves: the earlier one
pub first-min : {T U W : List Entry → Entry → Type 0} {es : List Entry} {at stop l m : ℕ}
    → ((xs : List Entry) (e : Entry) → (T xs e → ⊥) → (U xs e → ⊥) → W xs e → ⊥) → ((xs : List Entry) (e : Entry) → T xs e → W xs e) → ((xs : List Entry) (e : Entry) → U xs e → W xs e)
    → FirstOf T es at stop l → FirstOf U es at stop m → FirstOf W es at stop (pick (ltb m l) m l)
first-min {l = l} or left right f g = first-join or left right f (first-less l f.low g)
