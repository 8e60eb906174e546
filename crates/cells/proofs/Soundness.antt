-- An entry before a place is one of the entries before it; so entries whose shapes are right and whose LSNs rise are sound. Assumes nothing.
use Prim.Native.Nat.{ℕ, ◌<◌}
use native.Mathlib.Decide.{dec_lt}
use native.Mathlib.Omega.{arith}
use mathlib.Core.Path.{◌≡◌, sym, ap, ◌∙◌, subst}
use mathlib.Core.Bool.{Bool, true, false}
use mathlib.Core.List.{List, [], ◌∷◌, ◌++◌, append_assoc, append-nil}
use Rattle.wal.specs.Entry.{Entry}
use Rattle.wal.specs.Prefix.{Met, said, before}
use Rattle.wal.proofs.Prefix.{before-next, met-below, met-from, Along, start, more, along}
use Rattle.rules.specs.Shape.{is_shaped}
use Rattle.rules.specs.Order.{any, last_lsn}
use Rattle.rules.proofs.Tests.{either-false}
use Rattle.cells.specs.Measure.{Sound}

-- the entries before q are those before p, the one at p, and some more
record Among (s : List ℕ) (p q : ℕ) : Type 0 where
  rest : List Entry
  is : before s q ≡ before s p ++ (said s p ∷ rest)

among-along : {s : List ℕ} {p q : ℕ} → Met s p → Along s q → p < q → Among s p q
among-along {s} m start h = absurd (omega (arith, met-from s m))
among-along {s} {p} {q} m (more {p = r} a mr st e) h =
    let b : before s q ≡ before s r ++ (said s r ∷ []) = ap (before s) e ∙ before-next s mr st in
    elim (dec_lt p r) [
      | yes l ↦ let k = among-along m a l in
          record { rest = k.rest ++ (said s r ∷ []); is = b ∙ ap (λ (x : List Entry). x ++ (said s r ∷ [])) k.is ∙ append_assoc (before s p) (said s p ∷ k.rest) (said s r ∷ []) }
      | no l ↦ elim (dec_lt r p) [
        | yes g ↦ absurd (omega (arith, (met-below s mr m g).next))
        | no g ↦ let z : r ≡ p = omega arith in record { rest = []; is = rw z at b }
      ]
    ]

among : {s : List ℕ} {p q : ℕ} → Met s p → Met s q → p < q → Among s p q
among m n h = among-along m (along n) h

-- a test that fails of each of the entries before q fails of the one at p
any-in : (f : Entry → Bool) (es : List Entry) (e : Entry) (fs : List Entry) → any f (es ++ (e ∷ fs)) ≡ false → f e ≡ false
any-in f [] e fs h = (either-false (f e) (any f fs) h).0
any-in f (d ∷ es) e fs h = any-in f es e fs (either-false (f d) (any f (es ++ (e ∷ fs))) h).1

pub none_before : (f : Entry → Bool) {s : List ℕ} {p q : ℕ} → Met s p → Met s q → p < q → any f (before s q) ≡ false → f (said s p) ≡ false
none_before f {s} {p} m n h k = let a = among m n h in any-in f (before s p) (said s p) a.rest (ap (any f) (sym a.is) ∙ k)

-- ---- entries in turn

-- each of the entries fs has its shape, and an LSN above the last before it, after the entries es
abbrev pub Rising : List Entry → List Entry → Type 0
Rising es [] = Unit {0}
Rising es (f ∷ fs) = ((is_shaped f ≡ true) × (last_lsn es < f.lsn)) × Rising (es ++ (f ∷ [])) fs

rising-in : (es fs : List Entry) (e : Entry) (gs : List Entry) → Rising es (fs ++ (e ∷ gs)) → (is_shaped e ≡ true) × (last_lsn (es ++ fs) < e.lsn)
rising-in es [] e gs h = rw (append-nil es) h.0
rising-in es (f ∷ fs) e gs h = rw (← append_assoc es (f ∷ []) fs) (rising-in (es ++ (f ∷ [])) fs e gs h.1)

pub sound-of : {s : List ℕ} {stop : ℕ} → Met s stop → Rising [] (before s stop) → Sound s stop
sound-of {s} {stop} n h = record { shaped = λ m l. (at m l).0; rises = λ m l. (at m l).1 }
  where
    at : {p : ℕ} → Met s p → p < stop → (is_shaped (said s p) ≡ true) × (last_lsn (before s p) < (said s p).lsn)
    at {p} m l = let a = among m n l in rising-in [] (before s p) (said s p) a.rest (subst (Rising []) a.is h)
