-- What an accepted list of entries tells of each entry, and of the LSNs.
-- Assumes nothing.
use mathlib.Core.Path.{◌≡◌, refl, sym, ap, ◌∙◌}
use mathlib.Core.Bool.{Bool, true, false}
use Prim.Native.Nat.{ℕ, zero, suc, ◌+◌, ◌≤◌, ◌<◌}
use native.Mathlib.Omega.{arith}
use mathlib.Core.List.{List, [], ◌∷◌, ◌++◌, append_assoc, append-nil}
use lib.Dec.{ltb, eqb}
use borrow.Author.Tests.{ltb-true, eq-eqb}
use Rattle.endian.specs.Pick.{pick}
use Rattle.wal.specs.Entry.{Entry, size_of, checkpoint}
use Rattle.refusals.specs.declared.Verdict.{Verdict}
use Rattle.rules.specs.Shape.{both, is_known, is_changing, is_shaped, is_on, lsn_on}
use Rattle.rules.specs.Order.{any, count, is_begin, last_lsn, in_order, clashes, fault_after, or_else, order_from}
use Rattle.rules.specs.Mend.{last_on}
use Rattle.rules.proofs.Tests.{false-true, into, past}

-- each of some entries
abbrev pub Every : (Entry → Type 0) → List Entry → Type 0
Every P [] = Unit {0}
Every P (e ∷ es) = P e × Every P es

pub every_map : (P Q : Entry → Type 0) → ((e : Entry) → P e → Q e) → (es : List Entry) → Every P es → Every Q es
every_map P Q f [] h = tt
every_map P Q f (e ∷ es) h = (f e h.0, every_map P Q f es h.1)

pub every_append : (P : Entry → Type 0) (es fs : List Entry) → Every P (es ++ fs) → Every P es × Every P fs
every_append P [] fs h = (tt, h)
every_append P (e ∷ es) fs h = let r = every_append P es fs h.1 in ((h.0, r.0), r.1)

-- the entry e has no fault after the entries es
pub record Passes (full : ℕ → Bool) (es : List Entry) (e : Entry) : Type 0 where
  pub known : is_known e.kind ≡ true
  pub shaped : is_shaped e ≡ true
  pub rises : last_lsn es < e.lsn
  pub ordered : in_order es e ≡ true
  pub apart : any (clashes es e) es ≡ false
  pub room : both (is_begin e) (full (count is_begin es)) ≡ false

pub passes : (full : ℕ → Bool) (es : List Entry) (e : Entry) → fault_after full es e ≡ 0 → Passes full es e
unfolding fault_after
passes full es e h =
    let a = into (is_known e.kind) (λ z. omega arith) h in
    let b = into (is_shaped e) (λ z. omega arith) a.1 in
    let c = into (ltb (last_lsn es) e.lsn) (λ z. omega arith) b.1 in
    let d = into (in_order es e) (λ z. omega arith) c.1 in
    let f = past (any (clashes es e) es) (λ z. omega arith) d.1 in
    let g = past (both (is_begin e) (full (count is_begin es))) (λ z. omega arith) f.1 in
    record { known = a.0; shaped = b.0; rises = ltb-true _ _ c.0; ordered = d.0; apart = f.0; room = g.0 }

-- a Begin, a Commit or a Rollback has a number
pub numbered : (full : ℕ → Bool) (es : List Entry) (f : Entry) → Passes full es f → (k : ℕ) → is_changing k ≡ false → eqb k checkpoint ≡ false → f.kind ≡ k → f.txn ≡ 0 → ⊥
unfolding in_order
numbered full es f h k c d e z =
    let o : is_changing f.kind ≡ true = rw (e, d, eq-eqb f.txn 0 z, ← e) at h.ordered in
    false-true (sym c ∙ ap is_changing (sym e) ∙ o)

or_else-zero : (n at : ℕ) (v : Verdict) → (or_else n at v).number ≡ 0 → (n ≡ 0) × (v.number ≡ 0)
or_else-zero zero at v h = (refl, h)
or_else-zero (suc n) at v h = absurd (omega arith)

-- each of the entries fs passes after es and those before it
abbrev pub InTurn : (ℕ → Bool) → List Entry → List Entry → Type 0
InTurn full es [] = Unit {0}
InTurn full es (f ∷ fs) = Passes full es f × InTurn full (es ++ (f ∷ [])) fs

pub in-turn : (full : ℕ → Bool) (es fs : List Entry) (at : ℕ) → (order_from full es fs at).number ≡ 0 → InTurn full es fs
unfolding order_from
in-turn full es [] at h = tt
in-turn full es (f ∷ fs) at h =
    let z = or_else-zero (fault_after full es f) at (order_from full (es ++ (f ∷ [])) fs (at + size_of f)) h in
    (passes full es f z.0, in-turn full (es ++ (f ∷ [])) fs (at + size_of f) z.1)

pub all-shaped : (full : ℕ → Bool) (es fs : List Entry) → InTurn full es fs → Every (λ e. is_shaped e ≡ true) fs
all-shaped full es [] h = tt
all-shaped full es (f ∷ fs) h = (h.0.shaped, all-shaped full (es ++ (f ∷ [])) fs h.1)

-- ---- LSNs

pub last_snoc : (es : List Entry) (f : Entry) → last_lsn (es ++ (f ∷ [])) ≡ f.lsn
last_snoc [] f = refl
last_snoc (e ∷ []) f = refl
last_snoc (e ∷ g ∷ es) f = last_snoc (g ∷ es) f

pub lsn-le : (i : ℕ) (e : Entry) → lsn_on i e ≤ e.lsn
unfolding lsn_on
lsn-le i e = go (is_on i e)
  where
    go : (b : Bool) → pick b e.lsn 0 ≤ e.lsn
    go true = omega arith
    go false = omega arith

-- no change on a page is above the last LSN
pub last-bounds : (full : ℕ → Bool) (i : ℕ) (es fs : List Entry) → InTurn full es fs → (last_lsn es ≤ last_lsn (es ++ fs)) × (last_on i fs ≤ last_lsn (es ++ fs))
unfolding last_on
last-bounds full i es [] h = rw (append-nil es) (omega arith)
last-bounds full i es (f ∷ fs) h =
    let r = last-bounds full i (es ++ (f ∷ [])) fs h.1 in
    let a : (es ++ (f ∷ [])) ++ fs ≡ es ++ (f ∷ fs) = append_assoc es (f ∷ []) fs in
    let r0 : last_lsn (es ++ (f ∷ [])) ≤ last_lsn (es ++ (f ∷ fs)) = rw a at r.0 in
    let r1 : last_on i fs ≤ last_lsn (es ++ (f ∷ fs)) = rw a at r.1 in
    omega (arith, last_snoc es f, h.0.rises, lsn-le i f)

pub last-small : (n : ℕ) (es : List Entry) → 0 < n → Every (λ e. e.lsn < n) es → last_lsn es < n
last-small n [] z h = z
last-small n (e ∷ []) z h = h.0
last-small n (e ∷ f ∷ es) z h = last-small n (f ∷ es) z h.1
