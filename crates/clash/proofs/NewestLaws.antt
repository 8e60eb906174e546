-- The newest change on a slot after one entry more, and the clash that it tells. Assumes nothing.
use Prim.Native.Nat.{ℕ, ◌+◌, ◌-◌, ◌%◌, ◌≤◌, ◌<◌}
use mathlib.Core.Path.{◌≡◌, refl, sym, ap, ◌∙◌}
use mathlib.Core.Bool.{Bool, true, false}
use mathlib.Core.List.{List, [], ◌∷◌, ◌++◌}
use native.Mathlib.Omega.{arith}
use native.Mathlib.Decide.{ℕ_discrete}
use lib.Dec.{eqb}
use borrow.Author.Tests.{eqb-true, eq-eqb, ne_eqb}
use Rattle.endian.specs.Pick.{pick}
use Rattle.endian.specs.Numbers.{number_at}
use Rattle.wal.specs.Entry.{Entry}
use Rattle.wal.specs.Read.{length_at}
use Rattle.wal.specs.Prefix.{Met, Stands, said, before}
use Rattle.wal.proofs.Prefix.{Back, met-from, before-first, before-next}
use Rattle.rules.specs.Shape.{both, is_change, is_on, page_of, slot_of, same_slot}
use Rattle.states.specs.State.{state_of}
use Rattle.states.specs.Clash.{newest_from, newest_by, clash_after}
use Rattle.states.proofs.Back.{said-txn}
use Rattle.clash.specs.Newest.{on_slot, newest_on, kept, Newest}

-- ---- for the slot of an entry

-- a change on the slot of another
same-on : (e f : Entry) → is_change e ≡ true → same_slot e f ≡ on_slot (page_of e) (slot_of e) f
unfolding same_slot on_slot
same-on e f h = rw h

-- an entry that is no change has no slot
no_slot : (e f : Entry) → is_change e ≡ false → same_slot e f ≡ false
unfolding same_slot
no_slot e f h = rw h (never (is_on (page_of e) f))
  where
    never : (b : Bool) → both b false ≡ false
    never true = refl
    never false = refl

newest-same : (e : Entry) (u : ℕ) (es : List Entry) → is_change e ≡ true → newest_from e u es ≡ newest_on (page_of e) (slot_of e) u es
unfolding newest_from newest_on
newest-same e u [] h = refl
newest-same e u (f ∷ es) h = rw (same-on e f h) (newest-same e (pick (on_slot (page_of e) (slot_of e) f) f.txn u) es h)

newest-none : (e : Entry) (u : ℕ) (es : List Entry) → is_change e ≡ false → newest_from e u es ≡ u
unfolding newest_from
newest-none e u [] h = refl
newest-none e u (f ∷ es) h = rw (no_slot e f h) (newest-none e u es h)

-- an entry that is no change does not clash
pub no-clash : (es : List Entry) (e : Entry) → is_change e ≡ false → clash_after es e ≡ false
unfolding clash_after
no-clash es e h = rw (newest-none e 0 es h)

-- the clash of a change, by the newest change on its slot
module _ (es : List Entry) (e : Entry) (change : is_change e ≡ true) (u : ℕ) (is : u ≡ newest_on (page_of e) (slot_of e) 0 es) where
  by : newest_by e es ≡ u
  by = newest-same e 0 es change ∙ sym is

  pub clash-none : u ≡ 0 → clash_after es e ≡ false
  unfolding clash_after
  clash-none z = rw (by, z)

  pub clash-own : (u ≡ 0 → ⊥) → u ≡ e.txn → clash_after es e ≡ false
  unfolding clash_after
  clash-own n z = rw (by, ne_eqb u 0 n, eq-eqb u e.txn z)

  pub clash-state : (u ≡ 0 → ⊥) → (u ≡ e.txn → ⊥) → clash_after es e ≡ eqb (state_of u es) 1
  unfolding clash_after
  clash-state n z = rw (by, ne_eqb u 0 n, ne_eqb u e.txn z)

-- ---- an entry more
newest-append : (i k u : ℕ) (es fs : List Entry) → newest_on i k u (es ++ fs) ≡ newest_on i k (newest_on i k u es) fs
unfolding newest_on
newest-append i k u [] fs = refl
newest-append i k u (d ∷ es) fs = newest-append i k (pick (on_slot i k d) d.txn u) es fs

newest-snoc : (i k : ℕ) (es : List Entry) (e : Entry) → newest_on i k 0 (es ++ (e ∷ [])) ≡ pick (on_slot i k e) e.txn (newest_on i k 0 es)
unfolding newest_on
newest-snoc i k es e = newest-append i k 0 es (e ∷ [])

-- ---- what a cell keeps
pub kept-zero : kept 0 ≡ 0
unfolding kept
kept-zero = refl

pub kept-some : (u : ℕ) → (u ≡ 0 → ⊥) → kept u ≡ u % 65532 + 1
unfolding kept
kept-some u n = rw (ne_eqb u 0 n)

pub kept-below : (u : ℕ) → kept u < 65536
unfolding kept
kept-below u = go (eqb u 0)
  where
    go : (b : Bool) → pick b 0 (u % 65532 + 1) < 65536
    go true = omega arith
    go false = omega arith

-- a cell that is 0 keeps transaction 0, another one keeps a remainder
pub kept-none : (u x : ℕ) → x ≡ kept u → x ≡ 0 → u ≡ 0
kept-none u x e z = elim (ℕ_discrete u 0) [ yes h ↦ h | no h ↦ absurd (omega (arith, kept-some u h)) ]

pub kept-rest : (u x : ℕ) → x ≡ kept u → (x ≡ 0 → ⊥) → (0 < u) × (u % 16383 ≡ (x - 1) % 16383)
kept-rest u x e n = elim (ℕ_discrete u 0) [ yes h ↦ absurd (n (e ∙ ap kept h ∙ kept-zero)) | no h ↦ (omega arith, omega (arith, kept-some u h)) ]

pub newest-first : (s : List ℕ) (i k : ℕ) → Newest s 32 i k 0
unfolding newest_on
newest-first s i k = sym (ap (λ (es : List Entry). kept (newest_on i k 0 es)) (before-first s) ∙ kept-zero)

module _ (s : List ℕ) (at : ℕ) (m : Met s at) (h : Stands s at) (i k : ℕ) where
  newest-next : newest_on i k 0 (before s (at + length_at s at)) ≡ pick (on_slot i k (said s at)) (said s at).txn (newest_on i k 0 (before s at))
  newest-next = ap (newest_on i k 0) (before-next s m h) ∙ newest-snoc i k (before s at) (said s at)

  pub newest-kept : {c : ℕ} → on_slot i k (said s at) ≡ false → Newest s at i k c → Newest s (at + length_at s at) i k c
  newest-kept n c = c ∙ sym (ap kept (newest-next ∙ rw n))

  pub newest-new : on_slot i k (said s at) ≡ true → Newest s (at + length_at s at) i k (kept (said s at).txn)
  newest-new y = sym (ap kept (newest-next ∙ rw y))

-- which slot an entry changes
pub off-slot : (i k : ℕ) (e : Entry) → (i ≡ page_of e → k ≡ slot_of e → ⊥) → on_slot i k e ≡ false
unfolding on_slot is_on
off-slot i k e n = go (is_change e) (eqb (page_of e) i) refl (eqb k (slot_of e)) refl
  where
    go : (a b : Bool) → eqb (page_of e) i ≡ b → (c : Bool) → eqb k (slot_of e) ≡ c → both (both a b) c ≡ false
    go true true p true q = absurd (n (sym (eqb-true _ _ p)) (eqb-true _ _ q))
    go true true p false q = refl
    go true false p c q = refl
    go false b p c q = refl

pub off-none : (i k : ℕ) (e : Entry) → is_change e ≡ false → on_slot i k e ≡ false
unfolding on_slot is_on
off-none i k e h = rw h

pub on-own : (e : Entry) → is_change e ≡ true → on_slot (page_of e) (slot_of e) e ≡ true
unfolding on_slot is_on
on-own e h = rw (h, eq-eqb (page_of e) (page_of e) refl, eq-eqb (slot_of e) (slot_of e) refl)

module _ (i k : ℕ) (e : Entry) (h : is_change e ≡ true) where
  pub off-page : (page_of e ≡ i → ⊥) → on_slot i k e ≡ false
  off-page n = off-slot i k e (λ p q. n (sym p))

  pub on-page : page_of e ≡ i → on_slot i k e ≡ eqb k (slot_of e)
  unfolding on_slot is_on
  on-page p = rw (h, eq-eqb (page_of e) i p)

-- ---- stepping backward
pub newest-at-first : (s : List ℕ) (i k : ℕ) {p : ℕ} → Met s p → p ≤ 32 → newest_on i k 0 (before s p) ≡ 0
unfolding newest_on
newest-at-first s i k {p} m h =
    let z : p ≡ 32 = omega (arith, met-from s m) in
    ap (λ (q : ℕ). newest_on i k 0 (before s q)) z ∙ ap (newest_on i k 0) (before-first s)

module _ (s : List ℕ) (i k : ℕ) {p q : ℕ} (b : Back s p q) where
  back-entries : before s p ≡ before s q ++ (said s q ∷ [])
  back-entries = ap (before s) (sym b.is) ∙ before-next s b.met b.stands

  pub newest-back-on : on_slot i k (said s q) ≡ true → newest_on i k 0 (before s p) ≡ number_at 8 (q + 12) s
  newest-back-on h = ap (newest_on i k 0) back-entries ∙ newest-snoc i k (before s q) (said s q) ∙ rw h (said-txn s q)

  pub newest-back-off : on_slot i k (said s q) ≡ false → newest_on i k 0 (before s p) ≡ newest_on i k 0 (before s q)
  newest-back-off h = ap (newest_on i k 0) back-entries ∙ newest-snoc i k (before s q) (said s q) ∙ rw h
