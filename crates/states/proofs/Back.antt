-- A step backward through the entries, for the state of a transaction. Assumes nothing.
use Prim.Native.Nat.{ℕ, ◌+◌, ◌≤◌}
use mathlib.Core.Path.{◌≡◌, refl, sym, ap, ◌∙◌}
use mathlib.Core.List.{List, [], ◌∷◌, ◌++◌}
use native.Mathlib.Omega.{arith}
use lib.ListN.{get_or}
use borrow.Author.Tests.{eq-eqb, ne_eqb}
use Rattle.endian.specs.Numbers.{number_at}
use Rattle.wal.specs.Entry.{entry_of}
use Rattle.wal.specs.Read.{length_at, view}
use Rattle.wal.specs.Prefix.{Met, Stands, said, before}
use Rattle.wal.specs.declared.EntryView.{EntryView}
use Rattle.wal.proofs.Prefix.{Back, before-next, before-first, met-from}
use Rattle.wal.proofs.Known.{Behind}
use Rattle.endian.proofs.Places.{number-byte}
use Rattle.states.specs.State.{state_after, state_from, state_of}
use Rattle.states.proofs.States.{state-snoc}

-- what the entry at a place says of its transaction and its type stands in the log
pub said-txn : (s : List ℕ) (p : ℕ) → (said s p).txn ≡ number_at 8 (p + 12) s
unfolding entry_of view
said-txn s p = refl

pub said-kind : (s : List ℕ) (p : ℕ) → (said s p).kind ≡ get_or s (p + 20) 0
unfolding entry_of view
said-kind s p = number-byte (p + 20) s

pub state-none : (s : List ℕ) (t : ℕ) {p : ℕ} → Met s p → p ≤ 32 → state_of t (before s p) ≡ 0
unfolding state_from
state-none s t {p} m h =
    let z : p ≡ 32 = omega (arith, met-from s m) in
    ap (λ (q : ℕ). state_of t (before s q)) z ∙ ap (state_of t) (before-first s)

module _ (s : List ℕ) (t : ℕ) {p q : ℕ} (b : Back s p q) where
  back-entries : before s p ≡ before s q ++ (said s q ∷ [])
  back-entries = ap (before s) (sym b.is) ∙ before-next s b.met b.stands

  state-found : (said s q).txn ≡ t → state_of t (before s p) ≡ state_after (said s q).kind
  state-found h = ap (state_of t) back-entries ∙ state-snoc t (before s q) (said s q) ∙ rw (eq-eqb (said s q).txn t h)

  state-other : ((said s q).txn ≡ t → ⊥) → state_of t (before s p) ≡ state_of t (before s q)
  state-other h = ap (state_of t) back-entries ∙ state-snoc t (before s q) (said s q) ∙ rw (ne_eqb (said s q).txn t h)

-- an entry that was found, as it was read
module _ {s : List ℕ} {p : ℕ} {v : EntryView} (b : Behind s p v) where
  read-txn : v.txn.0 ≡ (said s v.place).txn
  unfolding entry_of
  read-txn = ap (λ (u : EntryView). u.txn.0) b.is

  read-kind : v.kind ≡ (said s v.place).kind
  unfolding entry_of
  read-kind = ap (λ (u : EntryView). u.kind) b.is

  pub found-own : (t : ℕ) → v.txn.0 ≡ t → state_after v.kind ≡ state_of t (before s p)
  found-own t e = ap state_after read-kind ∙ sym (state-found s t b.back (sym read-txn ∙ e))

  pub found-other : (t : ℕ) → (v.txn.0 ≡ t → ⊥) → state_of t (before s v.place) ≡ state_of t (before s p)
  found-other t n = sym (state-other s t b.back (λ e. n (read-txn ∙ e)))

-- an entry tells the state of its transaction, and alters no other
module _ (s : List ℕ) (at : ℕ) (m : Met s at) (h : Stands s at) where
  pub state-own : (t : ℕ) → (said s at).txn ≡ t → state_of t (before s (at + length_at s at)) ≡ state_after (said s at).kind
  state-own t e = ap (state_of t) (before-next s m h) ∙ state-snoc t (before s at) (said s at) ∙ rw (eq-eqb (said s at).txn t e)

  pub state-keeps : (t : ℕ) → ((said s at).txn ≡ t → ⊥) → state_of t (before s (at + length_at s at)) ≡ state_of t (before s at)
  state-keeps t n = ap (state_of t) (before-next s m h) ∙ state-snoc t (before s at) (said s at) ∙ rw (ne_eqb (said s at).txn t n)
