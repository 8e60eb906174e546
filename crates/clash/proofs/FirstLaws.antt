-- The first clash of a group by a walk, of all groups, and the verdict on clashes. Assumes nothing.
use Prim.Native.Nat.{ℕ, ◌+◌, ◌≤◌, ◌<◌}
use mathlib.Core.Path.{◌≡◌, sym, ap, ◌∙◌, subst}
use mathlib.Core.Bool.{Bool, false}
use mathlib.Core.List.{List}
use native.Mathlib.Omega.{arith}
use native.Mathlib.Decide.{dec_lt, ℕ_discrete}
use lib.ListN.{replicate}
use Rattle.wal.specs.Read.{length_at}
use Rattle.wal.specs.Prefix.{Met, Stands, said}
use Rattle.wal.proofs.Prefix.{met-first, met_next, met-from, met-below, Below}
use Rattle.clash.specs.Open.{Opens}
use Rattle.clash.specs.First.{clash_in}
use Rattle.clash.specs.Group.{Group, cell_for, noted}
use Rattle.clash.proofs.OpenLaws.{opens-first}
use Rattle.clash.proofs.GroupLaws.{next-group}

-- no clash on a page of the group before p
pub record Clean (lo hi : ℕ) (s : List ℕ) (p : ℕ) : Type 0 where
  pub none : (q : ℕ) → Met s q → q < p → clash_in lo hi s q ≡ false

pub clean-first : (lo hi : ℕ) (s : List ℕ) → Clean lo hi s 32
clean-first lo hi s = record { none = λ q m h. absurd (omega (arith, met-from s m)) }

-- places of the walk between an entry and the next one: none
pub clean-next : (lo hi : ℕ) (s : List ℕ) (p : ℕ) → Met s p → Stands s p → clash_in lo hi s p ≡ false → Clean lo hi s p → Clean lo hi s (p + length_at s p)
clean-next lo hi s p m h z c = record { none = λ q n l. go q n l (dec_lt q p) (ℕ_discrete q p) }
  where
    go : (q : ℕ) → Met s q → q < p + length_at s p → Dec (q < p) → Dec (q ≡ p) → clash_in lo hi s q ≡ false
    go q n l (yes b) d = c.none q n b
    go q n l (no b) (yes e) = ap (clash_in lo hi s) e ∙ z
    go q n l (no b) (no e) = absurd (omega (arith, (met-below s m n (omega arith)).next))

-- ---- a walk for clashes
pub record Sweeping (s opens : List ℕ) (limit lo hi at : ℕ) : Type 0 where
  pub met : Met s at
  pub up_to : at ≤ limit
  pub told : Opens s at opens
  pub clean : Clean lo hi s at

pub sweeping-first : {s : List ℕ} {limit : ℕ} (lo hi : ℕ) → Met s limit → Sweeping s (replicate 32766 0) limit lo hi 32
sweeping-first {s} lo hi m = record { met = met-first s; up_to = met-from s m; told = opens-first s; clean = clean-first lo hi s }

module _ {s opens : List ℕ} {limit lo hi at : ℕ} (k : Sweeping s opens limit lo hi at) (end : Met s limit) where
  module _ (h : at < limit) where
    here : Below s at limit
    here = met-below s k.met end h

    pub sweeping-stands : Stands s at
    sweeping-stands = here.stands

    -- an entry more
    pub sweeping-next : (opens2 : List ℕ) (next : ℕ) → clash_in lo hi s at ≡ false → next ≡ at + length_at s at → Opens s (at + length_at s at) opens2 → Sweeping s opens2 limit lo hi next
    sweeping-next opens2 next z e g =
        record {
          met = subst (Met s) (sym e) (met_next s k.met sweeping-stands);
          up_to = omega (arith, here.next);
          told = subst (λ (x : ℕ). Opens s x opens2) (sym e) g;
          clean = subst (Clean lo hi s) (sym e) (clean-next lo hi s at k.met sweeping-stands z k.clean);
        }

-- the cells of a group, as the walk goes on
pub group-next : {s starts space : List ℕ} {limit lo hi at : ℕ} → Group s starts space limit lo hi at → Met s at → Stands s at → at < limit
    → (r : Bool) (t : ℕ) (space2 : List ℕ) (next : ℕ) → r ≡ clash_in lo hi s at → r ≡ false → t ≡ (said s at).txn → space2 ≡ noted r (cell_for starts lo hi (said s at)) t space
    → next ≡ at + length_at s at → Group s starts space2 limit lo hi next
group-next {s} {starts} {limit = limit} {lo} {hi} {at} g m h l r t space2 next is z own c e = rw (e, c, own) (next-group g m h l r is z)
