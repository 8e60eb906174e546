-- A type and its number tell each other. Assumes nothing.
use Rattle.std.specs.Prelude.{Option, Some, None}
use Prim.Native.Nat.{ℕ}
use mathlib.Core.Path.{◌≡◌, refl, sym, ap, ◌∙◌}
use mathlib.Core.Bool.{Bool, true, false}
use lib.Dec.{eqb}
use native.Mathlib.Omega.{arith}
use borrow.Author.Tests.{eqb-true}
use Rattle.endian.specs.Pick.{pick}
use Rattle.wal.specs.Entry.{begin, commit, rollback, insert, delete, checkpoint, update}
use Rattle.wal.specs.Kind.{kind_number, kind_of}
use Rattle.wal.specs.declared.Kind.{Kind}
use Rattle.wal.specs.declared.Kind.TheVariants.{Begin, Commit, Rollback, Insert, Delete, Checkpoint, Update}

pub kind-number : (k : Kind) → kind_of (kind_number k) ≡ Some k
unfolding kind_of
kind-number Begin = refl
kind-number Commit = refl
kind-number Rollback = refl
kind-number Insert = refl
kind-number Delete = refl
kind-number Checkpoint = refl
kind-number Update = refl

-- one test: it holds, or the next decide
tried : (n c : ℕ) (here : Kind) {k : Kind} {next : Option Kind} → kind_number here ≡ c → (next ≡ Some k → n ≡ kind_number k) → pick (eqb n c) (Some here) next ≡ Some k → n ≡ kind_number k
tried n c here {k} {next} e more h = go (eqb n c) refl h
  where
    go : (b : Bool) → eqb n c ≡ b → pick b (Some here) next ≡ Some k → n ≡ kind_number k
    go true q r = let same : here ≡ k = cc in eqb-true n c q ∙ sym e ∙ ap kind_number same
    go false q r = more r

pub kind-of : (n : ℕ) {k : Kind} → kind_of n ≡ Some k → n ≡ kind_number k
unfolding kind_of
kind-of n =
    tried n begin Begin refl
    (tried n commit Commit refl
    (tried n rollback Rollback refl
    (tried n insert Insert refl
    (tried n delete Delete refl
    (tried n checkpoint Checkpoint refl
    (tried n update Update refl (λ h. cc)))))))

-- a number that is no type's is none of theirs
pub kind-none : (n : ℕ) → kind_of n ≡ None → (k : Kind) → n ≡ kind_number k → ⊥
kind-none n h k e = let s : kind_of n ≡ Some k = ap kind_of e ∙ kind-number k in let z : ◌≡◌ {A = ℕ} 0 1 = cc in omega arith
