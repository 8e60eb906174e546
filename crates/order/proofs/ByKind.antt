-- What the order rules ask of an entry's type, by the type that code reads. Assumes nothing.
use Rattle.std.specs.Prelude.{Option, Some, None}
use Prim.Native.Nat.{ℕ}
use mathlib.Core.Path.{◌≡◌, refl, sym, ap, ◌∙◌}
use mathlib.Core.Bool.{Bool, true, false}
use lib.Dec.{eqb}
use borrow.Author.Tests.{ne_eqb}
use Rattle.wal.specs.Entry.{begin, commit, rollback, insert, delete, checkpoint, update}
use Rattle.wal.specs.Kind.{kind_number, kind_of}
use Rattle.wal.specs.declared.Kind.{Kind}
use Rattle.wal.specs.declared.Kind.TheVariants.{Begin, Commit, Rollback, Insert, Delete, Checkpoint, Update}
use Rattle.wal.proofs.KindLaws.{kind-number, kind-of}
use Rattle.rules.specs.Shape.{either, is_known}

none : (n : ℕ) (k : Kind) → kind_of n ≡ None → n ≡ kind_number k → ⊥
none n k e q = let f : None ≡ Some k = sym e ∙ ap kind_of q ∙ kind-number k in cc

-- a test of a number is one of its type, where it fails of what is no type's number
abbrev test : (ℕ → Bool) → Option Kind → Bool
test f (Some k) = f (kind_number k)
test f None = false

by_kind : (f : ℕ → Bool) (n : ℕ) → (kind_of n ≡ None → f n ≡ false) → f n ≡ test f (kind_of n)
by_kind f n other = go (kind_of n) refl
  where
    go : (k : Option Kind) → kind_of n ≡ k → f n ≡ test f k
    go (Some k) e = ap f (kind-of n e)
    go None e = other e

abbrev pub known : Option Kind → Bool
known (Some k) = true
known None = false

abbrev pub begins : Option Kind → Bool
begins (Some Begin) = true
begins (Some Commit) = false
begins (Some Rollback) = false
begins (Some Insert) = false
begins (Some Delete) = false
begins (Some Checkpoint) = false
begins (Some Update) = false
begins None = false

abbrev pub ends : Option Kind → Bool
ends (Some Begin) = false
ends (Some Commit) = true
ends (Some Rollback) = true
ends (Some Insert) = false
ends (Some Delete) = false
ends (Some Checkpoint) = false
ends (Some Update) = false
ends None = false

abbrev pub checks : Option Kind → Bool
checks (Some Begin) = false
checks (Some Commit) = false
checks (Some Rollback) = false
checks (Some Insert) = false
checks (Some Delete) = false
checks (Some Checkpoint) = true
checks (Some Update) = false
checks None = false

pub known_by_kind : (n : ℕ) → is_known n ≡ known (kind_of n)
unfolding is_known
known_by_kind n = by_kind is_known n (λ e. rw (ne_eqb n begin (none n Begin e), ne_eqb n commit (none n Commit e), ne_eqb n rollback (none n Rollback e), ne_eqb n insert (none n Insert e), ne_eqb n delete (none n Delete e), ne_eqb n checkpoint (none n Checkpoint e), ne_eqb n update (none n Update e)) refl) ∙ go (kind_of n)
  where
    go : (k : Option Kind) → test is_known k ≡ known k
    go (Some Begin) = refl
    go (Some Commit) = refl
    go (Some Rollback) = refl
    go (Some Insert) = refl
    go (Some Delete) = refl
    go (Some Checkpoint) = refl
    go (Some Update) = refl
    go None = refl

pub begin_by_kind : (n : ℕ) → eqb n begin ≡ begins (kind_of n)
begin_by_kind n = by_kind (λ m. eqb m begin) n (λ e. ne_eqb n begin (none n Begin e)) ∙ go (kind_of n)
  where
    go : (k : Option Kind) → test (λ m. eqb m begin) k ≡ begins k
    go (Some Begin) = refl
    go (Some Commit) = refl
    go (Some Rollback) = refl
    go (Some Insert) = refl
    go (Some Delete) = refl
    go (Some Checkpoint) = refl
    go (Some Update) = refl
    go None = refl

pub end_by_kind : (n : ℕ) → either (eqb n commit) (eqb n rollback) ≡ ends (kind_of n)
end_by_kind n = by_kind (λ m. either (eqb m commit) (eqb m rollback)) n (λ e. rw (ne_eqb n commit (none n Commit e), ne_eqb n rollback (none n Rollback e)) refl) ∙ go (kind_of n)
  where
    go : (k : Option Kind) → test (λ m. either (eqb m commit) (eqb m rollback)) k ≡ ends k
    go (Some Begin) = refl
    go (Some Commit) = refl
    go (Some Rollback) = refl
    go (Some Insert) = refl
    go (Some Delete) = refl
    go (Some Checkpoint) = refl
    go (Some Update) = refl
    go None = refl

pub checkpoint_by_kind : (n : ℕ) → eqb n checkpoint ≡ checks (kind_of n)
checkpoint_by_kind n = by_kind (λ m. eqb m checkpoint) n (λ e. ne_eqb n checkpoint (none n Checkpoint e)) ∙ go (kind_of n)
  where
    go : (k : Option Kind) → test (λ m. eqb m checkpoint) k ≡ checks k
    go (Some Begin) = refl
    go (Some Commit) = refl
    go (Some Rollback) = refl
    go (Some Insert) = refl
    go (Some Delete) = refl
    go (Some Checkpoint) = refl
    go (Some Update) = refl
    go None = refl
