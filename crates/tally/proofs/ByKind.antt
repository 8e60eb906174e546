-- The sort of an entry that is no change, by the type that code reads. Assumes nothing.
use Rattle.std.specs.Prelude.{Option, Some, None}
use Prim.Native.Nat.{ℕ}
use mathlib.Core.Path.{◌≡◌, refl, ap}
use borrow.Author.Tests.{ne_eqb}
use Rattle.wal.specs.Entry.{begin, commit, rollback}
use Rattle.wal.specs.Kind.{kind_of}
use Rattle.wal.specs.declared.Kind.{Kind}
use Rattle.wal.specs.declared.Kind.TheVariants.{Begin, Commit, Rollback, Insert, Delete, Checkpoint, Update}
use Rattle.wal.proofs.KindLaws.{kind-of, kind-none}
use Rattle.tally.specs.Counts.{plain_sort}

abbrev pub sort_of_kind : Option Kind → ℕ
sort_of_kind (Some Begin) = 4
sort_of_kind (Some Commit) = 5
sort_of_kind (Some Rollback) = 6
sort_of_kind (Some Insert) = 7
sort_of_kind (Some Delete) = 7
sort_of_kind (Some Checkpoint) = 7
sort_of_kind (Some Update) = 7
sort_of_kind None = 7

pub plain_by_kind : (n : ℕ) → plain_sort n ≡ sort_of_kind (kind_of n)
unfolding plain_sort
plain_by_kind n = go (kind_of n) refl
  where
    go : (k : Option Kind) → kind_of n ≡ k → plain_sort n ≡ sort_of_kind k
    go (Some Begin) e = ap plain_sort (kind-of n e)
    go (Some Commit) e = ap plain_sort (kind-of n e)
    go (Some Rollback) e = ap plain_sort (kind-of n e)
    go (Some Insert) e = ap plain_sort (kind-of n e)
    go (Some Delete) e = ap plain_sort (kind-of n e)
    go (Some Checkpoint) e = ap plain_sort (kind-of n e)
    go (Some Update) e = ap plain_sort (kind-of n e)
    go None e = rw (ne_eqb n begin (kind-none n e Begin), ne_eqb n commit (kind-none n e Commit), ne_eqb n rollback (kind-none n e Rollback)) refl
