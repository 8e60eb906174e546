-- How an entry ends its transaction, by the type that code reads. Assumes nothing.
use Rattle.std.specs.Prelude.{Option, Some, None}
use Prim.Native.Nat.{ℕ}
use mathlib.Core.Path.{◌≡◌, refl, ap}
use borrow.Author.Tests.{ne_eqb}
use Rattle.wal.specs.Entry.{commit, rollback}
use Rattle.wal.specs.Kind.{kind_of}
use Rattle.wal.specs.declared.Kind.{Kind}
use Rattle.wal.specs.declared.Kind.TheVariants.{Begin, Commit, Rollback, Insert, Delete, Checkpoint, Update}
use Rattle.wal.proofs.KindLaws.{kind-of, kind-none}
use Rattle.fates.specs.Fate.{ending_by}

abbrev pub ending_of_kind : Option Kind → ℕ
ending_of_kind (Some Begin) = 0
ending_of_kind (Some Commit) = 1
ending_of_kind (Some Rollback) = 2
ending_of_kind (Some Insert) = 0
ending_of_kind (Some Delete) = 0
ending_of_kind (Some Checkpoint) = 0
ending_of_kind (Some Update) = 0
ending_of_kind None = 0

pub ended_by_kind : (n : ℕ) → ending_by n ≡ ending_of_kind (kind_of n)
ended_by_kind n = go (kind_of n) refl
  where
    go : (k : Option Kind) → kind_of n ≡ k → ending_by n ≡ ending_of_kind k
    go (Some Begin) e = ap ending_by (kind-of n e)
    go (Some Commit) e = ap ending_by (kind-of n e)
    go (Some Rollback) e = ap ending_by (kind-of n e)
    go (Some Insert) e = ap ending_by (kind-of n e)
    go (Some Delete) e = ap ending_by (kind-of n e)
    go (Some Checkpoint) e = ap ending_by (kind-of n e)
    go (Some Update) e = ap ending_by (kind-of n e)
    go None e = rw (ne_eqb n commit (kind-none n e Commit), ne_eqb n rollback (kind-none n e Rollback)) refl
