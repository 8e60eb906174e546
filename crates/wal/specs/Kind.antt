-- The types of entries, and their numbers.
use Rattle.std.specs.Prelude.{ℕ, eqb, Option, Some, None}
use Rattle.endian.specs.Pick.{pick}
use Rattle.wal.specs.Entry.{begin, commit, rollback, insert, delete, checkpoint, update}
use Rattle.wal.specs.declared.Kind.{Kind}
use Rattle.wal.specs.declared.Kind.TheVariants.{Begin, Commit, Rollback, Insert, Delete, Checkpoint, Update}

-- the number of a type
abbrev pub kind_number : Kind → ℕ
kind_number Begin = begin
kind_number Commit = commit
kind_number Rollback = rollback
kind_number Insert = insert
kind_number Delete = delete
kind_number Checkpoint = checkpoint
kind_number Update = update

-- the type of a number, if it is one's
unfoldable pub kind_of : ℕ → Option Kind
kind_of n =
    pick (eqb n begin) (Some Begin)
    (pick (eqb n commit) (Some Commit)
    (pick (eqb n rollback) (Some Rollback)
    (pick (eqb n insert) (Some Insert)
    (pick (eqb n delete) (Some Delete)
    (pick (eqb n checkpoint) (Some Checkpoint)
    (pick (eqb n update) (Some Update)
    None))))))
