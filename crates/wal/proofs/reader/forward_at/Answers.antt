use Rattle.std.proofs.Common.{◌≡◌, arith}
use Rattle.wal.specs.Read.{read_at}
use Rattle.wal.specs.declared.Reading.TheVariants.{Whole}
use Rattle.wal.proofs.WalkLaws.{entry_at}
use Rattle.wal.proofs.reader.forward_at.Goals as goal

-- the entry found lies in the log
pub overflow_add-place : goal.overflow_add-place
overflow_add-place c =
    let found : read_at c.args.log.now c.args.place.now ≡ Whole c.in-Whole.v = cc in
    let inside = entry_at _ _ found in
    omega arith
