use Rattle.std.proofs.Common.{arith, sym, subst}
use Rattle.wal.specs.Prefix.{Stands}
use Rattle.wal.proofs.Prefix.{met-back}
use Rattle.wal.proofs.inner.known_before.Goals as goal

pub standing-requires : goal.standing-requires
standing-requires c = subst (Stands _) (sym c.place_before.ensures) (met-back _ c.requires (omega arith)).stands
