use Rattle.std.proofs.Common.{ltb, get_or, rules}
use Rattle.intake.specs.Places.{mark_at, wide}
use Rattle.intake.proofs.Counting.{place_at}
use Rattle.intake.proofs.Ranking.{falls, around}
use Rattle.intake.proofs.pairs.rank.Goals as goal

pub partition_point-requires : goal.partition_point-requires
partition_point-requires c i h = let p = place_at c.requires.places i h in search rules

pub returns : goal.returns
returns c =
    let a = c.args.a.now in
    let s = c.args.pages.now in
    let t = wide c.args.low c.args.high in
    around c.requires.places c.requires.sorted t c.partition_point.result c.partition_point.ensures.within
    (c.partition_point.ensures.parted (λ i. ltb (mark_at s (get_or a i 0)) t) (λ i b h p. search rules) (falls c.requires.places c.requires.sorted t))
