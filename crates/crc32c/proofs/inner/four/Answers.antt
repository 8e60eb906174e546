use Rattle.std.proofs.Common.{◌+◌, ◌*◌, ap, ◌∙◌}
use Rattle.crc32c.specs.Crc.{shifts}
use Rattle.crc32c.proofs.Slices.{looked-4}
use Rattle.crc32c.proofs.inner.four.Goals as goal

pub returns : goal.returns
returns c =
    let k = c.args.k in
    looked-4 k c.args.x _ _ _ _ c.ranges.x.fits
    (c.look.ensures ∙ ap (shifts (8 * (k + 1))) c.low.ensures)
    (c.look-2.ensures ∙ ap (shifts (8 * (k + 1 + 1))) c.low-2.ensures)
    (c.look-3.ensures ∙ ap (shifts (8 * (k + 2 + 1))) c.low-3.ensures)
    (c.look-4.ensures ∙ ap (shifts (8 * (k + 3 + 1))) c.low-4.ensures)
