use Rattle.std.proofs.Common.{◌≡◌, arith, sym, ap, ◌∙◌, Bool, true, false}
use Rattle.endian.specs.Numbers.{part}
use Rattle.rules.specs.Shape.{both, is_image}
use borrow.Author.Tests.{leb-true}
use Rattle.change.proofs.Shapes.{keyed-short, keyed-by}
use Rattle.change.proofs.shape.keyed.Goals as goal
use Rattle.change.proofs.shape.keyed.Goals.{then-n-ge-KEY_BYTES, else-n-ge-KEY_BYTES}

pub returns-then-eq : goal.returns-then-eq
returns-then-eq c =
    elim c.if-n-ge-KEY_BYTES.branch [
      | then-n-ge-KEY_BYTES w ↦
          let e = keyed-by c.args.log.now c.args.at c.args.n c.requires.1 c.args.key w.if-n-ge-KEY_BYTES.true w.eq.ensures in
          let t : w.eq.result ≡ true = cc in
          c.image.ensures ∙ sym (e ∙ rw t)
      | else-n-ge-KEY_BYTES w ↦ absurd (omega (arith, leb-true 10 c.args.n (sym w.value-is ∙ c.if-eq.true)))
    ]

pub returns-else-eq : goal.returns-else-eq
returns-else-eq c =
    elim c.if-n-ge-KEY_BYTES.branch [
      | then-n-ge-KEY_BYTES w ↦
          let e = keyed-by c.args.log.now c.args.at c.args.n c.requires.1 c.args.key w.if-n-ge-KEY_BYTES.true w.eq.ensures in
          let t : w.eq.result ≡ false = cc in
          c.if-eq.false ∙ sym (e ∙ rw t)
      | else-n-ge-KEY_BYTES w ↦ c.if-eq.false ∙ sym (keyed-short c.args.log.now c.args.at c.args.n c.requires.1 c.args.key c.requires.0 (omega arith))
    ]
