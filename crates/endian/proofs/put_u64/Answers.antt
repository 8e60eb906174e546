use Rattle.std.proofs.Common.{sym, leb-true, leb-false, ◌∙◌}
use Rattle.endian.proofs.Places.{written-fits, written-short}
use Rattle.endian.proofs.put_u64.Goals as goal

pub returns-then-within : goal.returns-then-within
returns-then-within c =
    let t = sym c.if-within.true ∙ c.within.ensures in
    (t, c.put_u64.ensures ∙ sym (written-fits 8 _ _ _ (leb-true _ _ (sym t))))

pub returns : goal.returns
returns c =
    let t = sym c.if-within.false ∙ c.within.ensures in
    (t, sym (written-short 8 _ _ _ (leb-false _ _ (sym t))))
