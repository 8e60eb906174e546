use Rattle.std.proofs.Common.{arith}
use Rattle.page.proofs.Mapping.{bit_past, bit-free, bit-other}
use Rattle.page.proofs.inner.free_bit.Goals as goal

pub returns-then-pages-i : goal.returns-then-pages-i
returns-then-pages-i c = (bit_past _ _ c.if-pages-i.true, omega arith)

pub returns-then-pages-i-eq-FREE_TYPE : goal.returns-then-pages-i-eq-FREE_TYPE
returns-then-pages-i-eq-FREE_TYPE c = (bit-free _ _ c.if-pages-i.false c.if-pages-i-eq-FREE_TYPE.true, omega arith)

pub returns : goal.returns
returns c = (bit-other _ _ c.if-pages-i.false c.if-pages-i-eq-FREE_TYPE.false, omega arith)
