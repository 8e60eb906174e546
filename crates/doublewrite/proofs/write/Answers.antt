use Rattle.std.proofs.Common.{◌∙◌, sym, arith}
use Rattle.page.specs.Layout.{pages_in}
use Rattle.page.proofs.Verdicts.{right-size}
use Rattle.doublewrite.proofs.Listed.{rise-length}
use Rattle.doublewrite.proofs.write.Goals as goal

-- the list names lent pages, which are few
pub overflow_cast-list : goal.overflow_cast-list
overflow_cast-list c =
    let s = c.args.pages.now in
    omega (arith, rise-length 0 (pages_in s) c.args.list.now (sym c.rising.ensures ∙ c.if-not-rising.false) (omega arith), (right-size s (sym c.size_wrong.ensures ∙ c.if-size_wrong.false)).1)

pub put_file-requires : goal.put_file-requires
put_file-requires c =
    let s = c.args.pages.now in
    let r = sym c.rising.ensures ∙ c.if-not-rising.false in
    let few = rise-length 0 (pages_in s) c.args.list.now r (omega arith) in
    (r, omega (arith, few, (right-size s (sym c.size_wrong.ensures ∙ c.if-size_wrong.false)).1), omega (arith, c.file_bytes-need.ensures, c.if-area-need.false))
