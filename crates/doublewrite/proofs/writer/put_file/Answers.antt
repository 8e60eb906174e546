use Rattle.page.specs.Layout.{pages_in}
use Rattle.doublewrite.proofs.Listed.{rise-each}
use Rattle.doublewrite.proofs.Writing.{file-stored}
use Rattle.doublewrite.proofs.writer.put_file.Goals as goal

pub returns : goal.returns
returns c =
    let r = c.requires in
    file-stored c.args.area.now _ _ _ c.args.pages.now c.args.list.now (λ k h. (rise-each 0 (pages_in c.args.pages.now) c.args.list.now r.0 k h).1) r.2 c.put_header.ensures c.put_slots.ensures c.put_footer.ensures
