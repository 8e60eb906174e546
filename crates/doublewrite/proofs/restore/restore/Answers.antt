use Rattle.std.proofs.Common.{◌≡◌, ℕ, ◌/◌, Bool, refl, ap, arith}
use Rattle.page.specs.Layout.{page_bytes, pages_in}
use Rattle.doublewrite.specs.File.{id_at}
use Rattle.endian.specs.Pick.{pick}
use Rattle.doublewrite.proofs.Ids.{fit-each}
use Rattle.doublewrite.proofs.Slots.{slot-area, slot-count, restored-le, none-repaired, none-restored}
use Rattle.doublewrite.proofs.restore.restore.Goals as goal
use Rattle.doublewrite.proofs.restore.restore.Goals.{then-restore_page, else-restore_page}

pub loop-k-init : goal.loop-k-init
loop-k-init c =
    let a = c.args in
    let f = a.file.now.bytes.now in
    record { pages = none-repaired a.magic f a.pages.now c.requires.pages_bound.1; restored = none-restored a.magic f a.pages.now (pages_in a.pages.now) 0 }

pub restore_page-requires : goal.restore_page-requires
restore_page-requires c =
    let f = c.args.file.now in
    let e : pages_in c.loop-k.pages ≡ pages_in c.args.pages.now = ap (λ (n : ℕ). n / page_bytes) c.loop-k.auto.pages in
    (omega arith, omega (arith, e, (fit-each f.bytes.now (pages_in c.args.pages.now) f.slots c.loop-k.k c.requires.fit (omega arith)).0))

pub overflow_add-restored : goal.overflow_add-restored
overflow_add-restored c =
    let a = c.args in
    let l = c.loop-k in
    let f = a.file.now.bytes.now in
    omega (arith, l.invariant.restored, restored-le a.magic f l.k a.pages.now (pages_in a.pages.now) 0, c.requires.pages_bound.0)

pub loop-k-preserved : goal.loop-k-preserved
loop-k-preserved c =
    let a = c.args in
    let l = c.loop-k in
    let f = a.file.now.bytes.now in
    let fit = fit-each f (pages_in a.pages.now) a.file.now.slots l.k c.requires.fit (omega arith) in
    let r = c.restore_page in
    let n = slot-count a.magic f l.k a.pages.now (id_at f l.k) refl fit.1 fit.0 l.restored (pick r.result 1 0) l.invariant.restored l.pages l.invariant.pages (ap (λ (b : Bool). pick b 1 0) r.ensures.value) in
    record {
      pages = slot-area a.magic f l.k a.pages.now (id_at f l.k) refl fit.1 fit.0 l.pages _ l.invariant.pages r.ensures.pages_after;
      restored = elim c.if-restore_page.branch [ then-restore_page w ↦ omega (arith, rw w.if-restore_page.true at n) | else-restore_page w ↦ omega (arith, rw w.if-restore_page.false at n) ];
    }
