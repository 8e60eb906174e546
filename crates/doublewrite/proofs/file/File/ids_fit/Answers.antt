use Rattle.std.proofs.Common.{◌≡◌, ◌∙◌, refl, sym, ap, arith}
use Rattle.doublewrite.specs.File.{ids_fit}
use Rattle.doublewrite.proofs.Ids.{fit-lent, fit-twice, fit-more}
use Rattle.doublewrite.proofs.Marking.{marks-none, marks-old, marks-new, marks-more}
use Rattle.doublewrite.proofs.file.File.ids_fit.Goals as goal

pub loop-k-init : goal.loop-k-init
unfolding ids_fit
loop-k-init c = record { fit = refl; marks = rw c.empty-named.ensures (marks-none c.args.self.now.bytes.now) }

pub returns-then-pages-i : goal.returns-then-pages-i
returns-then-pages-i c = fit-lent _ _ c.loop-k.k _ (omega arith) (omega arith)

pub returns-then-not-insert : goal.returns-then-not-insert
returns-then-not-insert c =
    let l = c.loop-k in
    let t = marks-old l.invariant.marks c.id-i.result (omega arith) (sym c.insert.ensures.value ∙ c.if-not-insert.true) in
    fit-twice _ _ l.k c.id-i.result c.id-i.ensures (omega arith) _ (omega arith) t

pub loop-k-preserved : goal.loop-k-preserved
loop-k-preserved c =
    let l = c.loop-k in
    let t = marks-new l.invariant.marks c.id-i.result (omega arith) (sym c.insert.ensures.value ∙ c.if-not-insert.false) in
    record {
      fit = fit-more _ _ l.k c.id-i.result c.id-i.ensures (omega arith) t l.invariant.fit;
      marks = marks-more l.invariant.marks c.id-i.result c.insert.new.self.bits c.id-i.ensures c.insert.ensures.by_index;
    }

pub returns : goal.returns
returns c =
    let f = c.args.self.now in
    let e : c.loop-k.k ≡ f.slots = omega arith in
    sym (ap (ids_fit f.bytes.now c.args.pages) (sym e) ∙ c.loop-k.invariant.fit)
