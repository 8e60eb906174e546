use Rattle.std.proofs.Common.{ℕ, ◌*◌, ◌∙◌, List, sym, ap}
use Rattle.std.proofs.Math.Seq.{paste}
use Rattle.page.specs.Layout.{page_bytes}
use Rattle.doublewrite.specs.File.{id_at, copy_at}
use Rattle.doublewrite.specs.Repair.{is_good}
use Rattle.doublewrite.proofs.Slots.{left-whole, left-bad, left-restored}
use Rattle.doublewrite.proofs.restore.restore_page.Goals as goal

pub returns-then-not-torn : goal.returns-then-not-torn
returns-then-not-torn c =
    let a = c.args in
    let f = a.file.now.bytes.now in
    let r = left-whole a.magic c.id-id.result (id_at f a.k) c.id-id.ensures a.pages.now (copy_at f a.k) c.page_at.result.now c.page_at.ensures.bytes (sym c.torn.ensures ∙ c.if-not-torn.true) in
    record { pages_after = r.0; value = r.1 }

pub returns-then-not-good : goal.returns-then-not-good
returns-then-not-good c =
    let a = c.args in
    let f = a.file.now.bytes.now in
    let r = left-bad a.magic c.id-id.result (id_at f a.k) c.id-id.ensures a.pages.now (copy_at f a.k) c.page_at.result.now c.page_at.ensures.bytes (sym c.torn.ensures ∙ c.if-not-torn.false)
    (ap (is_good a.magic c.id-id.result) (sym c.copy-copy.ensures.value) ∙ sym c.good.ensures ∙ c.if-not-good.true) in
    record { pages_after = r.0; value = r.1 }

pub returns : goal.returns
returns c =
    let a = c.args in
    let f = a.file.now.bytes.now in
    let z = c.copy-copy.ensures.value in
    let r = left-restored a.magic c.id-id.result (id_at f a.k) c.id-id.ensures a.pages.now (copy_at f a.k) c.page_at.result.now c.page_at.ensures.bytes (sym c.torn.ensures ∙ c.if-not-torn.false) _
    (ap (is_good a.magic c.id-id.result) (sym z) ∙ sym c.good.ensures ∙ c.if-not-good.false)
    (c.store.ensures ∙ ap (λ (q : List ℕ). paste a.pages.now (c.id-id.result * page_bytes) q page_bytes) z) in
    record { pages_after = r.0; value = r.1 }
