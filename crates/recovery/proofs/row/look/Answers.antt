-- The refusals of recovery, then 15, then the image that wins the slot.
use Rattle.std.proofs.Common.{◌≡◌, arith, ap, sym, ◌∙◌}
use Rattle.page.proofs.Reading.{type_at}
use Rattle.refusals.specs.declared.Verdict.{Verdict}
use Rattle.refusals.proofs.Told.{refused-some}
use Rattle.recovery.proofs.Outcome.{sure, sound-page}
use Rattle.recovery.proofs.Spots.{spot-refused, spot-none, spot-found, row-refused, row-beyond, row-accepted}
use Rattle.recovery.proofs.row.look.Goals as goal

pub returns-in-Err : goal.returns-in-Err
returns-in-Err c =
    rw (c.nowhere.ensures, c.number.ensures)
    (spot-refused _ _ _ _ _ _ _ _ (refused-some c.in-Err.e) (row-refused _ _ _ _ _ _ (refused-some c.in-Err.e) (sym c.in-Err.ensures.tells)))

pub returns-then-n-page : goal.returns-then-n-page
returns-then-n-page c =
    rw (c.nowhere-then-n-page.ensures, c.number-then-n-page.ensures) (spot-refused _ _ _ _ _ _ 15 0 (λ z. absurd (omega arith)) (row-beyond _ _ _ _ _ (sym (ap (λ (v : Verdict). v.number) c.in_default.ensures.tells)) (omega arith)))

pub returns-then-pages-i-ne-DATA_TYPE : goal.returns-then-pages-i-ne-DATA_TYPE
returns-then-pages-i-ne-DATA_TYPE c =
    rw c.nowhere-then-pages-i-ne-DATA_TYPE.ensures
    (spot-none _ _ _ _ _ _ (row-accepted _ _ _ _ _ (sym (ap (λ (v : Verdict). v.number) c.in_default.ensures.tells)) (omega arith)) (λ z. c.if-pages-i-ne-DATA_TYPE.true (sym (type_at c.args.pages.now c.args.page) ∙ z)))

pub invariant_of-changes : goal.invariant_of-changes
invariant_of-changes c =
    let s = sure _ _ _ _ _ (sym (ap (λ (v : Verdict). v.number) c.in_default.ensures.tells)) in
    let a = c.in_default.ensures.accepted in
    record { small = (s.few, s.small); ordered = s.ordered; measured = a.next; listed = a.listed }

pub winning-m-requires-clause-starts : goal.winning-m-requires-clause-starts
winning-m-requires-clause-starts c = c.in_default.ensures.accepted.begin

pub winning-m-requires-clause-sound : goal.winning-m-requires-clause-sound
winning-m-requires-clause-sound c =
    sound-page _ _ _ _ _ (sym (ap (λ (v : Verdict). v.number) c.in_default.ensures.tells)) c.args.page (omega arith) (type_at c.args.pages.now c.args.page ∙ c.if-pages-i-ne-DATA_TYPE.false)

pub winning-m-requires-clause-fitting : goal.winning-m-requires-clause-fitting
winning-m-requires-clause-fitting c = (sure _ _ _ _ _ (sym (ap (λ (v : Verdict). v.number) c.in_default.ensures.tells))).fitting

pub winning-m-requires-clause-i_lt_n : goal.winning-m-requires-clause-i_lt_n
winning-m-requires-clause-i_lt_n c = ((sure _ _ _ _ _ (sym (ap (λ (v : Verdict). v.number) c.in_default.ensures.tells))).size, omega arith)

pub returns : goal.returns
returns c =
    let d = type_at c.args.pages.now c.args.page ∙ c.if-pages-i-ne-DATA_TYPE.false in
    spot-found _ _ _ _ _ _ (row-accepted _ _ _ _ _ (sym (ap (λ (v : Verdict). v.number) c.in_default.ensures.tells)) (omega arith)) d (sure _ _ _ _ _ (sym (ap (λ (v : Verdict). v.number) c.in_default.ensures.tells))).ordered (sound-page _ _ _ _ _ (sym (ap (λ (v : Verdict). v.number) c.in_default.ensures.tells)) c.args.page (omega arith) d)
    c.winning-m.ensures.stood c.winning-m.ensures.result_value
