-- What a result tells: an error is never number 0, so that a result is Ok exactly where the verdict that it tells accepts.
-- Assumes nothing.
use Rattle.std.specs.Prelude.{◌≡◌, ℕ, Result, Ok, Err, IsErrAnd}
use Rattle.std.proofs.lemmas.Result.{err_from_is_err_and}
use mathlib.Core.Path.{sym, ap, ◌∙◌}
use native.Mathlib.Omega.{arith}
use borrow.Author.Tests.{eq-eqb, ne_eqb}
use Rattle.refusals.specs.Refusal.{number_of}
use Rattle.refusals.specs.Verdict.{verdict, accepted, ◌then◌, told_by, told, by_number, answered}
use Rattle.refusals.specs.declared.Refusal.{Refusal}
use Rattle.refusals.specs.declared.Refusal.TheVariants.{PageArea, LogTooLong, LogHeader, EntryDamaged, EntryType, EntryShape, LsnOrder, TransactionOrder, Clash, NoRecord, PageMagicOrType, PageLsn, NoDataPage, PageOverfull, NoSuchPage, MapShort, PageId, PageChecksum, PageSlots, DoublewriteHeader, DoublewriteChecksum, DoublewriteMark, DoublewritePages, DoublewriteShort, SummaryArea, SummaryEndsEarly, SummarySpelling, SummaryEdition, SummaryRange, SummaryOrder, SummaryLeftOver, TableRowEndsEarly, TableRowForm, TableRowLayout, TableRowNoRoom, TableRowNewer, PageAreasDiffer}
use Rattle.refusals.specs.declared.Refused.{Refused}
use Rattle.refusals.specs.declared.Verdict.{Verdict}
use Rattle.refusals.proofs.Then.{then-refused, then-accepted}

abbrev number : Verdict → ℕ
number v = v.number

pub some-number : (r : Refusal) → number_of r ≡ 0 → ⊥
some-number PageArea e = absurd (omega arith)
some-number LogTooLong e = absurd (omega arith)
some-number LogHeader e = absurd (omega arith)
some-number EntryDamaged e = absurd (omega arith)
some-number EntryType e = absurd (omega arith)
some-number EntryShape e = absurd (omega arith)
some-number LsnOrder e = absurd (omega arith)
some-number TransactionOrder e = absurd (omega arith)
some-number Clash e = absurd (omega arith)
some-number NoRecord e = absurd (omega arith)
some-number PageMagicOrType e = absurd (omega arith)
some-number PageLsn e = absurd (omega arith)
some-number NoDataPage e = absurd (omega arith)
some-number PageOverfull e = absurd (omega arith)
some-number NoSuchPage e = absurd (omega arith)
some-number MapShort e = absurd (omega arith)
some-number PageId e = absurd (omega arith)
some-number PageChecksum e = absurd (omega arith)
some-number PageSlots e = absurd (omega arith)
some-number DoublewriteHeader e = absurd (omega arith)
some-number DoublewriteChecksum e = absurd (omega arith)
some-number DoublewriteMark e = absurd (omega arith)
some-number DoublewritePages e = absurd (omega arith)
some-number DoublewriteShort e = absurd (omega arith)
some-number SummaryArea e = absurd (omega arith)
some-number SummaryEndsEarly e = absurd (omega arith)
some-number SummarySpelling e = absurd (omega arith)
some-number SummaryEdition e = absurd (omega arith)
some-number SummaryRange e = absurd (omega arith)
some-number SummaryOrder e = absurd (omega arith)
some-number SummaryLeftOver e = absurd (omega arith)
some-number TableRowEndsEarly e = absurd (omega arith)
some-number TableRowForm e = absurd (omega arith)
some-number TableRowLayout e = absurd (omega arith)
some-number TableRowNoRoom e = absurd (omega arith)
some-number TableRowNewer e = absurd (omega arith)
some-number PageAreasDiffer e = absurd (omega arith)

pub refused-some : (e : Refused) → (told_by e).number ≡ 0 → ⊥
refused-some e z = some-number e.refusal z

module _ {T : Type 0} {r : Result T Refused} {v : Verdict} (is : told r ≡ v) where
  -- an Err is refused by what it tells, an Ok is accepted
  pub err-refused : {e : Refused} → r ≡ Err e → told_by e ≡ v
  err-refused w = sym (ap told w) ∙ is

  pub err-some : {e : Refused} → r ≡ Err e → v.number ≡ 0 → ⊥
  err-some {e} w z = refused-some e (ap number (err-refused w) ∙ z)

  pub ok-accepted : {x : T} → r ≡ Ok x → v.number ≡ 0
  ok-accepted w = ap number (sym is ∙ ap told w)

  -- what follows is passed over where it is an Err, and answers where it is an Ok
  pub err-first : {e : Refused} → r ≡ Err e → (w : Verdict) → told_by e ≡ (v then w)
  err-first q w = err-refused q ∙ sym (then-refused v w (err-some q))

  pub ok-next : {x : T} → r ≡ Ok x → (w : Verdict) → (v then w) ≡ w
  ok-next q w = then-accepted v w (ok-accepted q)

  pub err-answered : {U : Type 0} {e : Refused} → r ≡ Err e → (y : U) → Err (told_by e) ≡ answered v y
  err-answered q y = rw (ne_eqb v.number 0 (err-some q)) (ap Err (err-refused q))

  pub ok-answered : {U : Type 0} {x : T} → r ≡ Ok x → (y : U) → Ok y ≡ answered v y
  ok-answered q y = rw (eq-eqb v.number 0 (ok-accepted q))

-- what a `?` hands on
pub handed-on : {T : Type 0} (r : Result T Refused) (e : Refused) → IsErrAnd r (λ d. d ≡ e) → by_number r ≡ Err (told_by e)
handed-on r e h = let p = err_from_is_err_and r h in rw (p.1, p.2)

pub told-on : {T : Type 0} (r : Result T Refused) (e : Refused) → IsErrAnd r (λ d. d ≡ e) → told r ≡ told_by e
told-on r e h = let p = err_from_is_err_and r h in rw (p.1, p.2)

-- what is refused at a place
pub refused-at : (r : Refused) (n p : ℕ) → number_of r.refusal ≡ n → r.place ≡ p → told_by r ≡ verdict n p
refused-at r n p e g = rw (e, g)

-- as a goal behind a `?` has them: the error passed on, and what follows where there is none
module _ (v : Verdict) where
  pub told_refuses : (e : Refused) → told_by e ≡ v → v.number ≡ 0 → ⊥
  told_refuses e t z = refused-some e (ap number t ∙ z)

  module _ {T : Type 0} (x : T) where
    pub told_err : (e : Refused) → told_by e ≡ v → by_number {T = T} (Err e) ≡ answered v x
    told_err e t = sym (rw (ne_eqb v.number 0 (told_refuses e t), t))

    pub told_ok : accepted ≡ v → by_number (Ok x) ≡ answered v x
    told_ok t = rw (← t)
