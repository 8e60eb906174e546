use Rattle.endian.specs.Numbers.{Bytes}
use Rattle.summary.proofs.Places.{one-group, last-zero, few-groups, many-groups, ten-groups}
use Rattle.summary.proofs.numbers.is_misspelt.Goals as goal
use Rattle.summary.proofs.numbers.is_misspelt.Goals.{Start}

bytes : (c : Start) → Bytes c.args.file.now
bytes c = record { at = λ i. (c.type_inv.file i).fits }

pub returns-then-before-eq0 : goal.returns-then-before-eq0
returns-then-before-eq0 c = one-group _ _ _ c.requires (bytes (goal.at.returns-then-before-eq0 c).Start) c.if-before-eq0.true

pub returns-then-top-eq0 : goal.returns-then-top-eq0
returns-then-top-eq0 c = last-zero _ _ _ c.requires (bytes (goal.at.returns-then-top-eq0 c).Start) c.if-before-eq0.false c.if-top-eq0.true

pub returns-then-before-lt9 : goal.returns-then-before-lt9
returns-then-before-lt9 c = few-groups _ _ _ c.requires (bytes (goal.at.returns-then-before-lt9 c).Start) c.if-before-eq0.false c.if-top-eq0.false c.if-before-lt9.true

pub returns-then-before-gt9 : goal.returns-then-before-gt9
returns-then-before-gt9 c = many-groups _ _ _ c.requires (bytes (goal.at.returns-then-before-gt9 c).Start) c.if-before-eq0.false c.if-top-eq0.false c.if-before-gt9.true

pub returns : goal.returns
returns c = ten-groups _ _ _ c.requires (bytes (goal.at.returns c).Start) c.if-before-eq0.false c.if-top-eq0.false c.if-before-lt9.false c.if-before-gt9.false
