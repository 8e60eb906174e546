-- Internal: what the functions of this crate promise each other.
use Rattle.std.specs.Prelude.{ℕ, ◌+◌, ◌<◌, ◌≡◌, List, ◌++◌, length, drop, Option, Some, None, Result}
use Rattle.std.proofs.Math.Seq.{paste}
use Rattle.endian.specs.Pick.{pick}
use Rattle.refusals.specs.Verdict.{answered}
use Rattle.refusals.specs.declared.Verdict.{Verdict}
use Rattle.summary.specs.Number.{groups, continued, ends_early, value_at, after_at}
use Rattle.summary.specs.Summary.{number_verdict, row_verdict, row_step}
use Rattle.summary.specs.declared.Number.{Number}
use Rattle.summary.specs.declared.SummaryStep.{SummaryStep}

-- d with x stored from `at` on
abbrev pub put : List ℕ → ℕ → List ℕ → List ℕ
put d at x = paste d at x (length x)

-- three numbers, one behind the other
abbrev pub three : ℕ → ℕ → ℕ → List ℕ
three a b c = groups a ++ (groups b ++ groups c)

-- where the last group of the number at place p stands
abbrev pub end_of : List ℕ → ℕ → Option ℕ
end_of f p = pick (ends_early (drop p f)) None (Some (p + continued (drop p f)))

-- the last group of the number at place p stands at `end`
pub record Ends (f : List ℕ) (p end : ℕ) : Type 0 where
  pub at : end ≡ p + continued (drop p f)
  pub within : end < length f

-- a number as it is read under a rule, and the place after it
abbrev pub number_at : (ℕ → ℕ) → List ℕ → ℕ → Result Number Verdict
number_at rule f p = answered (number_verdict rule f p) (record { value = value_at f p; after = after_at f p })

-- a row as it is judged, and the place after it
abbrev pub judged_row : ℕ → ℕ → List ℕ → ℕ → Result SummaryStep Verdict
judged_row page slot f p = answered (row_verdict page slot f p) (row_step f p)
