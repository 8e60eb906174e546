use Rattle.std.proofs.Common.{◌≡◌, ◌-◌}
use Rattle.page.specs.Layout.{count_of}
use Rattle.intake.specs.Places.{wide}
use Rattle.intake.specs.Search.{first_slot}
use Rattle.intake.proofs.search.first_slot.Given as goal

-- no slot before slot k is marked
abbrev pub invariant-loop-k : goal.invariant-loop-k
invariant-loop-k l = first_slot (wide l.low l.high) l.page (count_of l.page - l.k) l.k ≡ first_slot (wide l.low l.high) l.page (count_of l.page) 0
