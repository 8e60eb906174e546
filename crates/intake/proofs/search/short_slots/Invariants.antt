use Rattle.std.proofs.Common.{◌≡◌, ◌+◌, ◌-◌, ◌≤◌}
use Rattle.page.specs.Layout.{count_of}
use Rattle.intake.specs.Search.{short_slots}
use Rattle.intake.proofs.search.short_slots.Given as goal

-- the slots before slot k were counted
abbrev pub invariant-loop-k : goal.invariant-loop-k
invariant-loop-k l = (l.short + short_slots l.page (count_of l.page - l.k) l.k ≡ short_slots l.page (count_of l.page) 0) × (l.short ≤ l.k)
