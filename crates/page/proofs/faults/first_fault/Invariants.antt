use Rattle.std.proofs.Common.{◌≡◌, ◌-◌, false, None}
use Rattle.page.specs.Fault.{shares_earlier, slots_fault}
use Rattle.page.specs.Layout.{body_of}
use Rattle.page.proofs.faults.first_fault.Given as goal

abbrev pub invariant-earlier : goal.invariant-earlier
invariant-earlier l = record { none : l.found ≡ None; apart : shares_earlier (body_of l.page) l.k l.j ≡ false }

abbrev pub invariant-slots : goal.invariant-slots
invariant-slots l = record { none : l.found ≡ None; rest : slots_fault (body_of l.page) l.end (l.count - l.k) l.k ≡ slots_fault (body_of l.page) l.end l.count 0 }
