use Rattle.std.proofs.Common.{◌≡◌, ◌-◌}
use Rattle.page.specs.Layout.{pages_in}
use Rattle.page.specs.Fault.{first_bad, never_late}
use Rattle.page.specs.Notes.{Noted}
use Rattle.page.proofs.inner.first_bad_noting.Given as goal

abbrev pub invariant-loop-i : goal.invariant-loop-i
invariant-loop-i l = record { rest : first_bad never_late l.magic l.pages (l.count - l.i) l.i ≡ first_bad never_late l.magic l.pages (pages_in l.pages - 0) 0; noted : Noted l.pages l.notes l.i }
