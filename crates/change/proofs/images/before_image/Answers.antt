-- Nothing for an Insert, and else the old value, of an Update behind its key.
use Rattle.std.proofs.Common.{arith}
use Rattle.std.proofs.lemmas.Grind.{common_steps}
use Rattle.change.proofs.Values.{place-low, before_by_kind, old_by_kind}
use Rattle.change.proofs.images.before_image.Goals as goal

pub overflow_add-at : goal.overflow_add-at
overflow_add-at c = omega (arith, place-low c.requires c.standing-e.ensures)

pub overflow_add-at-in-Some-Delete : goal.overflow_add-at-in-Some-Delete
overflow_add-at-in-Some-Delete c = omega (arith, place-low c.requires c.standing-e.ensures)

pub overflow_add-at-in_default : goal.overflow_add-at-in_default
overflow_add-at-in_default c = omega (arith, place-low c.requires c.standing-e.ensures)

pub overflow_sub-e : goal.overflow_sub-e
overflow_sub-e c = grind (arith, common_steps, old_by_kind c.requires c.standing-e.ensures)

pub returns-in-Some-Insert : goal.returns-in-Some-Insert
returns-in-Some-Insert c = let r = before_by_kind c.requires c.standing-e.ensures (grind (arith, common_steps)) in record { in_log = r.0; logged_at = r.1 }

pub returns-in-Some-Delete : goal.returns-in-Some-Delete
returns-in-Some-Delete c = let r = before_by_kind c.requires c.standing-e.ensures (grind (arith, common_steps)) in record { in_log = r.0; logged_at = r.1 }

pub returns-in_default : goal.returns-in_default
returns-in_default c = let r = before_by_kind c.requires c.standing-e.ensures (grind (arith, common_steps)) in record { in_log = r.0; logged_at = r.1 }
