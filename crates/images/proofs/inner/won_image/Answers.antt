-- An odd cell names the after-image, another one the before-image.
use Rattle.std.proofs.Common.{arith}
use Rattle.images.proofs.Deciding.{shaped-at, won-after, won-before}
use Rattle.images.proofs.inner.won_image.Goals as goal

pub after_image-requires : goal.after_image-requires
after_image-requires c = shaped-at c.requires.ordered c.requires.change_at

pub returns-then-c-eq1-clause-by_index : goal.returns-then-c-eq1-clause-by_index
returns-then-c-eq1-clause-by_index c = let e = c.after_image.ensures in (won-after _ c.requires.change_at (omega arith) (e.in_log, e.logged_at)).0

pub returns-then-c-eq1-clause-logged_value : goal.returns-then-c-eq1-clause-logged_value
returns-then-c-eq1-clause-logged_value c = let e = c.after_image.ensures in (won-after _ c.requires.change_at (omega arith) (e.in_log, e.logged_at)).1

pub before_image-requires : goal.before_image-requires
before_image-requires c = shaped-at c.requires.ordered c.requires.change_at

pub returns-clause-by_index : goal.returns-clause-by_index
returns-clause-by_index c = let e = c.before_image.ensures in (won-before _ c.requires.change_at (λ z. omega arith) (e.in_log, e.logged_at)).0

pub returns-clause-logged_value : goal.returns-clause-logged_value
returns-clause-logged_value c = let e = c.before_image.ensures in (won-before _ c.requires.change_at (λ z. omega arith) (e.in_log, e.logged_at)).1
