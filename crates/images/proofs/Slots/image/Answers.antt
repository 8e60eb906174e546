-- An untouched slot keeps what it holds, and of a touched one its cell says.
use Rattle.std.proofs.Common.{arith}
use Rattle.images.proofs.Deciding.{slot-untouched, slot-left, slot-won}
use Rattle.images.proofs.Slots.image.Goals as goal
use Rattle.images.proofs.Slots.image.Goals.{then-k-self-via-then-k-self, then-k-self-via-else-k-self+then-self-k-eq0}

pub returns-then-k-self-clause-stood : goal.returns-then-k-self-clause-stood
returns-then-k-self-clause-stood c =
    let d = c.args.self.now.decided in
    let e = c.kept_image.ensures in
    elim c.then-k-self.branch [
      | then-k-self-via-then-k-self w ↦ (slot-untouched d (omega arith) (e.in_page, e.paged_at)).0
      | then-k-self-via-else-k-self+then-self-k-eq0 w ↦ (slot-left d (omega arith) w.if-self-k-eq0.true (e.in_page, e.paged_at)).0
    ]

pub returns-then-k-self-clause-placed : goal.returns-then-k-self-clause-placed
returns-then-k-self-clause-placed c =
    let d = c.args.self.now.decided in
    let e = c.kept_image.ensures in
    elim c.then-k-self.branch [
      | then-k-self-via-then-k-self w ↦ (slot-untouched d (omega arith) (e.in_page, e.paged_at)).1
      | then-k-self-via-else-k-self+then-self-k-eq0 w ↦ (slot-left d (omega arith) w.if-self-k-eq0.true (e.in_page, e.paged_at)).1
    ]

pub returns-clause-stood : goal.returns-clause-stood
returns-clause-stood c =
    let d = c.args.self.now.decided in
    let e = c.won_image.ensures in
    (slot-won d (omega arith) (e.by_index, e.logged_value)).0

pub returns-clause-placed : goal.returns-clause-placed
returns-clause-placed c =
    let d = c.args.self.now.decided in
    let e = c.won_image.ensures in
    (slot-won d (omega arith) (e.by_index, e.logged_value)).1
