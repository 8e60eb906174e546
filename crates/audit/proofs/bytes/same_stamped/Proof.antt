-- `same_stamped` meets its contract: xmax and the deleted byte are those of the stamp, and the rest is the tuple's.
-- Assumes nothing.
use mathlib.Core.Path.{sym, ap₂, ◌∙◌}
use native.Mathlib.Omega.{arith}
use borrow.Author.Rules.{rules}
use Rattle.endian.specs.Numbers.{Bytes}
use Rattle.rules.specs.Shape.{same}
use Rattle.audit.proofs.Sameness.{rest_part, stamped-front, stamped-by, stamped-mark, stamped-rest}
use Rattle.audit.proofs.bytes.same_stamped.Statement.{statement}
use Rattle.audit.proofs.bytes.same_stamped.Tie as tie

bytes-t : (c : tie.After-shared_slice_known-2-1) → Bytes c.args.t.now
bytes-t c = record { at = λ k. omega (arith, c.shared_slice_known-1.given k) }

bytes-u : (c : tie.After-shared_slice_known-2-1) → Bytes c.args.u.now
bytes-u c = record { at = λ k. omega (arith, c.shared_slice_known-2-1.given k) }

returns : tie.Need-returns-then-u64_at
returns c =
    let k = c.before.before.before in
    let e = c in
    stamped-front _ _ _ (bytes-t k) (bytes-u k) e.requires.0 e.requires.1 (omega (arith, e.ranges.x)) (λ q. c.if-u64_at.true (c.u64_at.ensures ∙ q ∙ sym c.u64_at-2.ensures))

returns-2 : tie.Need-returns-then-u64_at-x
returns-2 c =
    let k = c.before.before.before.before.before in
    let e = c in
    stamped-by _ _ _ (bytes-t k) (bytes-u k) e.requires.0 e.requires.1 (omega (arith, e.ranges.x)) (λ q. c.if-u64_at-x.true (c.u64_at-3.ensures ∙ q))

returns-4 : tie.Need-returns
returns-4 c =
    let h = c in
    let f = c in
    let k = c.before.before.before.before.before.before.before.before.before.before in
    let e = c in
    c.same.ensures ∙ ap₂ same (rest_part 17 e.args.t.now) (rest_part 17 e.args.u.now)
    ∙ stamped-rest _ _ _ (bytes-t k) (bytes-u k) e.requires.0 e.requires.1 (omega (arith, e.ranges.x)) (sym f.u64_at.ensures ∙ f.if-u64_at.false ∙ f.u64_at-2.ensures)
    (sym h.u64_at-3.ensures ∙ h.if-u64_at-x.false) (omega arith)

pub same_stamped_spec : {M : Type 1} → statement M
same_stamped_spec =
    tie.close
    (tie.spec
    (λ c κs. search rules)
    (λ c κs. search rules)
    returns
    (λ c κs. search rules)
    returns-2
    (λ c. search rules)
    (λ c.
    let k = c.before.before.before.before.before.before.before in
    stamped-mark _ _ _ (bytes-t k) (bytes-u k) c.requires.0 c.requires.1 (omega (arith, c.ranges.x)) (λ e. omega arith))
    (λ c. search rules)
    (λ c. search rules)
    (λ c. search rules)
    (λ c. search rules)
    (λ c. search rules)
    (λ c. search rules)
    (λ c κs. search rules)
    returns-4)
