use mathlib.Core.Path.{◌∙◌}
use Rattle.std.proofs.Common.{arith}
use lib.ListN.{length-take}
use Prim.Native.Nat.{ℕ}
use Rattle.refusals.proofs.Told.{handed-on, ok-accepted}
use Rattle.page.proofs.Mapping.{map-err, map-short, map-filled}
use Rattle.page.proofs.Verdicts.{accepted-size}
use Rattle.page.proofs.free_map.Goals as goal

pub returns-in_err-verify-clause-free_value : goal.returns-in_err-verify-clause-free_value
returns-in_err-verify-clause-free_value c = handed-on _ _ c.from_residual.ensures.1 ∙ (map-err _ _ c.args.map.now c.verify.ensures c.in_err-verify.was).0

pub returns-in_err-verify-clause-map_after : goal.returns-in_err-verify-clause-map_after
returns-in_err-verify-clause-map_after c = (map-err _ _ c.args.map.now c.verify.ensures c.in_err-verify.was).1

pub returns-then-map-need-clause-free_value : goal.returns-then-map-need-clause-free_value
returns-then-map-need-clause-free_value c =
    rw (c.at.ensures.why, c.at.ensures.place) (map-short _ _ c.args.map.now c.verify.ensures c.in_ok-verify.was c.if-map-need.true).0

pub returns-then-map-need-clause-map_after : goal.returns-then-map-need-clause-map_after
returns-then-map-need-clause-map_after c = (map-short _ _ c.args.map.now c.verify.ensures c.in_ok-verify.was c.if-map-need.true).1

pub fill-requires : goal.fill-requires
fill-requires c =
    let z = accepted-size c.args.magic c.args.pages.now 0 (ok-accepted c.verify.ensures c.in_ok-verify.was) in
    (omega arith, omega arith)

pub ones-requires : goal.ones-requires
ones-requires c =
    let z = accepted-size c.args.magic c.args.pages.now 0 (ok-accepted c.verify.ensures c.in_ok-verify.was) in
    omega (arith, length-take {A = ℕ})

pub returns-clause-free_value : goal.returns-clause-free_value
returns-clause-free_value c = rw (c.ones.ensures, c.fill.ensures) (map-filled _ _ c.args.map.now c.verify.ensures c.in_ok-verify.was (omega arith)).0

pub returns-clause-map_after : goal.returns-clause-map_after
returns-clause-map_after c = c.fill.ensures ∙ (map-filled _ _ c.args.map.now c.verify.ensures c.in_ok-verify.was (omega arith)).1
