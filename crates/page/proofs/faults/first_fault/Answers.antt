use mathlib.Core.Path.{◌≡◌, refl, sym, ◌∙◌}
use Rattle.std.proofs.Common.{arith}
use Rattle.page.specs.Fault.{shares_earlier}
use Rattle.page.specs.Layout.{slot_len}
use Rattle.page.proofs.SlotLaws.{earlier-empty, earlier_more, earlier-one, faulty-itself, faulty-shares, slots_next, slots-hit, slots_end}
use Rattle.page.proofs.faults.first_fault.Goals as goal

pub slots-preserved-then-slot_len-eq0 : goal.slots-preserved-then-slot_len-eq0
slots-preserved-then-slot_len-eq0 c =
    let z : slot_len _ _ ≡ 0 = sym c.slot_len.ensures.0 ∙ c.if-slot_len-eq0.true in
    record {
      none = c.slots.invariant.none;
      rest = slots_next _ _ _ _ (omega arith) (sym c.slot_fits.ensures ∙ c.if-not-slot_fits.false) (earlier-empty _ _ z _) ∙ c.slots.invariant.rest;
    }

pub earlier-init : goal.earlier-init
unfolding shares_earlier
earlier-init c = record { none = c.slots.invariant.none; apart = refl }

pub earlier-preserved : goal.earlier-preserved
earlier-preserved c = record {
  none = c.earlier.invariant.none;
  apart = earlier_more _ _ _ c.earlier.invariant.apart (sym c.shares.ensures ∙ c.if-shares.false);
}

pub slots-preserved : goal.slots-preserved
slots-preserved c =
    let z : c.earlier.j ≡ c.slots.k = omega arith in
    record {
      none = c.earlier.invariant.none;
      rest = slots_next _ _ _ _ (omega arith) (sym c.slot_fits.ensures ∙ c.if-not-slot_fits.false) (rw z at c.earlier.invariant.apart) ∙ c.slots.invariant.rest;
    }

pub returns-after-slots : goal.returns-after-slots
returns-after-slots c = c.slots.invariant.none ∙ sym (slots_end _ _ _ c.slots.k (omega arith)) ∙ c.slots.invariant.rest

pub returns-then-not-slot_fits : goal.returns-then-not-slot_fits
returns-then-not-slot_fits c =
    sym (slots-hit _ _ _ c.slots.k (omega arith) (faulty-itself _ _ _ (sym c.slot_fits.ensures ∙ c.if-not-slot_fits.true))) ∙ c.slots.invariant.rest

pub returns-then-shares : goal.returns-then-shares
returns-then-shares c =
    sym (slots-hit _ _ _ c.slots.k (omega arith) (faulty-shares _ _ _ (sym c.slot_fits.ensures ∙ c.if-not-slot_fits.false)
    (earlier-one _ _ _ c.earlier.j (omega arith) (sym c.shares.ensures ∙ c.if-shares.true)))) ∙ c.slots.invariant.rest
