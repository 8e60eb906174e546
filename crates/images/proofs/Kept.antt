-- What a slot of a good Data page holds stands in the page. Assumes nothing.
use Prim.Native.Nat.{ℕ, ◌+◌, ◌≤◌, ◌<◌}
use mathlib.Core.Path.{◌≡◌, refl, sym, ap, ap₂, ◌∙◌}
use mathlib.Core.Logic.{inl, inr}
use mathlib.Core.List.{List}
use native.Mathlib.Omega.{arith}
use Rattle.endian.specs.Numbers.{part}
use Rattle.endian.proofs.Places.{part-drop}
use Rattle.page.specs.Layout.{body_bytes, count_of, body_of, slot_off, slot_len, slot_at}
use Rattle.page.specs.Good.{SlotGood}
use Rattle.page.proofs.Slots.{slot-past, slot-in}
use Rattle.change.specs.declared.Image.{Image}
use Rattle.images.specs.Tuples.{paged, InPage, PagedAt}
use Rattle.images.specs.Page.{Sound}
use Rattle.images.proofs.Standing.{in-page}

slot-within : {b : List ℕ} {end k : ℕ} → SlotGood b end k → slot_off b k + slot_len b k ≤ body_bytes
slot-within (inl e) = omega arith
slot-within (inr f) = f.within

-- a page has no more slots than fit it
pub count_small : {p : List ℕ} → Sound p → count_of p ≤ 4080
count_small d = omega (arith, d.good.start, d.good.start_end, d.good.end)

module _ {p : List ℕ} (d : Sound p) (k : ℕ) where
  pub kept-none : {m : Image} → count_of p ≤ k → m ≡ paged 64 0 → InPage p m (slot_at p k) × PagedAt p k m
  kept-none l e = (in-page 64 0 (omega (arith, d.size)) (omega arith) e (sym (slot-past p k l)), rw e (record { paged = refl; at = λ n. absurd (n refl) }))

  pub kept-some : {m : Image} {o n : ℕ} → k < count_of p → o ≡ slot_off (body_of p) k → n ≡ slot_len (body_of p) k → m ≡ paged (64 + o) n → InPage p m (slot_at p k) × PagedAt p k m
  kept-some {m} {o} {n} l eo en e =
      let w = slot-within (d.good.slots k l) in (
        in-page (64 + o) n (omega (arith, d.size)) (omega arith) e (sym (part-drop o n 64 p) ∙ ap₂ (λ (a b : ℕ). part a b (body_of p)) eo en ∙ sym (slot-in p k l)),
        rw e (record { paged = refl; at = λ _. ap (λ (x : ℕ). 64 + x) eo }),
      )
