-- Three numbers in a row, each under its rule, as code reads them.
-- Assumes nothing.
use mathlib.Core.Path.{◌≡◌, ap, ap₂, ◌∙◌}
use Prim.Native.Nat.{ℕ}
use mathlib.Core.List.{List}
use Rattle.std.specs.Prelude.{Ok, Err}
use Rattle.refusals.specs.Verdict.{answered, ◌then◌}
use Rattle.refusals.specs.declared.Verdict.{Verdict}
use Rattle.summary.specs.Number.{value_at, after_at}
use Rattle.summary.specs.Summary.{number_verdict, second, third, behind, three_verdict}
use Rattle.summary.specs.declared.Number.{Number}
use Rattle.summary.specs.Inner.{number_at}
use Rattle.summary.proofs.Answered.{ok-answered, err-other, then_err, then_ok}
use Rattle.summary.proofs.Places.{taken, read-kept}

abbrev number_in : Verdict → ℕ
number_in v = v.number

module _ (rule₁ : ℕ → ℕ) (rule₂ : ℕ → ℕ → ℕ) (rule₃ : ℕ → ℕ) (f : List ℕ) (p : ℕ) {T : Type 0} (x : T) where
  pub first-refused : (w : Verdict) → Err w ≡ number_at rule₁ f p → Err w ≡ answered (three_verdict rule₁ rule₂ rule₃ f p) x
  unfolding three_verdict
  first-refused w e = then_err _ _ (taken (value_at f p) (after_at f p)) x w e

  module _ (a : Number) (ok-a : Ok a ≡ number_at rule₁ f p) where
    b_there : number_at (rule₂ a.value) f a.after ≡ number_at (rule₂ (value_at f p)) f (second f p)
    b_there = let k = read-kept rule₁ f p a ok-a in ap₂ (λ (v q : ℕ). number_at (rule₂ v) f q) k.value-is k.after-is

    rest : answered (number_verdict (rule₂ (value_at f p)) f (second f p) then number_verdict rule₃ f (third f p)) x ≡ answered (three_verdict rule₁ rule₂ rule₃ f p) x
    unfolding three_verdict
    rest = then_ok _ _ (taken (value_at f p) (after_at f p)) x a ok-a

    pub second-refused : (w : Verdict) → Err w ≡ number_at (rule₂ a.value) f a.after → Err w ≡ answered (three_verdict rule₁ rule₂ rule₃ f p) x
    second-refused w e = then_err _ _ (taken (value_at f (second f p)) (third f p)) x w (e ∙ b_there) ∙ rest

    module _ (b : Number) (ok-b : Ok b ≡ number_at (rule₂ a.value) f a.after) where
      c-there : number_at rule₃ f b.after ≡ number_at rule₃ f (third f p)
      c-there = ap (number_at rule₃ f) (read-kept (rule₂ (value_at f p)) f (second f p) b (ok-b ∙ b_there)).after-is

      last : answered (number_verdict rule₃ f (third f p)) x ≡ answered (three_verdict rule₁ rule₂ rule₃ f p) x
      last = then_ok _ _ (taken (value_at f (second f p)) (third f p)) x b (ok-b ∙ b_there) ∙ rest

      pub third-refused : (w : Verdict) → Err w ≡ number_at rule₃ f b.after → Err w ≡ answered (three_verdict rule₁ rule₂ rule₃ f p) x
      third-refused w e = err-other _ (taken (value_at f (third f p)) (behind f p)) x w (e ∙ c-there) ∙ last

      module _ (c : Number) (ok-c : Ok c ≡ number_at rule₃ f b.after) where
        -- all three read
        pub record Taken : Type 0 where
          pub value₁ : a.value ≡ value_at f p
          pub value₂ : b.value ≡ value_at f (second f p)
          pub value₃ : c.value ≡ value_at f (third f p)
          pub after₃ : c.after ≡ behind f p
          pub answer : Ok x ≡ answered (three_verdict rule₁ rule₂ rule₃ f p) x

        pub all-taken : Taken
        all-taken =
            let k = read-kept rule₁ f p a ok-a in
            let l = read-kept (rule₂ (value_at f p)) f (second f p) b (ok-b ∙ b_there) in
            let m = read-kept rule₃ f (third f p) c (ok-c ∙ c-there) in
            record { value₁ = k.value-is; value₂ = l.value-is; value₃ = m.value-is; after₃ = m.after-is; answer = ok-answered _ x (ap number_in m.accepted-is) ∙ last }
