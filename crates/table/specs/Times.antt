-- When each order was final: the LSNs of a record stand in the order first, last change, ending, wherever they are not 0 (paper 02, W8).
use Rattle.std.specs.Prelude.{◌<◌, ◌≡◌, List, [], ◌∷◌}
use Rattle.rules.specs.declared.Record.{Record}

pub record Timed (r : Record) : Type 0 where
  pub changed : (r.last.0 ≡ 0 → ⊥) → r.first.0 < r.last.0
  pub ended : (r.ending.0 ≡ 0 → ⊥) → r.first.0 < r.ending.0
  pub final : (r.last.0 ≡ 0 → ⊥) → (r.ending.0 ≡ 0 → ⊥) → r.last.0 < r.ending.0

abbrev pub AllTimed : List Record → Type 0
AllTimed [] = Unit {0}
AllTimed (r ∷ rs) = Timed r × AllTimed rs
