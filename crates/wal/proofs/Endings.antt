-- The ending of a log that meets no damage, told by what is left and the length that stands there: no scan for zeros. Assumes nothing.
use Prim.Native.Nat.{ℕ, ◌+◌, ◌<◌, ◌≤◌}
use mathlib.Core.Path.{◌≡◌, refl, sym, ap, ◌∙◌}
use mathlib.Core.Logic.{inl, inr}
use mathlib.Core.List.{List}
use mathlib.Core.Bool.{Bool, true, false}
use native.Mathlib.Decide.{dec_lt}
use native.Mathlib.Omega.{arith}
use lib.ListN.{length, drop}
use Rattle.wal.specs.Read.{all_zero, length_at, read_at}
use Rattle.wal.specs.Walk.{end_of, ending_of, ending_number}
use Rattle.wal.specs.declared.EntryView.{EntryView}
use Rattle.wal.specs.declared.Reading.TheVariants.{Whole, Damage}
use Rattle.wal.proofs.Zeros.{number-other}
use Rattle.wal.proofs.ReadLaws.{at-end, torn-head, unused, too-low, too-high, torn-body, whole}
use Rattle.wal.proofs.WalkLaws.{walk, walk_ends}
use Rattle.wal.proofs.Prefix.{met-end, met-from}
use Rattle.wal.proofs.Cuts.{whole-cases}

module _ (s : List ℕ) {p : ℕ} (at : p ≡ end_of s) (fine : ending_of s ≡ Damage → ⊥) where
  from : 32 ≤ p
  from = omega (arith, met-from s (met-end s))

  told : {n : ℕ} → n ≡ ending_number (read_at s p) → n ≡ ending_number (ending_of s)
  told h = h ∙ ap (λ (q : ℕ). ending_number (read_at s q)) at

  sound : Damage ≡ read_at s p → ⊥
  sound h = fine (ap (read_at s) (sym at) ∙ sym h)

  never : (v : EntryView) → read_at s p ≡ Whole v → ⊥
  never v q = walk_ends (walk s 32) (ap (read_at s) (sym at) ∙ q)

  pub exact-end : length s ≤ p → 0 ≡ ending_number (ending_of s)
  exact-end h = told (ap ending_number (at-end s p from h))

  pub torn-end : p < length s → length s < p + 4 → 1 ≡ ending_number (ending_of s)
  torn-end h k = told (ap ending_number (torn-head s p from h k))

  module _ (room : p + 4 ≤ length s) where
    pub unused-end : length_at s p ≡ 0 → 2 ≡ ending_number (ending_of s)
    unused-end h = told (go (all_zero (drop p s)) refl)
      where
        go : (b : Bool) → all_zero (drop p s) ≡ b → 2 ≡ ending_number (read_at s p)
        go true z = ap ending_number (unused s p from room (sym z))
        go false z = absurd (sound (too-low s p from room (omega arith) (sym z)))

    pub body_end : (length_at s p ≡ 0 → ⊥) → 1 ≡ ending_number (ending_of s)
    body_end h =
        elim (dec_lt (length_at s p) 43) as (λ _. 1 ≡ ending_number (ending_of s)) [
          | yes a ↦ absurd (sound (too-low s p from room a (sym (number-other s p 4 h))))
          | no a ↦ elim (dec_lt 32705 (length_at s p)) as (λ _. 1 ≡ ending_number (ending_of s)) [
            | yes b ↦ absurd (sound (too-high s p from room b))
            | no b ↦ elim (dec_lt (length s) (p + length_at s p)) as (λ _. 1 ≡ ending_number (ending_of s)) [
              | yes c ↦ told (ap ending_number (torn-body s p from room (omega arith) (omega arith) c))
              | no c ↦
                  let w = whole s p from room (omega arith) (omega arith) (omega arith) in
                  elim (whole-cases s p (length_at s p)) as (λ _. 1 ≡ ending_number (ending_of s)) [
                    | inl d ↦ absurd (sound (sym (w ∙ d)))
                    | inr e ↦ absurd (never e.0 (w ∙ e.1))
                  ]
            ]
          ]
        ]
