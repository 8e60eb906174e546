-- The entry that a walk found, by its own place. Assumes nothing.
use Prim.Native.Nat.{ℕ, ◌+◌}
use mathlib.Core.Path.{◌≡◌, refl, sym, ap, ◌∙◌, subst}
use mathlib.Core.Logic.{inl, inr}
use mathlib.Core.List.{List, [], ◌∷◌}
use denote.Enum.Declared.{tag_of}
use types.Run.{OneOf}
use Rattle.wal.specs.Read.{length_at, view}
use Rattle.wal.specs.Prefix.{entry_in, Stands}
use Rattle.wal.specs.declared.EntryView.{EntryView}
use Rattle.wal.specs.declared.Reading.{Reading}
use Rattle.wal.specs.declared.Reading.TheVariants.{Whole, End, Torn, Unused, Damage}
use Rattle.wal.specs.contracts.Reading.{the_type}

pub record There (s : List ℕ) (p : ℕ) (v : EntryView) : Type 0 where
  pub place : v.place ≡ p
  pub stands : Stands s v.place
  pub is : v ≡ entry_in s v.place
  pub next : v.place + length_at s v.place ≡ p + v.length

pub there : {s : List ℕ} {p : ℕ} {v : EntryView} → v ≡ entry_in s p → Stands s p → There s p v
unfolding view
there {s} {p} {v} e h =
    let q : v.place ≡ p = ap (λ (u : EntryView). u.place) e in
    record {
      place = q;
      stands = subst (Stands s) (sym q) h;
      is = subst (λ (x : ℕ). v ≡ entry_in s x) (sym q) e;
      next = ap (λ (x : ℕ). x + length_at s x) q ∙ ap (λ (x : ℕ). p + x) (sym (ap (λ (u : EntryView). u.length) e));
    }

-- what is read where the walk does not go on
pub not-whole : (r : Reading) → ((v : EntryView) → r ≡ Whole v → ⊥) → OneOf (1 ∷ 2 ∷ 3 ∷ 4 ∷ []) (tag_of the_type r)
not-whole (Whole v) h = absurd (h v refl)
not-whole End h = inl refl
not-whole Torn h = inr (inl refl)
not-whole Unused h = inr (inr (inl refl))
not-whole Damage h = inr (inr (inr refl))
