-- The entries of a cut with zero bytes behind it: a prefix of those of a file that is no shorter and not damaged, and of the log's own where the log ends exactly.
-- Assumes nothing.
use Prim.Native.Nat.{ℕ, ◌+◌, ◌-◌, ◌<◌, ◌≤◌}
use mathlib.Core.Path.{◌≡◌, refl, sym, ap, ap₂, subst, ◌∙◌}
use mathlib.Core.Logic.{◌⊎◌, inl, inr}
use mathlib.Core.List.{List, ◌∷◌, ◌++◌, map, map-append}
use native.Mathlib.Decide.{dec_lt}
use native.Mathlib.Omega.{arith}
use lib.ListN.{length, take, replicate, length-take}
use Rattle.endian.specs.Numbers.{part}
use Rattle.endian.proofs.Places.{part-take, part-append}
use Rattle.wal.specs.Entry.{Entry, entry_of}
use Rattle.wal.specs.Read.{length_at, read_at}
use Rattle.wal.specs.Walk.{file_of, views_from, views, end_from, end_of, ending_of, entries}
use Rattle.wal.specs.declared.EntryView.{EntryView}
use Rattle.wal.specs.declared.Reading.{Reading}
use Rattle.wal.specs.declared.Reading.TheVariants.{Whole, End, Torn, Unused, Damage}
use Rattle.wal.proofs.Zeros.{number-zeros}
use Rattle.wal.proofs.ReadLaws.{torn-body, whole}
use Rattle.wal.proofs.WalkLaws.{EntryAt, entry_at, not_end, not-torn, not-unused, not-damage, Walk, done, step, walk, next, none}
use Rattle.wal.proofs.Cuts.{same_length, same_whole, same-entry, whole-cases}

-- ---- two files in step: each entry of s stands in t up to its second length, and where it does, t's walk does not stop in a way that is good
module _ (s t : List ℕ) (Good : ℕ → Type 0)
    (same : (p : ℕ) (v : EntryView) → EntryAt s p v → part p (v.length - 4) s ≡ part p (v.length - 4) t)
    (stops : (p : ℕ) (v : EntryView) → EntryAt s p v → Good p → ((w : EntryView) → read_at t p ≡ Whole w → ⊥) → ⊥) where
  goes : (p : ℕ) (v : EntryView) → EntryAt s p v → Good (end_from p (views_from t p)) → read_at t p ≡ Whole v
  goes p v k g = cases (read_at t p) refl
    where
      never : ((w : EntryView) → read_at t p ≡ Whole w → ⊥) → ⊥
      never n = stops p v k (subst (λ (l : List EntryView). Good (end_from p l)) (none t p n) g) n

      cases : (r : Reading) → read_at t p ≡ r → read_at t p ≡ Whole v
      cases (Whole w) q = q ∙ ap Whole (same_whole k t (same p v k) q)
      cases End q = absurd (never (λ w h. not_end (sym q ∙ h)))
      cases Torn q = absurd (never (λ w h. not-torn (sym q ∙ h)))
      cases Unused q = absurd (never (λ w h. not-unused (sym q ∙ h)))
      cases Damage q = absurd (never (λ w h. not-damage (sym q ∙ h)))

  walk-into : {p : ℕ} {vs : List EntryView} → Walk s p vs → Good (end_from p (views_from t p))
      → (ws : List EntryView) × (vs ++ ws ≡ views_from t p) × (map (entry_of s) vs ≡ map (entry_of t) vs)
  walk-into {p} (done n) g = (views_from t p, refl, refl)
  walk-into {p} (step {v = v} {vs = vs} q w) g =
      let k = entry_at s p q in
      let e = next t p (goes p v k g) in
      let more = walk-into w (subst (λ (l : List EntryView). Good (end_from p l)) e g) in
      (more.0, ap (λ (l : List EntryView). v ∷ l) more.1 ∙ sym e, ap₂ ◌∷◌ (same-entry k t (same p v k)) more.2)

  into-entries : Good (end_of t) → (es : List Entry) × (entries s ++ es ≡ entries t)
  into-entries g =
      let w = walk-into (walk s 32) g in
      let f = entry_of t in
      (map f w.0, rw w.2 (sym (map-append f (views s) w.0) ∙ ap (map f) w.1))

-- ---- an entry of a file reaches no further into the zeros than its second length, and not with all of that
module _ (L : List ℕ) (c z : ℕ) {p : ℕ} {v : EntryView} (k : EntryAt (file_of L c z) p v) where
  reaches : p + (v.length - 4) < length (take c L)
  reaches =
      elim (dec_lt (p + (v.length - 4)) (length (take c L))) [
        | yes l ↦ l
        | no l ↦ absurd (omega (arith, number-zeros 4 (p + (v.length - 4)) z (take c L) (omega arith), k.back, k.low))
      ]

  in-log : part p (v.length - 4) (file_of L c z) ≡ part p (v.length - 4) L
  in-log =
      let r = reaches in
      part-append p (v.length - 4) (take c L) (replicate z 0) (omega arith)
      ∙ part-take p (v.length - 4) c L (omega (arith, length-take c L))

-- ---- where a length in bounds stands and no whole entry: damage, or a torn tail where it does not fit
no-entry : (t : List ℕ) (p : ℕ) → 32 ≤ p → 43 ≤ length_at t p → length_at t p ≤ 32705 → p + 4 ≤ length t
    → ((w : EntryView) → read_at t p ≡ Whole w → ⊥) → (read_at t p ≡ Damage) ⊎ ((read_at t p ≡ Torn) × (length t < p + length_at t p))
no-entry t p from low high room n =
    elim (dec_lt (length t) (p + length_at t p)) as (λ _. (read_at t p ≡ Damage) ⊎ ((read_at t p ≡ Torn) × (length t < p + length_at t p))) [
      | yes l ↦ inr (sym (torn-body t p from room low high l), l)
      | no l ↦
          let w = whole t p from room low high (omega arith) in
          elim (whole-cases t p (length_at t p)) [
            | inl d ↦ inl (w ∙ d)
            | inr e ↦ absurd (n e.0 (w ∙ e.1))
          ]
    ]

-- ---- two files of one log: where the second's walk meets no damage, the first's entries are a prefix of its entries
module _ (L : List ℕ) (c₁ z₁ c₂ z₂ : ℕ) (le : c₁ ≤ c₂) (long : length (file_of L c₁ z₁) ≤ length (file_of L c₂ z₂)) where
  pub two-cuts : (ending_of (file_of L c₂ z₂) ≡ Damage → ⊥) → (es : List Entry) × (entries (file_of L c₁ z₁) ++ es ≡ entries (file_of L c₂ z₂))
  two-cuts fine = into-entries s t (λ q. read_at t q ≡ Damage → ⊥) same stops fine
    where
      s : List ℕ
      s = file_of L c₁ z₁

      t : List ℕ
      t = file_of L c₂ z₂

      same : (p : ℕ) (v : EntryView) → EntryAt s p v → part p (v.length - 4) s ≡ part p (v.length - 4) t
      same p v k =
          let r = reaches L c₁ z₁ k in
          let a = length-take c₁ L in
          let b = length-take c₂ L in
          in-log L c₁ z₁ k
          ∙ sym (part-append p (v.length - 4) (take c₂ L) (replicate z₂ 0) (omega arith) ∙ part-take p (v.length - 4) c₂ L (omega arith))

      stops : (p : ℕ) (v : EntryView) → EntryAt s p v → (read_at t p ≡ Damage → ⊥) → ((w : EntryView) → read_at t p ≡ Whole w → ⊥) → ⊥
      stops p v k g n =
          let l = same_length k t (same p v k) in
          elim (no-entry t p k.from (omega (arith, k.low)) (omega (arith, k.high)) (omega (arith, k.low, k.room)) n) [
            | inl d ↦ g d
            | inr e ↦ omega (arith, e.1, k.room)
          ]

-- ---- a log that ends exactly: the entries of every file of it are a prefix of its entries
pub of-log : (L : List ℕ) (c z : ℕ) → ending_of L ≡ End → (es : List Entry) × (entries (file_of L c z) ++ es ≡ entries L)
of-log L c z ends = into-entries s L (λ q. read_at L q ≡ End) (λ p v k. in-log L c z k) stops ends
  where
    s : List ℕ
    s = file_of L c z

    damage-end : Damage ≡ End → ⊥
    damage-end h = let y : ◌≡◌ {A = ℕ} 0 1 = cc in omega arith

    torn-end : Torn ≡ End → ⊥
    torn-end h = let y : ◌≡◌ {A = ℕ} 0 1 = cc in omega arith

    stops : (p : ℕ) (v : EntryView) → EntryAt s p v → read_at L p ≡ End → ((w : EntryView) → read_at L p ≡ Whole w → ⊥) → ⊥
    stops p v k g n =
        let l = same_length k L (in-log L c z k) in
        let r = reaches L c z k in
        elim (no-entry L p k.from (omega (arith, k.low)) (omega (arith, k.high)) (omega (arith, k.low, length-take c L)) n) [
          | inl d ↦ damage-end (sym d ∙ g)
          | inr e ↦ torn-end (sym e.0 ∙ g)
        ]
