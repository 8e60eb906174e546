-- A walk over entries that are known to stand, by a reader with an enum answer: what an entry found tells, and what none tells. Assumes nothing.
use Rattle.std.specs.Prelude.{Some, None}
use Prim.Native.Nat.{ℕ, ◌+◌, ◌-◌, ◌≤◌, ◌<◌}
use mathlib.Core.Path.{◌≡◌, refl, sym, ap, ◌∙◌, subst}
use native.Mathlib.Omega.{arith}
use mathlib.Core.List.{List, [], ◌∷◌}
use mathlib.Core.Bool.{Bool, true, false}
use lib.Dec.{ltb}
use borrow.Author.Tests.{lt-ltb, ltb-true, ltb-false}
use denote.Enum.Declared.{tag_of}
use types.Run.{OneOf}
use Rattle.endian.specs.Pick.{pick}
use Rattle.wal.specs.Read.{length_at, length_before, view, read_at}
use Rattle.wal.specs.Walk.{end_of}
use Rattle.wal.specs.Prefix.{entry_in, Stands, Met, known_at, known_before}
use Rattle.wal.specs.declared.EntryView.{EntryView}
use Rattle.wal.specs.declared.Reading.{Reading}
use Rattle.wal.specs.declared.Reading.TheVariants.{Whole, End}
use Rattle.wal.specs.contracts.Reading.{the_type}
use Rattle.wal.proofs.WalkLaws.{not_end, into, missed}
use Rattle.wal.proofs.Prefix.{Back, met-back, met-below, met_next, met-end}

module _ (s : List ℕ) (p end : ℕ) where
  pub known-whole : p < end → {v : EntryView} → v ≡ entry_in s p → Whole v ≡ known_at s p end
  unfolding known_at
  known-whole h e = simp (lt-ltb _ _ h) (ap Whole e)

  -- the reading with its checksum, where the walk goes on
  pub known_read : p < end → Stands s p → known_at s p end ≡ read_at s p
  known_read h k = sym (known-whole h refl) ∙ sym k.is

  -- `let Reading::Whole(v) = ..`
  pub known-found : {r : Reading} {v : EntryView} → r ≡ known_at s p end → r ≡ Whole v → (p < end) × (v ≡ entry_in s p)
  unfolding known_at
  known-found {r} {v} h q =
      let a = into (ltb p end) {x = Whole (entry_in s p)} {y = End} not_end (sym h ∙ q) in
      let e = a.1 in
      (ltb-true _ _ a.0, cc)

  -- its `else`
  pub known-over : (r : Reading) → r ≡ known_at s p end → ((v : EntryView) → r ≡ Whole v → ⊥) → end ≤ p
  unfolding known_at
  known-over r h n = ltb-false _ _ (go (ltb p end) h)
    where
      go : (b : Bool) → r ≡ pick b (Whole (entry_in s p)) End → b ≡ false
      go true e = absurd (n (entry_in s p) e)
      go false e = refl

  -- the same as a whole proof knows it: the variant's number is not 0
  pub known-stops : (r : Reading) → r ≡ known_at s p end → OneOf (1 ∷ 2 ∷ 3 ∷ 4 ∷ []) (tag_of the_type r) → end ≤ p
  known-stops r h k = known-over r h (missed r k).1

-- ---- a turn of a walk to the end: the entry that was found, and the place behind it
pub record Ahead (s : List ℕ) (p end : ℕ) (v : EntryView) : Type 0 where
  pub is : v ≡ entry_in s p
  pub stands : Stands s p
  pub long : v.length ≡ length_at s p
  pub met : Met s (p + v.length)
  pub low : 43 ≤ v.length
  pub next : p + v.length ≤ end

pub met-to : {s : List ℕ} {end : ℕ} → end_of s ≡ end → Met s end
met-to {s} e = subst (Met s) e (met-end s)

module _ {s : List ℕ} {p end : ℕ} (m : Met s p) (n : Met s end) where
  pub still : p < end → Stands s p
  still h = (met-below s m n h).stands

  pub ahead : p < end → {v : EntryView} → v ≡ entry_in s p → Ahead s p end v
  unfolding view
  ahead h {v} q =
      let b = met-below s m n h in
      let l : v.length ≡ length_at s p = ap (λ (u : EntryView). u.length) q in
      record { is = q; stands = b.stands; long = l; met = rw l (met_next s m b.stands); low = omega (arith, b.low); next = omega (arith, b.next) }

  pub ahead-found : {r : Reading} {v : EntryView} → r ≡ known_at s p end → r ≡ Whole v → Ahead s p end v
  ahead-found h q = let f = known-found s p end h q in ahead f.0 f.1

-- ---- a turn backward: the entry that was found, which ends where the walk stood
pub record Behind (s : List ℕ) (p : ℕ) (v : EntryView) : Type 0 where
  pub is : v ≡ entry_in s v.place
  pub back : Back s p v.place

pub behind-found : {s : List ℕ} {p : ℕ} → Met s p → {v : EntryView} → Some v ≡ known_before s p → Behind s p v
unfolding known_before view
behind-found {s} {p} m {v} h = go (ltb 32 p) refl (sym h)
  where
    go : (b : Bool) → ltb 32 p ≡ b → pick b (Some (entry_in s (p - length_before s p))) None ≡ Some v → Behind s p v
    go true t e =
        let i : entry_in s (p - length_before s p) ≡ v = cc in
        let w : p - length_before s p ≡ v.place = ap (λ (u : EntryView). u.place) i in
        record { is = sym i ∙ ap (entry_in s) w; back = subst (Back s p) w (met-back s m (ltb-true _ _ t)) }
    go false t e = let z : ◌≡◌ {A = ℕ} 0 1 = cc in absurd (omega arith)

-- its `else`
pub behind-stops : (s : List ℕ) (p : ℕ) → None ≡ known_before s p → p ≤ 32
unfolding known_before
behind-stops s p h = go (ltb 32 p) refl h
  where
    go : (b : Bool) → ltb 32 p ≡ b → None ≡ pick b (Some (entry_in s (p - length_before s p))) None → p ≤ 32
    go true t e = let z : ◌≡◌ {A = ℕ} 0 1 = cc in absurd (omega arith)
    go false t e = ltb-false _ _ t
