-- Logs that begin with the same bytes: an entry is decided by its own bytes, so a cut's entries are a prefix of the log's, and a cut of a log
-- that meets no damage meets none. Assumes nothing.
use Prim.Native.Nat.{ℕ, ◌+◌, ◌-◌, ◌≤◌, ◌<◌}
use mathlib.Core.Path.{◌≡◌, refl, sym, ap, ap₂, subst, ◌∙◌}
use mathlib.Core.List.{List, [], ◌∷◌, ◌++◌, map, append-nil, map-append}
use mathlib.Core.Bool.{Bool, true, false}
use mathlib.Core.Logic.{◌⊎◌, inl, inr}
use native.Mathlib.Decide.{dec_lt}
use native.Mathlib.Nat.{add-zero}
use native.Mathlib.Omega.{arith}
use lib.ListN.{length, take, drop, length-append, length-take, take-append-drop}
use lib.Dec.{eqb}
use lib.Seq.{take-take}
use Rattle.endian.specs.Pick.{pick}
use Rattle.endian.specs.Numbers.{part, number_at}
use Rattle.endian.proofs.Places.{part-take, part-drop, part-append, number_same, number_append}
use Rattle.crc32c.specs.Crc.{crc32c}
use Rattle.wal.specs.Entry.{Entry, entry_of}
use Rattle.wal.specs.Read.{all_zero, length_at, key_len, old_len, new_len, view, inner_at, whole_at, read_at}
use Rattle.wal.specs.Walk.{views_from, views, end_from, end_of, ending_of, entries}
use Rattle.wal.specs.declared.EntryView.{EntryView}
use Rattle.wal.specs.declared.Reading.{Reading}
use Rattle.wal.specs.declared.Reading.TheVariants.{Whole, End, Torn, Unused, Damage}
use Rattle.wal.proofs.Zeros.{longer-other}
use Rattle.wal.proofs.ReadLaws.{below, past_end, torn-head, unused, too-low, too-high, torn-body, whole}
use Rattle.wal.proofs.WalkLaws.{EntryAt, entry_at, entry_whole, whole_length, inner-lengths, is_whole, not_end, not-damage, Walk, done, step, walk, walk_is, next, none, end-from}

-- ---- an entry is decided by its own bytes

-- a part of the n bytes at p is a part of the list
inside : (s : List ℕ) (p n i w : ℕ) → i + w ≤ n → part (p + i) w s ≡ part i w (part p n s)
inside s p n i w h = sym (part-drop i w p s) ∙ sym (part-take i w n (drop p s) h)

module _ (s t : List ℕ) (p n : ℕ) (same : part p n s ≡ part p n t) where
  part-both : (i w : ℕ) → i + w ≤ n → part (p + i) w s ≡ part (p + i) w t
  part-both i w h = inside s p n i w h ∙ ap (part i w) same ∙ sym (inside t p n i w h)

  number-both : (w i : ℕ) → i + w ≤ n → number_at w (p + i) s ≡ number_at w (p + i) t
  number-both w i h = number_same w (p + i) (p + i) s t (part-both i w h)

  first-bytes : (w : ℕ) → w ≤ n → part p w s ≡ part p w t
  first-bytes w h = rw add-zero at (part-both 0 w (omega arith))

-- what it says stands before its second length
module _ {s : List ℕ} {p : ℕ} {v : EntryView} (k : EntryAt s p v) (t : List ℕ) (same : part p (v.length - 4) s ≡ part p (v.length - 4) t) where
  pub same_length : length_at t p ≡ v.length
  same_length = sym (number_same 4 p p s t (first-bytes s t p (v.length - 4) same 4 (omega arith))) ∙ k.front

  same_view : v ≡ view t p v.length
  unfolding view
  same_view =
      let is = k.is in
      let i = inner-lengths k in
      let number = number-both s t p (v.length - 4) same in
      let key : key_len s p ≡ key_len t p = number 2 25 (omega arith) in
      let old : old_len s p ≡ old_len t p = number 4 (27 + key_len s p) (omega arith) ∙ ap (λ (x : ℕ). number_at 4 (p + (27 + x)) t) key in
      let new : new_len s p ≡ new_len t p = number 4 (31 + key_len s p + old_len s p) (omega arith) ∙ cc in
      let lsn = number 8 4 (omega arith) in
      let txn = number 8 12 (omega arith) in
      let kind = number 1 20 (omega arith) in
      let table = number 4 21 (omega arith) in
      cc

  -- a whole entry there is the same one
  pub same_whole : {w : EntryView} → read_at t p ≡ Whole w → w ≡ v
  same_whole {w} q =
      let e = entry_at t p q in
      let l : w.length ≡ v.length = sym e.front ∙ same_length in
      e.is ∙ ap (view t p) l ∙ sym same_view

  -- and says the same
  pub same-entry : entry_of s v ≡ entry_of t v
  unfolding entry_of
  same-entry =
      let both = part-both s t p (v.length - 4) same in
      let at = k.here in
      let key = both 27 v.key_len (omega arith) in
      let old = both (31 + v.key_len) v.old_len (omega arith) in
      let new = both (35 + v.key_len + v.old_len) v.new_len (omega arith) in
      cc

-- all its bytes make it whole
module _ {s : List ℕ} {p : ℕ} {v : EntryView} (k : EntryAt s p v) (t : List ℕ) (same : part p v.length s ≡ part p v.length t) where
  fewer : part p (v.length - 4) s ≡ part p (v.length - 4) t
  fewer = first-bytes s t p v.length same (v.length - 4) (omega arith)

  carried : p + v.length ≤ length t → EntryAt t p v
  carried room =
      let number = number-both s t p v.length same in
      record {
        from = k.from;
        low = k.low;
        high = k.high;
        room = room;
        here = k.here;
        is = same_view k t fewer;
        inner = k.inner;
        front = same_length k t fewer;
        back = sym (number 4 (v.length - 4) (omega arith)) ∙ k.back;
        sum = sym (number 4 (v.length - 8) (omega arith)) ∙ k.sum ∙ ap crc32c (first-bytes s t p v.length same (v.length - 8) (omega arith));
      }

-- ---- a longer log: s ++ t
end-damage : End ≡ Damage → ⊥
end-damage h = let z : ◌≡◌ {A = ℕ} 0 1 = cc in omega arith

torn-damage : Torn ≡ Damage → ⊥
torn-damage h = let z : ◌≡◌ {A = ℕ} 0 1 = cc in omega arith

unused-damage : Unused ≡ Damage → ⊥
unused-damage h = let z : ◌≡◌ {A = ℕ} 0 1 = cc in omega arith

pub whole-cases : (s : List ℕ) (p n : ℕ) → (whole_at s p n ≡ Damage) ⊎ ((v : EntryView) × (whole_at s p n ≡ Whole v))
unfolding whole_at inner_at
whole-cases s p n =
    by-test (eqb (length_at s p) n)
    (by-test (eqb (number_at 4 (p + (n - 4)) s) n)
    (by-test (eqb (number_at 4 (p + (n - 8)) s) (crc32c (part p (n - 8) s))) (by-test (eqb (43 + key_len s p + old_len s p + new_len s p) n) (inr (view s p n, refl)))))
  where
    by-test : (b : Bool) {r : Reading} → (r ≡ Damage) ⊎ ((v : EntryView) × (r ≡ Whole v)) → (pick b r Damage ≡ Damage) ⊎ ((v : EntryView) × (pick b r Damage ≡ Whole v))
    by-test true c = c
    by-test false c = inl refl

module _ (s t : List ℕ) where
  same_bytes : {p : ℕ} {v : EntryView} → EntryAt s p v → part p v.length s ≡ part p v.length (s ++ t)
  same_bytes {p} {v} k = sym (part-append p v.length s t k.room)

  entry-longer : {p : ℕ} {v : EntryView} → EntryAt s p v → EntryAt (s ++ t) p v
  entry-longer k = carried k (s ++ t) (same_bytes k) (omega (arith, k.room, length-append s t))

  walk-longer : {p : ℕ} {vs : List EntryView} → Walk s p vs → (ws : List EntryView) × (vs ++ ws ≡ views_from (s ++ t) p) × (map (entry_of s) vs ≡ map (entry_of (s ++ t)) vs)
  walk-longer {p} (done n) = (views_from (s ++ t) p, refl, refl)
  walk-longer {p} (step {v = v} {vs = vs} q w) =
      let k = entry_at s p q in
      let more = walk-longer w in (
        more.0,
        ap (λ (l : List EntryView). v ∷ l) more.1 ∙ sym (next (s ++ t) p (is_whole (entry-longer k))),
        ap₂ ◌∷◌ (same-entry k (s ++ t) (fewer k (s ++ t) (same_bytes k))) more.2,
      )

  -- bytes that are damage as an entry are damage in the longer log too
  whole-damage : (p n : ℕ) → 32 ≤ p → 43 ≤ n → n ≤ 32705 → p + n ≤ length s → read_at s p ≡ Damage → whole_at (s ++ t) p n ≡ Damage
  whole-damage p n from low high room h = cases (whole-cases (s ++ t) p n)
    where
      cases : (whole_at (s ++ t) p n ≡ Damage) ⊎ ((v : EntryView) × (whole_at (s ++ t) p n ≡ Whole v)) → whole_at (s ++ t) p n ≡ Damage
      cases (inl d) = d
      cases (inr w) =
          let v = w.0 in
          let l = whole_length (s ++ t) p n w.1 in
          let k = entry_whole (s ++ t) p n from low high (omega (arith, length-append s t)) w.1 in
          let back = carried k s (part-append p v.length s t (omega arith)) (omega arith) in
          absurd (not-damage (sym h ∙ is_whole back))

  -- a non-zero byte stays
  still-other : (p : ℕ) → 32 ≤ p → p < length s → p + 4 ≤ length s → read_at s p ≡ Damage → (b : Bool) → all_zero (drop p s) ≡ b → false ≡ all_zero (drop p (s ++ t))
  still-other p from here room h true z = absurd (unused-damage (unused s p from room (sym z) ∙ h))
  still-other p from here room h false z = sym (longer-other p s t (omega arith) z)

  -- damage stays damage
  still-damage : (p : ℕ) → read_at s p ≡ Damage → read_at (s ++ t) p ≡ Damage
  still-damage p h =
      let long = length-append s t in
      elim (dec_lt p 32) [
        | yes a ↦ absurd (end-damage (below s p a ∙ h))
        | no a ↦ elim (dec_lt p (length s)) [
          | no b ↦ absurd (end-damage (past_end s p (omega arith) ∙ h))
          | yes b ↦ elim (dec_lt (length s) (p + 4)) [
            | yes c ↦ absurd (torn-damage (torn-head s p (omega arith) b c ∙ h))
            | no c ↦
                let l : length_at (s ++ t) p ≡ length_at s p = number_append 4 p s t (omega arith) in
                elim (dec_lt (length_at s p) 43) [
                  | yes d ↦ sym (too-low (s ++ t) p (omega arith) (omega arith) (omega arith) (still-other p (omega arith) (omega arith) (omega arith) h (all_zero (drop p s)) refl))
                  | no d ↦ elim (dec_lt 32705 (length_at s p)) [
                    | yes e ↦ sym (too-high (s ++ t) p (omega arith) (omega arith) (omega arith))
                    | no e ↦ elim (dec_lt (length s) (p + length_at s p)) [
                      | yes f ↦ absurd (torn-damage (torn-body s p (omega arith) (omega arith) (omega arith) (omega arith) f ∙ h))
                      | no f ↦
                          whole (s ++ t) p (omega arith) (omega arith) (omega arith) (omega arith) (omega arith) ∙ ap (whole_at (s ++ t) p) l
                          ∙ whole-damage p (length_at s p) (omega arith) (omega arith) (omega arith) (omega arith) h
                    ]
                  ]
                ]
          ]
        ]
      ]

  -- a walk that ends in damage is the longer log's walk
  walk-damage : {p : ℕ} {vs : List EntryView} → Walk s p vs → read_at s (end_from p vs) ≡ Damage → Walk (s ++ t) p vs
  walk-damage {p} (done n) h = done (λ v q. not-damage (sym (still-damage p h) ∙ q))
  walk-damage {p} (step q w) h = step (is_whole (entry-longer (entry_at s p q))) (walk-damage w h)

  ending-damage : ending_of s ≡ Damage → ending_of (s ++ t) ≡ Damage
  ending-damage h = rw (walk_is (walk-damage (walk s 32) h)) (still-damage (end_of s) h)

  -- the entries of a log are a prefix of those of a longer one
  pub longer-views : (ws : List EntryView) × (views s ++ ws ≡ views (s ++ t))
  longer-views = let w = walk-longer (walk s 32) in (w.0, w.1)

  pub longer-entries : (es : List Entry) × (entries s ++ es ≡ entries (s ++ t))
  longer-entries =
      let w = walk-longer (walk s 32) in
      let f = entry_of (s ++ t) in
      (map f w.0, rw w.2 (sym (map-append f (views s) w.0) ∙ ap (map f) w.1))

-- ---- cuts of a log
module _ (s : List ℕ) (c₁ c₂ : ℕ) (le : c₁ ≤ c₂) where
  longer : take c₁ s ++ drop c₁ (take c₂ s) ≡ take c₂ s
  longer = rw (take-take c₁ c₂ s le) at (take-append-drop c₁ (take c₂ s))

  pub cut-views : (ws : List EntryView) × (views (take c₁ s) ++ ws ≡ views (take c₂ s))
  cut-views = rw longer at (longer-views (take c₁ s) (drop c₁ (take c₂ s)))

  pub cut-entries : (es : List Entry) × (entries (take c₁ s) ++ es ≡ entries (take c₂ s))
  cut-entries = rw longer at (longer-entries (take c₁ s) (drop c₁ (take c₂ s)))

  -- where the longer cut's walk meets no damage, neither does this one's
  pub cut-damage : ending_of (take c₁ s) ≡ Damage → ending_of (take c₂ s) ≡ Damage
  cut-damage = rw longer at (ending-damage (take c₁ s) (drop c₁ (take c₂ s)))

-- ---- entries that end at or before the cut are the cut's
module _ (s : List ℕ) (c : ℕ) where
  walk-cut : {p : ℕ} (us vs : List EntryView) → Walk s p (us ++ vs) → end_from p us ≤ c
      → (views_from (take c s) p ≡ us ++ views_from (take c s) (end_from p us)) × (map (entry_of (take c s)) us ≡ map (entry_of s) us)
  walk-cut [] vs w h = (refl, refl)
  walk-cut {p} (u ∷ us) vs (step q w) h =
      let k = entry_at s p q in
      let to = end-from (p + u.length) us in
      let same : part p u.length s ≡ part p u.length (take c s) = sym (part-take p u.length c s (omega arith)) in
      let more = walk-cut {p = p + u.length} us vs w h in
      let kept = carried k (take c s) same (omega (arith, length-take c s)) in
      (next (take c s) p (is_whole kept) ∙ ap (λ (l : List EntryView). u ∷ l) more.0, ap₂ ◌∷◌ (sym (same-entry k (take c s) (fewer k (take c s) same))) more.1)

  pub cut_keeps : (us vs : List EntryView) → views s ≡ us ++ vs → end_from 32 us ≤ c
      → (views (take c s) ≡ us ++ views_from (take c s) (end_from 32 us)) × (map (entry_of (take c s)) us ≡ map (entry_of s) us)
  cut_keeps us vs e h = walk-cut us vs (subst (Walk s 32) e (walk s 32)) h

-- cut where the walk ends, a log has the same entries, and ends exactly
module _ (s : List ℕ) where
  past-cut : End ≡ read_at (take (end_of s) s) (end_of s)
  past-cut = past_end (take (end_of s) s) (end_of s) (omega (arith, length-take (end_of s) s))

  exact : (views (take (end_of s) s) ≡ views s) × (map (entry_of (take (end_of s) s)) (views s) ≡ map (entry_of s) (views s))
  exact =
      let kept = cut_keeps s (end_of s) (views s) [] (sym (append-nil (views s))) (omega arith) in
      (kept.0 ∙ rw (none (take (end_of s) s) (end_of s) (λ v q. not_end (past-cut ∙ q))) (append-nil (views s)), kept.1)

  pub end-views : views (take (end_of s) s) ≡ views s
  end-views = exact.0

  pub end-entries : entries (take (end_of s) s) ≡ entries s
  end-entries = rw end-views exact.1

  pub end-ending : ending_of (take (end_of s) s) ≡ End
  end-ending = rw end-views (sym past-cut)
