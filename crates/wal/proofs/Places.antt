-- The list of entries determines where they stand: each starts where the one before ends. Assumes nothing.
use Prim.Native.Nat.{ℕ, ◌+◌}
use mathlib.Core.Path.{◌≡◌, refl, sym, subst}
use mathlib.Core.List.{List, [], ◌∷◌, ◌++◌, map, append-nil}
use native.Mathlib.Omega.{arith}
use lib.ListN.{length}
use Rattle.crc32c.proofs.Runs.{part_length}
use Rattle.wal.specs.Entry.{Entry, size_of, sizes_of, key_part, old_part, new_part, entry_of, view_of, views_of}
use Rattle.wal.specs.Walk.{views_from, views, end_from, end_of, entries}
use Rattle.wal.specs.declared.EntryView.{EntryView}
use Rattle.wal.proofs.WalkLaws.{EntryAt, entry_at, Walk, done, step, walk, walk_is}

-- ---- one entry
pub view-length : (p : ℕ) (e : Entry) → (view_of p e).length ≡ size_of e
unfolding view_of
view-length p e = refl

module _ {s : List ℕ} {p : ℕ} {v : EntryView} (k : EntryAt s p v) where
  pub key-length : length (key_part s v) ≡ v.key_len
  key-length = part_length s (v.place + 27) v.key_len (omega arith)

  pub old-length : length (old_part s v) ≡ v.old_len
  old-length = part_length s (v.place + (31 + v.key_len)) v.old_len (omega arith)

  pub new-length : length (new_part s v) ≡ v.new_len
  new-length = part_length s (v.place + (35 + v.key_len + v.old_len)) v.new_len (omega arith)

  -- its size is its length
  pub size-of : size_of (entry_of s v) ≡ v.length
  unfolding entry_of
  size-of = omega (arith, key-length, old-length, new-length)

  -- what it says, and its place, are all that a reading finds
  pub view-of : view_of p (entry_of s v) ≡ v
  unfolding view_of entry_of
  view-of = rw (← k.here, key-length, old-length, new-length, k.inner)

-- ---- all of them
walk-views : {s : List ℕ} {p : ℕ} {vs : List EntryView} → Walk s p vs → views_of p (map (entry_of s) vs) ≡ vs
walk-views (done n) = refl
walk-views {s} {p} (step q w) = let k = entry_at s p q in rw (size-of k, view-of k, walk-views w)

walk-sum : {s : List ℕ} {p : ℕ} (us vs : List EntryView) → Walk s p (us ++ vs) → end_from p us ≡ p + sizes_of (map (entry_of s) us)
walk-sum [] vs w = omega arith
walk-sum {s} {p} (u ∷ us) vs (step q w) = let k = entry_at s p q in omega (arith, size-of k, walk-sum {p = p + u.length} us vs w)

walk-rest : {s : List ℕ} {p : ℕ} (us : List EntryView) {vs : List EntryView} → Walk s p (us ++ vs) → Walk s (end_from p us) vs
walk-rest [] w = w
walk-rest {p = p} (u ∷ us) (step q w) = walk-rest {p = p + u.length} us w

module _ (s : List ℕ) where
  -- what the entries say determines how and where they stand
  pub views-of : views_of 32 (entries s) ≡ views s
  views-of = walk-views (walk s 32)

  pub end-of : end_of s ≡ 32 + sizes_of (entries s)
  end-of = walk-sum (views s) [] (subst (Walk s 32) (sym (append-nil (views s))) (walk s 32))

  module _ (us vs : List EntryView) (e : views s ≡ us ++ vs) where
    -- behind some entries the walk goes on with the others
    pub rest_from : views_from s (end_from 32 us) ≡ vs
    rest_from = walk_is (walk-rest us (subst (Walk s 32) e (walk s 32)))

    -- and that is where the sizes of those entries lead
    pub place-sum : end_from 32 us ≡ 32 + sizes_of (map (entry_of s) us)
    place-sum = walk-sum us vs (subst (Walk s 32) e (walk s 32))

  -- an entry of the walk stands where those before it end
  pub place_of : (us : List EntryView) {v : EntryView} (vs : List EntryView) → views s ≡ us ++ (v ∷ vs) → EntryAt s (end_from 32 us) v
  place_of us vs e = first_of (walk-rest us (subst (Walk s 32) e (walk s 32)))
    where
      first_of : {p : ℕ} {v : EntryView} {vs : List EntryView} → Walk s p (v ∷ vs) → EntryAt s p v
      first_of (step q w) = entry_at s _ q

-- the place behind a run of entries and another
pub end-append : (p : ℕ) (us vs : List EntryView) → end_from p (us ++ vs) ≡ end_from (end_from p us) vs
end-append p [] vs = refl
end-append p (u ∷ us) vs = end-append (p + u.length) us vs
