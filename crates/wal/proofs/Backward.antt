-- Reading backward: from an entry's end it is found again, and from the walked end the list comes out reversed, and then none. Assumes nothing.
use Rattle.std.specs.Prelude.{Option, Some, None}
use Prim.Native.Nat.{ℕ, zero, suc, ◌+◌, ◌-◌, ◌≤◌}
use mathlib.Core.Path.{◌≡◌, refl, sym, ap, subst, ◌∙◌}
use mathlib.Core.List.{List, [], ◌∷◌, reverse_aux, reverse}
use mathlib.Core.Bool.{Bool, true, false}
use native.Mathlib.Omega.{arith}
use lib.ListN.{length}
use lib.Dec.{ltb}
use borrow.Author.Tests.{ltb-false}
use Rattle.endian.specs.Pick.{pick}
use Rattle.endian.specs.Numbers.{number_at}
use Rattle.wal.specs.Read.{whole_at, read_at, found, length_before, read_before}
use Rattle.wal.specs.Walk.{views, end_of, end_from, backward}
use Rattle.wal.specs.declared.EntryView.{EntryView}
use Rattle.wal.specs.declared.Reading.{Reading}
use Rattle.wal.specs.declared.Reading.TheVariants.{Whole, End, Torn, Unused, Damage}
use Rattle.wal.proofs.ReadLaws.{too-near, whole_before}
use Rattle.wal.proofs.WalkLaws.{EntryAt, entry_at, entry_whole, whole_length, whole-at, Walk, done, step, walk}

-- ---- one step

-- the entry at p ends at p + its length, and the step backward from there finds it again
pub found-again : (s : List ℕ) (p : ℕ) {v : EntryView} → read_at s p ≡ Whole v → read_before s (p + v.length) ≡ Some v
found-again s p {v} h =
    let k = entry_at s p h in
    let at : p + v.length - 4 ≡ p + (v.length - 4) = omega arith in
    let back : p + v.length - v.length ≡ p = omega arith in
    let n : v.length ≡ length_before s (p + v.length) = sym (ap (λ (i : ℕ). number_at 4 i s) at ∙ k.back) in
    whole_before s (p + v.length) (omega arith) (omega arith) (omega arith) (omega arith) (omega arith) n (sym (ap (λ (i : ℕ). whole_at s i v.length) back ∙ whole-at k))

past : {v : EntryView} (b : Bool) {y : Option EntryView} → pick b None y ≡ Some v → (b ≡ false) × (y ≡ Some v)
past true h = let z : ◌≡◌ {A = ℕ} 0 1 = cc in absurd (omega arith)
past false h = (refl, h)

from_found : {v : EntryView} (r : Reading) → found r ≡ Some v → r ≡ Whole v
from_found (Whole u) h = cc
from_found End h = cc
from_found Torn h = cc
from_found Unused h = cc
from_found Damage h = cc

-- what a step backward finds stands there, and ends where the step began
pub entry-before : (s : List ℕ) (p : ℕ) {v : EntryView} → read_before s p ≡ Some v → EntryAt s v.place v × (v.place + v.length ≡ p)
unfolding read_before
entry-before s p {v} h =
    let n = length_before s p in
    let a = past (ltb p 36) h in
    let b = past (ltb (length s) p) a.1 in
    let c = past (ltb n 43) b.1 in
    let d = past (ltb 32705 n) c.1 in
    let e = past (ltb (p - 32) n) d.1 in
    let to : p ≤ length s = ltb-false _ _ b.0 in
    let low : 43 ≤ n = ltb-false _ _ c.0 in
    let room : n ≤ p - 32 = ltb-false _ _ e.0 in
    let w = from_found (whole_at s (p - n) n) e.1 in
    let k = entry_whole s (p - n) n (omega arith) low (ltb-false _ _ d.0) (omega arith) w in
    let at : p - n ≡ v.place = sym k.here in
    let l = whole_length s (p - n) n w in
    (subst (λ (i : ℕ). EntryAt s i v) at k, omega arith)

-- none stands before the first place
pub none-before-first : (s : List ℕ) → read_before s 32 ≡ None
none-before-first s = sym (too-near s 32 (omega arith))

-- ---- all steps
from_first : (s : List ℕ) (fuel : ℕ) → backward fuel s 32 ≡ []
unfolding backward
from_first s zero = refl
from_first s (suc fuel) = rw (none-before-first s)

-- one step more, behind an entry
behind : (s : List ℕ) (p : ℕ) (vs : List EntryView) {v : EntryView} → read_at s p ≡ Whole v → ((fuel : ℕ) → length vs ≤ fuel → backward fuel s p ≡ vs)
    → (fuel : ℕ) → suc (length vs) ≤ fuel → backward fuel s (p + v.length) ≡ v ∷ vs
unfolding backward
behind s p vs h back zero n = absurd (omega arith)
behind s p vs {v} h back (suc fuel) n =
    rw (found-again s p h) (ap (λ (l : List EntryView). v ∷ l) (ap (backward fuel s) (entry_at s p h).here ∙ back fuel (omega arith)))

along : {s : List ℕ} {p : ℕ} {vs : List EntryView} (us : List EntryView) → Walk s p vs → ((fuel : ℕ) → length us ≤ fuel → backward fuel s p ≡ us)
    → (fuel : ℕ) → length vs + length us ≤ fuel → backward fuel s (end_from p vs) ≡ reverse_aux vs us
along us (done n) back fuel h = back fuel (omega arith)
along {s} {p} us (step {v = v} q w) back fuel h = along (v ∷ us) w (behind s p us q back) fuel (omega arith)

-- backward from the walked end: the entries in reverse, and then none
pub backward-all : (s : List ℕ) (fuel : ℕ) → length (views s) ≤ fuel → backward fuel s (end_of s) ≡ reverse (views s)
backward-all s fuel h = along [] (walk s 32) (λ f _. from_first s f) fuel (omega arith)
