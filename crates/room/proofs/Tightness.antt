-- Whether a page has room, and the lowest page that has none. Assumes nothing.
use Prim.Native.Nat.{ℕ, suc, ◌+◌, ◌*◌, ◌-◌, ◌≤◌, ◌<◌}
use mathlib.Core.Path.{◌≡◌, ap₂}
use mathlib.Core.Bool.{Bool, true, false}
use mathlib.Core.List.{List}
use native.Mathlib.Decide.{dec_lt}
use native.Mathlib.Numerals.{add-one}
use native.Mathlib.Omega.{arith}
use lib.ListN.{take, drop}
use lib.Dec.{ltb}
use borrow.Author.Tests.{lt-ltb}
use Rattle.wal.specs.Entry.{Entry}
use Rattle.page.specs.Layout.{body_bytes, page_at}
use Rattle.page.specs.Packed.{room_for}
use Rattle.refusals.specs.Refusal.{number_of}
use Rattle.refusals.specs.Verdict.{verdict, accepted, told_by}
use Rattle.refusals.specs.declared.Refusal.{Refusal}
use Rattle.refusals.specs.declared.Refusal.TheVariants.{PageOverfull}
use Rattle.refusals.specs.declared.Refused.{Refused}
use Rattle.page.proofs.Verdicts.{page-part}
use Rattle.rules.specs.Mend.{committed, top_of, slots_for}
use Rattle.rules.specs.Recover.{is_tight, tight_from}
use Rattle.images.specs.Page.{Sound, Touched}
use Rattle.images.proofs.Deciding.{top-fits}

-- ---- one page

-- as code lends it
abbrev lent_at : ℕ → List ℕ → List ℕ
lent_at i pages = take (i * 16384 + 16384 - i * 16384) (drop (i * 16384) pages)

pub sound-lent : (i : ℕ) (pages : List ℕ) → Sound (page_at i pages) → Sound (lent_at i pages)
sound-lent i pages h = rw (page-part pages i) h

module _ (es : List Entry) (pages : List ℕ) (i : ℕ) where
  pub untouched : top_of i es ≡ 0 → false ≡ is_tight es pages i
  unfolding is_tight
  untouched z = rw z

  pub measured : {r : ℕ} → 0 < top_of i es → r ≡ room_for (slots_for (committed es) es i (lent_at i pages)) → ltb body_bytes r ≡ is_tight es pages i
  unfolding is_tight
  measured h e = rw (lt-ltb 0 (top_of i es) h, e, page-part pages i)

  -- the slots alone do not fit
  pub crowded : 4080 < top_of i es → true ≡ is_tight es pages i
  unfolding is_tight
  crowded h = rw (lt-ltb 0 (top_of i es) (omega arith), lt-ltb body_bytes (room_for (slots_for (committed es) es i (page_at i pages))) more)
    where
      more : body_bytes < room_for (slots_for (committed es) es i (page_at i pages))
      more =
          elim (dec_lt body_bytes (room_for (slots_for (committed es) es i (page_at i pages)))) [
            | yes g ↦ g
            | no g ↦ absurd (omega (arith, top-fits (committed es) es i (page_at i pages) (omega arith)))
          ]

-- what is known of all touched pages holds of one of them
pub touched-part : {s pages : List ℕ} {n i : ℕ} → i < n → Touched s pages 0 n → Touched s pages i (i + 1)
touched-part h t = record { at = λ j x y k. t.at j (omega arith) (omega arith) k }

-- ---- page by page

module _ (es : List Entry) (pages : List ℕ) (n i : ℕ) where
  pub tight-here : {b : Bool} → i < n → b ≡ is_tight es pages i → b ≡ true → tight_from es pages (n - i) i ≡ verdict 14 i
  unfolding tight_from
  tight-here h e t = let z : n - i ≡ suc (n - (i + 1)) = omega arith in rw (z, ← e, t)

  pub tight-next : {b : Bool} → i < n → b ≡ is_tight es pages i → b ≡ false → tight_from es pages (n - i) i ≡ tight_from es pages (n - (i + 1)) (i + 1)
  unfolding tight_from
  tight-next h e t = let z : n - i ≡ suc (n - (i + 1)) = omega arith in rw (z, ← e, t, add-one i)

  pub tight-end : n ≤ i → tight_from es pages (n - i) i ≡ accepted
  unfolding tight_from
  tight-end h = let z : n - i ≡ 0 = omega arith in rw z

  pub tight-start : tight_from es pages (n - 0) i ≡ tight_from es pages n i
  tight-start = let z : n - 0 ≡ n = omega arith in rw z

-- the refusal of page i
pub refused-at : (e : Refused) {i : ℕ} → e.refusal ≡ PageOverfull → e.place ≡ i → told_by e ≡ verdict 14 i
refused-at e a b = ap₂ (λ (r : Refusal) (p : ℕ). verdict (number_of r) p) a b
