-- Repair slot by slot: what one slot more does to the area and to the count of pages restored.
-- Assumes nothing.
use mathlib.Core.Path.{◌≡◌, refl, sym, ap, ap₂, ◌∙◌}
use mathlib.Core.Bool.{Bool, true, false}
use Prim.Native.Nat.{ℕ, zero, suc, ◌+◌, ◌*◌, ◌-◌, ◌≤◌, ◌<◌}
use native.Mathlib.Decide.{ℕ_discrete}
use native.Mathlib.Numerals.{add-one}
use native.Mathlib.Omega.{arith}
use mathlib.Core.List.{List, []}
use lib.ListN.{length, take, drop}
use lib.Seq.{paste, length-paste}
use lib.Dec.{eqb}
use borrow.Author.Tests.{eq-eqb, ne_eqb}
use Rattle.endian.specs.Pick.{pick}
use Rattle.page.specs.Layout.{page_bytes, pages_in, page_at}
use Rattle.page.proofs.Picks.{neither}
use Rattle.page.proofs.Areas.{same-pages}
use Rattle.page.proofs.Pasting.{paste-own, page-same, page-other}
use Rattle.page.proofs.Verdicts.{page-length}
use Rattle.doublewrite.specs.File.{slot_place, id_at, copy_at, is_named}
use Rattle.doublewrite.specs.Repair.{copy_in, is_torn, is_good, is_taken, repaired_page, repaired_by, restored_by}
use Rattle.doublewrite.proofs.Repairing.{none-taken, whole-stays, bad-stays, good-taken, page-kept, page-restored, length-page, page-by, length-by}

-- ---- one page, as code goes through the cases: p is page i of d, and c its copy

module _ (magic i j : ℕ) (same : i ≡ j) (d c p : List ℕ) (is : p ≡ page_at i d) where
  abbrev Left : List ℕ → Bool → Type 0
  Left v b = (v ≡ paste d (j * page_bytes) (repaired_page magic j c (page_at j d)) page_bytes) × (b ≡ is_taken magic j c (page_at j d))

  part-is : p ≡ page_at j d
  part-is = is ∙ ap (λ (n : ℕ). page_at n d) same

  stays : is_taken magic j c (page_at j d) ≡ false → Left d false
  stays e = (rw (page-kept magic j c (page_at j d) e) (sym (paste-own d (j * page_bytes) page_bytes)), rw e)

  pub left-whole : is_torn p ≡ false → Left d false
  left-whole h = stays (whole-stays magic j c (page_at j d) (ap is_torn (sym part-is) ∙ h))

  module _ (h : is_torn p ≡ true) where
    torn-here : is_torn (page_at j d) ≡ true
    torn-here = ap is_torn (sym part-is) ∙ h

    pub left-bad : is_good magic i c ≡ false → Left d false
    left-bad g = stays (bad-stays magic j c (page_at j d) torn-here (ap (λ (n : ℕ). is_good magic n c) (sym same) ∙ g))

    pub left-restored : (v : List ℕ) → is_good magic i c ≡ true → v ≡ paste d (i * page_bytes) c page_bytes → Left v true
    left-restored v g e =
        let t : is_taken magic j c (page_at j d) ≡ true = good-taken magic j c (page_at j d) torn-here (ap (λ (n : ℕ). is_good magic n c) (sym same) ∙ g) in
        (rw (page-restored magic j c (page_at j d) t, ← same) e, rw t)

-- `&bytes[at..at + PAGE_BYTES]`, the copy of slot k
pub copy-part : (f : List ℕ) (k s : ℕ) → s ≡ slot_place k → take (s + 8 + 16384 - (s + 8)) (drop (s + 8) f) ≡ copy_at f k
copy-part f k s e = let z : s + 8 + 16384 - (s + 8) ≡ 16384 = omega arith in rw (z, e)

-- ---- one slot more

module _ (f : List ℕ) (k : ℕ) where
  copy-here : (i : ℕ) → i ≡ id_at f k → copy_in f i (suc k) ≡ copy_at f k
  unfolding copy_in
  copy-here i e = rw (eq-eqb (id_at f k) i (sym e))

  copy-other : (i : ℕ) → (i ≡ id_at f k → ⊥) → copy_in f i (suc k) ≡ copy_in f i k
  unfolding copy_in
  copy-other i h = rw (ne_eqb (id_at f k) i (λ e. h (sym e)))

-- a page that no slot names has no copy
pub copy-none : (f : List ℕ) (i k : ℕ) → is_named f i k ≡ false → copy_in f i k ≡ []
unfolding copy_in is_named
copy-none f i zero h = refl
copy-none f i (suc k) h =
    let n = neither (eqb (id_at f k) i) (is_named f i k) h in
    rw n.0 (copy-none f i k n.1)

-- slot k names page x, and none before it does
module _ (magic : ℕ) (f : List ℕ) (k : ℕ) (s : List ℕ) (x : ℕ) (is : x ≡ id_at f k) (fresh : is_named f x k ≡ false) where
  -- the page is as it was lent
  untaken : is_taken magic x (copy_in f x k) (page_at x s) ≡ false
  untaken = rw (copy-none f x k fresh) (none-taken magic x (page_at x s))

  pub slot-page : x < pages_in s → page_at x (repaired_by magic f k s (pages_in s) 0) ≡ page_at x s
  slot-page l = page-by magic f k s x l ∙ page-kept magic x (copy_in f x k) (page_at x s) untaken

  pub slot-area : x < pages_in s → (w v : List ℕ) → w ≡ repaired_by magic f k s (pages_in s) 0
      → v ≡ paste w (x * page_bytes) (repaired_page magic x (copy_at f k) (page_at x w)) page_bytes
      → v ≡ repaired_by magic f (k + 1) s (pages_in s) 0
  slot-area l w v ew ev =
      let lw : length w ≡ pages_in s * page_bytes = ap length ew ∙ length-by magic f k s in
      let q : List ℕ = repaired_page magic x (copy_at f k) (page_at x s) in
      let lq : length q ≡ page_bytes = length-page magic x (copy_at f k) (page_at x s) (page-length s x l) in
      let px : page_at x w ≡ page_at x s = ap (page_at x) ew ∙ slot-page l in
      let e : v ≡ paste w (x * page_bytes) q page_bytes = ev ∙ ap (λ (p : List ℕ). paste w (x * page_bytes) (repaired_page magic x (copy_at f k) p) page_bytes) px in
      let lv : length v ≡ pages_in s * page_bytes = ap length e ∙ length-paste w (x * page_bytes) q page_bytes (omega arith) (omega arith) ∙ lw in
      rw (add-one k)
      (same-pages (pages_in s) v (repaired_by magic f (suc k) s (pages_in s) 0) lv (length-by magic f (suc k) s) (λ i h.
      ap (page_at i) e ∙ each w ew lw q lq refl i h ∙ sym (page-by magic f (suc k) s i h)))
    where
      each : (w : List ℕ) → w ≡ repaired_by magic f k s (pages_in s) 0 → length w ≡ pages_in s * page_bytes → (q : List ℕ) → length q ≡ page_bytes
          → q ≡ repaired_page magic x (copy_at f k) (page_at x s) → (i : ℕ) → i < pages_in s
          → page_at i (paste w (x * page_bytes) q page_bytes) ≡ repaired_page magic i (copy_in f i (suc k)) (page_at i s)
      each w ew lw q lq eq i h =
          elim (ℕ_discrete i x) [
            | yes e ↦ rw e (page-same w q x lq (omega arith) ∙ eq ∙ ap (λ (c : List ℕ). repaired_page magic x c (page_at x s)) (sym (copy-here f k x is)))
            | no d ↦ page-other w q x lq (omega arith) i d ∙ ap (page_at i) ew ∙ page-by magic f k s i h
                ∙ ap (λ (c : List ℕ). repaired_page magic i c (page_at i s)) (sym (copy-other f k i (λ e. d (e ∙ sym is))))
          ]

  -- the pages restored, among those that are not page x, and among all
  count-apart : (n i : ℕ) → ((j : ℕ) → i ≤ j → j < i + n → j ≡ x → ⊥) → restored_by magic f (suc k) s n i ≡ restored_by magic f k s n i
  unfolding restored_by
  count-apart zero i h = refl
  count-apart (suc n) i h =
      rw (copy-other f k i (λ e. h i (omega arith) (omega arith) (e ∙ sym is)), count-apart n (suc i) (λ j a b. h j (omega arith) (omega arith)))

  count_at : (n i : ℕ) → i ≤ x → x < i + n → restored_by magic f (suc k) s n i ≡ restored_by magic f k s n i + pick (is_taken magic x (copy_at f k) (page_at x s)) 1 0
  unfolding restored_by
  count_at zero i a b = absurd (omega arith)
  count_at (suc n) i a b =
      elim (ℕ_discrete i x) [
        | yes e ↦ rw (e, untaken, copy-here f k x is, count-apart n (suc x) (λ j a b z. omega arith)) (omega arith)
        | no d ↦ rw (copy-other f k i (λ e. d (e ∙ sym is)), count_at n (suc i) (omega arith) (omega arith)) (omega arith)
      ]

  pub slot-count : x < pages_in s → (r t : ℕ) → r ≡ restored_by magic f k s (pages_in s) 0 → (w : List ℕ) → w ≡ repaired_by magic f k s (pages_in s) 0
      → t ≡ pick (is_taken magic x (copy_at f k) (page_at x w)) 1 0 → r + t ≡ restored_by magic f (k + 1) s (pages_in s) 0
  slot-count l r t er w ew et =
      let px : page_at x w ≡ page_at x s = ap (page_at x) ew ∙ slot-page l in
      let e : t ≡ pick (is_taken magic x (copy_at f k) (page_at x s)) 1 0 = et ∙ ap (λ (p : List ℕ). pick (is_taken magic x (copy_at f k) p) 1 0) px in
      rw (add-one k) (ap₂ ◌+◌ er e ∙ sym (count_at (pages_in s) 0 (omega arith) (omega arith)))

pub one-le : (b : Bool) → pick b 1 0 ≤ 1
one-le true = omega arith
one-le false = omega arith

-- no more pages are restored than there are
pub restored-le : (magic : ℕ) (f : List ℕ) (k : ℕ) (s : List ℕ) (n i : ℕ) → restored_by magic f k s n i ≤ n
unfolding restored_by
restored-le magic f k s zero i = omega arith
restored-le magic f k s (suc n) i = omega (arith, one-le (is_taken magic i (copy_in f i k) (page_at i s)), restored-le magic f k s n (suc i))

-- ---- at first no slot is done

pub none-repaired : (magic : ℕ) (f s : List ℕ) → length s ≡ pages_in s * page_bytes → s ≡ repaired_by magic f 0 s (pages_in s) 0
unfolding copy_in
none-repaired magic f s l =
    same-pages (pages_in s) s (repaired_by magic f 0 s (pages_in s) 0) l (length-by magic f 0 s)
    (λ i h. sym (page-by magic f 0 s i h ∙ page-kept magic i [] (page_at i s) (none-taken magic i (page_at i s))))

pub none-restored : (magic : ℕ) (f s : List ℕ) (n i : ℕ) → 0 ≡ restored_by magic f 0 s n i
unfolding restored_by copy_in
none-restored magic f s zero i = refl
none-restored magic f s (suc n) i = rw (none-taken magic i (page_at i s)) (omega (arith, none-restored magic f s n (suc i)))
