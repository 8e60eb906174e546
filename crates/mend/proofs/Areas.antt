-- A page area that is mended page by page from its front on.
-- Assumes nothing.
use mathlib.Core.Path.{◌≡◌, refl, sym, ap, ap₂, ◌∙◌}
use mathlib.Core.Bool.{Bool, true, false}
use Prim.Native.Nat.{ℕ, zero, suc, ◌+◌, ◌*◌, ◌≤◌, ◌<◌}
use native.Mathlib.Nat.{zero-add, add-zero}
use native.Mathlib.Numerals.{add-one}
use native.Mathlib.Omega.{arith}
use mathlib.Core.List.{List, [], ◌++◌, append_assoc, append-nil}
use lib.ListN.{length, take, drop, length-append, take-append-drop, drop_of_length-le}
use lib.Seq.{paste, drop_at, drop-drop}
use Rattle.wal.specs.Entry.{Entry}
use Rattle.wal.specs.Walk.{entries}
use Rattle.page.specs.Layout.{page_bytes, page_at}
use Rattle.page.proofs.Writing.{paste-at}
use Rattle.page.proofs.Verdicts.{page-length}
use Rattle.rules.specs.Order.{one}
use Rattle.rules.specs.Mend.{committed, mend}
use Rattle.rules.specs.Recover.{is_touched, mended_from, touched_from}
use Rattle.rules.proofs.Mended as mended
use Rattle.images.specs.Page.{Touched, Fitting}

-- ---- n pages from i on, and one page more

mended-next : (es : List Entry) (d : List ℕ) (n i : ℕ) → mended_from es d (suc n) i ≡ mended_from es d n i ++ mend es (i + n) (page_at (i + n) d)
unfolding mended_from
mended-next es d zero i = rw (add-zero i) (append-nil (mend es i (page_at i d)))
mended-next es d (suc n) i =
    let e : suc i + n ≡ i + suc n = omega arith in
    ap (◌++◌ (mend es i (page_at i d))) (mended-next es d n (suc i) ∙ ap (λ (k : ℕ). mended_from es d n (suc i) ++ mend es k (page_at k d)) e)
    ∙ sym (append_assoc (mend es i (page_at i d)) (mended_from es d n (suc i)) (mend es (i + suc n) (page_at (i + suc n) d)))

touched-next : (es : List Entry) (n i : ℕ) → touched_from es (suc n) i ≡ touched_from es n i + one (is_touched es (i + n))
unfolding touched_from
touched-next es zero i = rw (add-zero i) (omega arith)
touched-next es (suc n) i =
    let e : suc i + n ≡ i + suc n = omega arith in
    omega (arith, touched-next es n (suc i), ap (λ (k : ℕ). one (is_touched es k)) e)

pub one-le : (b : Bool) → one b ≤ 1
one-le true = omega arith
one-le false = omega arith

pub touched-le : (es : List Entry) (n i : ℕ) → touched_from es n i ≤ n
unfolding touched_from
touched-le es zero i = omega arith
touched-le es (suc n) i = omega (arith, one-le (is_touched es i), touched-le es n (suc i))

-- ---- the front is new

-- the first i pages of w are p, the others those of d
pub record Fronted (d : List ℕ) (i : ℕ) (p w : List ℕ) : Type 0 where
  pub long : length p ≡ i * page_bytes
  pub is : w ≡ p ++ drop (i * page_bytes) d

module _ {d : List ℕ} {i : ℕ} {p w : List ℕ} (f : Fronted d i p w) where
  page-behind : page_at i w ≡ page_at i d
  page-behind = ap (take page_bytes) (ap (drop (i * page_bytes)) f.is ∙ drop_at p (drop (i * page_bytes) d) (i * page_bytes) f.long)

  -- one page more
  front-page : (m v : List ℕ) → i * page_bytes + page_bytes ≤ length d → length m ≡ page_bytes → v ≡ paste w (i * page_bytes) m page_bytes → Fronted d (i + 1) (p ++ m) v
  front-page m v r l e =
      let a : ℕ = i * page_bytes in
      let z : (i + 1) * page_bytes ≡ a + page_bytes = omega arith in
      let own : length (page_at i d) ≡ page_bytes = page-length d i (omega arith) in
      let s : w ≡ p ++ (page_at i d ++ drop (a + page_bytes) d) = f.is ∙ ap (◌++◌ p) (sym (take-append-drop page_bytes (drop a d)) ∙ ap (◌++◌ (page_at i d)) (drop-drop page_bytes a d)) in
      record {
        long = omega (arith, length-append p m, f.long);
        is =
            e ∙ ap (λ (u : List ℕ). paste u a m page_bytes) s ∙ paste-at p (page_at i d) (drop (a + page_bytes) d) m a page_bytes f.long own l
            ∙ rw z (sym (append_assoc p m (drop (a + page_bytes) d)));
      }

-- ---- the first i pages of d are mended in w, and r of them were rewritten

pub record Mended (s d : List ℕ) (i : ℕ) (w : List ℕ) (r : ℕ) : Type 0 where
  pub fronted : Fronted d i (mended_from (entries s) d i 0) w
  pub counted : r ≡ touched_from (entries s) i 0

pub mended-none : (s d : List ℕ) → Mended s d 0 d 0
unfolding mended_from touched_from
mended-none s d = record { fronted = record { long = refl; is = refl }; counted = refl }

module _ {s d : List ℕ} {i : ℕ} {w : List ℕ} {r : ℕ} (m : Mended s d i w r) {n : ℕ} where
  -- page i is as it was
  module _ (h : i < n) where
    pub next-touched : Touched s d 0 n → Touched s w i (i + 1)
    next-touched t = record { at = λ j low high k. let z : j ≡ i = omega arith in rw (z, page-behind m.fronted) (t.at i (omega arith) h (rw z at k)) }

    pub next-fitting : Fitting s d 0 n → Fitting s w i (i + 1)
    next-fitting f = record { at = λ j low high k. let z : j ≡ i = omega arith in rw (z, page-behind m.fronted) (f.at i (omega arith) h (rw z at k)) }

    pub mended-page : Fitting s d 0 n → n * page_bytes ≤ length d → {v : List ℕ} {x : ℕ} → v ≡ paste w (i * page_bytes) (mend (entries s) i (page_at i w)) page_bytes
        → x ≡ one (is_touched (entries s) i) → Mended s d (i + 1) v (r + x)
    unfolding mend
    mended-page f room {v} {x} ev ex =
        let es = entries s in
        let long : length (mend es i (page_at i d)) ≡ page_bytes = mended.length-mended (committed es) es i (page_at i d) (page-length d i (omega arith)) (f.at i (omega arith) h) in
        let z : 0 + i ≡ i = zero-add i in
        let e : mended_from es d (i + 1) 0 ≡ mended_from es d i 0 ++ mend es i (page_at i d) = rw (add-one i) (rw z at (mended-next es d i 0)) in
        record {
          fronted = rw e (front-page m.fronted (mend es i (page_at i d)) v (omega arith) long (rw (page-behind m.fronted) at ev));
          counted = ap₂ ◌+◌ m.counted ex ∙ sym (rw (add-one i) (rw z at (touched-next es i 0)));
        }

  pub mended-all : i ≡ n → length d ≡ n * page_bytes → (w ≡ mended_from (entries s) d n 0) × (r ≡ touched_from (entries s) n 0)
  mended-all e l =
      let none : drop (i * page_bytes) d ≡ [] = drop_of_length-le d {i = i * page_bytes} (omega arith) in
      rw (← e) (m.fronted.is ∙ ap (◌++◌ (mended_from (entries s) d i 0)) none ∙ append-nil (mended_from (entries s) d i 0), m.counted)
