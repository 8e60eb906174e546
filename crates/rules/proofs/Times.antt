-- When a transaction began, last changed something and ended: LSNs of the entries of a list that pass a test, one entry more, and their order (paper 02, W8).
-- Assumes nothing.
use mathlib.Core.Path.{◌≡◌, refl, ap, ◌∙◌}
use mathlib.Core.Bool.{Bool, true, false}
use Prim.Native.Nat.{ℕ, ◌+◌}
use native.Mathlib.Omega.{arith}
use mathlib.Core.List.{List, [], ◌∷◌, ◌++◌, append-nil}
use Rattle.endian.specs.Pick.{pick, cons_if}
use Rattle.wal.specs.Entry.{Entry, commit, rollback}
use Rattle.rules.specs.Order.{one, count, any, is, last_lsn}
use Rattle.rules.specs.Recover.{is_end_of, those}
use Rattle.rules.proofs.Tests.{either-false}
use Rattle.rules.proofs.OrderLaws.{last_snoc}

-- ---- one entry more

those-append : (f : Entry → Bool) (es fs : List Entry) → those f (es ++ fs) ≡ those f es ++ those f fs
unfolding those
those-append f [] fs = refl
those-append f (e ∷ es) fs = go (f e) (those-append f es fs)
  where
    go : (b : Bool) → those f (es ++ fs) ≡ those f es ++ those f fs → cons_if b e (those f (es ++ fs)) ≡ cons_if b e (those f es) ++ those f fs
    go true h = ap (◌∷◌ e) h
    go false h = h

pub last-those : (f : Entry → Bool) (es : List Entry) (e : Entry) → last_lsn (those f (es ++ (e ∷ []))) ≡ pick (f e) e.lsn (last_lsn (those f es))
unfolding those
last-those f es e = ap last_lsn (those-append f es (e ∷ [])) ∙ go (f e)
  where
    go : (b : Bool) → last_lsn (those f es ++ cons_if b e []) ≡ pick b e.lsn (last_lsn (those f es))
    go true = last_snoc (those f es) e
    go false = ap last_lsn (append-nil (those f es))

-- where none of the later entries passes
pub those-front : (f : Entry → Bool) (es fs : List Entry) → those f fs ≡ [] → those f (es ++ fs) ≡ those f es
those-front f es fs h = those-append f es fs ∙ ap (λ (l : List Entry). those f es ++ l) h ∙ append-nil (those f es)

-- ---- none

pub none-those : (f : Entry → Bool) (es : List Entry) → count f es ≡ 0 → those f es ≡ []
unfolding those
none-those f [] h = refl
none-those f (e ∷ es) h = go (f e) h (none-those f es)
  where
    go : (b : Bool) → one b + count f es ≡ 0 → (count f es ≡ 0 → those f es ≡ []) → cons_if b e (those f es) ≡ []
    go true z k = absurd (omega arith)
    go false z k = k (omega arith)

pub none-ends : (t : ℕ) (es : List Entry) → any (is commit t) es ≡ false → any (is rollback t) es ≡ false → those (is_end_of t) es ≡ []
unfolding those
none-ends t [] c r = refl
none-ends t (e ∷ es) c r =
    let a = either-false (is commit t e) (any (is commit t) es) c in
    let b = either-false (is rollback t e) (any (is rollback t) es) r in
    rw (a.0, b.0) (none-ends t es a.1 b.1)
