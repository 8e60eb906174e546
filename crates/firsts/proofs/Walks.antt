-- The walk over a page's changes, turn by turn, and the list of them.
-- Assumes nothing.
use mathlib.Core.Path.{◌≡◌, refl, sym, ap, ap₂, ◌∙◌}
use mathlib.Core.Bool.{Bool, true, false}
use Prim.Native.Nat.{ℕ, ◌+◌, ◌≤◌, ◌<◌}
use native.Mathlib.Omega.{arith}
use mathlib.Core.List.{List, [], ◌∷◌, ◌++◌}
use lib.Dec.{leb}
use borrow.Author.Tests.{le-leb, lt-leb}
use Rattle.endian.specs.Pick.{pick, cons_if}
use Rattle.wal.specs.Entry.{Entry, size_of, sizes_of}
use Rattle.rules.specs.Shape.{both}
use Rattle.rules.proofs.Tests.{false-true}
use Rattle.firsts.specs.First.{places_of}
use Rattle.firsts.specs.Clash.{some_slot, has, Mark, marks_on, open_at, clash_at, noted, clash_walk}
use Rattle.firsts.proofs.Slots.{some_same}

-- ---- the list

pub marks-append : (slots : ℕ → Entry → List ℕ) (i : ℕ) (es fs : List Entry) (at : ℕ) → marks_on slots i (es ++ fs) at ≡ marks_on slots i es at ++ marks_on slots i fs (at + sizes_of es)
unfolding marks_on
marks-append slots i [] fs at = ap (marks_on slots i fs) (omega arith)
marks-append slots i (e ∷ es) fs at =
    let z : at + size_of e + sizes_of es ≡ at + sizes_of (e ∷ es) = omega arith in
    go (some_slot (λ k. true) (slots i e)) (marks_on slots i es (at + size_of e)) (marks_on slots i fs (at + sizes_of (e ∷ es))) (marks-append slots i es fs (at + size_of e) ∙ ap (λ (p : ℕ). marks_on slots i es (at + size_of e) ++ marks_on slots i fs p) z)
  where
    go : (b : Bool) {l : List Mark} (m n : List Mark) → l ≡ m ++ n → cons_if b (record { place = at; entry = e }) l ≡ cons_if b (record { place = at; entry = e }) m ++ n
    go true m n h = ap (λ (x : List Mark). record { place = at; entry = e } ∷ x) h
    go false m n h = h

pub places-append : (f : Entry → Bool) (es fs : List Entry) (at : ℕ) → places_of f (es ++ fs) at ≡ places_of f es at ++ places_of f fs (at + sizes_of es)
unfolding places_of
places-append f [] fs at = ap (places_of f fs) (omega arith)
places-append f (e ∷ es) fs at =
    let z : at + size_of e + sizes_of es ≡ at + sizes_of (e ∷ es) = omega arith in
    go (f e) (places_of f es (at + size_of e)) (places_of f fs (at + sizes_of (e ∷ es))) (places-append f es fs (at + size_of e) ∙ ap (λ (p : ℕ). places_of f es (at + size_of e) ++ places_of f fs p) z)
  where
    go : (b : Bool) {l : List ℕ} (m n : List ℕ) → l ≡ m ++ n → cons_if b at l ≡ cons_if b at m ++ n
    go true m n h = ap (λ (x : List ℕ). at ∷ x) h
    go false m n h = h

pub places-snoc : (f : Entry → Bool) (es : List Entry) (e : Entry) (at : ℕ) → places_of f (es ++ (e ∷ [])) at ≡ places_of f es at ++ cons_if (f e) (at + sizes_of es) []
unfolding places_of
places-snoc f es e at = places-append f es (e ∷ []) at

-- one entry more
pub marks-snoc : (slots : ℕ → Entry → List ℕ) (i : ℕ) (es : List Entry) (e : Entry) (at : ℕ)
    → marks_on slots i (es ++ (e ∷ [])) at ≡ marks_on slots i es at ++ cons_if (some_slot (λ k. true) (slots i e)) (record { place = at + sizes_of es; entry = e }) []
unfolding marks_on
marks-snoc slots i es e at = marks-append slots i es (e ∷ []) at

-- ---- a turn

module _ (slots : ℕ → Entry → List ℕ) (E : ℕ → ℕ) (Q : ℕ → ℕ → Bool) (i stop : ℕ) where
  pub walk-stop : (u : ℕ → ℕ) (m : Mark) (ms : List Mark) → stop ≤ m.place → clash_walk slots E Q i stop u (m ∷ ms) ≡ stop
  unfolding clash_walk
  walk-stop u m ms h = rw (le-leb stop m.place h)

  pub walk-clash : (u : ℕ → ℕ) (m : Mark) (ms : List Mark) → m.place < stop → clash_at slots E Q i u m ≡ true → clash_walk slots E Q i stop u (m ∷ ms) ≡ m.place
  unfolding clash_walk
  walk-clash u m ms h c = rw (lt-leb stop m.place h, c)

  pub walk-on : (u : ℕ → ℕ) (m : Mark) (ms : List Mark) → m.place < stop → clash_at slots E Q i u m ≡ false → clash_walk slots E Q i stop u (m ∷ ms) ≡ clash_walk slots E Q i stop (noted slots i u m) ms
  unfolding clash_walk
  walk-on u m ms h c = rw (lt-leb stop m.place h, c)

  -- only what is known of the slots that are looked at counts: N names them
  module _ (N : ℕ → Bool) (seen : (k t : ℕ) → Q k t ≡ true → N k ≡ true) where
    pub clash-same : (u w : ℕ → ℕ) → ((k : ℕ) → N k ≡ true → u k ≡ w k) → (m : Mark) → clash_at slots E Q i u m ≡ clash_at slots E Q i w m
    clash-same u w h m =
        some_same (λ k. both (Q k (u k)) (open_at E m.place m.entry (u k))) (λ k. both (Q k (w k)) (open_at E m.place m.entry (w k))) (λ k. go k (N k) refl) (slots i m.entry)
      where
        dark : (k t : ℕ) → N k ≡ false → (b : Bool) → Q k t ≡ b → both (Q k t) (open_at E m.place m.entry t) ≡ false
        dark k t n true q = false-true (sym n ∙ seen k t q)
        dark k t n false q = rw q

        go : (k : ℕ) (b : Bool) → N k ≡ b → both (Q k (u k)) (open_at E m.place m.entry (u k)) ≡ both (Q k (w k)) (open_at E m.place m.entry (w k))
        go k true n = ap (λ (t : ℕ). both (Q k t) (open_at E m.place m.entry t)) (h k n)
        go k false n = dark k (u k) n (Q k (u k)) refl ∙ sym (dark k (w k) n (Q k (w k)) refl)

    pub walk_same : (u w : ℕ → ℕ) → ((k : ℕ) → N k ≡ true → u k ≡ w k) → (ms : List Mark) → clash_walk slots E Q i stop u ms ≡ clash_walk slots E Q i stop w ms
    unfolding clash_walk
    walk_same u w h [] = refl
    walk_same u w h (m ∷ ms) =
        ap (pick (leb stop m.place) stop)
        (ap₂ (λ (b : Bool) (r : ℕ). pick b m.place r) (clash-same u w h m)
        (walk_same (noted slots i u m) (noted slots i w m) (λ k n. ap (λ (t : ℕ). pick (has k (slots i m.entry)) m.entry.txn t) (h k n)) ms))
