-- A tuple that is stamped in the working page is the stamped tuple.
-- Assumes nothing.
use mathlib.Core.Path.{◌≡◌, refl, sym, ap, ap₂, ◌∙◌}
use Prim.Native.Nat.{ℕ, ◌+◌, ◌-◌, ◌*◌, ◌≤◌}
use native.Mathlib.Omega.{arith}
use mathlib.Core.List.{List, ◌++◌, append_assoc}
use lib.ListN.{length, take, drop, set, length-append, length-drop, take-append-drop}
use lib.Seq.{paste, take-length, take_all, length-take-le, length-paste, drop-drop}
use Rattle.endian.specs.Numbers.{part, bytes_of}
use Rattle.endian.proofs.Numbers.{length-bytes_of}
use Rattle.endian.proofs.Places.{paste-two, set-byte}
use Rattle.page.specs.Layout.{page_bytes, head_bytes, body_bytes}
use Rattle.page.specs.Packed.{slot_bytes}
use Rattle.page.specs.Writer.{with_slot}
use Rattle.page.proofs.Writing.{paste-at}
use Rattle.rules.specs.Shape.{stamped}
use Rattle.rules.proofs.ImageLaws.{stamped-length}

-- the two stores, of which the second is of one byte
pub stamp-stored : (d w : List ℕ) (at x : ℕ) → at + 24 ≤ length d → length w ≡ length d → w ≡ paste d (at + 8) (bytes_of 8 x) 8
    → set w (at + 16) 1 ≡ paste (paste d (at + 8) (bytes_of 8 x) 8) (at + 16) (bytes_of 1 1) 1
stamp-stored d w at x r l e = set-byte w (at + 16) 1 (omega arith) (omega arith) ∙ ap (λ (v : List ℕ). paste v (at + 16) (bytes_of 1 1) 1) e

-- a store into a part t of a list
paste-within : (p q t y : List ℕ) (at a n : ℕ) → length p ≡ at → length y ≡ n → a + n ≤ length t
    → paste (p ++ (t ++ q)) (at + a) y n ≡ p ++ ((take a t ++ (y ++ drop (a + n) t)) ++ q)
paste-within p q t y at a n lp ly h =
    let la : length (take a t) ≡ a = length-take-le a t (omega arith) in
    let lb : length (part a n t) ≡ n = length-take-le n (drop a t) (simp length-drop (omega arith)) in
    let s : t ≡ take a t ++ (part a n t ++ drop (a + n) t) =
    sym (take-append-drop a t) ∙ ap (◌++◌ (take a t)) (sym (take-append-drop n (drop a t)) ∙ ap (◌++◌ (part a n t)) (drop-drop n a t)) in
    let lay : p ++ (t ++ q) ≡ (p ++ take a t) ++ (part a n t ++ (drop (a + n) t ++ q)) =
    ap (λ (u : List ℕ). p ++ (u ++ q)) s ∙ simp append_assoc in
    ap (λ (l : List ℕ). paste l (at + a) y n) lay
    ∙ paste-at (p ++ take a t) (part a n t) (drop (a + n) t ++ q) y (at + a) n (omega (arith, length-append p (take a t))) lb ly
    ∙ simp append_assoc

slot-long : (top : ℕ) (t : List ℕ) → length (slot_bytes top t) ≡ 4
unfolding bytes_of
slot-long top t = refl

two : (w : List ℕ) (at x : ℕ) → at + 24 ≤ length w → paste (paste w (at + 8) (bytes_of 8 x) 8) (at + 16) (bytes_of 1 1) 1 ≡ paste w (at + 8) (bytes_of 8 x ++ bytes_of 1 1) 9
two w at x h =
    let e : at + 16 ≡ at + 8 + 8 = omega arith in
    rw e (paste-two w (bytes_of 8 x) (bytes_of 1 1) (at + 8) 8 1 (length-bytes_of 8 x) (length-bytes_of 1 1) (omega arith))

-- a part, stamped where it stands
stamped-part : (v t : List ℕ) (at x : ℕ) → at + length t ≤ length v → 24 ≤ length t
    → paste (paste v at t (length t)) (at + 8) (bytes_of 8 x ++ bytes_of 1 1) 9 ≡ paste v at (stamped x t) (length t)
unfolding stamped bytes_of
stamped-part v t at x room head =
    let q : List ℕ = drop (at + length t) v in
    let y : List ℕ = bytes_of 8 x ++ bytes_of 1 1 in
    let lp : length (take at v) ≡ at = length-take-le at v (omega arith) in
    let all : take (length t) (stamped x t) ≡ stamped x t = take_all (length t) (stamped x t) (omega (arith, stamped-length x t head)) in
    ap (λ (l : List ℕ). paste l (at + 8) y 9) (rw (take-length t) (append_assoc (take at v) t q))
    ∙ paste-within (take at v) q t y at 8 9 lp (length-append (bytes_of 8 x) (bytes_of 1 1) ∙ ap₂ ◌+◌ (length-bytes_of 8 x) (length-bytes_of 1 1)) (omega arith)
    ∙ sym (ap (λ (l : List ℕ). take at v ++ l ++ q) all ∙ append_assoc (take at v) (stamped x t) q)

-- the tuple of a slot, stamped where it stands
pub stamped-slot : (d t w1 w2 : List ℕ) (k top x : ℕ) → length d ≡ page_bytes → 4 * k + 4 + length t ≤ top → top ≤ body_bytes → 24 ≤ length t → w1 ≡ with_slot d k top t
    → w2 ≡ paste (paste w1 (head_bytes + (top - length t) + 8) (bytes_of 8 x) 8) (head_bytes + (top - length t) + 16) (bytes_of 1 1) 1
    → w2 ≡ with_slot d k top (stamped x t)
unfolding with_slot
stamped-slot d t w1 w2 k top x long room low head e1 e2 =
    let at : ℕ = head_bytes + (top - length t) in
    let v : List ℕ = paste d (head_bytes + 4 * k) (slot_bytes top t) 4 in
    let ls : length (slot_bytes top t) ≡ 4 = slot-long top t in
    let lv : length v ≡ length d = length-paste d (head_bytes + 4 * k) (slot_bytes top t) 4 (omega arith) (omega arith) in
    let lw : length (paste v at t (length t)) ≡ length v = length-paste v at t (length t) (omega arith) (omega arith) in
    let l1 : length w1 ≡ length v = ap length e1 ∙ lw in
    e2 ∙ two w1 at x (omega arith) ∙ ap (λ (w : List ℕ). paste w (at + 8) (bytes_of 8 x ++ bytes_of 1 1) 9) e1 ∙ stamped-part v t at x (omega arith) head
    ∙ sym (rw (stamped-length x t head))
