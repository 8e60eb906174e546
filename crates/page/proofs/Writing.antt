-- What a writer of packed pages needs: a turn of its loop takes the body of the first k slots to the body of k + 1.
-- Assumes nothing.
use mathlib.Core.Path.{◌≡◌, refl, sym, ap, ◌∙◌}
use Prim.Native.Nat.{ℕ, suc, ◌+◌, ◌-◌, ◌*◌, ◌≤◌}
use native.Mathlib.Omega.{arith}
use mathlib.Core.List.{List, [], ◌∷◌, ◌++◌, append_assoc, append-nil}
use lib.ListN.{length, take, drop, replicate, length-append, length-replicate, replicate-append-replicate}
use lib.Seq.{take_at, drop_at, take-length, paste}
use Rattle.endian.specs.Numbers.{bytes_of}
use Rattle.page.specs.Layout.{body_bytes}
use Rattle.page.specs.Packed.{body, dir, heap, slot_bytes, tuple_bytes, room_for, tab}
use Rattle.page.proofs.Slots.{length-dir}
use Rattle.page.proofs.Tables.{length-tab, tab-snoc, tuple_bytes-snoc}

pub heap-snoc : (ss : List (List ℕ)) (t : List ℕ) → heap (ss ++ (t ∷ [])) ≡ t ++ heap ss
heap-snoc [] t = sym (append-nil t)
heap-snoc (s ∷ ss) t = rw (heap-snoc ss t) (append_assoc t (heap ss) s)

pub dir-snoc : (top : ℕ) (ss : List (List ℕ)) (t : List ℕ) → dir top (ss ++ (t ∷ [])) ≡ dir top ss ++ slot_bytes (top - tuple_bytes ss) t
dir-snoc top [] t = let e : top - 0 ≡ top = omega arith in rw e (append-nil (slot_bytes top t))
dir-snoc top (s ∷ ss) t =
    let e : top - (length s + tuple_bytes ss) ≡ top - length s - tuple_bytes ss = omega arith in
    rw (dir-snoc (top - length s) ss t, e) (sym (append_assoc (slot_bytes top s) (dir (top - length s) ss) (slot_bytes (top - length s - tuple_bytes ss) t)))

pub paste-at : (p o q s : List ℕ) (at n : ℕ) → length p ≡ at → length o ≡ n → length s ≡ n → paste (p ++ (o ++ q)) at s n ≡ p ++ (s ++ q)
paste-at p o q s at n e f g =
    let d : drop (at + n) (p ++ (o ++ q)) ≡ q = rw (← append_assoc) (drop_at (p ++ o) q (at + n) (omega (arith, length-append p o))) in
    let t : take n s ≡ s = rw (← g) (take-length s) in
    rw (take_at p (o ++ q) at e, t, d) (append_assoc p s q)

-- a turn of the loop: the slot's four bytes, and then the tuple
pub body-step : (ss : List (List ℕ)) (t : List ℕ) → 4 * length ss + 4 + tuple_bytes ss + length t ≤ body_bytes
    → paste (paste (body ss) (4 * length ss) (slot_bytes (body_bytes - tuple_bytes ss) t) 4) (body_bytes - tuple_bytes ss - length t) t (length t)
    ≡ body (ss ++ (t ∷ []))
unfolding body bytes_of
body-step ss t f =
    let g : ℕ = body_bytes - (4 * length ss + 4 + tuple_bytes ss + length t) in
    let s : List ℕ = slot_bytes (body_bytes - tuple_bytes ss) t in
    let D : List ℕ = dir body_bytes ss in
    let H : List ℕ = heap ss in
    let z : body_bytes - room_for ss ≡ 4 + (g + length t) = omega arith in
    let z' : body_bytes - room_for (ss ++ (t ∷ [])) ≡ g = omega (arith, tuple_bytes-snoc ss t, length-append ss (t ∷ [])) in
    let lay : body ss ≡ D ++ (replicate 4 0 ++ (replicate g 0 ++ (replicate (length t) 0 ++ H))) =
    rw (z, ← replicate-append-replicate {A = ℕ} 4 (g + length t) 0, ← replicate-append-replicate {A = ℕ} g (length t) 0) (simp append_assoc) in
    let one : paste (body ss) (4 * length ss) s 4 ≡ D ++ (s ++ (replicate g 0 ++ (replicate (length t) 0 ++ H))) =
    rw lay (paste-at D (replicate 4 0) _ s (4 * length ss) 4 (length-dir body_bytes ss) refl refl) in
    let two : D ++ (s ++ (replicate g 0 ++ (replicate (length t) 0 ++ H))) ≡ ((D ++ s) ++ replicate g 0) ++ (replicate (length t) 0 ++ H) = simp append_assoc in
    ap (λ (b : List ℕ). paste b (body_bytes - tuple_bytes ss - length t) t (length t)) (one ∙ two)
    ∙ paste-at ((D ++ s) ++ replicate g 0) (replicate (length t) 0) H t (body_bytes - tuple_bytes ss - length t) (length t)
    (omega (arith, length-append (D ++ s) (replicate g 0), length-append D s, length-dir body_bytes ss, length-replicate {A = ℕ} g 0)) (length-replicate (length t) 0) refl
    ∙ sym (rw (z', dir-snoc body_bytes ss t, heap-snoc ss t) (simp append_assoc))

pub tab-step : (k : ℕ) (f : ℕ → List ℕ) (top : ℕ) → 4 * k + 4 + tuple_bytes (tab k f) + length (f k) ≤ body_bytes → top ≡ body_bytes - tuple_bytes (tab k f)
    → paste (paste (body (tab k f)) (4 * k) (slot_bytes top (f k)) 4) (top - length (f k)) (f k) (length (f k)) ≡ body (tab (suc k) f)
tab-step k f top h e =
    let l : length (tab k f) ≡ k = length-tab k f in
    rw (tab-snoc k f, ← body-step (tab k f) (f k) (omega arith), l, e)
