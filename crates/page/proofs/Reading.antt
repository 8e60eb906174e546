-- A page's type, slots and tuples as code reads them, at their places in the page area or the page.
-- Assumes nothing.
use mathlib.Core.Path.{◌≡◌, sym, ◌∙◌}
use Prim.Native.Nat.{ℕ, ◌+◌, ◌*◌, ◌≤◌}
use native.Mathlib.Omega.{arith}
use mathlib.Core.List.{List}
use lib.ListN.{drop, get_or}
use lib.Seq.{get_or-drop}
use Rattle.endian.specs.Numbers.{part, number_at}
use Rattle.endian.proofs.Places.{number-take, number-drop, number-byte}
use Rattle.page.specs.Layout.{page_bytes, row_head, page_at, type_of, body_of, slot_off, slot_len, xmax_of, deleted_of}

-- the type of page i of an area
pub type_at : (s : List ℕ) (i : ℕ) → type_of (page_at i s) ≡ get_or s (i * page_bytes + 8) 0
type_at s i =
    number-take 1 8 page_bytes (drop (i * page_bytes) s) (omega arith) ∙ number-drop 1 8 (i * page_bytes) s ∙ number-byte (i * page_bytes + 8) s

-- a number of the body
pub body-number : (w at : ℕ) (p : List ℕ) → number_at w at (body_of p) ≡ number_at w (64 + at) p
body-number w at p = number-drop w at 64 p

pub off_at : (p : List ℕ) (k : ℕ) → number_at 2 (64 + 4 * k) p ≡ slot_off (body_of p) k
off_at p k = sym (body-number 2 (4 * k) p)

pub len-at : (p : List ℕ) (k : ℕ) → number_at 2 (66 + 4 * k) p ≡ slot_len (body_of p) k
len-at p k =
    let e : 66 + 4 * k ≡ 64 + (4 * k + 2) = omega arith in
    rw e (sym (body-number 2 (4 * k + 2) p))

-- the deleted byte of the tuple of n bytes at o of some bytes, and of a page's body
pub deleted-in : (s : List ℕ) (o n : ℕ) → row_head ≤ n → deleted_of (part o n s) ≡ get_or s (o + 16) 0
deleted-in s o n h = number-take 1 16 n (drop o s) (omega arith) ∙ number-drop 1 16 o s ∙ number-byte (o + 16) s

pub deleted-at : (p : List ℕ) (o n : ℕ) → row_head ≤ n → deleted_of (part o n (body_of p)) ≡ get_or p (80 + o) 0
deleted-at p o n h =
    let e : 64 + (o + 16) ≡ 80 + o = omega arith in
    deleted-in (body_of p) o n h ∙ rw (get_or-drop, e)

-- its xmax
pub xmax-at : (p : List ℕ) (o n : ℕ) → row_head ≤ n → xmax_of (part o n (body_of p)) ≡ number_at 8 (72 + o) p
xmax-at p o n h =
    let e : 64 + (o + 8) ≡ 72 + o = omega arith in
    number-take 8 8 n (drop o (body_of p)) (omega arith) ∙ number-drop 8 8 o (body_of p) ∙ body-number 8 (o + 8) p ∙ rw e
