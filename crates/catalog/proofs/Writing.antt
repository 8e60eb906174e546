-- A row written store by store, and the whole answer.
-- Assumes nothing.
use mathlib.Core.Path.{◌≡◌, refl, ap, ◌∙◌}
use mathlib.Core.Bool.{true}
use Prim.Native.Nat.{ℕ, ◌+◌, ◌≤◌}
use native.Mathlib.Omega.{arith}
use mathlib.Core.List.{List, ◌++◌}
use lib.ListN.{length, drop, length-append}
use lib.Seq.{paste, take_all}
use lib.Dec.{leb}
use borrow.Author.Tests.{leb-true}
use Rattle.refusals.specs.Verdict.{accepted}
use Rattle.endian.specs.Numbers.{bytes_of}
use Rattle.endian.proofs.Numbers.{length-bytes_of}
use Rattle.endian.proofs.Stores.{first, more, number}
use Rattle.page.proofs.Picks.{both}
use Rattle.catalog.specs.TableRows.{name_bytes, row_bytes, row_length, has_room, write_answer, area_after}

-- ---- stores

length-name : (name : List ℕ) → length (name_bytes name) ≡ 1 + length name
length-name name = length-append (bytes_of 1 (length name)) name ∙ omega (arith, length-bytes_of 1 (length name))

pub name-stored : (d w1 w2 name : List ℕ) (at : ℕ) → at + 1 + length name ≤ length d → w1 ≡ paste d at (bytes_of 1 (length name)) 1 → w2 ≡ paste w1 (at + 1) name (length name)
    → w2 ≡ paste d at (name_bytes name) (1 + length name)
name-stored d w1 w2 name at r e1 e2 =
    (more (first d w1 (bytes_of 1 (length name)) at 1 (length-bytes_of 1 (length name)) (omega arith) e1) w2 name (length name) refl (omega arith) e2).is

-- what is stored at the front stands in front of the rest
at_front : (d a : List ℕ) (n : ℕ) → length a ≡ n → paste d 0 a n ≡ a ++ drop n d
at_front d a n l = let z : 0 + n ≡ n = omega arith in rw (take_all n a (omega arith), z)

module _ (d schema name : List ℕ) (table root layout version : ℕ) (room : row_length (length schema) (length name) ≤ length d) where
  pub row-stored : (w1 w2 w3 w4 w5 w6 : List ℕ) (at end : ℕ) → at ≡ 13 + length schema → end ≡ at + 1 + length name
      → w1 ≡ paste d 0 (bytes_of 4 table) 4 → w2 ≡ paste w1 4 (bytes_of 8 root) 8 → w3 ≡ paste w2 12 (name_bytes schema) (1 + length schema)
      → w4 ≡ paste w3 at (name_bytes name) (1 + length name) → w5 ≡ paste w4 end (bytes_of 1 layout) 1 → w6 ≡ paste w5 (end + 1) (bytes_of 8 version) 8
      → w6 ≡ row_bytes table root schema name layout version ++ drop (row_length (length schema) (length name)) d
  unfolding row_bytes
  row-stored w1 w2 w3 w4 w5 w6 at end ea ee e1 e2 e3 e4 e5 e6 =
      let a4 : at ≡ 0 + (4 + 8 + (1 + length schema)) = omega arith in
      let a5 : end ≡ 0 + (4 + 8 + (1 + length schema) + (1 + length name)) = omega arith in
      let a6 : end + 1 ≡ 0 + (4 + 8 + (1 + length schema) + (1 + length name) + 1) = omega arith in
      let s1 = first d w1 (bytes_of 4 table) 0 4 (length-bytes_of 4 table) (omega arith) e1 in
      let s2 = number s1 w2 8 root (omega arith) e2 in
      let s3 = more s2 w3 (name_bytes schema) (1 + length schema) (length-name schema) (omega arith) e3 in
      let s4 = more s3 w4 (name_bytes name) (1 + length name) (length-name name) (omega arith) (rw a4 at e4) in
      let s5 = number s4 w5 1 layout (omega arith) (rw a5 at e5) in
      let s6 = number s5 w6 8 version (omega arith) (rw a6 at e6) in
      let z : 4 + 8 + (1 + length schema) + (1 + length name) + 1 + 8 ≡ row_length (length schema) (length name) = omega arith in
      s6.is ∙ at_front d _ _ s6.long ∙ ap (λ (n : ℕ). row_bytes table root schema name layout version ++ drop n d) z

-- ---- room

pub room-is : (s n a : ℕ) → has_room s n a ≡ true → (s ≤ 255) × (n ≤ 255) × (row_length s n ≤ a)
unfolding has_room
room-is s n a e =
    let p = both (leb s 255) _ e in
    let q = both (leb n 255) _ p.1 in
    (leb-true _ _ p.0, leb-true _ _ q.0, leb-true _ _ q.1)

-- ---- the whole answer

-- what is answered of a row that was written, and what the area then holds
module _ (table root : ℕ) (schema name : List ℕ) (layout version : ℕ) (area : List ℕ) where
  pub row_written : leb layout 1 ≡ true → has_room (length schema) (length name) (length area) ≡ true
      → (record { verdict = accepted; length = row_length (length schema) (length name) } ≡ write_answer schema name layout area)
      × (row_bytes table root schema name layout version ++ drop (row_length (length schema) (length name)) area ≡ area_after table root schema name layout version area)
  unfolding write_answer area_after
  row_written l r = (rw (l, r), rw (l, r))
