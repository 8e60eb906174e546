-- What the entries and tuples of the cases keep: entries can be encoded, tuples are bytes.
-- Assumes nothing.
use mathlib.Core.Path.{◌≡◌, refl}
use mathlib.Core.Bool.{Bool, true, false}
use Prim.Native.Nat.{ℕ, suc, ◌+◌, ◌^◌, ◌≤◌, ◌<◌}
use native.Mathlib.Omega.{arith}
use native.Mathlib.Decide.{dec_le}
use mathlib.Core.List.{List, [], ◌∷◌}
use lib.ListN.{length, replicate, length-append, length-replicate}
use lib.Dec.{eqb, lit<}
use borrow.Author.Tests.{eqb-true}
use Rattle.endian.specs.Pick.{pick}
use Rattle.endian.specs.Numbers.{Bytes, bytes_of}
use Rattle.endian.proofs.Numbers.{length-bytes_of}
use Rattle.endian.proofs.Bytes.{bytes, bytes-nil, bytes-cons, bytes-append, bytes-of, bytes-zeros}
use Rattle.wal.specs.Entry.{Entry, Encodable, AllEncodable, unsealed, encoded, encoded_all, header}
use Rattle.page.specs.Layout.{longest_tuple}
use Rattle.rules.specs.Shape.{both, is_change, is_on, page_of, slot_of, top_on}
use Rattle.rules.specs.Mend.{top_of}
use Rattle.rules.proofs.OrderLaws.{Every}
use Rattle.cases.specs.Build.{entry, key, tuple, inserts, deletes, updates, log_of}

pub tuple-bytes : (n x : ℕ) → x < 256 → Bytes (tuple n x)
tuple-bytes n x h = bytes-append (bytes-zeros n) (bytes-cons h bytes-nil)

pub tuple-length : (n x : ℕ) → length (tuple n x) ≡ n + 1
tuple-length n x = omega (arith, length-append (replicate n 0) (x ∷ []), length-replicate {A = ℕ} n 0)

key-bytes : (i k : ℕ) → Bytes (key i k)
key-bytes i k = bytes-append (bytes-of 8 i) (bytes-of 2 k)

key-length : (i k : ℕ) → length (key i k) ≡ 10
key-length i k = omega (arith, length-append (bytes_of 8 i) (bytes_of 2 k), length-bytes_of 8 i, length-bytes_of 2 k)

-- Begin, Commit and Rollback
pub bare : (kind lsn t : ℕ) → kind < 256 → lsn < 2 ^ 64 → t < 2 ^ 64 → Encodable (entry kind lsn t [] [] [])
bare kind lsn t hk hl ht =
    record { lsn = hl; txn = ht; kind = hk; table = omega arith; short = omega arith; size = omega arith; key = bytes-nil; old = bytes-nil; new = bytes-nil }

module _ (lsn t i k : ℕ) (hl : lsn < 2 ^ 64) (ht : t < 2 ^ 64) where
  pub insertable : {v : List ℕ} → Bytes v → length v ≤ longest_tuple → Encodable (inserts lsn t i k v)
  insertable b h =
      record { lsn = hl; txn = ht; kind = omega arith; table = omega arith; short = omega (arith, key-length i k); size = omega (arith, key-length i k); key = key-bytes i k; old = bytes-nil; new = b }

  pub deletable : {v : List ℕ} → Bytes v → length v ≤ longest_tuple → Encodable (deletes lsn t i k v)
  deletable b h =
      record { lsn = hl; txn = ht; kind = omega arith; table = omega arith; short = omega (arith, key-length i k); size = omega (arith, key-length i k); key = key-bytes i k; old = b; new = bytes-nil }

  pub updatable : {v w : List ℕ} → Bytes v → Bytes w → length v + length w ≤ 32000 → Encodable (updates lsn t i k v w)
  updatable {v} {w} b c h =
      record {
        lsn = hl;
        txn = ht;
        kind = omega arith;
        table = omega arith;
        short = omega (arith, key-length i k);
        size = omega (arith, key-length i k, length-append (key i k) v, length-append (key i k) w);
        key = key-bytes i k;
        old = bytes-append (key-bytes i k) b;
        new = bytes-append (key-bytes i k) c;
      }

-- a log of them is bytes
bytes-encoded : (e : Entry) → Encodable e → Bytes (encoded e)
unfolding encoded unsealed
bytes-encoded e k =
    let x = k.key in
    let y = k.old in
    let z = k.new in
    search bytes depth 20

bytes-all : (es : List Entry) → AllEncodable es → Bytes (encoded_all es)
unfolding encoded_all
bytes-all [] h = bytes-nil
bytes-all (e ∷ es) h = bytes-append (bytes-encoded e h.0) (bytes-all es h.1)

bytes-header : Bytes header
unfolding header
bytes-header = bytes-append (bytes-cons (lit< tt) (bytes-cons (lit< tt) (bytes-cons (lit< tt) (bytes-cons (lit< tt) bytes-nil)))) (search bytes)

pub bytes-log : (es : List Entry) → AllEncodable es → Bytes (log_of es)
bytes-log es h = bytes-append bytes-header (bytes-all es h)

-- entries of the first n pages touch no other page
pub on-pages : (n : ℕ) (es : List Entry) → Every (λ e. page_of e < n) es → (i : ℕ) → 0 < top_of i es → i < n
unfolding top_of top_on is_on
on-pages n [] h i t = absurd (omega arith)
on-pages n (e ∷ es) h i t =
    elim (dec_le 1 (top_on i e)) [
      | yes l ↦ one (is_change e) (eqb (page_of e) i) refl l
      | no l ↦ on-pages n es h.1 i (omega arith)
    ]
  where
    one : (a b : Bool) → eqb (page_of e) i ≡ b → 0 < pick (both a b) (suc (slot_of e)) 0 → i < n
    one true true q l = omega (arith, eqb-true (page_of e) i q, h.0)
    one true false q l = absurd (omega arith)
    one false b q l = absurd (omega arith)
