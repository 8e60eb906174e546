-- The tuple that an image stands for, as code cuts it out.
-- Assumes nothing.
use mathlib.Core.Path.{◌≡◌, ap, ◌∙◌}
use Prim.Native.Nat.{ℕ, ◌+◌, ◌-◌, ◌*◌, ◌≤◌}
use native.Mathlib.Omega.{arith}
use mathlib.Core.List.{List}
use lib.ListN.{length, drop, length-drop}
use lib.Seq.{paste, length-take-le}
use Rattle.std.specs.Prelude.{None, Some}
use Rattle.endian.specs.Numbers.{part, bytes_of}
use Rattle.endian.specs.declared.TxnNumber.{TxnNumber}
use Rattle.page.specs.Layout.{page_bytes, body_bytes, head_bytes}
use Rattle.page.specs.Writer.{with_slot}
use Rattle.rules.specs.Shape.{stamped}
use Rattle.change.specs.declared.Image.{Image}
use Rattle.change.specs.Tuples.{source_in, tuple_in, Lies}
use Rattle.mend.proofs.Stamping.{stamped-slot}

-- b are the image's bytes
module _ {s p : List ℕ} {m : Image} (l : Lies s p m) {b : List ℕ} (is : b ≡ part m.place m.length (source_in s p m.source)) where
  pub bytes-long : length b ≡ m.length
  bytes-long = ap length is ∙ length-take-le m.length (drop m.place (source_in s p m.source)) (simp length-drop (omega (arith, l.within)))

  pub plain-tuple : m.deleted_by ≡ None → b ≡ tuple_in s p m
  unfolding tuple_in
  plain-tuple h = rw h is

  module _ (x : TxnNumber) (h : m.deleted_by ≡ Some x) where
    stamped-bytes : stamped x.0 b ≡ tuple_in s p m
    unfolding tuple_in
    stamped-bytes = rw h (ap (stamped x.0) is)

    -- put in its slot, and then stamped
    pub stamped-tuple : (d w1 w2 : List ℕ) (k top start : ℕ) → length d ≡ page_bytes → 4 * k + 4 + m.length ≤ top → top ≤ body_bytes → start ≡ top - length b
        → w1 ≡ with_slot d k top b → w2 ≡ paste (paste w1 (head_bytes + start + 8) (bytes_of 8 x.0) 8) (head_bytes + start + 16) (bytes_of 1 1) 1
        → w2 ≡ with_slot d k top (tuple_in s p m)
    stamped-tuple d w1 w2 k top start ld room low es e1 e2 =
        stamped-slot d b w1 w2 k top x.0 ld (omega (arith, bytes-long)) low (omega (arith, bytes-long, (l.headed x h).1)) e1 (rw es at e2)
        ∙ ap (with_slot d k top) stamped-bytes
