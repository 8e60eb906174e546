-- An image's bytes, beside n bytes of a page. Assumes nothing.
use Prim.Native.Nat.{ℕ, ◌+◌, ◌-◌, ◌≤◌}
use mathlib.Core.Path.{◌≡◌, refl, sym, ap, ap₂, ◌∙◌}
use mathlib.Core.Bool.{false}
use mathlib.Core.List.{List}
use native.Mathlib.Omega.{arith}
use lib.ListN.{length, take, drop}
use Rattle.std.specs.Prelude.{Option, None, Some}
use Rattle.endian.specs.Numbers.{part}
use Rattle.endian.specs.declared.TxnNumber.{TxnNumber}
use Rattle.rules.specs.Shape.{same, stamped}
use Rattle.rules.proofs.ImageLaws.{stamped-length}
use Rattle.change.specs.declared.Image.{Image}
use Rattle.change.specs.Tuples.{source_in, Lies, tuple_in}
use Rattle.mend.proofs.Tuples.{bytes-long, plain-tuple}
use Rattle.audit.proofs.Sameness.{part-long, same-lengths}

module _ {s p : List ℕ} {m : Image} (l : Lies s p m) where
  -- its length is its tuple's
  tuple-length : length (tuple_in s p m) ≡ m.length
  unfolding tuple_in
  tuple-length = go m.deleted_by refl
    where
      long : length (part m.place m.length (source_in s p m.source)) ≡ m.length
      long = part-long m.place m.length (source_in s p m.source) l.within

      go : (o : Option TxnNumber) → m.deleted_by ≡ o → length (tuple_in s p m) ≡ m.length
      go (Some x) a = rw a (stamped-length x.0 (part m.place m.length (source_in s p m.source)) (omega (arith, long, (l.headed x a).1)) ∙ long)
      go None a = rw a long

  module _ (q : List ℕ) (at n : ℕ) where
    pub tuple-other : at + n ≤ length q → (m.length ≡ n → ⊥) → false ≡ same (tuple_in s p m) (part at n q)
    tuple-other r h = same-lengths (tuple_in s p m) (part at n q) (λ e. h (sym tuple-length ∙ e ∙ part-long at n q r))

    -- as code cuts them
    cut-q : take (at + n - at) (drop at q) ≡ part at n q
    cut-q = let z : at + n - at ≡ n = omega arith in rw z

    module _ {b : List ℕ} (is : b ≡ part m.place m.length (source_in s p m.source)) where
      pub tuple-plain : m.deleted_by ≡ None → same b (take (at + n - at) (drop at q)) ≡ same (tuple_in s p m) (part at n q)
      tuple-plain h = ap₂ same (plain-tuple l is h) cut-q

      module _ (x : TxnNumber) (h : m.deleted_by ≡ Some x) where
        pub tuple-stamped : same (stamped x.0 b) (take (at + n - at) (drop at q)) ≡ same (tuple_in s p m) (part at n q)
        unfolding tuple_in
        tuple-stamped = ap₂ same (ap (stamped x.0) is ∙ sym (rw h)) cut-q

        pub cut-long : 24 ≤ length b
        cut-long = omega (arith, bytes-long l is, (l.headed x h).1)

      pub cut-lengths : at + n ≤ length q → m.length ≡ n → length b ≡ length (take (at + n - at) (drop at q))
      cut-lengths r e = bytes-long l is ∙ e ∙ sym (ap length cut-q ∙ part-long at n q r)
