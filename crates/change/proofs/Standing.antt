-- What bytes of the log stand for, as they are or deleted. Assumes nothing.
use Prim.Native.Nat.{ℕ, ◌+◌, ◌≤◌}
use mathlib.Core.Path.{◌≡◌, refl, sym, ap, ◌∙◌}
use mathlib.Core.List.{List}
use native.Mathlib.Omega.{arith}
use Rattle.endian.specs.declared.TxnNumber.{TxnNumber}
use lib.ListN.{length}
use Rattle.endian.specs.Numbers.{part}
use Rattle.crc32c.proofs.Runs.{part_length}
use Rattle.rules.specs.Shape.{stamped}
use Rattle.rules.proofs.ImageLaws.{stamped-length}
use Rattle.change.specs.declared.Image.{Image}
use Rattle.change.specs.Tuples.{tuple_in, logged, deleted, InLog}

module _ {s t : List ℕ} (a n : ℕ) (room : a + n ≤ length s) (short : n ≤ 16320) where
  pub in-log : {m : Image} → m ≡ logged a n → part a n s ≡ t → InLog s m t
  unfolding tuple_in
  in-log e f =
      rw e
      (record {
        stood = λ p. record {
          is = f;
          lies = record { within = room; short = short; headed = λ x q. cc };
          long = sym (part_length s a n room) ∙ ap length f;
        };
      })

  pub in-log-deleted : (x : TxnNumber) {m : Image} → 24 ≤ n → m ≡ deleted a n x → stamped x.0 (part a n s) ≡ t → InLog s m t
  unfolding tuple_in
  in-log-deleted x h e f =
      let l = part_length s a n room in
      rw e
      (record {
        stood = λ p. record {
          is = f;
          lies = record { within = room; short = short; headed = λ y q. (refl, h) };
          long = sym (stamped-length x.0 (part a n s) (omega arith) ∙ l) ∙ ap length f;
        };
      })
