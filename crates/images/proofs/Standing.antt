-- What bytes of a page stand for, as they are. Assumes nothing.
use Prim.Native.Nat.{ℕ, ◌+◌, ◌≤◌}
use mathlib.Core.Path.{◌≡◌, sym, ap, ◌∙◌}
use mathlib.Core.List.{List}
use lib.ListN.{length}
use Rattle.endian.specs.Numbers.{part}
use Rattle.crc32c.proofs.Runs.{part_length}
use Rattle.change.specs.declared.Image.{Image}
use Rattle.change.specs.Tuples.{tuple_in}
use Rattle.images.specs.Tuples.{paged, InPage}

module _ {s t : List ℕ} (a n : ℕ) (room : a + n ≤ length s) (short : n ≤ 16320) where
  pub in-page : {m : Image} → m ≡ paged a n → part a n s ≡ t → InPage s m t
  unfolding tuple_in
  in-page e f =
      rw e
      (record {
        stood = λ p. record {
          is = f;
          lies = record { within = room; short = short; headed = λ x q. cc };
          long = sym (part_length s a n room) ∙ ap length f;
        };
      })
