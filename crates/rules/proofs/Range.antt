-- The numbers and bytes of the entries of a log of bytes are in range.
-- Assumes nothing.
use mathlib.Core.Path.{ap}
use Prim.Native.Nat.{ℕ, ◌+◌}
use mathlib.Core.List.{List, map}
use Rattle.endian.specs.Numbers.{Bytes}
use Rattle.endian.proofs.Bytes.{number-range, bytes_take, bytes_drop}
use Rattle.wal.specs.Entry.{entry_of}
use Rattle.wal.specs.Read.{first, view}
use Rattle.wal.specs.Walk.{entries}
use Rattle.wal.specs.declared.EntryView.{EntryView}
use Rattle.wal.proofs.WalkLaws.{EntryAt, entry_at, Walk, done, step, walk}
use Rattle.rules.proofs.OrderLaws.{Every}
use Rattle.rules.proofs.ImageLaws.{InRange}

entry-in-range : (s : List ℕ) (p : ℕ) {v : EntryView} → Bytes s → EntryAt s p v → InRange (entry_of s v)
unfolding entry_of view
entry-in-range s p {v} b k =
    record {
      lsn = rw (ap (λ (x : EntryView). x.lsn.0) k.is) (number-range 8 (p + 4) b);
      txn = rw (ap (λ (x : EntryView). x.txn.0) k.is) (number-range 8 (p + 12) b);
      key = bytes_take v.key_len (bytes_drop (v.place + 27) b);
      old = bytes_take v.old_len (bytes_drop (v.place + (31 + v.key_len)) b);
      new = bytes_take v.new_len (bytes_drop (v.place + (35 + v.key_len + v.old_len)) b);
    }

walk-in-range : {s : List ℕ} {p : ℕ} {vs : List EntryView} → Bytes s → Walk s p vs → Every InRange (map (entry_of s) vs)
walk-in-range b (done n) = tt
walk-in-range {s} {p} b (step q w) = (entry-in-range s p b (entry_at s p q), walk-in-range b w)

pub in-range : (s : List ℕ) → Bytes s → Every InRange (entries s)
in-range s b = walk-in-range b (walk s first)
