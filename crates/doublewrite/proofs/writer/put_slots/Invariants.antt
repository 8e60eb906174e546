-- The slots of the pages passed are written.
use Rattle.std.proofs.Common.{◌≡◌, ◌*◌, take}
use Rattle.std.proofs.Math.Seq.{paste}
use Rattle.doublewrite.specs.File.{header_bytes, slot_bytes}
use Rattle.doublewrite.specs.Write.{slots_of}
use Rattle.doublewrite.proofs.writer.put_slots.Given as goal

abbrev pub invariant-loop-k : goal.invariant-loop-k
invariant-loop-k l = l.area ≡ paste l.initial.area header_bytes (slots_of l.pages (take l.k l.list)) (slot_bytes * l.k)
