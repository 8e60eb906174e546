-- Internal: what the writer of packed pages leaves in its working page, step by step.
use Rattle.std.specs.Prelude.{ℕ, ◌+◌, ◌*◌, ◌-◌, List, ◌++◌, length}
use Rattle.std.proofs.Math.Seq.{paste}
use Rattle.endian.specs.Numbers.{bytes_of}
use Rattle.crc32c.specs.Crc.{crc32c}
use Rattle.page.specs.Layout.{head_bytes}
use Rattle.page.specs.Packed.{Head, slot_bytes}
use Rattle.page.specs.declared.PageHead.{PageHead}

-- w with the four bytes of slot k, and its tuple t, which ends at `top` of the body
unfoldable pub with_slot : List ℕ → ℕ → ℕ → List ℕ → List ℕ
with_slot w k top t = paste (paste w (head_bytes + 4 * k) (slot_bytes top t) 4) (head_bytes + (top - length t)) t (length t)

-- the header's bytes before the page id, and from there on
unfoldable pub front_of : ℕ → ℕ → ℕ → ℕ → List ℕ
front_of magic type n crc = bytes_of 8 magic ++ (bytes_of 1 type ++ (bytes_of 1 0 ++ (bytes_of 2 n ++ bytes_of 4 crc)))

unfoldable pub back_of : ℕ → ℕ → ℕ → ℕ → List ℕ → List ℕ
back_of id lsn n end reserved = bytes_of 8 id ++ (bytes_of 8 lsn ++ (bytes_of 2 (4 * n) ++ (bytes_of 2 end ++ reserved)))

abbrev pub head_of : PageHead → List ℕ → Head
head_of h reserved = record { magic = h.magic; type = h.kind; id = h.id.0; lsn = h.lsn.0; reserved = reserved }

-- the body b of n slots under its header
abbrev pub sealed : Head → ℕ → ℕ → List ℕ → List ℕ
sealed h n end b = front_of h.magic h.type n (crc32c b) ++ (back_of h.id h.lsn n end h.reserved ++ b)
