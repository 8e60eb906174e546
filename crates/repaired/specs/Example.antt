-- The pages of the example history, of which page 1 is torn, and a double-write file of both as they stood: page 0 is kept, page 1 taken from its copy.
use Rattle.std.specs.Prelude.{ℕ, List, [], ◌∷◌, ◌++◌, eqb}
use Rattle.std.proofs.Math.Seq.{paste}
use Rattle.endian.specs.Pick.{pick}
use Rattle.endian.specs.Numbers.{bytes_of}
use Rattle.crc32c.specs.Crc.{crc32c}
use Rattle.page.specs.Layout.{page_at, body_of}
use Rattle.doublewrite.specs.Write.{file_of}
use Rattle.cases.specs.Example.{stood}

-- another number
abbrev pub other : ℕ → ℕ
other n = pick (eqb n 0) 1 0

-- a page with another checksum
unfoldable pub tear : List ℕ → List ℕ
tear p = paste p 12 (bytes_of 4 (other (crc32c (body_of p)))) 4

unfoldable pub torn_pages : List ℕ
torn_pages = page_at 0 stood ++ tear (page_at 1 stood)

abbrev pub both : List ℕ
both = 0 ∷ 1 ∷ []

abbrev pub copies : List ℕ
copies = file_of stood both
