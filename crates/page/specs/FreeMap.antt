-- The map of free pages (paper 01, Numbers given back).
use Rattle.std.specs.Prelude.{ℕ, zero, suc, ◌+◌, ◌*◌, ◌/◌, List, [], ◌∷◌, ◌++◌, Result, length, drop, ltb, eqb}
use Rattle.std.specs.Int.Count.{ones}
use Rattle.refusals.specs.Refusal.{map_short}
use Rattle.endian.specs.Pick.{pick}
use Rattle.page.specs.Layout.{free_type, pages_in, page_at, type_of}
use Rattle.refusals.specs.Verdict.{verdict, accepted, answered}
use Rattle.page.specs.Fault.{verdict_of}
use Rattle.refusals.specs.declared.Verdict.{Verdict}

-- 1 where page i is lent and has type 4, else 0
unfoldable pub free_bit : List ℕ → ℕ → ℕ
free_bit s i = pick (ltb i (pages_in s)) (pick (eqb (type_of (page_at i s)) free_type) 1 0) 0

-- the n bits from page i on as one number, the lowest first
unfoldable pub bits : List ℕ → ℕ → ℕ → ℕ
bits s zero i = 0
bits s (suc n) i = free_bit s i + 2 * bits s n (suc i)

-- n bytes of the map, from page i on
unfoldable pub map_bytes : List ℕ → ℕ → ℕ → List ℕ
map_bytes s zero i = []
map_bytes s (suc n) i = bits s 8 i ∷ map_bytes s n (i + 8)

-- how many bits of a list of bytes are 1
unfoldable pub ones_of : List ℕ → ℕ
ones_of [] = 0
ones_of (b ∷ bs) = ones b + ones_of bs

-- a bit for each page, in whole bytes
abbrev pub map_length : List ℕ → ℕ
map_length s = (pages_in s + 7) / 8

-- how many of the n pages from i on are free
unfoldable pub free_pages : List ℕ → ℕ → ℕ → ℕ
free_pages s zero i = 0
free_pages s (suc n) i = free_bit s i + free_pages s n (suc i)

-- refused as verification refuses, then by 16 where the map is too short
unfoldable pub map_verdict : ℕ → List ℕ → List ℕ → Verdict
map_verdict magic s map =
    pick (eqb (verdict_of magic s).number 0)
    (pick (ltb (length map) (map_length s)) (verdict map_short 0) accepted)
    (verdict_of magic s)

-- what the lent map then holds: the needed bytes and its later ones as they were; refused, all as lent
unfoldable pub map_after : ℕ → List ℕ → List ℕ → List ℕ
map_after magic s map =
    pick (eqb (map_verdict magic s map).number 0)
    (map_bytes s (map_length s) 0 ++ drop (map_length s) map)
    map

-- the count that is given back; refused, none
unfoldable pub free_count : ℕ → List ℕ → List ℕ → Result ℕ Verdict
free_count magic s map = answered (map_verdict magic s map) (free_pages s (pages_in s) 0)
