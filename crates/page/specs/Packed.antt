-- The packed page: the bytes of a page with given identity, LSN and slot contents (paper 01, Which image wins).
use Rattle.std.specs.Prelude.{ℕ, zero, suc, ◌+◌, ◌*◌, ◌-◌, List, [], ◌∷◌, ◌++◌, length, replicate}
use Rattle.endian.specs.Numbers.{bytes_of}
use Rattle.crc32c.specs.Crc.{crc32c}
use Rattle.page.specs.Layout.{body_bytes}

-- what rewriting keeps of a page, and its LSN
pub record Head : Type 0 where
  pub magic : ℕ
  pub type : ℕ
  pub id : ℕ
  pub lsn : ℕ
  pub reserved : List ℕ

-- f 0, f 1, .. f (n - 1): slot contents as a list
abbrev pub tab : ℕ → (ℕ → List ℕ) → List (List ℕ)
tab zero f = []
tab (suc n) f = f zero ∷ tab n (λ k. f (suc k))

-- the bytes of all tuples
abbrev pub tuple_bytes : List (List ℕ) → ℕ
tuple_bytes [] = zero
tuple_bytes (t ∷ ss) = length t + tuple_bytes ss

-- what refusal 14 measures
abbrev pub room_for : List (List ℕ) → ℕ
room_for ss = 4 * length ss + tuple_bytes ss

-- the tuples as they stand at the body's end, slot 0's last
abbrev pub heap : List (List ℕ) → List ℕ
heap [] = []
heap (t ∷ ss) = heap ss ++ t

-- an empty slot's offset is 0
abbrev pub off_of : ℕ → ℕ → ℕ
off_of zero o = zero
off_of (suc n) o = o

-- slots of tuples of which the first ends at `top`, and each next where the one before starts
abbrev pub slot_bytes : ℕ → List ℕ → List ℕ
slot_bytes top t = bytes_of 2 (off_of (length t) (top - length t)) ++ bytes_of 2 (length t)

abbrev pub dir : ℕ → List (List ℕ) → List ℕ
dir top [] = []
dir top (t ∷ ss) = slot_bytes top t ++ dir (top - length t) ss

-- slots, a gap of zeros, tuples
unfoldable pub body : List (List ℕ) → List ℕ
body ss = dir body_bytes ss ++ (replicate (body_bytes - room_for ss) 0 ++ heap ss)

-- flags 0; item count, free start and free end to match; CRC anew
unfoldable pub packed : Head → List (List ℕ) → List ℕ
packed h ss =
    bytes_of 8 h.magic ++ (bytes_of 1 h.type ++ (bytes_of 1 0 ++ (bytes_of 2 (length ss) ++ (bytes_of 4 (crc32c (body ss))
    ++ (bytes_of 8 h.id ++ (bytes_of 8 h.lsn ++ (bytes_of 2 (4 * length ss) ++ (bytes_of 2 (body_bytes - tuple_bytes ss)
    ++ (h.reserved ++ body ss)))))))))
