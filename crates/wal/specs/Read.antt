-- What stands at a place of a log, forward and backward (paper 01, Log; paper 02, W11).
use Rattle.std.specs.Prelude.{ℕ, ◌+◌, ◌-◌, List, [], ◌∷◌, Bool, true, false, length, drop, ltb, leb, eqb, Option, Some, None}
use Rattle.refusals.specs.Refusal.{log_too_long, log_header}
use Rattle.endian.specs.Pick.{pick}
use Rattle.endian.specs.Numbers.{part, number_of, number_at}
use Rattle.crc32c.specs.Crc.{crc32c}
use Rattle.wal.specs.Entry.{mark}
use Rattle.wal.specs.declared.EntryView.{EntryView}
use Rattle.wal.specs.declared.Reading.{Reading}
use Rattle.wal.specs.declared.Reading.TheVariants.{Whole, End, Torn, Unused, Damage}

-- ---- limits

-- refusal 2: a log of more bytes
abbrev pub log_limit : ℕ
log_limit = 16777216

-- an entry has at least its fixed parts, and at most as many bytes
abbrev pub shortest : ℕ
shortest = 43

abbrev pub longest : ℕ
longest = 32705

-- the first entry stands behind the file header
abbrev pub first : ℕ
first = 32

-- ---- the fields of the entry at p
abbrev pub length_at : List ℕ → ℕ → ℕ
length_at s p = number_at 4 p s

abbrev pub key_len : List ℕ → ℕ → ℕ
key_len s p = number_at 2 (p + 25) s

abbrev pub old_len : List ℕ → ℕ → ℕ
old_len s p = number_at 4 (p + (27 + key_len s p)) s

abbrev pub new_len : List ℕ → ℕ → ℕ
new_len s p = number_at 4 (p + (31 + key_len s p + old_len s p)) s

-- the entry of n bytes at p whose key, old and new value have k, o and w bytes
abbrev pub fields : List ℕ → ℕ → ℕ → ℕ → ℕ → ℕ → EntryView
fields s p n k o w =
    record {
      place = p;
      length = n;
      lsn = record { 0 = number_at 8 (p + 4) s };
      txn = record { 0 = number_at 8 (p + 12) s };
      kind = number_at 1 (p + 20) s;
      table = number_at 4 (p + 21) s;
      key_len = k;
      old_len = o;
      new_len = w;
    }

unfoldable pub view : List ℕ → ℕ → ℕ → EntryView
view s p n = fields s p n (key_len s p) (old_len s p) (new_len s p)

-- ---- the n bytes at p as an entry: whole where both its lengths are n, its CRC is right and its inner lengths sum to n; else damage
unfoldable pub inner_at : List ℕ → ℕ → ℕ → Reading
inner_at s p n = pick (eqb (43 + key_len s p + old_len s p + new_len s p) n) (Whole (view s p n)) Damage

unfoldable pub whole_at : List ℕ → ℕ → ℕ → Reading
whole_at s p n =
    pick (eqb (length_at s p) n)
    (pick (eqb (number_at 4 (p + (n - 4)) s) n)
    (pick (eqb (number_at 4 (p + (n - 8)) s) (crc32c (part p (n - 8) s)))
    (inner_at s p n)
    Damage)
    Damage)
    Damage

-- all bytes are zero
unfoldable pub all_zero : List ℕ → Bool
all_zero [] = true
all_zero (b ∷ bs) = pick (eqb b 0) (all_zero bs) false

-- reading forward at p: no byte left, or a place before the first entry, ends the log; 1 to 3 bytes left are a torn tail; where 4 or more are left and all are zero
-- the log ends unused; a length out of bounds is damage, so a zero length with any later non-zero byte is; a length above what is left is a torn tail
unfoldable pub read_at : List ℕ → ℕ → Reading
read_at s p =
    pick (ltb p first) End
    (pick (leb (length s) p) End
    (pick (ltb (length s - p) 4) Torn
    (pick (all_zero (drop p s)) Unused
    (pick (ltb (length_at s p) shortest) Damage
    (pick (ltb longest (length_at s p)) Damage
    (pick (ltb (length s - p) (length_at s p)) Torn
    (whole_at s p (length_at s p))))))))

-- the entry of a reading, if it is one
abbrev pub found : Reading → Option EntryView
found (Whole v) = Some v
found End = None
found Torn = None
found Unused = None
found Damage = None

-- the length that stands at the end of an entry that ends at p
abbrev pub length_before : List ℕ → ℕ → ℕ
length_before s p = number_at 4 (p - 4) s

-- a step backward from p: the entry that ends there and is whole, never reaching before the first entry
unfoldable pub read_before : List ℕ → ℕ → Option EntryView
read_before s p =
    pick (ltb p (first + 4)) None
    (pick (ltb (length s) p) None
    (pick (ltb (length_before s p) shortest) None
    (pick (ltb longest (length_before s p)) None
    (pick (ltb (p - first) (length_before s p)) None
    (found (whole_at s (p - length_before s p) (length_before s p)))))))

-- ---- the file header: refusal 2 where the log is too long, 3 where its header is short or wrong, else 0
unfoldable pub header_fault : List ℕ → ℕ
header_fault s =
    pick (ltb log_limit (length s)) log_too_long
    (pick (ltb (length s) first) log_header
    (pick (eqb (number_at 4 0 s) (number_of mark))
    (pick (eqb (number_at 2 4 s) 1) 0 log_header)
    log_header))
