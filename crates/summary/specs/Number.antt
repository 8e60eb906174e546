-- Numbers in groups of seven bits, lowest group first, the high bit set on all groups but the last, in the fewest groups (paper 02, W6).
use Rattle.std.specs.Prelude.{ℕ, zero, suc, ◌+◌, ◌*◌, ◌/◌, ◌%◌, ◌^◌, List, [], ◌∷◌, Bool, true, length, take, drop, ltb, leb}
use Rattle.endian.specs.Pick.{pick}
use Rattle.refusals.specs.Refusal.{summary_ends_early, summary_spelling}

-- ---- writing

-- n in at most w groups: its lowest group, then the rest as a smaller number of the same kind
unfoldable pub groups_in : ℕ → ℕ → List ℕ
groups_in zero n = []
groups_in (suc w) n = pick (ltb n 128) (n ∷ []) ((128 + n % 128) ∷ groups_in w (n / 128))

-- n in the fewest groups, which are at most n + 1
unfoldable pub groups : ℕ → List ℕ
groups n = groups_in (suc n) n

-- ---- reading

-- how many bytes with the high bit set stand first
unfoldable pub continued : List ℕ → ℕ
continued [] = zero
continued (b ∷ t) = pick (ltb b 128) zero (suc (continued t))

-- the groups of the number that stands first: those bytes and the one behind them
unfoldable pub spelling : List ℕ → List ℕ
spelling t = take (suc (continued t)) t

-- the number that groups are
unfoldable pub value_of : List ℕ → ℕ
value_of [] = zero
value_of (b ∷ g) = b % 128 + 128 * value_of g

-- the number at place p of a file, and the place after it
unfoldable pub value_at : List ℕ → ℕ → ℕ
value_at f p = value_of (spelling (drop p f))

unfoldable pub after_at : List ℕ → ℕ → ℕ
after_at f p = p + length (spelling (drop p f))

-- 28: the file ends before the number's last group
unfoldable pub ends_early : List ℕ → Bool
ends_early t = leb (length t) (continued t)

-- 29: more groups than the fewest, or a number over 64 bits
unfoldable pub misspelt : List ℕ → Bool
misspelt g = pick (ltb (length (groups (value_of g))) (length g)) true (leb (2 ^ 64) (value_of g))

-- what the number at place p is refused by, 0 for nothing: 28, 29, then what a rule says of the number
unfoldable pub refusal_at : (ℕ → ℕ) → List ℕ → ℕ → ℕ
refusal_at rule f p =
    pick (ends_early (drop p f)) summary_ends_early
    (pick (misspelt (spelling (drop p f))) summary_spelling
    (rule (value_at f p)))

-- the rule that every number keeps
abbrev pub any_number : ℕ → ℕ
any_number n = 0
