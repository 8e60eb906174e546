-- Only the algorithm needs this: a block of places, sorted by mark; and the least pair of places with the same mark.
use Rattle.std.specs.Prelude.{ℕ, ◌+◌, ◌*◌, ◌≤◌, ◌<◌, ◌≡◌, ◌⊎◌, Bool, false, List, [], ◌∷◌, ◌++◌, Option, Some, None, length, get_or, take, eqb, leb}
use Rattle.endian.specs.Pick.{pick}
use Rattle.intake.specs.Places.{mark_at, places_from, Has, Same, Places}
use Rattle.intake.specs.declared.pairs.Block.{Block}
use Rattle.intake.specs.declared.pairs.Pair.{Pair}

-- ---- sorting by mark, and places of one mark by themselves

unfoldable pub rank_at : List ℕ → ℕ → ℕ
rank_at s x = 18446744073709551616 * mark_at s x + x

pub record Sorted (k : ℕ → ℕ) (l : List ℕ) : Type 0 where
  pub at : (i j : ℕ) → i < j → j < length l → k (get_or l i 0) ≤ k (get_or l j 0)

-- r is l, sorted
pub record Ordered (k : ℕ → ℕ) (l r : List ℕ) : Type 0 where
  pub same : Same l r
  pub sorted : Sorted k r

-- ---- a block

-- the places from slot k of page i on: those of the block, which stand in a, and the others, to go on from
pub record Filled (s : List ℕ) (i k : ℕ) (a : List ℕ) (b : Block) : Type 0 where
  pub within : b.len ≤ length a
  pub goes : take b.len a ++ places_from s b.page b.slot ≡ places_from s i k
  pub places : Places s (take b.len a)
  pub some : b.len ≡ 0 → places_from s i k ≡ []

-- ---- pairs

-- the elements of l before r have a key below t, and those from r on not
pub record Around (k : ℕ → ℕ) (l : List ℕ) (t r : ℕ) : Type 0 where
  pub end : r ≤ length l
  pub lows : (i : ℕ) → i < r → k (get_or l i 0) < t
  pub highs : (i : ℕ) → r ≤ i → i < length l → t ≤ k (get_or l i 0)

-- f is the first place in l with that key
abbrev pub Firstly : (ℕ → ℕ) → ℕ → List ℕ → Option ℕ → Type 0
Firstly k t l None = (x : ℕ) → Has x l → k x ≡ t → ⊥
Firstly k t l (Some f) = Has f l × (k f ≡ t) × ((x : ℕ) → Has x l → k x ≡ t → f ≤ x)

-- p is a pair of a place of b and a later one of d with the same key
abbrev pub Paired : (ℕ → ℕ) → List ℕ → List ℕ → Option Pair → Type 0
Paired k b d None = Unit {0}
Paired k b d (Some p) = Has p.first b × Has p.second d × (p.first < p.second) × (k p.first ≡ k p.second)

-- p is no greater than the pair of x and y
abbrev pub Leads : Option Pair → ℕ → ℕ → Type 0
Leads None x y = ⊥
Leads (Some p) x y = (p.first < x) ⊎ ((p.first ≡ x) × (p.second ≤ y))

-- of the pairs of a place of b and a later one of d with the same key the least
pub record Least (k : ℕ → ℕ) (b d : List ℕ) (p : Option Pair) : Type 0 where
  pub real : Paired k b d p
  pub least : (x y : ℕ) → Has x b → Has y d → x < y → k x ≡ k y → Leads p x y

-- the first of a pair is at most f
abbrev pub begins_by : Option Pair → ℕ → Bool
begins_by None f = false
begins_by (Some p) f = leb p.first f

-- a pair, or a lesser one of two places of which the second stands behind the first
unfoldable pub lesser_of : Option Pair → ℕ → ℕ → Option Pair
lesser_of p f r = pick (leb r f) p (pick (begins_by p f) p (Some (record { first = f; second = r })))

-- the first place of a list with that key
unfoldable pub next_same : (ℕ → ℕ) → ℕ → List ℕ → Option ℕ
next_same k t [] = None
next_same k t (y ∷ l) = pick (eqb (k y) t) (Some y) (next_same k t l)

-- a place and the one found behind it, or else a later pair
abbrev pub pair_with : ℕ → Option ℕ → Option Pair → Option Pair
pair_with x None later = later
pair_with x (Some y) later = Some (record { first = x; second = y })

-- the first place that has its key again behind it, and the first behind it that has
unfoldable pub least_pair : (ℕ → ℕ) → List ℕ → Option Pair
least_pair k [] = None
least_pair k (x ∷ l) = pair_with x (next_same k (k x) l) (least_pair k l)
