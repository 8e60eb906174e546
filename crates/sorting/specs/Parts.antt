-- Internal: what a search by halves speaks of: a test of the numbers below n, or a key of each.
use Rattle.std.specs.Prelude.{ℕ, Bool, true, false, Option, None, Some, ◌≡◌, ◌≤◌, ◌<◌}

-- each call of the test at a number below n answers what `holds` says
abbrev pub Answers : {A : Type 0} → (ℕ → A → Type 0) → (ℕ → A) → ℕ → Type 0
Answers {A} post holds n = (i : ℕ) (b : A) → i < n → post i b → b ≡ holds i

-- where it holds, it holds before
abbrev pub Falls : (ℕ → Bool) → ℕ → Type 0
Falls holds n = (i j : ℕ) → i < j → j < n → holds j ≡ true → holds i ≡ true

-- it holds below lo, and not from hi on
pub record Parted (holds : ℕ → Bool) (lo hi n : ℕ) : Type 0 where
  pub front : (i : ℕ) → i < lo → holds i ≡ true
  pub back : (i : ℕ) → hi ≤ i → i < n → holds i ≡ false

-- the keys of the numbers below n ascend
abbrev pub Ascends : (ℕ → ℕ) → ℕ → Type 0
Ascends keys n = (i j : ℕ) → i < j → j < n → keys i ≤ keys j

-- r is one whose key is t, or there is none
abbrev pub Sought : (ℕ → ℕ) → ℕ → ℕ → Option ℕ → Type 0
Sought keys t n None = (i : ℕ) → i < n → keys i ≡ t → ⊥
Sought keys t n (Some r) = (r < n) × (keys r ≡ t)
