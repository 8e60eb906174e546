-- The number that stands first in a list of bytes: its groups, when they are the fewest, when it is over 64 bits; and what was written reads back.
-- Assumes nothing.
use mathlib.Core.Path.{◌≡◌, sym, ap, ◌∙◌}
use mathlib.Core.Logic.{◌⊎◌, inl, inr}
use mathlib.Core.Bool.{Bool, true, false}
use Prim.Native.Nat.{ℕ, zero, suc, ◌+◌, ◌*◌, ◌/◌, ◌%◌, ◌^◌, ◌≤◌, ◌<◌}
use native.Mathlib.Decide.{dec_le}
use native.Mathlib.Nat.{pow-suc, pow-le-pow_right}
use native.Mathlib.Omega.{arith}
use mathlib.Core.List.{List, [], ◌∷◌, ◌++◌}
use lib.ListN.{length, take, drop, get_or, length-append, take-append-drop}
use lib.Seq.{length-take-le}
use lib.Dec.{ltb, leb}
use borrow.Author.Tests.{lt-ltb, le-ltb, le-leb, lt-leb, leb-false}
use Rattle.endian.specs.Pick.{pick}
use Rattle.endian.specs.Numbers.{Bytes}
use Rattle.endian.proofs.Bytes.{bytes_drop}
use Rattle.page.proofs.Picks.{never, neither}
use Rattle.summary.specs.Number.{groups, continued, spelling, value_of, misspelt}
use Rattle.summary.proofs.Grouping.{groups-last, groups-more}

-- the last group of the number that stands first
abbrev pub top_of : List ℕ → ℕ
top_of t = get_or t (continued t) 0

-- the number's last group is there
abbrev pub Whole : List ℕ → Type 0
Whole t = continued t < length t

-- ---- group by group

module _ (b : ℕ) (t : List ℕ) where
  pub last-here : b < 128 → continued (b ∷ t) ≡ 0
  unfolding continued
  last-here l = rw (lt-ltb b 128 l)

  pub goes_on : 128 ≤ b → continued (b ∷ t) ≡ suc (continued t)
  unfolding continued
  goes_on l = rw (le-ltb b 128 l)

  spelling-last : b < 128 → spelling (b ∷ t) ≡ b ∷ []
  unfolding spelling
  spelling-last l = rw (last-here l)

  spelling-more : 128 ≤ b → spelling (b ∷ t) ≡ b ∷ spelling t
  unfolding spelling
  spelling-more l = rw (goes_on l)

pub continued-le : (t : List ℕ) → continued t ≤ length t
unfolding continued
continued-le [] = omega arith
continued-le (b ∷ t) = by-test (ltb b 128) (continued-le t)
  where
    by-test : (c : Bool) → continued t ≤ length t → pick c 0 (suc (continued t)) ≤ suc (length t)
    by-test true l = omega arith
    by-test false l = omega arith

pub length-spelling : (t : List ℕ) → Whole t → length (spelling t) ≡ suc (continued t)
unfolding spelling
length-spelling t w = length-take-le (suc (continued t)) t (omega arith)

-- it stands first
pub spelling-split : (t : List ℕ) → Whole t → t ≡ spelling t ++ drop (length (spelling t)) t
unfolding spelling
spelling-split t w = rw (length-take-le (suc (continued t)) t (omega arith)) (sym (take-append-drop (suc (continued t)) t))

-- ---- the value

weight : (m n : ℕ) → m ≤ n → 128 ^ m ≤ 128 ^ n
weight m n l = pow-le-pow_right (omega arith) l

-- the number's last group weighs 128 for each group before it
pub value-split : (t : List ℕ) → Whole t → value_of (spelling t) ≡ value_of (take (continued t) t) + 128 ^ continued t * top_of t
unfolding value_of
value-split [] w = absurd (omega (arith, w))
value-split (b ∷ t) w =
    elim (dec_le 128 b) [
      | yes h ↦ let k : Whole t = omega (arith, w, goes_on b t h) in
          rw (spelling-more b t h, goes_on b t h, pow-suc) (omega (arith, value-split t k))
      | no h ↦ let l : b < 128 = omega arith in
          rw (spelling-last b t l, last-here b t l) (omega arith)
    ]

value-take : (n : ℕ) (t : List ℕ) → value_of (take n t) < 128 ^ n
unfolding value_of
value-take zero t = omega arith
value-take (suc n) [] = rw pow-suc (omega (arith, value-take n []))
value-take (suc n) (b ∷ t) = rw pow-suc (omega (arith, value-take n t))

-- as large as the weight of a last group that is not 0
value-high : (t : List ℕ) → Whole t → 1 ≤ top_of t → 128 ^ continued t ≤ value_of (spelling t)
unfolding value_of
value-high [] w l = absurd (omega (arith, w))
value-high (b ∷ t) w l =
    elim (dec_le 128 b) [
      | yes h ↦ let k : Whole t = omega (arith, w, goes_on b t h) in
          let m : 1 ≤ top_of t = rw (goes_on b t h) at l in
          rw (spelling-more b t h, goes_on b t h, pow-suc) (omega (arith, value-high t k m))
      | no h ↦ let k : b < 128 = omega arith in
          let m : 1 ≤ b = rw (last-here b t k) at l in
          rw (spelling-last b t k, last-here b t k) (omega arith)
    ]

-- ---- the fewest groups

-- one group, or a last one that is not 0
abbrev pub Short : List ℕ → Type 0
Short t = (continued t ≡ 0) ⊎ (1 ≤ top_of t)

tail : {x : ℕ} {l : List ℕ} → Bytes (x ∷ l) → Bytes l
tail b = bytes_drop 1 b

pub fewest : (t : List ℕ) → Bytes t → Whole t → Short t → groups (value_of (spelling t)) ≡ spelling t
unfolding value_of
fewest [] y w s = absurd (omega (arith, w))
fewest (b ∷ t) y w s =
    elim (dec_le 128 b) [
      | yes h ↦ let k : Whole t = omega (arith, w, goes_on b t h) in more h k (top h s) (fewest t (tail y) k (inr (top h s)))
      | no h ↦ let k : b < 128 = omega arith in
          let e : b % 128 + 128 * 0 ≡ b = omega arith in
          rw (spelling-last b t k, e, groups-last b k)
    ]
  where
    top : 128 ≤ b → Short (b ∷ t) → 1 ≤ top_of t
    top h (inl e) = absurd (omega (arith, e, goes_on b t h))
    top h (inr l) = rw (goes_on b t h) at l

    more : 128 ≤ b → Whole t → 1 ≤ top_of t → groups (value_of (spelling t)) ≡ spelling t → groups (value_of (spelling (b ∷ t))) ≡ spelling (b ∷ t)
    more h k l i =
        let v : ℕ = value_of (spelling t) in
        let n : ℕ = b % 128 + 128 * v in
        let high : 1 ≤ v = omega (arith, value-high t k l, weight 0 (continued t) (omega arith)) in
        let e : 128 + n % 128 ≡ b = omega (arith, y.at 0) in
        let q : n / 128 ≡ v = omega arith in
        rw (spelling-more b t h, groups-more n (omega arith), e, q, i)

-- more than the fewest
pub longer : (t : List ℕ) → Whole t → 1 ≤ continued t → top_of t ≡ 0 → length (groups (value_of (spelling t))) < length (spelling t)
unfolding value_of
longer [] w l e = absurd (omega (arith, w))
longer (b ∷ t) w l e =
    elim (dec_le 128 b) [
      | yes h ↦ let k : Whole t = omega (arith, w, goes_on b t h) in
          let z : top_of t ≡ 0 = rw (goes_on b t h) at e in
          elim (dec_le 1 (continued t)) [
            | yes m ↦ more h k (longer t k m z)
            | no m ↦ only h t k (omega arith) z
          ]
      | no h ↦ absurd (omega (arith, l, last-here b t (omega arith)))
    ]
  where
    more : 128 ≤ b → Whole t → length (groups (value_of (spelling t))) < length (spelling t) → length (groups (value_of (spelling (b ∷ t)))) < length (spelling (b ∷ t))
    more h k i =
        let v : ℕ = value_of (spelling t) in
        let n : ℕ = b % 128 + 128 * v in
        let q : n / 128 ≡ v = omega arith in
        rw (spelling-more b t h) (elim (dec_le 128 n) [
          | yes m ↦ rw (groups-more n m, q) (omega arith)
          | no m ↦ rw (groups-last n (omega arith)) (omega arith)
        ])

    only : 128 ≤ b → (t : List ℕ) → Whole t → continued t ≡ 0 → top_of t ≡ 0 → length (groups (value_of (spelling (b ∷ t)))) < length (spelling (b ∷ t))
    only h [] k m z = absurd (omega (arith, k))
    only h (c ∷ u) k m z =
        elim (dec_le 128 c) [
          | yes g ↦ absurd (omega (arith, m, goes_on c u g))
          | no g ↦ let l : c < 128 = omega arith in
              let e : c ≡ 0 = rw (last-here c u l) at z in
              rw (spelling-more b (c ∷ u) h, spelling-last c u l, groups-last (b % 128 + 128 * (c % 128 + 128 * 0)) (omega arith)) (omega arith)
        ]

-- no spelling of a number has fewer groups than those it is written in
pub no-fewer : (t : List ℕ) → Bytes t → Whole t → length (groups (value_of (spelling t))) ≤ length (spelling t)
no-fewer t y w =
    elim (dec_le 1 (top_of t)) [
      | yes h ↦ omega (arith, ap length (fewest t y w (inr h)))
      | no h ↦ elim (dec_le 1 (continued t)) [
        | yes m ↦ omega (arith, longer t w m (omega arith))
        | no m ↦ omega (arith, ap length (fewest t y w (inl (omega arith))))
      ]
    ]

-- ---- as code tests it

module _ (t : List ℕ) (y : Bytes t) (w : Whole t) where
  -- in the fewest groups a number is misspelt exactly if it is over 64 bits
  spelt : Short t → misspelt (spelling t) ≡ leb (2 ^ 64) (value_of (spelling t))
  unfolding misspelt
  spelt s =
      let e : length (groups (value_of (spelling t))) ≡ length (spelling t) = ap length (fewest t y w s) in
      rw (le-ltb (length (groups (value_of (spelling t)))) (length (spelling t)) (omega arith))

  pub spelt-one : continued t ≡ 0 → misspelt (spelling t) ≡ false
  unfolding spelling
  spelt-one e = spelt (inl e) ∙ lt-leb (2 ^ 64) (value_of (spelling t)) (omega (arith, value-take 1 t, value-is))
    where
      value-is : value_of (spelling t) ≡ value_of (take 1 t)
      value-is = ap (λ (n : ℕ). value_of (take (suc n) t)) e

  pub spelt-zero : 1 ≤ continued t → top_of t ≡ 0 → misspelt (spelling t) ≡ true
  unfolding misspelt
  spelt-zero l e = rw (lt-ltb _ _ (longer t w l e))

  module _ (s : 1 ≤ top_of t) where
    pub spelt-nine : continued t < 9 → misspelt (spelling t) ≡ false
    unfolding spelling
    spelt-nine l = spelt (inr s) ∙ lt-leb (2 ^ 64) (value_of (spelling t)) (omega (arith, value-take (suc (continued t)) t, weight (suc (continued t)) 9 (omega arith)))

    pub spelt-over : 9 < continued t → misspelt (spelling t) ≡ true
    spelt-over l = spelt (inr s) ∙ le-leb (2 ^ 64) (value_of (spelling t)) (omega (arith, value-high t w s, weight 10 (continued t) (omega arith)))

    pub spelt-ten : continued t ≡ 9 → misspelt (spelling t) ≡ ltb 1 (top_of t)
    spelt-ten e =
        let v : value_of (spelling t) ≡ value_of (take 9 t) + 128 ^ 9 * get_or t 9 0 = rw e at (value-split t w) in
        let p : top_of t ≡ get_or t 9 0 = ap (λ (n : ℕ). get_or t n 0) e in
        elim (dec_le 2 (top_of t)) [
          | yes h ↦ spelt (inr s) ∙ le-leb (2 ^ 64) (value_of (spelling t)) (omega (arith, v)) ∙ sym (lt-ltb 1 (top_of t) (omega arith))
          | no h ↦ spelt (inr s) ∙ lt-leb (2 ^ 64) (value_of (spelling t)) (omega (arith, v, value-take 9 t)) ∙ sym (le-ltb 1 (top_of t) (omega arith))
        ]

  -- a number that is not refused is written so
  pub well-spelt : misspelt (spelling t) ≡ false → (groups (value_of (spelling t)) ≡ spelling t) × (value_of (spelling t) < 2 ^ 64)
  unfolding misspelt
  well-spelt e =
      let p = neither (ltb (length (groups (value_of (spelling t)))) (length (spelling t))) (leb (2 ^ 64) (value_of (spelling t))) e in
      (fewest t y w short, leb-false (2 ^ 64) (value_of (spelling t)) p.1)
    where
      short : Short t
      short =
          elim (dec_le 1 (top_of t)) [
            | yes h ↦ inr h
            | no h ↦ elim (dec_le 1 (continued t)) [
              | yes m ↦ never (sym e ∙ spelt-zero m (omega arith))
              | no m ↦ inl (omega arith)
            ]
          ]

-- ---- what was written reads back

module _ (u : List ℕ) where
  -- with room for its groups
  back : (w n : ℕ) → n < w → (spelling (groups n ++ u) ≡ groups n) × (continued (groups n ++ u) < length (groups n)) × (value_of (groups n) ≡ n)
  unfolding value_of
  back zero n l = absurd (omega arith)
  back (suc w) n l =
      elim (dec_le 128 n) [
        | yes m ↦ let i = back w (n / 128) (omega arith) in
            let h : 128 ≤ 128 + n % 128 = omega arith in
            rw (groups-more n m) (
              spelling-more (128 + n % 128) (groups (n / 128) ++ u) h ∙ ap (λ (g : List ℕ). (128 + n % 128) ∷ g) i.0,
              omega (arith, goes_on (128 + n % 128) (groups (n / 128) ++ u) h, i.1),
              omega (arith, i.2),
            )
        | no m ↦ let k : n < 128 = omega arith in
            rw (groups-last n k) (spelling-last n u k, omega (arith, last-here n u k), omega arith)
      ]

  module _ (n : ℕ) where
    pub spelling-back : spelling (groups n ++ u) ≡ groups n
    spelling-back = (back (suc n) n (omega arith)).0

    pub value-back : value_of (groups n) ≡ n
    value-back = (back (suc n) n (omega arith)).2

    pub whole_back : Whole (groups n ++ u)
    whole_back = omega (arith, (back (suc n) n (omega arith)).1, length-append (groups n) u)

  pub well-back : (n : ℕ) → n < 2 ^ 64 → misspelt (groups n) ≡ false
  unfolding misspelt
  well-back n l = rw (value-back n, le-ltb (length (groups n)) (length (groups n)) (omega arith), lt-leb (2 ^ 64) n l)
