-- Which way reading goes, a law for each case. Assumes nothing.
use Rattle.std.specs.Prelude.{None}
use Prim.Native.Nat.{ℕ, ◌+◌, ◌-◌, ◌<◌, ◌≤◌}
use mathlib.Core.Path.{◌≡◌, refl, sym, ◌∙◌}
use mathlib.Core.List.{List}
use mathlib.Core.Bool.{Bool, true, false}
use native.Mathlib.Omega.{arith}
use lib.ListN.{length, drop}
use lib.Dec.{ltb}
use borrow.Author.Tests.{lt-ltb, le-ltb, le-leb, lt-leb, eq-eqb}
use Rattle.endian.specs.Pick.{pick}
use Rattle.endian.specs.Numbers.{part, number_of, number_at}
use Rattle.crc32c.specs.Crc.{crc32c}
use Rattle.wal.specs.Entry.{mark}
use Rattle.wal.specs.Read.{log_limit, all_zero, length_at, key_len, old_len, new_len, fields, view, inner_at, whole_at, read_at, found, length_before, read_before, header_fault}
use Rattle.wal.specs.declared.EntryView.{EntryView}
use Rattle.wal.specs.declared.Reading.{Reading}
use Rattle.wal.specs.declared.Reading.TheVariants.{Whole, End, Torn, Unused, Damage}
use Rattle.wal.proofs.Zeros.{number-other}

-- ---- forward
module _ (s : List ℕ) (p : ℕ) where
  pub below : p < 32 → End ≡ read_at s p
  unfolding read_at
  below h = simp (lt-ltb _ _ h)

  module _ (from : 32 ≤ p) where
    pub at-end : length s ≤ p → End ≡ read_at s p
    unfolding read_at
    at-end h = simp (le-ltb _ _ from, le-leb _ _ h)

    pub torn-head : p < length s → length s < p + 4 → Torn ≡ read_at s p
    unfolding read_at
    torn-head h k = simp (le-ltb _ _ from, lt-leb _ _ h, lt-ltb (length s - p) 4 (omega arith))

    module _ (room : p + 4 ≤ length s) where
      -- four bytes are left: zeros to the end are unused room, else the length decides
      long : read_at s p ≡ pick (all_zero (drop p s)) Unused
          (pick (ltb (length_at s p) 43) Damage (pick (ltb 32705 (length_at s p)) Damage (pick (ltb (length s - p) (length_at s p)) Torn (whole_at s p (length_at s p)))))
      unfolding read_at
      long = simp (le-ltb _ _ from, lt-leb (length s) p (omega arith), le-ltb (length s - p) 4 (omega arith))

      pub unused : true ≡ all_zero (drop p s) → Unused ≡ read_at s p
      unused z = sym (long ∙ simp (sym z))

      pub too-low : length_at s p < 43 → false ≡ all_zero (drop p s) → Damage ≡ read_at s p
      too-low h z = sym (long ∙ simp (sym z, lt-ltb _ _ h))

      pub too-high : 32705 < length_at s p → Damage ≡ read_at s p
      too-high h = sym (long ∙ simp (number-other s p 4 (λ e. omega arith), le-ltb (length_at s p) 43 (omega arith), lt-ltb _ _ h))

      module _ (low : 43 ≤ length_at s p) (high : length_at s p ≤ 32705) where
        pub torn-body : length s < p + length_at s p → Torn ≡ read_at s p
        torn-body h = sym (long ∙ simp (number-other s p 4 (λ e. omega arith), le-ltb _ _ low, le-ltb _ _ high, lt-ltb (length s - p) (length_at s p) (omega arith)))

        pub whole : p + length_at s p ≤ length s → read_at s p ≡ whole_at s p (length_at s p)
        whole h = long ∙ simp (number-other s p 4 (λ e. omega arith), le-ltb _ _ low, le-ltb _ _ high, le-ltb (length s - p) (length_at s p) (omega arith))

-- past the log, wherever that is
pub past_end : (s : List ℕ) (p : ℕ) → length s ≤ p → End ≡ read_at s p
unfolding read_at
past_end s p h = simp (le-leb _ _ h) (either (ltb p 32))
  where
    either : (b : Bool) → End ≡ pick b End End
    either true = refl
    either false = refl

-- ---- the n bytes at p
module _ (s : List ℕ) (p n : ℕ) where
  pub sealed : length_at s p ≡ n → number_at 4 (p + (n - 4)) s ≡ n → number_at 4 (p + (n - 8)) s ≡ crc32c (part p (n - 8) s) → whole_at s p n ≡ inner_at s p n
  unfolding whole_at
  sealed front back sum = simp (eq-eqb _ _ front, eq-eqb _ _ back, eq-eqb _ _ sum)

  pub good-inner : 43 + key_len s p + old_len s p + new_len s p ≡ n → inner_at s p n ≡ Whole (view s p n)
  unfolding inner_at
  good-inner h = simp (eq-eqb _ _ h)

-- the lengths as the code reads them, each from the one before, are those of the definition
module _ (s : List ℕ) (p : ℕ) {k o : ℕ} (ek : k ≡ key_len s p) (eo : o ≡ number_at 4 (p + (27 + k)) s) where
  pub is-old : o ≡ old_len s p
  is-old = cc

pub is_view : (s : List ℕ) (p n : ℕ) {k o w : ℕ} {v : EntryView} → v ≡ fields s p n k o w → k ≡ key_len s p → o ≡ old_len s p → w ≡ new_len s p → v ≡ view s p n
unfolding view
is_view s p n h ek eo ew = cc

-- ---- backward
module _ (s : List ℕ) (p : ℕ) where
  pub too-near : p < 36 → None ≡ read_before s p
  unfolding read_before
  too-near h = simp (lt-ltb _ _ h)

  module _ (from : 36 ≤ p) (to : p ≤ length s) (low : 43 ≤ length_before s p) (high : length_before s p ≤ 32705) where
    pub whole_before : length_before s p ≤ p - 32 → {n : ℕ} {r : Reading} → n ≡ length_before s p → r ≡ whole_at s (p - n) n → read_before s p ≡ found r
    unfolding read_before
    whole_before h e q = simp (le-ltb _ _ from, le-ltb _ _ to, le-ltb _ _ low, le-ltb _ _ high, le-ltb _ _ h) (cc)

-- ---- the header
pub right-header : (s : List ℕ) → length s ≤ log_limit → 32 ≤ length s → number_at 4 0 s ≡ number_of mark → number_at 2 4 s ≡ 1 → 0 ≡ header_fault s
unfolding header_fault
right-header s fits room marked version = simp (le-ltb _ _ fits, le-ltb _ _ room, eq-eqb _ _ marked, eq-eqb _ _ version)
