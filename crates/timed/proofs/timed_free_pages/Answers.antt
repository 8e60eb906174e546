use Rattle.std.proofs.Common.{◌≡◌, ℕ, suc, List, ◌-◌, ◌+◌, ◌≤◌, ◌<◌, arith}
use native.Mathlib.Numerals.{add-one}
use Rattle.page.specs.FreeMap.{free_bit, free_pages}
use Rattle.page.specs.Layout.{pages_in}
use Rattle.timed.proofs.timed_free_pages.Goals as goal

-- page i, and those behind it
counted : (s : List ℕ) (n i : ℕ) → i < n → free_pages s (n - i) i ≡ free_bit s i + free_pages s (n - (i + 1)) (i + 1)
unfolding free_pages
counted s n i l = let e : n - i ≡ suc (n - (i + 1)) = omega arith in rw (e, add-one)

none : (s : List ℕ) (n i : ℕ) → n ≤ i → free_pages s (n - i) i ≡ 0
unfolding free_pages
none s n i l = let e : n - i ≡ 0 = omega arith in rw e

start : (s : List ℕ) (n : ℕ) → free_pages s (n - 0) 0 ≡ free_pages s n 0
start s n = let e : n - 0 ≡ n = omega arith in rw e

pub loop-i-init : goal.loop-i-init
loop-i-init c = let s = c.args.pages.now in (omega arith, omega (arith, start s (pages_in s)))

pub loop-i-preserved : goal.loop-i-preserved
loop-i-preserved c =
    let l = c.loop-i in
    let s = c.args.pages.now in
    (omega arith, omega (arith, counted s (pages_in s) l.i (omega arith)))

pub returns : goal.returns
returns c =
    let l = c.loop-i in
    let s = c.args.pages.now in
    omega (arith, none s (pages_in s) l.i (omega arith))
