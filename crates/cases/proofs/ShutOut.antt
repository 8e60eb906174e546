-- Wrong recoveries that the definitions shut out (paper 01, How far each promise reaches), each by what recovery gives on the example history.
-- Assumes nothing.
use mathlib.Core.Path.{◌≡◌, refl, ap, ap₂, ◌∙◌}
use Prim.Native.Nat.{ℕ, ◌+◌}
use mathlib.Core.List.{List, [], ◌∷◌}
use lib.ListN.{replicate}
use lib.Dec.{lit<, lit≤}
use Rattle.endian.specs.Numbers.{bytes_of, number_of, number_at}
use Rattle.wal.specs.Entry.{sizes_of}
use Rattle.wal.specs.Walk.{ending_number}
use Rattle.wal.specs.declared.Reading.{Reading}
use Rattle.page.specs.Layout.{page_at, slot_at}
use Rattle.rules.specs.Shape.{is_changing, is_on, effect_on, top_on, before_of, after_of}
use Rattle.rules.specs.Mend.{committed, changes, top_of, decided}
use Rattle.rules.specs.Recover.{Recovered, recover_of, done, outcome_of, transactions, changes_of, changes_zero, touched_from}
use Rattle.cases.specs.Build.{magic, page}
use Rattle.cases.specs.Starred.{a, b, c, no_record}
use Rattle.cases.specs.Example.{torn, whole, stood}
use Rattle.cases.proofs.Area.{page-at, slot-of}
use Rattle.cases.proofs.Pages.{answer, slot}
use Rattle.cases.proofs.Example.{says, computes, ok, stood_ok, end-torn, ending-torn}
use Rattle.rules.specs.Lent.{lent}

abbrev recovered : Recovered
recovered = recover_of (lent magic 7 stood torn) (replicate 8 no_record)

-- one that always refuses
pub not-always-refused : recovered.answer.number ≡ 0
not-always-refused = ok

-- one that always answers 0 and stores nothing: slot 0 of page 0 was lent with c, and 7's b comes back; and one that empties every touched slot
pub stores-the-winner : (slot_at (page_at 0 stood) 0 ≡ c) × (slot_at (page_at 0 recovered.pages) 0 ≡ b)
unfolding top_on top_of changes effect_on decided committed is_on is_changing number_at number_of bytes_of before_of after_of
stores-the-winner = (
  ap (λ (p : List ℕ). slot_at p 0) (page-at (page 7 (c ∷ []) ∷ page 5 (a ∷ []) ∷ []) stood_ok 0 (lit< tt)) ∙ slot-of 0 _ stood_ok.0 0,
  slot 7 _ _ whole _ refl says computes (lit≤ tt, (lit≤ tt, tt)) (λ t. lit≤ tt, (λ t. lit≤ tt, tt)) 0 (lit< tt) 0,
)

-- one that mends the first page and leaves the rest: slot 0 of page 1 was lent with 8's row, and is empty
pub mends-later-pages : (slot_at (page_at 1 stood) 0 ≡ a) × (slot_at (page_at 1 recovered.pages) 0 ≡ [])
unfolding top_on top_of changes effect_on decided committed is_on is_changing number_at number_of bytes_of before_of after_of
mends-later-pages = (
  ap (λ (p : List ℕ). slot_at p 0) (page-at (page 7 (c ∷ []) ∷ page 5 (a ∷ []) ∷ []) stood_ok 1 (lit< tt)) ∙ slot-of 1 _ stood_ok.1.0 0,
  slot 7 _ _ whole _ refl says computes (lit≤ tt, (lit≤ tt, tt)) (λ t. lit≤ tt, (λ t. lit≤ tt, tt)) 1 (lit< tt) 0,
)

-- one that reads the first entry and calls the rest a tail, and one with invented counts: the whole answer
pub counts-the-entries : recovered.answer
    ≡ record {
      number = 0;
      place = 0;
      last_lsn = record { 0 = 8 };
      tail = 32 + sizes_of whole;
      committed = 1;
      rolled_back = 0;
      unended = 2;
      changes_committed = 1;
      changes_rolled_back = 0;
      changes_unended = 3;
      changes_zero = 0;
      rewritten = 2;
      ending = 1;
    }
unfolding done transactions changes_of changes_zero outcome_of touched_from top_on top_of changes effect_on decided committed is_on is_changing number_at number_of bytes_of before_of after_of
counts-the-entries =
    answer 7 _ _ whole _ refl says computes (lit≤ tt, (lit≤ tt, tt)) (λ t. lit≤ tt, (λ t. lit≤ tt, tt)) ∙ ap₂ (λ (n : ℕ) (r : Reading). done whole n (ending_number r) 2) end-torn ending-torn
