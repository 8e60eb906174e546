-- Internal: what is known while pages are compared.
use Rattle.std.specs.Prelude.{ℕ, ◌-◌, ◌<◌, ◌≡◌, true, false, List, None}
use Rattle.wal.specs.Entry.{Entry}
use Rattle.page.specs.Layout.{pages_in, page_at}
use Rattle.page.specs.Fault.{fault_of, never_late, first_bad}
use Rattle.audit.specs.Judge.{found_by, page_finding, finding_from}
use Rattle.audit.specs.declared.Finding.{Finding}
use Rattle.audit.specs.declared.PageJudged.{PageJudged}

-- no page has a fault
pub record Faultless (magic : ℕ) (s : List ℕ) : Type 0 where
  pub at : (i : ℕ) → i < pages_in s → fault_of magic i (page_at i s) ≡ None

-- what is told of page i, which was p and now is q: whether it has a fault; without one, in what it differs
pub record PageKnown (magic : ℕ) (es : List Entry) (i : ℕ) (p q : List ℕ) (r : PageJudged) : Type 0 where
  pub sound : r.sound ≡ true → fault_of magic i q ≡ None
  pub faulty : r.sound ≡ false → fault_of magic i q ≡ None → ⊥
  pub finding : r.sound ≡ true → r.finding ≡ page_finding es i p q

-- the first refusal of the pages after; accepted, what is found from an index on
unfoldable pub compared_from : ℕ → List Entry → List ℕ → List ℕ → ℕ → Finding
compared_from magic es before after first = found_by (first_bad never_late magic after (pages_in after) 0) (finding_from es before after (pages_in before - first) first)
