-- Judging repaired pages (paper 02, W10): the pages before and the log as lent to recovery, and the pages after; the lowest page and slot in which these differ from what recovery would leave.
use Rattle.std.specs.Prelude.{ℕ, zero, suc, ◌-◌, max, Bool, true, false, List, length, eqb}
use Rattle.refusals.specs.Refusal.{page_areas_differ}
use Rattle.refusals.specs.Verdict.{verdict, accepted, ◌then◌}
use Rattle.refusals.specs.declared.Verdict.{Verdict}
use Rattle.endian.specs.Pick.{pick}
use Rattle.wal.specs.Entry.{Entry}
use Rattle.wal.specs.Walk.{entries}
use Rattle.page.specs.Layout.{pages_in, page_at, magic_of, type_of, count_of, id_of, reserved_of, slot_at}
use Rattle.page.specs.Fault.{never_late, first_bad}
use Rattle.rules.specs.Shape.{both, same}
use Rattle.rules.specs.Order.{never_full}
use Rattle.rules.specs.Mend.{committed, top_of, decided}
use Rattle.rules.specs.Lent.{Lent}
use Rattle.rules.specs.Recover.{is_touched, recover_verdict}
use Rattle.audit.specs.declared.Finding.{Finding}

-- ---- refusals: recovery's without a table on the pages before and the log; 39; then page by page those of the pages after, 11, 17, 18, 19 in turn

unfoldable pub length_verdict : List ℕ → List ℕ → Verdict
length_verdict before after = pick (eqb (length before) (length after)) accepted (verdict page_areas_differ 0)

unfoldable pub judge_verdict : Lent → List ℕ → Verdict
judge_verdict x after =
    recover_verdict never_full x
    then length_verdict x.pages after
    then first_bad never_late x.magic after (pages_in after) 0

-- ---- what is found: nothing that differs, or a page and a slot; refused, nothing

abbrev pub alike : Finding
alike = record { verdict = accepted; differs = false; page = record { 0 = 0 }; slot = 0 }

abbrev pub apart : ℕ → ℕ → Finding
apart i k = record { verdict = accepted; differs = true; page = record { 0 = i }; slot = k }

abbrev pub refused_by : Verdict → Finding
refused_by v = record { verdict = v; differs = false; page = record { 0 = 0 }; slot = 0 }

abbrev pub found_by : Verdict → Finding → Finding
found_by v f = pick (eqb v.number 0) f (refused_by v)

-- ---- page i, which was p and now is q

-- slot k holds the tuple that recovery would leave there
unfoldable pub slot_agrees : List Entry → ℕ → List ℕ → List ℕ → ℕ → Bool
slot_agrees es i p q k = same (decided (committed es) es i k (slot_at p k)) (slot_at q k)

-- magic, type, id and reserved bytes are the same
unfoldable pub head_agrees : List ℕ → List ℕ → Bool
head_agrees p q = both (eqb (magic_of p) (magic_of q)) (both (eqb (type_of p) (type_of q)) (both (eqb (id_of p) (id_of q)) (same (reserved_of p) (reserved_of q))))

-- the slots to look at: those past both item counts and the highest touched slot are empty
abbrev pub slots_in : List Entry → ℕ → List ℕ → List ℕ → ℕ
slots_in es i p q = max (max (count_of p) (top_of i es)) (count_of q)

-- of the n slots from k on the lowest that does not agree
unfoldable pub slots_from : (ℕ → Bool) → ℕ → ℕ → ℕ → Finding
slots_from agrees i zero k = alike
slots_from agrees i (suc n) k = pick (agrees k) (slots_from agrees i n (suc k)) (apart i k)

-- a page that the log does not touch must be the same bytes; slot 0 stands for it and for a header that differs
unfoldable pub page_finding : List Entry → ℕ → List ℕ → List ℕ → Finding
page_finding es i p q =
    pick (is_touched es i)
    (pick (head_agrees p q) (slots_from (slot_agrees es i p q) i (slots_in es i p q) 0) (apart i 0))
    (pick (same p q) alike (apart i 0))

-- ---- all pages

-- a difference, else what is found later
abbrev pub or_else : Finding → Finding → Finding
or_else f g = pick f.differs f g

-- of the n pages from i on the lowest that differs
unfoldable pub finding_from : List Entry → List ℕ → List ℕ → ℕ → ℕ → Finding
finding_from es before after zero i = alike
finding_from es before after (suc n) i = or_else (page_finding es i (page_at i before) (page_at i after)) (finding_from es before after n (suc i))

-- the judgement of the pages from an index on; whatever the index, all that is lent is looked at for refusals
unfoldable pub judge_from : Lent → List ℕ → ℕ → Finding
judge_from x after first = found_by (judge_verdict x after) (finding_from (entries x.log) x.pages after (pages_in x.pages - first) first)

-- of all pages
abbrev pub judge_of : Lent → List ℕ → Finding
judge_of x after = judge_from x after 0
