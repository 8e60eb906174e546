-- The night of three runs meets every hypothesis, and a transaction that its first run calls committed stays so. Assumes nothing.
use mathlib.Core.Path.{◌≡◌, refl, sym, ap, ◌∙◌, subst}
use mathlib.Core.Logic.{inl, inr}
use mathlib.Core.Bool.{false}
use Prim.Native.Nat.{ℕ, ◌+◌, ◌<◌}
use native.Mathlib.Omega.{arith}
use mathlib.Core.List.{List, [], ◌∷◌, ◌++◌}
use lib.ListN.{length, take, get_or, replicate}
use lib.Dec.{lit<, lit≤}
use borrow.Author.Tests.{eq-eqb}
use Rattle.endian.specs.Numbers.{Bytes, bytes_of, number_of, number_at}
use Rattle.wal.specs.Entry.{Entry, encoded, encoded_all, unsealed, header, sizes_of}
use Rattle.wal.specs.Read.{header_fault, all_zero, whole_at, read_at}
use Rattle.wal.specs.Walk.{entries}
use Rattle.wal.specs.declared.Reading.TheVariants.{Damage}
use Rattle.wal.proofs.WalkLaws.{not-damage}
use Rattle.page.specs.Layout.{pages_in, page_at, slot_at}
use Rattle.page.specs.Fault.{size_wrong}
use Rattle.refusals.specs.Verdict.{verdict}
use Rattle.rules.specs.Lent.{lent}
use Rattle.rules.specs.Order.{full_at, log_verdict}
use Rattle.rules.specs.Recover.{outcome_of, record_of, records_of, table_after, recover_verdict}
use Rattle.rules.specs.declared.Answer.{Answer}
use Rattle.rules.specs.declared.Record.{Record}
use Rattle.rules.proofs.Again.{zero-accepted}
use Rattle.history.specs.Demand3.{Mixed}
use Rattle.history.specs.Night.{file_for, ran, Rising, Leaves, none, then, stored, Has}
use Rattle.history.proofs.Demand3.{bytes-file}
use Rattle.history.proofs.Stores.{page-stored, page-left}
use Rattle.history.proofs.Records.{table_of}
use Rattle.history.proofs.Night.{night}
use Rattle.cases.specs.Build.{magic, page}
use Rattle.cases.specs.Starred.{a, b, c, no_record}
use Rattle.cases.specs.Example.{change, whole, all, torn, stood}
use Rattle.cases.specs.ThreeRuns.{first, second, last, halfway}
use Rattle.cases.proofs.Parts.{bytes-log}
use Rattle.cases.proofs.Area.{area-bytes}
use Rattle.cases.proofs.Pages.{refusal}
use Rattle.cases.proofs.Behind.{Behind, header_is, entries-is, end_is, ending-is}
use Rattle.cases.proofs.Example.{example, bytes-example, encodable, all-encodable, stood_ok, two, says, computes, ok, ok-completed}
use Rattle.cases.proofs.ShutOut.{stores-the-winner, mends-later-pages}

rising : Rising example (first ∷ second ∷ []) last
unfolding example encoded_all encoded unsealed header bytes_of
rising = (record { floors = refl; records = refl; cuts = lit≤ tt; files = lit≤ tt }, record { floors = refl; records = refl; cuts = lit≤ tt; files = lit≤ tt })

pub bytes-stood : Bytes stood
bytes-stood = area-bytes (page 7 (c ∷ []) ∷ page 5 (a ∷ []) ∷ []) stood_ok

-- ---- the first run, stopped after page 0

pub stopped : Mixed stood (ran example magic first stood).pages halfway
unfolding example
stopped =
    subst (λ (es : List Entry). Mixed stood (ran example magic first stood).pages (stored es (0 ∷ []) stood)) says.says
    ((night example).any_stop magic first stood bytes-stood bytes-example ok (0 ∷ []) (omega (arith, two), tt))

-- half-way: page 0, lent with c, is as the run leaves it; page 1, which the run would leave empty, is as lent
pub half-way : (slot_at (page_at 0 halfway) 0 ≡ b) × (slot_at (page_at 1 halfway) 0 ≡ a)
half-way = (
  ap (λ (p : List ℕ). slot_at p 0) (sym (halfway-is 0) ∙ page-stored magic 7 stood torn (replicate 8 no_record) bytes-stood bytes-torn ok (0 ∷ []) below 0 below.0 (inl refl)) ∙ stores-the-winner.1,
  ap (λ (p : List ℕ). slot_at p 0) (sym (halfway-is 1) ∙ page-left magic 7 stood torn (replicate 8 no_record) bytes-stood bytes-torn ok (0 ∷ []) below 1 not-stored) ∙ mends-later-pages.0,
)
  where
    below : (0 < pages_in stood) × Unit {0}
    below = (omega (arith, two), tt)

    bytes-torn : Bytes torn
    bytes-torn = bytes-file (32 + sizes_of whole + 20) 0 (bytes-log all all-encodable)

    halfway-is : (i : ℕ) → page_at i (stored (entries torn) (0 ∷ []) stood) ≡ page_at i halfway
    halfway-is i = ap (λ (es : List Entry). page_at i (stored es (0 ∷ []) stood)) says.says

    not-stored : Has 1 (0 ∷ []) → ⊥
    not-stored (inl e) = omega arith
    not-stored (inr h) = h

-- ---- the second run, refused

second-behind : Behind (file_for example second) whole (take 20 (encoded change) ++ replicate 115 0) Damage
unfolding example header_fault read_at whole_at all_zero encoded_all encoded unsealed header bytes_of number_at number_of
second-behind = record { is = refl; head = refl; reads = refl; never = λ v q. not-damage q }

size_ok : size_wrong halfway ≡ false
unfolding size_wrong
size_ok = rw stopped.size (zero-accepted magic 7 stood torn (replicate 8 no_record) ok).size

second-verdict : recover_verdict (full_at 8) (lent magic 7 halfway (file_for example second)) ≡ verdict 4 (32 + sizes_of whole)
unfolding recover_verdict log_verdict
second-verdict =
    rw (size_ok, header_is second-behind encodable, entries-is second-behind encodable, eq-eqb _ _ computes.order, ending-is second-behind encodable, end_is second-behind encodable)

pub second-refused : (ran example magic second halfway).answer.number ≡ 4
second-refused = (refusal 7 halfway (file_for example second) (replicate 8 no_record) refl 3 (32 + sizes_of whole) second-verdict).0

-- ---- the night

left : Leaves example magic (first ∷ second ∷ []) stood halfway
left = then stopped (then (record { size = refl; each = λ i l. inl refl }) none)

last_ok : (ran example magic last stood).answer.number ≡ 0
unfolding example
last_ok = ok-completed

-- the last run ends as it would have ended alone
pub three-runs : ((ran example magic last halfway).answer ≡ (ran example magic last stood).answer) × ((ran example magic last halfway).pages ≡ (ran example magic last stood).pages)
three-runs = (night example).repeats magic (first ∷ second ∷ []) last stood halfway (replicate 8 no_record) bytes-stood bytes-example rising refl last_ok left

-- ---- transaction 7, which the first run calls committed

first-ok : (ran example magic first stood).answer.number ≡ 0
unfolding example
first-ok = ok

first-table : (ran example magic first stood).table ≡ table_after whole (replicate 8 no_record)
unfolding example
first-table = table_of magic 7 stood torn (replicate 8 no_record) ok ∙ ap (λ (es : List Entry). table_after es (replicate 8 no_record)) says.says

committed-7 : (0 < length (records_of whole whole)) × ((get_or (table_after whole (replicate 8 no_record)) 0 no_record).outcome ≡ 1)
unfolding table_after records_of record_of outcome_of
committed-7 = (lit< tt, refl)

has-7 : 0 < length (records_of (entries (file_for example first)) (entries (file_for example first)))
unfolding example
has-7 = rw says.says committed-7.0

pub stays : get_or (ran example magic last halfway).table 0 no_record ≡ get_or (ran example magic first stood).table 0 no_record
stays =
    (night example).kept magic first last stood halfway (record { floors = refl; records = refl; cuts = omega arith; files = omega (arith, rising.0.files, rising.1.files) })
    first-ok (ap (λ (r : Answer). r.number) three-runs.0 ∙ last_ok) no_record 0 has-7 (ap (λ (t : List Record). (get_or t 0 no_record).outcome) first-table ∙ committed-7.1)
