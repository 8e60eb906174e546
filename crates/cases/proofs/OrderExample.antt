-- A second press finds the first order (paper 02, W9): a history in which transaction 7 places an order and commits, and the page was not flushed. It meets every hypothesis of
-- intake's theorem about recovered pages, so the order is found.
-- Assumes nothing.
use mathlib.Core.Path.{◌≡◌, refl, sym, ap, ◌∙◌, subst}
use mathlib.Core.Bool.{true}
use Prim.Native.Nat.{ℕ, ◌+◌, ◌<◌}
use native.Mathlib.Omega.{arith}
use mathlib.Core.List.{List, [], ◌∷◌, append-nil}
use lib.ListN.{length, take, replicate, drop_of_length-le}
use lib.Seq.{take_all}
use lib.Dec.{lit<, lit≤}
use Rattle.endian.specs.Numbers.{bytes_of, number_of, number_at, Bytes}
use Rattle.endian.proofs.Bytes.{bytes-nil, bytes-cons, bytes-append, bytes-of, bytes-zeros}
use Rattle.wal.specs.Entry.{Entry, Encodable, AllEncodable, encoded, encoded_all, unsealed, header, sizes_of}
use Rattle.wal.specs.Walk.{entries, file_of}
use Rattle.wal.proofs.Encoding.{entries-log, length-log}
use Rattle.page.specs.Layout.{data_type, pages_in, page_at, type_of, slot_at}
use Rattle.page.specs.Rows.{visible, row}
use Rattle.page.proofs.Goodness.{packed-bytes}
use Rattle.rules.specs.Lent.{lent}
use Rattle.rules.specs.Shape.{is_known, is_changing, is_image, same, is_keyed, is_bare, is_shaped, before_of, after_of, is_on, effect_on, top_on, same_slot}
use Rattle.rules.specs.Order.{begun, ended, is_open, in_order, clashes, fault_after, order_from}
use Rattle.rules.specs.Mend.{committed, changes, top_of, decided}
use Rattle.rules.specs.Recover.{recover_of}
use Rattle.history.specs.History.{Step, logged, Honest, start, ledger}
use Rattle.history.specs.Demand3.{History, Stands, HasFelt}
use Rattle.intake.specs.Orders.{mark_of}
use Rattle.intake.proofs.Findings.{FoundBy}
use Rattle.intake.proofs.Recovered.{order-kept}
use Rattle.cases.specs.Build.{begins, commits, inserts, log_of, magic, page, area, tuple}
use Rattle.cases.specs.Starred.{no_record}
use Rattle.cases.proofs.Parts.{tuple-bytes, bare, insertable}
use Rattle.cases.proofs.Area.{empty-ok, page-at, slot-of, type-of, pages-in}
use Rattle.cases.proofs.Pages.{Says, ends-log, plain, Computes, number}
use Rattle.cases.proofs.Example.{finds}

-- a row header of zeros; a mark of sixteen zero bytes, part number 0, quantity 2^24
abbrev order : List ℕ
order = tuple 47 1

abbrev before : List ℕ
before = area (page 0 [] ∷ [])

abbrev es : List Entry
es = begins 1 7 ∷ inserts 2 7 0 0 order ∷ commits 3 7 ∷ []

abbrev steps : List Step
steps = logged (begins 1 7) ∷ logged (inserts 2 7 0 0 order) ∷ logged (commits 3 7) ∷ []

-- all of the log
abbrev cut : ℕ
cut = 32 + sizes_of es

-- the file: the whole log, and no zeros behind it
abbrev file : List ℕ
file = file_of (log_of es) cut 0

encodable : AllEncodable es
encodable = (bare 1 1 7 (lit< tt) (lit< tt) (lit< tt), (insertable 2 7 0 0 (lit< tt) (lit< tt) (tuple-bytes 47 1 (lit< tt)) (lit≤ tt), (bare 2 3 7 (lit< tt) (lit< tt) (lit< tt), tt)))

-- ---- the history

first : (k : ℕ) → slot_at (page_at 0 before) k ≡ []
first k = ap (λ (p : List ℕ). slot_at p k) (page-at (page 0 [] ∷ []) (empty-ok, tt) 0 (lit< tt)) ∙ slot-of 0 _ empty-ok k

honest : Honest (λ i. type_of (page_at i before) ≡ data_type) (start before) steps
unfolding effect_on is_on is_changing before_of after_of number_at number_of bytes_of
honest = (λ i k d. tt, (λ i k d. finds (start before) (inserts 2 7 0 0 order) (first 0) i k, (λ i k d. tt, tt)))

placed : History
placed = record { pages = before; steps = steps; log = log_of es; honest = honest; in_log = entries-log es encodable; ends = ends-log es encodable }

stands : Stands placed (λ i. 0) before
unfolding placed
stands = record { type = λ i l d. d; slots = λ i k l d. refl }

felt : HasFelt placed (λ i. 0) before file
unfolding placed top_of
felt = record { felt = λ i l d. ap (top_of i) (drop_of_length-le {A = Entry} [] {i = length (entries file)} (omega arith)) }

-- ---- the buffers are bytes

encoded-bytes : (e : Entry) → Encodable e → Bytes (encoded e)
unfolding encoded unsealed
encoded-bytes e c =
    bytes-append
    (bytes-append (bytes-of 4 _) (bytes-append (bytes-of 8 _) (bytes-append (bytes-of 8 _) (bytes-append (bytes-of 1 _) (bytes-append (bytes-of 4 _)
    (bytes-append (bytes-of 2 _) (bytes-append c.key (bytes-append (bytes-of 4 _) (bytes-append c.old (bytes-append (bytes-of 4 _) c.new))))))))))
    (bytes-append (bytes-of 4 _) (bytes-of 4 _))

all-bytes : (l : List Entry) → AllEncodable l → Bytes (encoded_all l)
unfolding encoded_all
all-bytes [] c = bytes-nil
all-bytes (e ∷ l) c = bytes-append (encoded-bytes e c.0) (all-bytes l c.1)

header-bytes : Bytes header
unfolding header
header-bytes = bytes-append (bytes-cons (lit< tt) (bytes-cons (lit< tt) (bytes-cons (lit< tt) (bytes-cons (lit< tt) bytes-nil)))) (bytes-append (bytes-of 2 1) (bytes-zeros 26))

before-bytes : Bytes before
before-bytes = bytes-append (packed-bytes _ [] (bytes-zeros 28) (λ k. empty-ok.bytes k)) bytes-nil

-- ---- the file

log-whole : file ≡ log_of es
log-whole = append-nil (take cut (log_of es)) ∙ take_all cut (log_of es) (omega (arith, length-log es encodable))

says : Says file es
unfolding bytes_of
says = subst (λ (l : List ℕ). Says l es) (sym log-whole) (plain es encodable (lit≤ tt))

computes : Computes (page 0 [] ∷ []) es
unfolding order_from fault_after is_known is_shaped is_bare is_image is_keyed same is_changing in_order is_open begun ended clashes same_slot is_on number_at number_of bytes_of
computes = record { pages = (empty-ok, tt); few = lit≤ tt; order = refl; on_page = (lit< tt, (lit< tt, (lit< tt, tt))) }

accepted : (recover_of (lent magic 0 before file) (replicate 8 no_record)).answer.number ≡ 0
unfolding top_on top_of changes effect_on decided committed is_on is_changing number_at number_of bytes_of before_of after_of
accepted = number 0 (page 0 [] ∷ []) file es (replicate 8 no_record) refl says computes (lit≤ tt, tt) (λ t. lit≤ tt, tt)

-- ---- what the ledger holds, and that it is found

abbrev recovered : List ℕ
recovered = (recover_of (lent magic 0 before file) (replicate 8 no_record)).pages

held : ledger before (entries file) 0 0 ≡ order
unfolding ledger committed effect_on is_on is_changing number_at number_of bytes_of before_of after_of
held = ap (λ (l : List Entry). ledger before l 0 0) says.says

seen : visible order ≡ true
unfolding visible number_at number_of
seen = refl

lent-there : 0 < pages_in before
lent-there = omega (arith, pages-in (page 0 [] ∷ []) (empty-ok, tt))

data-there : type_of (page_at 0 before) ≡ data_type
data-there = ap type_of (page-at (page 0 [] ∷ []) (empty-ok, tt) 0 (lit< tt)) ∙ type-of 0 _ empty-ok

pub order-found : FoundBy magic recovered (mark_of (replicate 16 0)) (row 0 0 (page_at 0 recovered))
unfolding placed
order-found =
    order-kept placed magic 0 (λ i. 0) before cut 0 (replicate 8 no_record) stands felt before-bytes (bytes-append header-bytes (all-bytes es encodable)) accepted 0 0 lent-there data-there (replicate 16 0)
    (rw held seen) (rw held (lit≤ tt)) (rw held refl)
