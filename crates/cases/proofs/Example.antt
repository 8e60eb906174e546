-- The example history and files of its log meet every hypothesis of the first half of demand 3: it is honest, its log ends exactly, its pages stand at their moments, each file has what they felt, and
-- recovery accepts it. Of one file the zeros complete a change that a page has felt.
-- Assumes nothing.
use mathlib.Core.Path.{◌≡◌, refl, sym, ap, ◌∙◌}
use mathlib.Core.Bool.{Bool, true, false}
use Prim.Native.Nat.{ℕ, zero, suc, ◌+◌, ◌<◌}
use native.Mathlib.Omega.{arith}
use mathlib.Core.List.{List, [], ◌∷◌}
use lib.ListN.{length, take, drop, get_or, replicate}
use lib.Dec.{eqb, lit<, lit≤}
use borrow.Author.Tests.{eqb-true}
use Rattle.endian.specs.Pick.{pick}
use Rattle.endian.specs.Numbers.{Bytes, bytes_of, number_of, number_at}
use Rattle.wal.specs.Entry.{Entry, AllEncodable, encoded, encoded_all, unsealed, header, sizes_of}
use Rattle.wal.specs.Read.{header_fault, all_zero, read_at}
use Rattle.wal.specs.Walk.{entries, end_of, ending_of}
use Rattle.wal.specs.declared.Reading.TheVariants.{Torn, Unused}
use Rattle.wal.proofs.WalkLaws.{not-torn, not-unused}
use Rattle.wal.proofs.Encoding.{entries-log}
use Rattle.page.specs.Layout.{data_type, pages_in, page_at, type_of, slot_at}
use Rattle.rules.specs.Shape.{Change, both, is_known, is_change, is_changing, is_image, same, is_keyed, is_bare, is_shaped, page_of, slot_of, before_of, after_of, is_on, effect_on, top_on, same_slot}
use Rattle.rules.specs.Order.{begun, ended, is_open, in_order, clashes, fault_after, order_from}
use Rattle.rules.specs.Mend.{committed, changes, top_of, decided}
use Rattle.rules.specs.Recover.{recover_of}
use Rattle.rules.proofs.Slots.{changes-past}
use Rattle.history.specs.History.{State, logged_in, Finds, run, start, Honest, ledger}
use Rattle.history.specs.Demand3.{History, Stands, HasFelt}
use Rattle.history.proofs.OneSlot.{untouched}
use Rattle.history.proofs.Demand3.{demand3}
use Rattle.cases.specs.Build.{inserts, updates, magic, page}
use Rattle.cases.specs.Starred.{a, b, c, no_record}
use Rattle.cases.specs.Example.{before, change, steps, whole, all, log, torn, roomy, completed, bare_cut, roomier, moment, stood, last_moment, last_stood}
use Rattle.cases.proofs.Parts.{tuple-bytes, bare, insertable, updatable, bytes-log}
use Rattle.cases.proofs.Area.{PageOk, EachPage, empty-ok, filled_ok, pages-in, page-at, slot-of, type-of}
use Rattle.cases.proofs.Pages.{Says, ends-log, Computes, number}
use Rattle.cases.proofs.Behind.{Behind, entries-is, end_is, ending-is, says-file}
use Rattle.rules.specs.Lent.{lent}

-- ---- pages

-- the slots of the starting pages
first-ok : EachPage PageOk (page 0 (a ∷ []) ∷ page 0 [] ∷ [])
first-ok = (filled_ok 0 1 (lit< tt) (lit< tt), (empty-ok, tt))

first-0 : (k : ℕ) → slot_at (page_at 0 before) k ≡ get_or (a ∷ []) k []
first-0 k = ap (λ (p : List ℕ). slot_at p k) (page-at (page 0 (a ∷ []) ∷ page 0 [] ∷ []) first-ok 0 (lit< tt)) ∙ slot-of 0 _ (filled_ok 0 1 (lit< tt) (lit< tt)) k

first-1 : (k : ℕ) → slot_at (page_at 1 before) k ≡ []
first-1 k = ap (λ (p : List ℕ). slot_at p k) (page-at (page 0 (a ∷ []) ∷ page 0 [] ∷ []) first-ok 1 (lit< tt)) ∙ slot-of 1 _ empty-ok k

-- ---- the history

-- a change finds its before-image if its own slot holds it
pub finds : (s : State) (e : Entry) → s.slot (page_of e) (slot_of e) ≡ before_of e → (i k : ℕ) → Finds (s.slot i k) (effect_on i k e)
unfolding effect_on is_on
finds s e h i k = go (is_change e) (eqb (page_of e) i) (eqb (slot_of e) k) refl refl
  where
    go : (x y z : Bool) → eqb (page_of e) i ≡ y → eqb (slot_of e) k ≡ z
        → Finds (s.slot i k) (pick {A = List Change} (both (both x y) z) (record { by = e.txn; before = before_of e; after = after_of e } ∷ []) [])
    go true true true p q = let pi : page_of e ≡ i = eqb-true _ _ p in let qk : slot_of e ≡ k = eqb-true _ _ q in (rw (← pi, ← qk) h, tt)
    go true true false p q = tt
    go true false z p q = tt
    go false y z p q = tt

pub encodable : AllEncodable whole
encodable = (
  bare 1 1 7 (lit< tt) (lit< tt) (lit< tt),
  (
    updatable 2 7 0 0 (lit< tt) (lit< tt) (tuple-bytes 29 1 (lit< tt)) (tuple-bytes 29 2 (lit< tt)) (lit≤ tt),
    (
      bare 2 3 7 (lit< tt) (lit< tt) (lit< tt),
      (
        bare 1 4 8 (lit< tt) (lit< tt) (lit< tt),
        (
          insertable 5 8 1 0 (lit< tt) (lit< tt) (tuple-bytes 29 1 (lit< tt)) (lit≤ tt),
          (
            bare 1 6 9 (lit< tt) (lit< tt) (lit< tt),
            (updatable 7 9 0 0 (lit< tt) (lit< tt) (tuple-bytes 29 2 (lit< tt)) (tuple-bytes 29 3 (lit< tt)) (lit≤ tt), (insertable 8 9 0 1 (lit< tt) (lit< tt) (tuple-bytes 29 1 (lit< tt)) (lit≤ tt), tt)),
          ),
        ),
      ),
    ),
  ),
)

pub all-encodable : AllEncodable all
all-encodable =
    let e = encodable in
    let last = updatable 9 8 1 0 (lit< tt) (lit< tt) (tuple-bytes 29 1 (lit< tt)) (tuple-bytes 29 2 (lit< tt)) (lit≤ tt) in
    (e.0, (e.1.0, (e.1.1.0, (e.1.1.1.0, (e.1.1.1.1.0, (e.1.1.1.1.1.0, (e.1.1.1.1.1.1.0, (e.1.1.1.1.1.1.1.0, (last, tt)))))))))

-- the state after n steps
abbrev at : ℕ → State
at n = run (start before) (take n steps)

pub honest : Honest (λ i. type_of (page_at i before) ≡ data_type) (start before) steps
unfolding effect_on is_on is_changing before_of after_of number_at number_of bytes_of
honest = (
  λ i k d. tt,
  (
    λ i k d. finds (at 1) (updates 2 7 0 0 a b) (first-0 0) i k,
    (
      λ i k d. tt,
      (
        λ i k d. tt,
        (
          λ i k d. finds (at 4) (inserts 5 8 1 0 a) (first-1 0) i k,
          (
            λ i k d. tt,
            (λ i k d. finds (at 6) (updates 7 9 0 0 b c) refl i k, (λ i k d. finds (at 7) (inserts 8 9 0 1 a) (first-0 1) i k, (λ i k d. finds (at 9) change refl i k, tt))),
          ),
        ),
      ),
    ),
  ),
)

unfoldable pub example : History
example = record { pages = before; steps = steps; log = log; honest = honest; in_log = entries-log all all-encodable; ends = ends-log all all-encodable }

pub bytes-example : Bytes example.log
unfolding example
bytes-example = bytes-log all all-encodable

-- ---- the pages stand at their moments

pub stood_ok : EachPage PageOk (page 7 (c ∷ []) ∷ page 5 (a ∷ []) ∷ [])
stood_ok = (filled_ok 7 3 (lit< tt) (lit< tt), (filled_ok 5 1 (lit< tt) (lit< tt), tt))

pub two : pages_in stood ≡ 2
two = pages-in (page 7 (c ∷ []) ∷ page 5 (a ∷ []) ∷ []) stood_ok

pub last_ok : EachPage PageOk (page 7 (c ∷ []) ∷ page 9 (b ∷ []) ∷ [])
last_ok = (stood_ok.0, (filled_ok 9 2 (lit< tt) (lit< tt), tt))

pub two-last : pages_in last_stood ≡ 2
two-last = pages-in (page 7 (c ∷ []) ∷ page 9 (b ∷ []) ∷ []) last_ok

slot-0 : (k : ℕ) → get_or (c ∷ []) k [] ≡ (run (start before) (take 9 steps)).slot 0 k
unfolding effect_on is_on is_changing before_of after_of number_at number_of bytes_of top_of top_on
slot-0 zero = refl
slot-0 (suc zero) = refl
slot-0 (suc (suc k)) = sym (untouched 0 (suc (suc k)) (start before) (take 9 steps) (λ t. refl) (changes-past 0 (suc (suc k)) (logged_in (take 9 steps)) (omega arith)) ∙ first-0 (suc (suc k)))

slot-1 : (k : ℕ) → get_or (a ∷ []) k [] ≡ (run (start before) (take 5 steps)).slot 1 k
unfolding effect_on is_on is_changing before_of after_of number_at number_of bytes_of top_of top_on
slot-1 zero = refl
slot-1 (suc k) = sym (untouched 1 (suc k) (start before) (take 5 steps) (λ t. refl) (changes-past 1 (suc k) (logged_in (take 5 steps)) (omega arith)) ∙ first-1 (suc k))

slot-1-last : (k : ℕ) → get_or (b ∷ []) k [] ≡ (run (start before) (take 10 steps)).slot 1 k
unfolding effect_on is_on is_changing before_of after_of number_at number_of bytes_of top_of top_on
slot-1-last zero = refl
slot-1-last (suc k) = sym (untouched 1 (suc k) (start before) (take 10 steps) (λ t. refl) (changes-past 1 (suc k) (logged_in (take 10 steps)) (omega arith)) ∙ first-1 (suc k))

data-page : (i : ℕ) → i < 2 → type_of (page_at i before) ≡ data_type
data-page zero l = ap type_of (page-at (page 0 (a ∷ []) ∷ page 0 [] ∷ []) first-ok 0 (lit< tt)) ∙ type-of 0 _ first-ok.0
data-page (suc zero) l = ap type_of (page-at (page 0 (a ∷ []) ∷ page 0 [] ∷ []) first-ok 1 (lit< tt)) ∙ type-of 1 _ first-ok.1.0
data-page (suc (suc i)) l = absurd (omega arith)

pub stands : Stands example moment stood
unfolding example
stands = record { type = λ i l d. data-page i (omega (arith, two)); slots = λ i k l d. each i k l }
  where
    each : (i k : ℕ) → i < pages_in stood → slot_at (page_at i stood) k ≡ (run (start before) (take (moment i) steps)).slot i k
    each zero k l = ap (λ (p : List ℕ). slot_at p k) (page-at (page 7 (c ∷ []) ∷ page 5 (a ∷ []) ∷ []) stood_ok 0 (lit< tt)) ∙ slot-of 0 _ stood_ok.0 k ∙ slot-0 k
    each (suc zero) k l = ap (λ (p : List ℕ). slot_at p k) (page-at (page 7 (c ∷ []) ∷ page 5 (a ∷ []) ∷ []) stood_ok 1 (lit< tt)) ∙ slot-of 1 _ stood_ok.1.0 k ∙ slot-1 k
    each (suc (suc i)) k l = absurd (omega (arith, two))

pub stands-last : Stands example last_moment last_stood
unfolding example
stands-last = record { type = λ i l d. data-page i (omega (arith, two-last)); slots = λ i k l d. each i k l }
  where
    each : (i k : ℕ) → i < pages_in last_stood → slot_at (page_at i last_stood) k ≡ (run (start before) (take (last_moment i) steps)).slot i k
    each zero k l = ap (λ (p : List ℕ). slot_at p k) (page-at (page 7 (c ∷ []) ∷ page 9 (b ∷ []) ∷ []) last_ok 0 (lit< tt)) ∙ slot-of 0 _ last_ok.0 k ∙ slot-0 k
    each (suc zero) k l = ap (λ (p : List ℕ). slot_at p k) (page-at (page 7 (c ∷ []) ∷ page 9 (b ∷ []) ∷ []) last_ok 1 (lit< tt)) ∙ slot-of 1 _ last_ok.1.0 k ∙ slot-1-last k
    each (suc (suc i)) k l = absurd (omega (arith, two-last))

-- ---- files of the log

torn-behind : Behind torn whole (take 20 (encoded change)) Torn
unfolding header_fault read_at all_zero encoded_all encoded unsealed header bytes_of number_at number_of
torn-behind = record { is = refl; head = refl; reads = refl; never = λ v q. not-torn q }

roomy-behind : Behind roomy whole (replicate 16 0) Unused
unfolding header_fault read_at all_zero encoded_all encoded unsealed header bytes_of number_at number_of
roomy-behind = record { is = refl; head = refl; reads = refl; never = λ v q. not-unused q }

completed-behind : Behind completed all (replicate 4 0) Unused
unfolding header_fault read_at all_zero encoded_all encoded unsealed header bytes_of number_at number_of
completed-behind = record { is = refl; head = refl; reads = refl; never = λ v q. not-unused q }

bare-behind : Behind bare_cut whole (take 130 (encoded change)) Torn
unfolding header_fault read_at all_zero encoded_all encoded unsealed header bytes_of number_at number_of
bare-behind = record { is = refl; head = refl; reads = refl; never = λ v q. not-torn q }

roomier-behind : Behind roomier all (replicate 20 0) Unused
unfolding header_fault read_at all_zero encoded_all encoded unsealed header bytes_of number_at number_of
roomier-behind = record { is = refl; head = refl; reads = refl; never = λ v q. not-unused q }

pub end-torn : end_of torn ≡ 32 + sizes_of whole
end-torn = end_is torn-behind encodable

pub ending-torn : ending_of torn ≡ Torn
ending-torn = ending-is torn-behind encodable

pub says : Says torn whole
says = says-file torn-behind encodable (λ at. refl)

pub says-roomy : Says roomy whole
says-roomy = says-file roomy-behind encodable (λ at. refl)

-- the entry whose last three bytes are taken from the zeros is found whole
pub says-completed : Says completed all
says-completed = says-file completed-behind all-encodable (λ at. refl)

pub says-roomier : Says roomier all
says-roomier = says-file roomier-behind all-encodable (λ at. refl)

-- ---- each file has what the pages felt

felt-whole : (file : List ℕ) → Says file whole → HasFelt example moment stood file
unfolding example top_of
felt-whole file s = record { felt = λ i l d. each i l }
  where
    each : (i : ℕ) → i < pages_in stood → top_of i (drop (length (entries file)) (logged_in (take (moment i) steps))) ≡ 0
    each zero l = rw s.says
    each (suc i) l = rw s.says

pub felt : HasFelt example moment stood torn
felt = felt-whole torn says

pub felt-roomy : HasFelt example moment stood roomy
felt-roomy = felt-whole roomy says-roomy

felt-all : (file : List ℕ) → Says file all → HasFelt example last_moment last_stood file
unfolding example top_of
felt-all file s = record { felt = λ i l d. each i l }
  where
    each : (i : ℕ) → i < pages_in last_stood → top_of i (drop (length (entries file)) (logged_in (take (last_moment i) steps))) ≡ 0
    each zero l = rw s.says
    each (suc i) l = rw s.says

-- the last change, which page 1 has felt, among them: the zeros complete it
pub felt-completed : HasFelt example last_moment last_stood completed
felt-completed = felt-all completed says-completed

pub felt-roomier : HasFelt example last_moment last_stood roomier
felt-roomier = felt-all roomier says-roomier

-- and what pages of earlier moments felt
pub felt-earlier : HasFelt example moment stood completed
unfolding example top_of
felt-earlier = record { felt = λ i l d. each i l }
  where
    each : (i : ℕ) → i < pages_in stood → top_of i (drop (length (entries completed)) (logged_in (take (moment i) steps))) ≡ 0
    each zero l = rw says-completed.says
    each (suc i) l = rw says-completed.says

-- without the zeros it is missing
pub not-without-zeros : HasFelt example last_moment last_stood bare_cut → ⊥
unfolding example top_of top_on is_on is_changing number_at number_of bytes_of
not-without-zeros h =
    let d = ap type_of (page-at (page 7 (c ∷ []) ∷ page 9 (b ∷ []) ∷ []) last_ok 1 (lit< tt)) ∙ type-of 1 _ last_ok.1.0 in
    let f : top_of 1 (drop (length (entries bare_cut)) all) ≡ 0 = h.felt 1 (omega (arith, two-last)) d in
    let g : top_of 1 (drop (length whole) all) ≡ 0 = rw (entries-is bare-behind encodable) at f in
    omega arith

-- ---- recovery accepts each

pub computes : Computes (page 7 (c ∷ []) ∷ page 5 (a ∷ []) ∷ []) whole
unfolding order_from fault_after is_known is_shaped is_bare is_image is_keyed same is_changing in_order is_open begun ended clashes same_slot is_on number_at number_of bytes_of
computes = record { pages = stood_ok; few = lit≤ tt; order = refl; on_page = (lit< tt, (lit< tt, (lit< tt, (lit< tt, (lit< tt, (lit< tt, (lit< tt, (lit< tt, tt)))))))) }

computes-all : Computes (page 7 (c ∷ []) ∷ page 5 (a ∷ []) ∷ []) all
unfolding order_from fault_after is_known is_shaped is_bare is_image is_keyed same is_changing in_order is_open begun ended clashes same_slot is_on number_at number_of bytes_of
computes-all = record { pages = stood_ok; few = lit≤ tt; order = refl; on_page = (lit< tt, (lit< tt, (lit< tt, (lit< tt, (lit< tt, (lit< tt, (lit< tt, (lit< tt, (lit< tt, tt))))))))) }

pub computes-last : Computes (page 7 (c ∷ []) ∷ page 9 (b ∷ []) ∷ []) all
computes-last = record { pages = last_ok; few = computes-all.few; order = computes-all.order; on_page = computes-all.on_page }

pub ok : (recover_of (lent magic 7 stood torn) (replicate 8 no_record)).answer.number ≡ 0
unfolding top_on top_of changes effect_on decided committed is_on is_changing number_at number_of bytes_of before_of after_of
ok = number 7 (page 7 (c ∷ []) ∷ page 5 (a ∷ []) ∷ []) torn whole (replicate 8 no_record) refl says computes (lit≤ tt, (lit≤ tt, tt)) (λ t. lit≤ tt, (λ t. lit≤ tt, tt))

pub ok-roomy : (recover_of (lent magic 7 stood roomy) (replicate 8 no_record)).answer.number ≡ 0
unfolding top_on top_of changes effect_on decided committed is_on is_changing number_at number_of bytes_of before_of after_of
ok-roomy = number 7 (page 7 (c ∷ []) ∷ page 5 (a ∷ []) ∷ []) roomy whole (replicate 8 no_record) refl says-roomy computes (lit≤ tt, (lit≤ tt, tt)) (λ t. lit≤ tt, (λ t. lit≤ tt, tt))

pub ok-completed : (recover_of (lent magic 7 stood completed) (replicate 8 no_record)).answer.number ≡ 0
unfolding top_on top_of changes effect_on decided committed is_on is_changing number_at number_of bytes_of before_of after_of
ok-completed = number 7 (page 7 (c ∷ []) ∷ page 5 (a ∷ []) ∷ []) completed all (replicate 8 no_record) refl says-completed computes-all (lit≤ tt, (lit≤ tt, tt)) (λ t. lit≤ tt, (λ t. lit≤ tt, tt))

-- page 1 is lent with an LSN above the floor and above the other entries
pub ok-last : (recover_of (lent magic 7 last_stood completed) (replicate 8 no_record)).answer.number ≡ 0
unfolding top_on top_of changes effect_on decided committed is_on is_changing number_at number_of bytes_of before_of after_of
ok-last = number 7 (page 7 (c ∷ []) ∷ page 9 (b ∷ []) ∷ []) completed all (replicate 8 no_record) refl says-completed computes-last (lit≤ tt, (lit≤ tt, tt)) (λ t. lit≤ tt, (λ t. lit≤ tt, tt))

pub ok-roomier : (recover_of (lent magic 7 last_stood roomier) (replicate 8 no_record)).answer.number ≡ 0
unfolding top_on top_of changes effect_on decided committed is_on is_changing number_at number_of bytes_of before_of after_of
ok-roomier = number 7 (page 7 (c ∷ []) ∷ page 9 (b ∷ []) ∷ []) roomier all (replicate 8 no_record) refl says-roomier computes-last (lit≤ tt, (lit≤ tt, tt)) (λ t. lit≤ tt, (λ t. lit≤ tt, tt))

-- the felt change is taken back: slot 0 of page 1, lent with b, is empty as the ledger says
pub taken_back : slot_at (page_at 1 (recover_of (lent magic 7 last_stood completed) (replicate 8 no_record)).pages) 0 ≡ []
unfolding example ledger committed effect_on is_on is_changing number_at number_of bytes_of after_of
taken_back =
    let d = ap type_of (page-at (page 7 (c ∷ []) ∷ page 9 (b ∷ []) ∷ []) last_ok 1 (lit< tt)) ∙ type-of 1 _ last_ok.1.0 in
    (demand3 example).exact magic 7 last_moment last_stood (32 + sizes_of whole + 130) 7 (replicate 8 no_record) stands-last felt-completed ok-last 1 0 (omega (arith, two-last)) d
    ∙ ap (λ (es : List Entry). ledger before es 1 0) says-completed.says ∙ first-1 0

-- each ending is told: unused, at the place behind the last whole entry
pub unused-roomy : (ending_of roomy ≡ Unused) × (end_of roomy ≡ 32 + sizes_of whole)
unused-roomy = (ending-is roomy-behind encodable, end_is roomy-behind encodable)

pub unused-completed : (ending_of completed ≡ Unused) × (end_of completed ≡ 32 + sizes_of all)
unused-completed = (ending-is completed-behind all-encodable, end_is completed-behind all-encodable)
