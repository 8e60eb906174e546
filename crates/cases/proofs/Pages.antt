-- Recovery of packed pages with a log of encoded entries: what has to be computed, and what follows.
-- Assumes nothing.
use mathlib.Core.Path.{◌≡◌, refl, sym, ap, ap₂, ◌∙◌}
use mathlib.Core.Bool.{true, false}
use Prim.Native.Nat.{ℕ, zero, suc, ◌+◌, ◌%◌, ◌≤◌, ◌<◌, max}
use native.Mathlib.Omega.{arith}
use native.Mathlib.Nat.{add-zero}
use mathlib.Core.List.{List, [], ◌∷◌}
use lib.ListN.{length, get_or, length-take, length-drop}
use lib.Dec.{ltb, eqb-suc-zero}
use borrow.Author.Tests.{eq-eqb, lt-ltb, le-ltb}
use Rattle.wal.specs.Entry.{Entry, AllEncodable, sizes_of}
use Rattle.wal.specs.Read.{header_fault, read_at, first, log_limit}
use Rattle.wal.specs.Walk.{entries, end_of, ending_of, ending_number}
use Rattle.wal.specs.declared.Reading.TheVariants.{End}
use Rattle.wal.proofs.Encoding.{entries-log, end-log, header-log, length-log}
use Rattle.wal.proofs.ReadLaws.{past_end}
use Rattle.page.specs.Layout.{page_bytes, body_bytes, page_limit, pages_in, page_at, type_of, lsn_of, slot_at}
use Rattle.page.specs.Packed.{packed, tab, room_for}
use Rattle.refusals.specs.Verdict.{verdict, accepted, ◌then◌}
use Rattle.page.specs.Fault.{fault_of, page_verdict, first_bad, size_wrong}
use Rattle.refusals.specs.declared.Verdict.{Verdict}
use Rattle.std.specs.Prelude.{None}
use Rattle.page.proofs.FaultLaws.{good-sound}
use Rattle.rules.specs.Shape.{page_of as page_number}
use Rattle.rules.specs.Order.{last_lsn, full_at, order_from, end_verdict, log_verdict}
use Rattle.rules.specs.Mend.{committed, top_of, decided, slots_for, head_for, repacked, unless, mend_by, mend}
use Rattle.rules.specs.Recover.{pages_from, stray_from, is_tight, tight_from, recover_verdict, done, Recovered, recover_of}
use Rattle.rules.specs.declared.Answer.{Answer}
use Rattle.rules.specs.declared.Record.{Record}
use Rattle.rules.proofs.OrderLaws.{Every}
use Rattle.rules.proofs.Verdicts.{Accepted, OnData, accepted-is, none-stray, all-lent}
use Rattle.rules.proofs.Again.{recover-done, recover-refused, page-after as mended-after, slot-after}
use Rattle.cases.specs.Build.{Page, log_of, magic, page_of, area}
use Rattle.cases.proofs.Parts.{on-pages}
use Rattle.cases.proofs.Area.{PageOk, EachPage, nth, each-nth, size-of, good_of, lsn-of, type-of, count-of, slot-of, pages-in, area-whole, page-at}
use Rattle.rules.specs.Lent.{lent}

-- the slots that page i is to have, by what its own held
abbrev pub after : ℕ → Page → List Entry → ℕ → List ℕ
after i p es k = decided (committed es) es i k (get_or p.slots k [])

abbrev pub slots_after : ℕ → Page → List Entry → List (List ℕ)
slots_after i p es = tab (max (length p.slots) (top_of i es)) (after i p es)

-- each page, the first with index i, has room for what it is to have
abbrev pub FitFrom : ℕ → List Page → List Entry → Type 0
FitFrom i [] es = Unit {0}
FitFrom i (q ∷ ps) es = (0 < top_of i es → room_for (slots_after i q es) ≤ body_bytes) × FitFrom (suc i) ps es

fit-nth : (i : ℕ) (ps : List Page) (es : List Entry) → FitFrom i ps es → (j : ℕ) → j < length ps → 0 < top_of (i + j) es → room_for (slots_after (i + j) (nth ps j) es) ≤ body_bytes
fit-nth i [] es h j l = absurd (omega arith)
fit-nth i (q ∷ ps) es h zero l = rw add-zero h.0
fit-nth i (q ∷ ps) es h (suc j) l = let e : suc i + j ≡ i + suc j = omega arith in rw (← e) (fit-nth (suc i) ps es h.1 j (omega arith))

-- a log that says the entries es, keeps the order rules, and ends at its end, in a torn tail or unused
pub record Says (log : List ℕ) (es : List Entry) : Type 0 where
  pub head : header_fault log ≡ 0
  pub says : entries log ≡ es
  pub end : end_verdict (read_at log (end_of log)) (end_of log) ≡ accepted

-- the log of encoded entries ends exactly
pub ends-log : (es : List Entry) → AllEncodable es → ending_of (log_of es) ≡ End
ends-log es fs = ap (read_at (log_of es)) (end-log es fs) ∙ sym (past_end (log_of es) (length (log_of es)) (omega arith))

-- and is such a log
pub plain : (es : List Entry) → AllEncodable es → 32 + sizes_of es ≤ log_limit → Says (log_of es) es
plain es fs short = record { head = header-log es fs (omega (arith, length-log es fs)); says = entries-log es fs; end = rw (ends-log es fs) }

-- what is computed of pages and entries
pub record Computes (ps : List Page) (es : List Entry) : Type 0 where
  pub pages : EachPage PageOk ps
  pub few : length ps ≤ page_limit
  pub order : (order_from (full_at 8) [] es 32).number ≡ 0
  pub on_page : Every (λ e. page_number e < length ps) es

-- the table of the cases has eight records
module _ (floor : ℕ) (ps : List Page) (log : List ℕ) (es : List Entry) (T : List Record) (eight : length T ≡ 8) (log_is : Says log es) (x : Computes ps es) where
  size_ok : size_wrong (area ps) ≡ false
  unfolding size_wrong
  size_ok =
      let w = area-whole ps x.pages in
      let m : length (area ps) % page_bytes ≡ 0 = omega arith in
      rw (m, pages-in ps x.pages) (le-ltb _ _ x.few)

  log-ok : (log_verdict (full_at 8) log).number ≡ 0
  unfolding log_verdict
  log-ok = rw (log_is.head, log_is.says, eq-eqb _ _ x.order, log_is.end)

  module _ (i : ℕ) (l : i < length ps) where
    abbrev p : Page
    p = nth ps i

    ok : PageOk p
    ok = each-nth PageOk ps x.pages i l

    here : page_at i (area ps) ≡ page_of i p
    here = page-at ps x.pages i l

    sound : fault_of magic i (page_at i (area ps)) ≡ None
    sound = ap (fault_of magic i) here ∙ good-sound magic i (page_of i p) (good_of i p ok (omega (arith, x.few)))

    lsn-here : lsn_of (page_at i (area ps)) ≡ p.lsn
    lsn-here = ap lsn_of here ∙ lsn-of i p ok

    slots-for : slots_for (committed es) es i (page_of i p) ≡ slots_after i p es
    unfolding slots_for
    slots-for = ap₂ tab (ap (λ (n : ℕ). max n (top_of i es)) (count-of i p ok)) (λ j k. decided (committed es) es i k (slot-of i p ok k j))

  on-data : (i : ℕ) → 0 < top_of i (entries log) → OnData (area ps) i
  on-data i t =
      let l : i < length ps = on-pages (length ps) es x.on_page i (rw log_is.says at t) in
      record { within = omega (arith, pages-in ps x.pages); is_data = ap type_of (here i l) ∙ type-of i (p i l) (ok i l) }

  module _ (lsns : EachPage (λ q. q.lsn ≤ max floor (last_lsn es)) ps) (rooms : FitFrom 0 ps es) where
    known : (i : ℕ) → i < length ps → (nth ps i).lsn ≤ max floor (last_lsn es)
    known i l = each-nth (λ q. q.lsn ≤ max floor (last_lsn es)) ps lsns i l

    fits : (i : ℕ) → i < length ps → 0 < top_of i es → room_for (slots_after i (nth ps i) es) ≤ body_bytes
    fits i l = let e : 0 + i ≡ i = omega arith in rw e at (fit-nth 0 ps es rooms i l)

    accepts : Accepted (full_at (length T)) magic floor (area ps) log
    accepts =
        record {
          size = size_ok;
          log_ok = rw eight log-ok;
          sane = λ i l. let l' : i < length ps = omega (arith, pages-in ps x.pages) in record { sound = sound i l'; lsn_known = rw (lsn-here i l', log_is.says) (known i l') };
          on_data = on-data;
          roomy = λ i l t. let l' : i < length ps = omega (arith, pages-in ps x.pages) in rw (here i l', log_is.says, slots-for i l') (fits i l' (rw log_is.says at t));
        }

    pub answer : (recover_of (lent magic floor (area ps) log) T).answer ≡ done es (end_of log) (ending_number (ending_of log)) (length ps)
    answer =
        (recover-done magic floor (area ps) log T (accepted-is (full_at (length T)) magic floor (area ps) log accepts)).0
        ∙ ap₂ (λ (E : List Entry) (n : ℕ). done E (end_of log) (ending_number (ending_of log)) n) log_is.says (pages-in ps x.pages)

    pub number : (recover_of (lent magic floor (area ps) log) T).answer.number ≡ 0
    unfolding done
    number = ap (λ (r : Answer). r.number) answer

    pub place : (recover_of (lent magic floor (area ps) log) T).answer.place ≡ 0
    unfolding done
    place = ap (λ (r : Answer). r.place) answer

    pub page-after : (i : ℕ) → i < length ps → page_at i (recover_of (lent magic floor (area ps) log) T).pages ≡ mend es i (page_of i (nth ps i))
    page-after i l =
        mended-after magic floor (area ps) log T accepts i (omega (arith, pages-in ps x.pages))
        ∙ ap₂ (λ (E : List Entry) (p : List ℕ). mend E i p) log_is.says (here i l)

    pub slot : (i : ℕ) → i < length ps → (k : ℕ) → slot_at (page_at i (recover_of (lent magic floor (area ps) log) T).pages) k ≡ after i (nth ps i) es k
    slot i l k =
        slot-after magic floor (area ps) log T accepts i (omega (arith, pages-in ps x.pages)) k
        ∙ ap₂ (λ (E : List Entry) (p : List ℕ). decided (committed E) E i k (slot_at p k)) log_is.says (here i l)
        ∙ ap (decided (committed es) es i k) (slot-of i (nth ps i) (ok i l) k)

    -- a touched page is packed anew
    pub packed-after : (i : ℕ) (l : i < length ps) → 0 < top_of i es
        → (page_at i (recover_of (lent magic floor (area ps) log) T).pages ≡ packed (head_for (committed es) es i (page_of i (nth ps i))) (slots_after i (nth ps i) es))
        × (length (head_for (committed es) es i (page_of i (nth ps i))).reserved ≡ 28)
    unfolding mend mend_by
    packed-after i l t = (
      page-after i l ∙ go (top_of i es) t ∙ ap (packed (head_for (committed es) es i (page_of i (nth ps i)))) (slots-for i l),
      simp (length-take, length-drop) (omega (arith, size-of i (nth ps i) (ok i l))),
    )
      where
        go : (n : ℕ) → 0 < n → unless (committed es) es i n (page_of i (nth ps i)) (repacked (committed es) es i (page_of i (nth ps i))) ≡ repacked (committed es) es i (page_of i (nth ps i))
        go zero h = absurd (omega arith)
        go (suc n) h = refl

  -- ---- refusals of one page

  module _ (one : length ps ≡ 1) where
    -- the verdict, once size and log are accepted
    pages-next : recover_verdict (full_at 8) (lent magic floor (area ps) log)
        ≡ (pages_from magic floor (last_lsn es) (area ps) 1 0 then stray_from (area ps) es first then tight_from es (area ps) 1 0)
    unfolding recover_verdict
    pages-next = rw (size_ok, eq-eqb _ _ log-ok, pages-in ps x.pages, one, log_is.says)

    -- 12
    pub above : max floor (last_lsn es) < (nth ps 0).lsn → recover_verdict (full_at 8) (lent magic floor (area ps) log) ≡ verdict 12 0
    unfolding first_bad page_verdict
    above h =
        let l : 0 < length ps = omega arith in
        let t : ltb (max floor (last_lsn es)) (lsn_of (page_at 0 (area ps))) ≡ true = lt-ltb (max floor (last_lsn es)) (lsn_of (page_at 0 (area ps))) (rw (lsn-here 0 l) h) in
        pages-next ∙ rw (sound 0 l, t)

    -- 14
    pub tight : (nth ps 0).lsn ≤ max floor (last_lsn es) → 0 < top_of 0 es → body_bytes < room_for (slots_after 0 (nth ps 0) es) → recover_verdict (full_at 8) (lent magic floor (area ps) log) ≡ verdict 14 0
    unfolding first_bad page_verdict tight_from is_tight
    tight known touched over =
        let l : 0 < length ps = omega arith in
        let t : ltb (max floor (last_lsn es)) (lsn_of (page_at 0 (area ps))) ≡ false = le-ltb (max floor (last_lsn es)) (lsn_of (page_at 0 (area ps))) (rw (lsn-here 0 l) known) in
        let s : (stray_from (area ps) es first).number ≡ 0 = none-stray (area ps) es first (all-lent (area ps) es (λ i h. on-data i (rw log_is.says h))) in
        let r : ltb body_bytes (room_for (slots_for (committed es) es 0 (page_at 0 (area ps)))) ≡ true = lt-ltb body_bytes (room_for (slots_for (committed es) es 0 (page_at 0 (area ps)))) (rw (here 0 l, slots-for 0 l) over) in
        pages-next ∙ rw (sound 0 l, t, eq-eqb _ _ s, lt-ltb 0 (top_of 0 es) touched, r)

-- what a refusal answers
pub refusal : (floor : ℕ) (pages log : List ℕ) (T : List Record) → length T ≡ 8 → (n p : ℕ) → recover_verdict (full_at 8) (lent magic floor pages log) ≡ verdict (suc n) p
    → ((recover_of (lent magic floor pages log) T).answer.number ≡ suc n) × ((recover_of (lent magic floor pages log) T).answer.place ≡ p)
refusal floor pages log T eight n p h =
    let h' : recover_verdict (full_at (length T)) (lent magic floor pages log) ≡ verdict (suc n) p = rw eight h in
    let r = recover-refused magic floor pages log T (rw h' (eqb-suc-zero n)) in
    (ap (λ (x : Recovered). x.answer.number) r ∙ ap (λ (v : Verdict). v.number) h', ap (λ (x : Recovered). x.answer.place) r ∙ ap (λ (v : Verdict). v.place) h')

-- an order rule that is broken
pub broken : (floor : ℕ) (ps : List Page) (es : List Entry) (n p : ℕ) → EachPage PageOk ps → length ps ≤ page_limit → AllEncodable es → 32 + sizes_of es ≤ log_limit
    → order_from (full_at 8) [] es 32 ≡ verdict (suc n) p → recover_verdict (full_at 8) (lent magic floor (area ps) (log_of es)) ≡ verdict (suc n) p
unfolding recover_verdict log_verdict size_wrong
broken floor ps es n p ok few fs short h =
    let w = area-whole ps ok in
    let m : length (area ps) % page_bytes ≡ 0 = omega arith in
    let c : ltb page_limit (pages_in (area ps)) ≡ false = le-ltb page_limit (pages_in (area ps)) (omega (arith, pages-in ps ok)) in
    rw (m, c, header-log es fs (omega (arith, length-log es fs)), entries-log es fs, h, eqb-suc-zero n, eqb-suc-zero n)
