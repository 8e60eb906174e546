-- Where a later file may be shorter than an earlier, though its cut is not, or its cut may be, though its file is not, the second half of demand 3 is false, also of pages at moments of a history
-- whose felt changes both files have. Assumes nothing.
use mathlib.Core.Path.{◌≡◌, refl, sym, ap, ◌∙◌, subst}
use mathlib.Core.Logic.{inl}
use Prim.Native.Nat.{ℕ, zero, suc, ◌<◌}
use native.Mathlib.Omega.{arith}
use mathlib.Core.List.{List, [], ◌∷◌}
use lib.ListN.{length, take, drop, get_or, replicate}
use lib.Dec.{lit<, lit≤}
use Rattle.endian.specs.Numbers.{Bytes, bytes_of, number_of, number_at}
use Rattle.wal.specs.Entry.{Entry, AllEncodable, encoded, encoded_all, unsealed, header}
use Rattle.wal.specs.Read.{header_fault, all_zero, read_at}
use Rattle.wal.specs.Walk.{entries, file_of}
use Rattle.wal.specs.declared.Reading.TheVariants.{Torn, Unused}
use Rattle.wal.proofs.WalkLaws.{not-torn, not-unused}
use Rattle.wal.proofs.Encoding.{entries-log}
use Rattle.page.specs.Layout.{data_type, pages_in, page_at, type_of, slot_at}
use Rattle.rules.specs.Lent.{lent}
use Rattle.rules.specs.Shape.{is_known, is_changing, is_image, same, is_keyed, is_bare, is_shaped, before_of, after_of, is_on, effect_on, top_on, same_slot}
use Rattle.rules.specs.Order.{begun, ended, is_open, in_order, clashes, fault_after, order_from}
use Rattle.rules.specs.Mend.{committed, changes, top_of, decided}
use Rattle.rules.specs.Recover.{recover_of}
use Rattle.rules.specs.declared.Answer.{Answer}
use Rattle.rules.specs.declared.Record.{Record}
use Rattle.rules.proofs.Slots.{decided-untouched}
use Rattle.rules.proofs.Again.{zero-accepted, slot-after}
use Rattle.history.specs.History.{Honest, start}
use Rattle.history.specs.Demand3.{History, Stands, HasFelt, Mixed}
use Rattle.history.specs.Night.{Run, ran}
use Rattle.history.proofs.Demand3.{demand3}
use Rattle.history.proofs.Night.{night}
use Rattle.cases.specs.Build.{updates, magic, page}
use Rattle.cases.specs.Starred.{a, b, no_record}
use Rattle.cases.specs.Lengths.{before, made, steps, log, RepeatsIf, CutNoShorter, FileNoShorter}
use Rattle.cases.proofs.Parts.{tuple-bytes, updatable, bytes-log}
use Rattle.cases.proofs.Area.{PageOk, EachPage, filled_ok, pages-in, page-at, slot-of, area-bytes}
use Rattle.cases.proofs.Pages.{Says, plain, ends-log, Computes, number, slot}
use Rattle.cases.proofs.Behind.{Behind, says-file}
use Rattle.cases.proofs.Example.{finds}

abbrev table : List Record
table = replicate 8 no_record

-- ---- the history, and the page at its start

made_ok : AllEncodable made
made_ok = (updatable 1 0 0 0 (lit< tt) (lit< tt) (tuple-bytes 29 1 (lit< tt)) (tuple-bytes 29 2 (lit< tt)) (lit≤ tt), tt)

before-ok : EachPage PageOk (page 0 (a ∷ []) ∷ [])
before-ok = (filled_ok 0 1 (lit< tt) (lit< tt), tt)

one : pages_in before ≡ 1
one = pages-in (page 0 (a ∷ []) ∷ []) before-ok

first-0 : slot_at (page_at 0 before) 0 ≡ a
first-0 = ap (λ (p : List ℕ). slot_at p 0) (page-at (page 0 (a ∷ []) ∷ []) before-ok 0 (lit< tt)) ∙ slot-of 0 _ before-ok.0 0

honest : Honest (λ i. type_of (page_at i before) ≡ data_type) (start before) steps
unfolding effect_on is_on is_changing before_of number_at number_of bytes_of
honest = (λ i k d. finds (start before) (updates 1 0 0 0 a b) first-0 i k, tt)

history : History
history = record { pages = before; steps = steps; log = log; honest = honest; in_log = entries-log made made_ok; ends = ends-log made made_ok }

bytes-before : Bytes before
bytes-before = area-bytes (page 0 (a ∷ []) ∷ []) before-ok

bytes-history : Bytes history.log
unfolding history
bytes-history = bytes-log made made_ok

stands : Stands history (λ i. 0) before
unfolding history
stands = record { type = λ i l d. d; slots = λ i k l d. refl }

-- nothing was felt, so each file has it
none-felt : (F : List ℕ) → HasFelt history (λ i. 0) before F
unfolding history top_of
none-felt F = record { felt = λ i l d. none i (length (entries F)) }
  where
    none : (i n : ℕ) → top_of i (drop {A = Entry} n []) ≡ 0
    none i zero = refl
    none i (suc n) = refl

-- ---- a first file that has the Update, and a second that has not

computes-made : Computes (page 0 (a ∷ []) ∷ []) made
unfolding order_from fault_after is_known is_shaped is_bare is_image is_keyed same is_changing in_order is_open begun ended clashes same_slot is_on number_at number_of bytes_of
computes-made = record { pages = before-ok; few = lit≤ tt; order = refl; on_page = (lit< tt, tt) }

computes_none : Computes (page 0 (a ∷ []) ∷ []) []
unfolding order_from
computes_none = record { pages = before-ok; few = lit≤ tt; order = refl; on_page = tt }

differ : a ≡ b → ⊥
differ e = let z : get_or a 29 0 ≡ get_or b 29 0 = ap (λ (l : List ℕ). get_or l 29 0) e in omega arith

module _ (c₁ z₁ c₂ z₂ : ℕ) (says₁ : Says (file_of log c₁ z₁) made) (says₂ : Says (file_of log c₂ z₂) []) where
  ok₁ : (recover_of (lent magic 0 before (file_of log c₁ z₁)) table).answer.number ≡ 0
  unfolding top_on top_of changes effect_on decided committed is_on is_changing number_at number_of bytes_of before_of after_of
  ok₁ = number 0 (page 0 (a ∷ []) ∷ []) (file_of log c₁ z₁) made table refl says₁ computes-made (lit≤ tt, tt) (λ t. lit≤ tt, tt)

  left₁ : slot_at (page_at 0 (recover_of (lent magic 0 before (file_of log c₁ z₁)) table).pages) 0 ≡ b
  unfolding top_on top_of changes effect_on decided committed is_on is_changing number_at number_of bytes_of before_of after_of
  left₁ = slot 0 (page 0 (a ∷ []) ∷ []) (file_of log c₁ z₁) made table refl says₁ computes-made (lit≤ tt, tt) (λ t. lit≤ tt, tt) 0 (lit< tt) 0

  ok₂ : (recover_of (lent magic 0 before (file_of log c₂ z₂)) table).answer.number ≡ 0
  unfolding top_of
  ok₂ = number 0 (page 0 (a ∷ []) ∷ []) (file_of log c₂ z₂) [] table refl says₂ computes_none (lit≤ tt, tt) (λ t. absurd (omega arith), tt)

  -- what the second leaves in the slot of any pages is what it finds
  keeps : (Q : List ℕ) → 0 < pages_in Q → (recover_of (lent magic 0 Q (file_of log c₂ z₂)) table).answer.number ≡ 0
      → slot_at (page_at 0 (recover_of (lent magic 0 Q (file_of log c₂ z₂)) table).pages) 0 ≡ slot_at (page_at 0 Q) 0
  unfolding top_of
  keeps Q l ok =
      slot-after magic 0 Q (file_of log c₂ z₂) table (zero-accepted magic 0 Q (file_of log c₂ z₂) table ok) 0 l 0
      ∙ ap (λ (es : List Entry). decided (committed es) es 0 0 (slot_at (page_at 0 Q) 0)) says₂.says
      ∙ decided-untouched 0 (committed []) [] 0 (slot_at (page_at 0 Q) 0) (omega arith)

  abbrev first : Run
  first = record { floor = 0; cut = c₁; zeros = z₁; table = table }

  -- the first ran to its end: all its pages are stored
  ran_first : Mixed before (ran history magic first before).pages (ran history magic first before).pages
  unfolding history
  ran_first =
      let below : (0 < pages_in before) × Unit {0} = (omega (arith, one), tt) in
      subst (λ (Q : List ℕ). Mixed before (ran history magic first before).pages Q)
      ((night history).any_order magic first before bytes-before bytes-history ok₁ (0 ∷ []) below (λ i l t. inl (omega (arith, one))))
      ((night history).any_stop magic first before bytes-before bytes-history ok₁ (0 ∷ []) below)

  refuted : (Keeps : History → ℕ → ℕ → ℕ → ℕ → Type 0) → Keeps history c₁ z₁ c₂ z₂ → RepeatsIf Keeps → ⊥
  unfolding history
  refuted Keeps kept all =
      let Q : List ℕ = (ran history magic first before).pages in
      let r = all history (λ i. 0) magic 0 before c₁ z₁ c₂ z₂ table table table bytes-before bytes-history stands (none-felt (file_of log c₁ z₁)) (none-felt (file_of log c₂ z₂)) kept refl refl ok₂ Q ran_first in
      let n = ran_first.size in
      let k = keeps Q (omega (arith, n, one)) (ap (λ (x : Answer). x.number) r.0 ∙ ok₂) in
      let m = keeps before (omega (arith, one)) ok₂ in
      differ (sym first-0 ∙ sym m ∙ ap (λ (p : List ℕ). slot_at (page_at 0 p) 0) (sym r.1) ∙ k ∙ left₁)

-- ---- two zero bytes complete the Update, and are not there again

completed-is : file_of log 163 2 ≡ log
unfolding encoded_all encoded unsealed header bytes_of
completed-is = refl

says-completed : Says (file_of log 163 2) made
unfolding bytes_of
says-completed = subst (λ (s : List ℕ). Says s made) (sym completed-is) (plain made made_ok (lit≤ tt))

torn-behind : Behind (file_of log 163 0) [] (take 131 (encoded (updates 1 0 0 0 a b))) Torn
unfolding header_fault read_at all_zero encoded_all encoded unsealed header bytes_of number_at number_of
torn-behind = record { is = refl; head = refl; reads = refl; never = λ v q. not-torn q }

pub needs-file-length : RepeatsIf CutNoShorter → ⊥
needs-file-length = refuted 163 2 163 0 says-completed (says-file torn-behind tt (λ at. refl)) CutNoShorter (omega arith)

-- ---- the whole log, and then zero bytes where the Update was

whole_is : file_of log 165 0 ≡ log
unfolding encoded_all encoded unsealed header bytes_of
whole_is = refl

says-whole : Says (file_of log 165 0) made
unfolding bytes_of
says-whole = subst (λ (s : List ℕ). Says s made) (sym whole_is) (plain made made_ok (lit≤ tt))

zeros-behind : Behind (file_of log 32 133) [] (replicate 133 0) Unused
unfolding header_fault read_at all_zero encoded_all encoded unsealed header bytes_of number_at number_of
zeros-behind = record { is = refl; head = refl; reads = refl; never = λ v q. not-unused q }

no-shorter : FileNoShorter history 165 0 32 133
unfolding history encoded_all encoded unsealed header bytes_of
no-shorter = lit≤ tt

pub needs-cut-length : RepeatsIf FileNoShorter → ⊥
needs-cut-length = refuted 165 0 32 133 says-whole (says-file zeros-behind tt (λ at. refl)) FileNoShorter no-shorter

-- ---- with both conditions it is true

pub both-suffice : RepeatsIf (λ h c₁ z₁ c₂ z₂. CutNoShorter h c₁ z₁ c₂ z₂ × FileNoShorter h c₁ z₁ c₂ z₂)
both-suffice h moment magic floor P c₁ z₁ c₂ z₂ T₁ T₂ T₃ bytes log stands felt₁ felt₂ kept t₁ t₃ ok Q mixed =
    (demand3 h).repeats magic floor floor P c₁ z₁ c₂ z₂ T₁ T₂ T₃ bytes log kept.0 kept.1 t₁ t₃ ok Q mixed
