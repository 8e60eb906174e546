-- Without the exact end of the log the first half of demand 3 is false over cuts with zero bytes behind them. Assumes nothing.
use mathlib.Core.Path.{◌≡◌, refl, sym, ap, ◌∙◌, subst}
use Prim.Native.Nat.{ℕ, ◌+◌}
use native.Mathlib.Omega.{arith}
use mathlib.Core.List.{List, [], ◌∷◌}
use lib.ListN.{length, take, get_or, replicate}
use lib.Dec.{lit<, lit≤}
use Rattle.endian.specs.Numbers.{bytes_of, number_of, number_at}
use Rattle.wal.specs.Entry.{AllEncodable, encoded, encoded_all, unsealed, header, sizes_of}
use Rattle.wal.specs.Read.{all_zero, read_at}
use Rattle.wal.specs.Walk.{entries, file_of}
use Rattle.wal.specs.declared.Reading.TheVariants.{Torn}
use Rattle.wal.proofs.WalkLaws.{not-torn}
use Rattle.wal.proofs.Encoding.{entries-encoded}
use Rattle.page.specs.Layout.{data_type, page_at, type_of, slot_at}
use Rattle.rules.specs.Shape.{is_known, is_changing, is_image, same, is_keyed, is_bare, is_shaped, before_of, after_of, is_on, effect_on, top_on, same_slot}
use Rattle.rules.specs.Order.{begun, ended, is_open, in_order, clashes, fault_after, order_from}
use Rattle.rules.specs.Mend.{committed, changes, top_of, decided}
use Rattle.rules.specs.Lent.{lent}
use Rattle.rules.specs.Recover.{recover_of}
use Rattle.history.specs.History.{logged_in, Honest, start, ledger}
use Rattle.cases.specs.Build.{begins, magic, page, log_of}
use Rattle.cases.specs.Starred.{a, b, no_record}
use Rattle.cases.specs.ExactEnd.{pages, steps, stranger, log, found, ExactAnyhow}
use Rattle.cases.proofs.Parts.{tuple-bytes, bare, updatable}
use Rattle.cases.proofs.Area.{PageOk, EachPage, filled_ok, pages-in, page-at, slot-of, type-of}
use Rattle.cases.proofs.Pages.{Says, plain, Computes, number, slot}

-- ---- the history

begin-ok : AllEncodable (begins 1 7 ∷ [])
begin-ok = (bare 1 1 7 (lit< tt) (lit< tt) (lit< tt), tt)

found_ok : AllEncodable found
found_ok = (bare 1 1 7 (lit< tt) (lit< tt) (lit< tt), (updatable 2 7 0 0 (lit< tt) (lit< tt) (tuple-bytes 29 2 (lit< tt)) (tuple-bytes 29 3 (lit< tt)) (lit≤ tt), tt))

reads-torn : (read_at log (32 + sizes_of (begins 1 7 ∷ [])) ≡ Torn) × (length header ≡ 32)
unfolding read_at all_zero encoded_all encoded unsealed header bytes_of number_at number_of
reads-torn = (refl, refl)

in-log : entries log ≡ logged_in steps
in-log = entries-encoded header (take 131 (encoded stranger)) reads-torn.1 (begins 1 7 ∷ []) begin-ok (λ v q. not-torn (sym reads-torn.0 ∙ q))

honest : Honest (λ i. type_of (page_at i pages) ≡ data_type) (start pages) steps
unfolding effect_on is_on is_changing
honest = (λ i k d. tt, tt)

-- ---- two zero bytes behind it

full_is : file_of log 206 2 ≡ log_of found
unfolding encoded_all encoded unsealed header bytes_of
full_is = refl

pages-ok : EachPage PageOk (page 0 (a ∷ []) ∷ [])
pages-ok = (filled_ok 0 1 (lit< tt) (lit< tt), tt)

computes : Computes (page 0 (a ∷ []) ∷ []) found
unfolding order_from fault_after is_known is_shaped is_bare is_image is_keyed same is_changing in_order is_open begun ended clashes same_slot is_on number_at number_of bytes_of
computes = record { pages = pages-ok; few = lit≤ tt; order = refl; on_page = (lit< tt, (lit< tt, tt)) }

says : Says (file_of log 206 2) found
unfolding bytes_of
says = subst (λ (s : List ℕ). Says s found) (sym full_is) (plain found found_ok (lit≤ tt))

accepts : (recover_of (lent magic 0 pages (file_of log 206 2)) (replicate 8 no_record)).answer.number ≡ 0
unfolding top_on top_of changes effect_on decided committed is_on is_changing number_at number_of bytes_of before_of after_of
accepts = number 0 (page 0 (a ∷ []) ∷ []) (file_of log 206 2) found (replicate 8 no_record) refl says computes (lit≤ tt, tt) (λ t. lit≤ tt, tt)

-- recovery takes the stranger back: the slot holds b
left : slot_at (page_at 0 (recover_of (lent magic 0 pages (file_of log 206 2)) (replicate 8 no_record)).pages) 0 ≡ b
unfolding top_on top_of changes effect_on decided committed is_on is_changing number_at number_of bytes_of before_of after_of
left = slot 0 (page 0 (a ∷ []) ∷ []) (file_of log 206 2) found (replicate 8 no_record) refl says computes (lit≤ tt, tt) (λ t. lit≤ tt, tt) 0 (lit< tt) 0

-- the ledger has not heard of it: the slot holds a
first-0 : slot_at (page_at 0 pages) 0 ≡ a
first-0 = ap (λ (p : List ℕ). slot_at p 0) (page-at (page 0 (a ∷ []) ∷ []) pages-ok 0 (lit< tt)) ∙ slot-of 0 _ pages-ok.0 0

told : ledger pages found 0 0 ≡ a
unfolding ledger committed effect_on is_on is_changing number_at number_of bytes_of after_of
told = first-0

differ : b ≡ a → ⊥
differ e = let z : get_or b 29 0 ≡ get_or a 29 0 = ap (λ (l : List ℕ). get_or l 29 0) e in omega arith

is-data : type_of (page_at 0 pages) ≡ data_type
is-data = ap type_of (page-at (page 0 (a ∷ []) ∷ []) pages-ok 0 (lit< tt)) ∙ type-of 0 _ pages-ok.0

pub needs-exact-end : ExactAnyhow → ⊥
needs-exact-end all =
    let one = pages-in (page 0 (a ∷ []) ∷ []) pages-ok in
    let same = all magic 0 pages steps log 206 2 (replicate 8 no_record) honest in-log accepts 0 0 (omega (arith, one)) is-data in
    differ (sym left ∙ same ∙ ap (λ es. ledger pages es 0 0) says.says ∙ told)
