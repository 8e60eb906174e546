-- The two runs meet every hypothesis of the second half of demand 3. Assumes nothing.
use mathlib.Core.Path.{◌≡◌, sym, ap, ◌∙◌, refl, subst}
use mathlib.Core.Logic.{inl, inr}
use Prim.Native.Nat.{ℕ, ◌+◌, ◌≤◌, ◌<◌}
use native.Mathlib.Omega.{arith}
use mathlib.Core.List.{List, [], ◌∷◌}
use lib.ListN.{length, replicate}
use lib.Dec.{lit<, lit≤}
use Rattle.endian.specs.Numbers.{Bytes, bytes_of, number_of, number_at}
use Rattle.wal.specs.Entry.{Entry, encoded, encoded_all, unsealed, header, sizes_of}
use Rattle.wal.specs.Walk.{entries}
use Rattle.page.specs.Layout.{pages_in, page_at, slot_at}
use Rattle.rules.specs.Lent.{lent}
use Rattle.rules.specs.Shape.{is_changing, is_on, effect_on, top_on, before_of, after_of}
use Rattle.rules.specs.Mend.{committed, changes, top_of, decided}
use Rattle.rules.specs.Recover.{recover_of}
use Rattle.rules.specs.declared.Record.{Record}
use Rattle.history.specs.Demand3.{file, Mixed}
use Rattle.history.specs.Night.{Run, stored, Has}
use Rattle.history.proofs.Demand3.{bytes-file, demand3}
use Rattle.history.proofs.Stores.{page-stored, page-left}
use Rattle.history.proofs.Night.{night}
use Rattle.cases.specs.Build.{magic, page}
use Rattle.cases.specs.Starred.{b, c, no_record}
use Rattle.cases.specs.Example.{whole, all, completed, roomier, last_stood}
use Rattle.cases.specs.TwoRuns.{halfway}
use Rattle.cases.proofs.Parts.{bytes-log}
use Rattle.cases.proofs.Area.{area-bytes, page-at, slot-of}
use Rattle.cases.proofs.Pages.{slot}
use Rattle.cases.proofs.Example.{example, bytes-example, all-encodable, last_ok, two-last, says-completed, computes-last, ok-last, ok-roomier}

abbrev table : List Record
table = replicate 8 no_record

bytes-pages : Bytes last_stood
bytes-pages = area-bytes (page 7 (c ∷ []) ∷ page 9 (b ∷ []) ∷ []) last_ok

-- ---- the first run, stopped after page 0

abbrev first : Run
first = record { floor = 7; cut = 32 + sizes_of whole + 130; zeros = 7; table = table }

below : (0 < pages_in last_stood) × Unit {0}
below = (omega (arith, two-last), tt)

pub stopped : Mixed last_stood (recover_of (lent magic 7 last_stood completed) table).pages halfway
unfolding example
stopped =
    subst (λ (es : List Entry). Mixed last_stood (recover_of (lent magic 7 last_stood completed) table).pages (stored es (0 ∷ []) last_stood)) says-completed.says
    ((night example).any_stop magic first last_stood bytes-pages bytes-example ok-last (0 ∷ []) below)

-- half-way: page 0, lent with c, is as the run leaves it; page 1, which the run would leave empty, is as lent
pub half-way : (slot_at (page_at 0 halfway) 0 ≡ b) × (slot_at (page_at 1 halfway) 0 ≡ b)
unfolding top_on top_of changes effect_on decided committed is_on is_changing number_at number_of bytes_of before_of after_of
half-way = (
  ap (λ (p : List ℕ). slot_at p 0) (sym (halfway-is 0) ∙ page-stored magic 7 last_stood completed table bytes-pages bytes-completed ok-last (0 ∷ []) below 0 below.0 (inl refl))
      ∙ slot 7 (page 7 (c ∷ []) ∷ page 9 (b ∷ []) ∷ []) completed all table refl says-completed computes-last (lit≤ tt, (lit≤ tt, tt)) (λ t. lit≤ tt, (λ t. lit≤ tt, tt)) 0 (lit< tt) 0,
  ap (λ (p : List ℕ). slot_at p 0) (sym (halfway-is 1) ∙ page-left magic 7 last_stood completed table bytes-pages bytes-completed ok-last (0 ∷ []) below 1 not-stored ∙ page-at (page 7 (c ∷ []) ∷ page 9 (b ∷ []) ∷ []) last_ok 1 (lit< tt))
      ∙ slot-of 1 _ last_ok.1.0 0,
)
  where
    bytes-completed : Bytes completed
    bytes-completed = bytes-file (32 + sizes_of whole + 130) 7 (bytes-log all all-encodable)

    halfway-is : (i : ℕ) → page_at i (stored (entries completed) (0 ∷ []) last_stood) ≡ page_at i halfway
    halfway-is i = ap (λ (es : List Entry). page_at i (stored es (0 ∷ []) last_stood)) says-completed.says

    not-stored : Has 1 (0 ∷ []) → ⊥
    not-stored (inl e) = omega arith
    not-stored (inr h) = h

-- ---- the second run

no-shorter : length (file example (32 + sizes_of whole + 130) 7) ≤ length (file example (32 + sizes_of whole + 133) 20)
unfolding example encoded_all encoded unsealed header bytes_of
no-shorter = lit≤ tt

-- it ends as it would have ended alone
pub two_runs : ((recover_of (lent magic 7 halfway roomier) table).answer ≡ (recover_of (lent magic 7 last_stood roomier) table).answer)
    × ((recover_of (lent magic 7 halfway roomier) table).pages ≡ (recover_of (lent magic 7 last_stood roomier) table).pages)
unfolding example
two_runs =
    (demand3 example).repeats magic 7 7 last_stood (32 + sizes_of whole + 130) 7 (32 + sizes_of whole + 133) 20 table table table bytes-pages bytes-example (omega arith) no-shorter refl refl ok-roomier halfway stopped
