-- A flat table and its records. Assumes nothing.
use Rattle.std.specs.Prelude.{◌≡◌, ℕ, zero, suc, ◌+◌, ◌*◌, ◌/◌, ◌≤◌, List, [], ◌∷◌, ◌++◌, length, take, drop}
use mathlib.Core.Path.{refl, sym, ap, ap₂, ◌∙◌}
use mathlib.Core.List.{append_assoc}
use native.Mathlib.Omega.{arith}
use lib.ListN.{length-drop, take-append-drop}
use lib.Seq.{length-take-le, drop-drop}
use Rattle.wal.specs.Entry.{Entry}
use Rattle.rules.specs.Recover.{records_of, table_after}
use Rattle.rules.specs.declared.Record.{Record}
use Rattle.table.specs.Flat.{stride, six, flat, flat_after}
use Rattle.table.proofs.Flattening.{flat_append, length-flat}
use Rattle.recovery.specs.Flat.{record_from, records_in, rows, left}

records-length : (n : ℕ) (d : List ℕ) → length (records_in n d) ≡ n
unfolding records_in
records-length zero d = refl
records-length (suc n) d = ap suc (records-length n (drop stride d))

pub length-rows : (t : List ℕ) → length (rows t) ≡ length t / stride
unfolding rows
length-rows t = records-length (length t / stride) t

-- a record from its numbers has them
six-from : (l : List ℕ) → length l ≡ stride → six (record_from l) ≡ l
six-from (a ∷ b ∷ c ∷ d ∷ e ∷ f ∷ []) h = refl
six-from [] h = absurd (omega arith)
six-from (a ∷ []) h = absurd (omega arith)
six-from (a ∷ b ∷ []) h = absurd (omega arith)
six-from (a ∷ b ∷ c ∷ []) h = absurd (omega arith)
six-from (a ∷ b ∷ c ∷ d ∷ []) h = absurd (omega arith)
six-from (a ∷ b ∷ c ∷ d ∷ e ∷ []) h = absurd (omega arith)
six-from (a ∷ b ∷ c ∷ d ∷ e ∷ f ∷ g ∷ l) h = absurd (omega arith)

flat_in : (n : ℕ) (d : List ℕ) → stride * n ≤ length d → flat (records_in n d) ++ drop (stride * n) d ≡ d
unfolding records_in flat
flat_in zero d h = refl
flat_in (suc n) d h =
    let e : stride + stride * n ≡ stride * suc n = omega arith in
    append_assoc (six (record_from (take stride d))) (flat (records_in n (drop stride d))) (drop (stride * suc n) d)
    ∙ ap₂ (λ (x y : List ℕ). x ++ (flat (records_in n (drop stride d)) ++ y)) (six-from (take stride d) (length-take-le stride d (omega arith))) (ap (λ (k : ℕ). drop k d) (sym e) ∙ sym (drop-drop (stride * n) stride d))
    ∙ ap (λ (x : List ℕ). take stride d ++ x) (flat_in n (drop stride d) (omega (arith, length-drop stride d))) ∙ take-append-drop stride d

-- the table is its records and what is left
pub flat_rows : (t : List ℕ) → flat (rows t) ++ left t ≡ t
unfolding rows left
flat_rows t = flat_in (length t / stride) t (omega arith)

flat-drop : (k : ℕ) (rs : List Record) (l : List ℕ) → k ≤ length rs → flat (drop k rs) ++ l ≡ drop (stride * k) (flat rs ++ l)
unfolding flat
flat-drop zero rs l h = refl
flat-drop (suc k) [] l h = absurd (omega arith)
flat-drop (suc k) (r ∷ rs) l h =
    let e : stride + stride * k ≡ stride * suc k = omega arith in
    let y : drop (stride * k) (flat rs ++ l) ≡ drop (stride * k) (drop stride (flat (r ∷ rs) ++ l)) = refl in
    flat-drop k rs l (omega arith) ∙ y ∙ drop-drop (stride * k) stride (flat (r ∷ rs) ++ l) ∙ ap (λ (n : ℕ). drop n (flat (r ∷ rs) ++ l)) e

-- writing the records of entries is the same both ways
pub flat_after_lem : (es : List Entry) (t : List ℕ) → length (records_of es es) ≤ length (rows t) → flat (table_after es (rows t)) ++ left t ≡ flat_after es t
unfolding table_after flat_after
flat_after_lem es t h =
    let n = length (records_of es es) in
    ap (λ (l : List ℕ). l ++ left t) (flat_append (records_of es es) (drop n (rows t)))
    ∙ append_assoc (flat (records_of es es)) (flat (drop n (rows t))) (left t)
    ∙ ap (λ (l : List ℕ). flat (records_of es es) ++ l)
    (flat-drop n (rows t) (left t) h ∙ ap₂ (λ (k : ℕ) (l : List ℕ). drop k l) (sym (length-flat (records_of es es))) (flat_rows t))
