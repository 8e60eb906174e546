-- Internal: the least of some faults: the earliest entry that has one, and of that entry the fault whose turn is first.
use Rattle.std.specs.Prelude.{ℕ, suc, ◌+◌, ◌<◌, ◌≡◌, List, [], ◌∷◌, ◌++◌, Bool, true, false, ltb, eqb}
use Rattle.refusals.specs.Refusal.{entry_type, entry_shape, lsn_order, transaction_order, clash, no_record}
use Rattle.endian.specs.Pick.{pick}
use Rattle.wal.specs.Entry.{Entry, size_of, sizes_of}
use Rattle.refusals.specs.Verdict.{verdict, accepted}
use Rattle.refusals.specs.declared.Verdict.{Verdict}
use Rattle.rules.specs.Shape.{both, is_known, is_shaped}
use Rattle.rules.specs.Order.{any, count, is_begin, last_lsn, in_order, clashes, or_else}
use Rattle.firsts.specs.First.{Stands}

-- entry by entry, the first that g gives a number other than 0
unfoldable pub verdict_from : (List Entry → Entry → ℕ) → List Entry → List Entry → ℕ → Verdict
verdict_from g es [] at = accepted
verdict_from g es (f ∷ fs) at = or_else (g es f) at (verdict_from g (es ++ (f ∷ [])) fs (at + size_of f))

-- F n xs e says that e, after the entries xs, has the fault n; v is the least of all faults of es, accepted where there is none
pub record Judged (turn : ℕ → ℕ) (F : ℕ → List Entry → Entry → Type 0) (es : List Entry) (at : ℕ) (v : Verdict) : Type 0 where
  pub none : v.number ≡ 0 → (n : ℕ) (xs : List Entry) (e : Entry) (ys : List Entry) → es ≡ xs ++ (e ∷ ys) → F n xs e → ⊥
  pub plain : v.number ≡ 0 → v.place ≡ 0
  pub early : (v.number ≡ 0 → ⊥) → (n : ℕ) (xs : List Entry) (e : Entry) (ys : List Entry) → es ≡ xs ++ (e ∷ ys) → at + sizes_of xs < v.place → F n xs e → ⊥
  pub lower : (v.number ≡ 0 → ⊥) → (n : ℕ) (xs : List Entry) (e : Entry) (ys : List Entry) → es ≡ xs ++ (e ∷ ys) → at + sizes_of xs ≡ v.place → turn n < turn v.number → F n xs e → ⊥
  pub found : (v.number ≡ 0 → ⊥) → Stands (F v.number) es at v.place

-- how far a fault n is still of interest after the verdict v: up to its entry, with that entry where n has its turn before
unfoldable pub stop_for : (ℕ → ℕ) → ℕ → ℕ → Verdict → ℕ
stop_for turn end n v = pick (eqb v.number 0) end (pick (ltb (turn n) (turn v.number)) (suc v.place) v.place)

-- the verdict after a search for n that stopped at r
unfoldable pub narrowed : (ℕ → ℕ) → ℕ → ℕ → ℕ → Verdict → Verdict
narrowed turn end n r v = pick (ltb r (stop_for turn end n v)) (verdict n r) v

-- ---- the order rules

-- rule n, taken by itself, is broken by the entry e after the entries xs
pub data Breaks (full : ℕ → Bool) (xs : List Entry) (e : Entry) : ℕ → Type 0 where
  unknown : is_known e.kind ≡ false → Breaks full xs e entry_type
  unshaped : is_shaped e ≡ false → Breaks full xs e entry_shape
  unrisen : ltb (last_lsn xs) e.lsn ≡ false → Breaks full xs e lsn_order
  unordered : in_order xs e ≡ false → Breaks full xs e transaction_order
  clashing : any (clashes xs e) xs ≡ true → Breaks full xs e clash
  unrecorded : both (is_begin e) (full (count is_begin xs)) ≡ true → Breaks full xs e no_record

-- the rules that K names
abbrev pub Only : (ℕ → Bool) → (ℕ → Bool) → ℕ → List Entry → Entry → Type 0
Only full K n xs e = (K n ≡ true) × Breaks full xs e n

-- numbers in their turn
abbrev pub own : ℕ → ℕ
own n = n

-- 5, 6, 7 and 10: what a walk tells with the last LSN and the number of Begins; with `never_full` no 10
unfoldable pub plain_fault : (ℕ → Bool) → List Entry → Entry → ℕ
plain_fault full xs e =
    pick (is_known e.kind)
    (pick (is_shaped e)
    (pick (ltb (last_lsn xs) e.lsn)
    (pick (both (is_begin e) (full (count is_begin xs))) no_record 0)
    lsn_order)
    entry_shape)
    entry_type

-- all rules but 8 and 9
abbrev pub but_order : ℕ → Bool
but_order n = pick (eqb n transaction_order) false (pick (eqb n clash) false true)

-- all rules but 9
abbrev pub but_clash : ℕ → Bool
but_clash n = pick (eqb n clash) false true

abbrev pub all_rules : ℕ → Bool
all_rules n = true
