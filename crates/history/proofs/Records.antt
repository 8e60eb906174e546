-- The record of a transaction that an accepted run ended stands at the same index in the table of every accepted run that begins with its entries. Assumes nothing.
use Prim.Native.Nat.{ℕ, zero, suc, ◌+◌, ◌<◌}
use mathlib.Core.Path.{◌≡◌, refl, sym, ap, subst, ◌∙◌}
use mathlib.Core.List.{List, [], ◌∷◌, ◌++◌, append_assoc, append-nil}
use mathlib.Core.Bool.{Bool, true, false, not}
use native.Mathlib.Omega.{arith}
use lib.ListN.{length, drop, get_or, length-append, get_or-append}
use lib.Dec.{eqb}
use borrow.Author.Tests.{eqb-true, eq-eqb}
use Rattle.endian.specs.Pick.{pick, cons_if}
use Rattle.wal.specs.Entry.{Entry, begin, commit, rollback, checkpoint}
use Rattle.wal.specs.Read.{header_fault, read_at, first}
use Rattle.wal.specs.Walk.{entries, end_of}
use Rattle.refusals.specs.Verdict.{verdict}
use Rattle.refusals.proofs.Then.{then-zero}
use Rattle.rules.specs.Lent.{lent}
use Rattle.rules.specs.Shape.{both, either, is_change, is_changing, is_shaped, is_bare}
use Rattle.rules.specs.Order.{count, any, is, is_begin, begun, ended, is_open, in_order, full_at, order_from, end_verdict, log_verdict}
use Rattle.rules.specs.Recover.{outcome_of, is_change_by, is_end_of, record_of, records_of, table_after, recover_of}
use Rattle.rules.specs.declared.Record.{Record}
use Rattle.rules.proofs.Tests.{false-true, both_true, both-none, not-true}
use Rattle.rules.proofs.OrderLaws.{Every, Passes, numbered, InTurn, in-turn}
use Rattle.rules.proofs.Counts.{count-append, records-append}
use Rattle.rules.proofs.Times.{those-front, none-those, none-ends}
use Rattle.rules.proofs.Again.{zero-accepted, recover-zero}

-- ---- tests on entries in two parts

any-more : (f : Entry → Bool) (es fs : List Entry) → any f es ≡ true → any f (es ++ fs) ≡ true
any-more f [] fs h = false-true h
any-more f (e ∷ es) fs h = go (f e) (any-more f es fs) h
  where
    go : (b : Bool) → (any f es ≡ true → any f (es ++ fs) ≡ true) → either b (any f es) ≡ true → either b (any f (es ++ fs)) ≡ true
    go true more k = refl
    go false more k = more k

any_same : (f : Entry → Bool) (es fs : List Entry) → any f fs ≡ false → any f (es ++ fs) ≡ any f es
any_same f [] fs h = h
any_same f (e ∷ es) fs h = ap (either (f e)) (any_same f es fs h)

begun_more : (es fs : List Entry) (t : ℕ) → begun es t ≡ true → begun (es ++ fs) t ≡ true
unfolding begun
begun_more es fs t h = any-more (is begin t) es fs h

ended-more : (es fs : List Entry) (t : ℕ) → ended es t ≡ true → ended (es ++ fs) t ≡ true
unfolding ended
ended-more es fs t h = go (any (is commit t) es) (any (is rollback t) es) refl refl h
  where
    go : (a b : Bool) → any (is commit t) es ≡ a → any (is rollback t) es ≡ b → either a b ≡ true → either (any (is commit t) (es ++ fs)) (any (is rollback t) (es ++ fs)) ≡ true
    go true b x y e = rw (any-more (is commit t) es fs x)
    go false true x y e = rw (any-more (is rollback t) es fs y) (last (any (is commit t) (es ++ fs)))
      where
        last : (c : Bool) → either c true ≡ true
        last true = refl
        last false = refl
    go false false x y e = false-true e

-- ---- a transaction that has begun and ended has no further entry

module _ (full : ℕ → Bool) (t : ℕ) (some : t ≡ 0 → ⊥) where
  one-other : (es : List Entry) (f : Entry) → Passes full es f → begun es t ≡ true → ended es t ≡ true → eqb f.txn t ≡ false
  unfolding in_order is_open is_shaped is_bare
  one-other es f p b e = go (eqb f.txn t) refl
    where
      never : f.txn ≡ t → ⊥
      never z = kinds (eqb f.kind checkpoint) refl (eqb f.txn 0) refl (is_begin f) p.ordered
        where
          kinds : (a : Bool) → eqb f.kind checkpoint ≡ a → (o : Bool) → eqb f.txn 0 ≡ o → (c : Bool)
              → pick a true (pick o (is_change f) (pick c (not (begun es f.txn)) (both (begun es f.txn) (not (ended es f.txn))))) ≡ true → ⊥
          kinds true q o y c h =
              let k : f.kind ≡ checkpoint = eqb-true _ _ q in
              let s : both (is_bare f) (eqb f.txn 0) ≡ true = rw k at p.shaped in
              some (sym z ∙ eqb-true _ _ (both_true (is_bare f) _ s).1)
          kinds false q true y c h = some (sym z ∙ eqb-true _ _ y)
          kinds false q false y true h = false-true (sym (not-true _ h) ∙ ap (begun es) z ∙ b)
          kinds false q false y false h = false-true (sym (not-true _ (both_true (begun es f.txn) _ h).1) ∙ ap (ended es) z ∙ e)

      go : (d : Bool) → eqb f.txn t ≡ d → eqb f.txn t ≡ false
      go true q = absurd (never (eqb-true _ _ q))
      go false q = q

  no_more : (es fs : List Entry) → InTurn full es fs → begun es t ≡ true → ended es t ≡ true → Every (λ f. eqb f.txn t ≡ false) fs
  no_more es [] h b e = tt
  no_more es (f ∷ fs) h b e = (one-other es f h.0 b e, no_more (es ++ (f ∷ [])) fs h.1 (begun_more es (f ∷ []) t b) (ended-more es (f ∷ []) t e))

-- ---- its record

count_none : (g : Entry → Bool) (t : ℕ) (fs : List Entry) → Every (λ f. eqb f.txn t ≡ false) fs → count (λ f. both (g f) (eqb f.txn t)) fs ≡ 0
count_none g t [] h = refl
count_none g t (f ∷ fs) h = rw (h.0, both-none) (omega (arith, count_none g t fs h.1))

any_none : (k t : ℕ) (fs : List Entry) → Every (λ f. eqb f.txn t ≡ false) fs → any (is k t) fs ≡ false
any_none k t [] h = refl
any_none k t (f ∷ fs) h = rw (h.0, both-none) (any_none k t fs h.1)

-- where the later entries have none of its transaction
same-record : (es fs : List Entry) (e : Entry) → Every (λ f. eqb f.txn e.txn ≡ false) fs → record_of (es ++ fs) e ≡ record_of es e
unfolding record_of outcome_of
same-record es fs e h =
    let none = count_none is_change e.txn fs h in
    let no-commit = any_none commit e.txn fs h in
    let no-rollback = any_none rollback e.txn fs h in
    let c : count (is_change_by e.txn) (es ++ fs) ≡ count (is_change_by e.txn) es = count-append (is_change_by e.txn) es fs ∙ omega (arith, none) in
    let a = any_same (is commit e.txn) es fs no-commit in
    let r = any_same (is rollback e.txn) es fs no-rollback in
    let n = those-front (is_end_of e.txn) es fs (none-ends e.txn fs no-commit no-rollback) in
    let l = those-front (is_change_by e.txn) es fs (none-those (is_change_by e.txn) fs none) in
    rw (c, a, r, n, l)

ended_by : (es : List Entry) (e : Entry) → ((record_of es e).outcome ≡ 0 → ⊥) → ended es e.txn ≡ true
unfolding record_of outcome_of ended
ended_by es e h = go (any (is commit e.txn) es) (any (is rollback e.txn) es) h
  where
    go : (a b : Bool) → (◌≡◌ {A = ℕ} (pick a 1 (pick b 2 0)) 0 → ⊥) → either a b ≡ true
    go true b n = refl
    go false true n = refl
    go false false n = absurd (n refl)

-- a Begin among entries in turn has a number, and its transaction has begun
abbrev Begins : List Entry → Entry → Type 0
Begins all e = is_begin e ≡ true → (begun all e.txn ≡ true) × (e.txn ≡ 0 → ⊥)

begun-here : (es fs : List Entry) (f : Entry) → is_begin f ≡ true → begun (es ++ (f ∷ fs)) f.txn ≡ true
unfolding begun
begun-here [] fs f b = rw (b, eq-eqb f.txn f.txn refl)
begun-here (e ∷ es) fs f b = rw (begun-here es fs f b) (go (is begin f.txn e))
  where
    go : (c : Bool) → either c true ≡ true
    go true = refl
    go false = refl

begins : (full : ℕ → Bool) (es fs : List Entry) → InTurn full es fs → Every (Begins (es ++ fs)) fs
unfolding is_changing
begins full es [] h = tt
begins full es (f ∷ fs) h =
    let a : (es ++ (f ∷ [])) ++ fs ≡ es ++ (f ∷ fs) = append_assoc es (f ∷ []) fs in
    let more : Every (Begins (es ++ (f ∷ fs))) fs = rw a at (begins full (es ++ (f ∷ [])) fs h.1) in
    (λ b. (begun-here es fs f b, numbered full es f h.0 begin refl refl (eqb-true _ _ b)), more)

-- ---- the table

module _ (es fs : List Entry) (d : Record)
    (ends : (t : ℕ) → (t ≡ 0 → ⊥) → begun es t ≡ true → ended es t ≡ true → Every (λ f. eqb f.txn t ≡ false) fs) where
  abbrev Same : List Record → List Record → Type 0
  Same old new = (j : ℕ) → j < length old → ((get_or old j d).outcome ≡ 0 → ⊥) → (get_or new j d ≡ get_or old j d) × (j < length new)

  same-cons : (b : Bool) (x : Entry) (old new : List Record) → is_begin x ≡ b → Begins es x → Same old new → Same (cons_if b (record_of es x) old) (cons_if b (record_of (es ++ fs) x) new)
  same-cons true x old new q h more zero l n = let b = h q in (same-record es fs x (ends x.txn b.1 b.0 (ended_by es x n)), omega arith)
  same-cons true x old new q h more (suc j) l n = let r = more j (omega arith) n in (r.0, omega (arith, r.1))
  same-cons false x old new q h more j l n = more j l n

  same_at : (xs : List Entry) → Every (Begins es) xs → Same (records_of es xs) (records_of (es ++ fs) xs)
  unfolding records_of
  same_at [] h j l n = absurd (omega arith)
  same_at (x ∷ xs) h j l n = same-cons (is_begin x) x (records_of es xs) (records_of (es ++ fs) xs) refl h.0 (same_at xs h.1) j l n

later-turn : (full : ℕ → Bool) (es fs gs : List Entry) → InTurn full es (fs ++ gs) → InTurn full (es ++ fs) gs
later-turn full es [] gs h = rw append-nil h
later-turn full es (f ∷ fs) gs h = rw append_assoc at (later-turn full (es ++ (f ∷ [])) fs gs h.1)

table_at : (es : List Entry) (T : List Record) (j : ℕ) (d : Record) → j < length (records_of es es) → get_or (table_after es T) j d ≡ get_or (records_of es es) j d
unfolding table_after
table_at es T j d l = get_or-append (records_of es es) (drop (length (records_of es es)) T) d j l

-- the tables of two lists of entries, of which the later begins with the earlier
table_same : (full₁ full₂ : ℕ → Bool) (es fs : List Entry) (T₁ T₂ : List Record) (d : Record) → InTurn full₁ [] es → InTurn full₂ [] (es ++ fs)
    → (j : ℕ) → j < length (records_of es es) → ((get_or (table_after es T₁) j d).outcome ≡ 0 → ⊥) → get_or (table_after (es ++ fs) T₂) j d ≡ get_or (table_after es T₁) j d
table_same full₁ full₂ es fs T₁ T₂ d a b j l n =
    let old = table_at es T₁ j d l in
    let r = same_at es fs d (λ t z x y. no_more full₂ t z es fs (later-turn full₂ [] es fs b) x y) es (begins full₁ [] es a) j l (λ z. n (ap (λ (y : Record). y.outcome) old ∙ z)) in
    let parts = records-append (es ++ fs) es fs in
    let len : length (records_of (es ++ fs) (es ++ fs)) ≡ length (records_of (es ++ fs) es) + length (records_of (es ++ fs) fs) = ap length parts ∙ length-append (records_of (es ++ fs) es) (records_of (es ++ fs) fs) in
    table_at (es ++ fs) T₂ j d (omega (arith, r.1))
    ∙ ap (λ (x : List Record). get_or x j d) parts
    ∙ get_or-append (records_of (es ++ fs) es) (records_of (es ++ fs) fs) d j r.1
    ∙ r.0
    ∙ sym old

-- ---- of an accepted run

module _ (magic floor : ℕ) (P F : List ℕ) (T : List Record) (ok : (recover_of (lent magic floor P F) T).answer.number ≡ 0) where
  turn-of : InTurn (full_at (length T)) [] (entries F)
  unfolding log_verdict
  turn-of =
      let a = then-zero (verdict (header_fault F) 0) _ (zero-accepted magic floor P F T ok).log_ok in
      let b = then-zero (order_from (full_at (length T)) [] (entries F) first) (end_verdict (read_at F (end_of F)) (end_of F)) a.1 in
      in-turn (full_at (length T)) [] (entries F) first b.0

  pub table_of : (recover_of (lent magic floor P F) T).table ≡ table_after (entries F) T
  unfolding recover_of
  table_of = rw (eq-eqb _ _ (recover-zero magic floor P F T ok))

-- two accepted runs, with whatever magic, floor, pages and table, of which the later log begins with the earlier's entries: what ended, committed or rolled back, is not reported otherwise
module _ (magic₁ floor₁ magic₂ floor₂ : ℕ) (P₁ P₂ F₁ F₂ : List ℕ) (T₁ T₂ : List Record) (longer : (fs : List Entry) × (entries F₁ ++ fs ≡ entries F₂))
    (ok₁ : (recover_of (lent magic₁ floor₁ P₁ F₁) T₁).answer.number ≡ 0) (ok₂ : (recover_of (lent magic₂ floor₂ P₂ F₂) T₂).answer.number ≡ 0) where
  pub never-otherwise : (d : Record) (j : ℕ) → j < length (records_of (entries F₁) (entries F₁)) → ((get_or (recover_of (lent magic₁ floor₁ P₁ F₁) T₁).table j d).outcome ≡ 0 → ⊥)
      → get_or (recover_of (lent magic₂ floor₂ P₂ F₂) T₂).table j d ≡ get_or (recover_of (lent magic₁ floor₁ P₁ F₁) T₁).table j d
  never-otherwise d j l n =
      let b : InTurn (full_at (length T₂)) [] (entries F₁ ++ longer.0) = subst (InTurn (full_at (length T₂)) []) (sym longer.1) (turn-of magic₂ floor₂ P₂ F₂ T₂ ok₂) in
      let old = ap (λ (x : List Record). get_or x j d) (table_of magic₁ floor₁ P₁ F₁ T₁ ok₁) in
      ap (λ (x : List Record). get_or x j d) (table_of magic₂ floor₂ P₂ F₂ T₂ ok₂ ∙ ap (λ (es : List Entry). table_after es T₂) (sym longer.1))
      ∙ table_same (full_at (length T₁)) (full_at (length T₂)) (entries F₁) longer.0 T₁ T₂ d (turn-of magic₁ floor₁ P₁ F₁ T₁ ok₁) b j l (λ z. n (ap (λ (y : Record). y.outcome) old ∙ z))
      ∙ sym old
