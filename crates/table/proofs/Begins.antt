-- The rows of the Begins of entries in order: each number once, none 0, their LSNs rise, and no entry before them is of one of them.
-- Assumes nothing.
use mathlib.Core.Path.{◌≡◌, refl, sym, ap, ap₂, ◌∙◌, subst}
use mathlib.Core.Bool.{Bool, true, false, not}
use Prim.Native.Nat.{ℕ, zero, suc, ◌+◌, ◌≤◌, ◌<◌}
use native.Mathlib.Omega.{arith}
use mathlib.Core.List.{List, [], ◌∷◌, ◌++◌, append_assoc}
use lib.ListN.{length, get_or}
use lib.Dec.{eqb}
use borrow.Author.Tests.{eqb-true, eqb-false, ne_eqb}
use Rattle.endian.specs.Pick.{pick, cons_if}
use Rattle.wal.specs.Entry.{Entry, begin, commit, rollback, checkpoint}
use Rattle.rules.specs.Shape.{both, either, is_change, is_changing}
use Rattle.rules.specs.Order.{one, count, any, is, is_begin, begun, is_open, in_order, last_lsn}
use Rattle.rules.specs.Recover.{outcome_of, is_change_by, is_end_of, those}
use Rattle.rules.proofs.Times.{none-those, none-ends}
use Rattle.rules.proofs.Tests.{false-true, both_true, both-none, either-none, either-false, not-true}
use Rattle.rules.proofs.OrderLaws.{Passes, InTurn, numbered, last_snoc}
use Rattle.table.specs.Rows.{blank, passing, key, Rising}
use Rattle.table.specs.Telling.{fresh, begun_rows, tell}
use Rattle.table.specs.declared.Row.{Row}
use Rattle.table.proofs.Telling.{any_append}
use Rattle.table.proofs.Permuting.{rising-cons}

-- ---- begun or not

begun-snoc : (es : List Entry) (f : Entry) (t : ℕ) → begun (es ++ (f ∷ [])) t ≡ either (begun es t) (is begin t f)
unfolding begun
begun-snoc es f t = any_append (is begin t) es (f ∷ []) ∙ ap (either (any (is begin t) es)) (either-none (is begin t f))

begun-front : (es fs : List Entry) (t : ℕ) → begun (es ++ fs) t ≡ false → begun es t ≡ false
unfolding begun
begun-front es fs t h = (either-false (any (is begin t) es) (any (is begin t) fs) (sym (any_append (is begin t) es fs) ∙ h)).0

module _ (full : ℕ → Bool) where
  -- a Begin finds its number unused
  pub unbegun : (es : List Entry) (f : Entry) → Passes full es f → f.kind ≡ begin → begun es f.txn ≡ false
  unfolding in_order is_changing
  unbegun es f h k =
      let n : f.txn ≡ 0 → ⊥ = numbered full es f h begin refl refl k in
      let o : not (begun es f.txn) ≡ true = rw (k, ne_eqb f.txn 0 n) at h.ordered in
      not-true (begun es f.txn) o

  -- ---- each number once

  pub once : (es fs : List Entry) → InTurn full es fs → (t : ℕ) → passing (λ r. eqb (key 0 r) t) (begun_rows fs) + one (begun es t) ≤ 1
  unfolding passing begun_rows key
  once es [] h t = go (begun es t)
    where
      go : (b : Bool) → 0 + one b ≤ 1
      go true = omega arith
      go false = omega arith
  once es (f ∷ fs) h t = at (is_begin f) refl (eqb f.txn t) refl (once (es ++ (f ∷ [])) fs h.1 t)
    where
      other : is begin t f ≡ false → begun (es ++ (f ∷ [])) t ≡ begun es t
      other q = begun-snoc es f t ∙ rw (q, either-none (begun es t))

      right : (b : Bool) → either b true ≡ true
      right true = refl
      right false = refl

      at : (b : Bool) → is_begin f ≡ b → (w : Bool) → eqb f.txn t ≡ w → passing (λ r. eqb (key 0 r) t) (begun_rows fs) + one (begun (es ++ (f ∷ [])) t) ≤ 1
          → passing (λ r. eqb (key 0 r) t) (cons_if b (fresh f) (begun_rows fs)) + one (begun es t) ≤ 1
      at true p true q k =
          let z : begun es t ≡ false = subst (λ (u : ℕ). begun es u ≡ false) (eqb-true f.txn t q) (unbegun es f h.0 (eqb-true f.kind begin p)) in
          let a : begun (es ++ (f ∷ [])) t ≡ true = begun-snoc es f t ∙ rw (p, q, right (begun es t)) in
          omega (arith, ap one z, ap one a, ap one q)
      at true p false q k = omega (arith, ap one (other (rw (p, q))), ap one q)
      at false p w q k = omega (arith, ap one (other (rw p)))

  -- ---- LSNs

  pub lsns-above : (es fs : List Entry) → InTurn full es fs → (i : ℕ) → i < length (begun_rows fs) → last_lsn es < key 1 (get_or (begun_rows fs) i blank)
  unfolding begun_rows key
  lsns-above es [] h i b = absurd (omega arith)
  lsns-above es (f ∷ fs) h i b = go (is_begin f) i b (lsns-above (es ++ (f ∷ [])) fs h.1)
    where
      go : (c : Bool) (i : ℕ) → i < length (cons_if c (fresh f) (begun_rows fs)) → ((i : ℕ) → i < length (begun_rows fs) → last_lsn (es ++ (f ∷ [])) < key 1 (get_or (begun_rows fs) i blank))
          → last_lsn es < key 1 (get_or (cons_if c (fresh f) (begun_rows fs)) i blank)
      go true zero l k = h.0.rises
      go true (suc i) l k = omega (arith, k i (omega arith), last_snoc es f, h.0.rises)
      go false i l k = omega (arith, k i l, last_snoc es f, h.0.rises)

  pub lsns-rise : (es fs : List Entry) → InTurn full es fs → Rising 1 (begun_rows fs)
  unfolding begun_rows key
  lsns-rise es [] h = record { at = λ i j p q. absurd (omega arith) }
  lsns-rise es (f ∷ fs) h = go (is_begin f) (lsns-rise (es ++ (f ∷ [])) fs h.1)
    where
      go : (c : Bool) → Rising 1 (begun_rows fs) → Rising 1 (cons_if c (fresh f) (begun_rows fs))
      go true k = rising-cons k (λ i b. omega (arith, lsns-above (es ++ (f ∷ [])) fs h.1 i b, last_snoc es f))
      go false k = k

  -- ---- nothing before a Begin

  -- where t has not begun, no entry is of t
  pub quiet : (xs fs : List Entry) (t : ℕ) → (t ≡ 0 → ⊥) → InTurn full xs fs → begun (xs ++ fs) t ≡ false
      → (any (is commit t) fs ≡ false) × (any (is rollback t) fs ≡ false) × (count (λ e. both (is_change e) (eqb e.txn t)) fs ≡ 0)
  unfolding in_order is_open is_changing
  quiet xs [] t n h b = (refl, refl, refl)
  quiet xs (f ∷ fs) t n h b = go (eqb f.txn t) refl (quiet (xs ++ (f ∷ [])) fs t n h.1 later)
    where
      later : begun ((xs ++ (f ∷ [])) ++ fs) t ≡ false
      later = rw (append_assoc xs (f ∷ []) fs) b

      right : (w : Bool) → either w true ≡ true
      right true = refl
      right false = refl

      opened : is_open xs t ≡ true → begun xs t ≡ true
      opened o = (both_true (begun xs t) _ o).0

      none : (k : ℕ) → eqb f.txn t ≡ false → is k t f ≡ false
      none k q = rw q (both-none (eqb f.kind k))

      go : (w : Bool) → eqb f.txn t ≡ w → (any (is commit t) fs ≡ false) × (any (is rollback t) fs ≡ false) × (count (λ e. both (is_change e) (eqb e.txn t)) fs ≡ 0)
          → (either (is commit t f) (any (is commit t) fs) ≡ false) × (either (is rollback t f) (any (is rollback t) fs) ≡ false) × (one (both (is_change f) (eqb f.txn t)) + count (λ e. both (is_change e) (eqb e.txn t)) fs ≡ 0)
      go true q k = point (eqb f.kind checkpoint) refl
        where
          own : f.txn ≡ t
          own = eqb-true f.txn t q

          -- an entry of t is in order only if t has begun, or begins
          never : eqb f.kind checkpoint ≡ false → ⊥
          never c = turn (is_begin f) refl (rw (c, own, ne_eqb t 0 n) at h.0.ordered)
            where
              turn : (w : Bool) → is_begin f ≡ w → pick w (not (begun xs t)) (is_open xs t) ≡ true → ⊥
              turn true e o =
                  let z : begun (xs ++ (f ∷ [])) t ≡ false = begun-front (xs ++ (f ∷ [])) fs t later in
                  let y : begun (xs ++ (f ∷ [])) t ≡ true = begun-snoc xs f t ∙ rw (e, q, right (begun xs t)) in
                  false-true (sym z ∙ y)
              turn false e o = false-true (sym (begun-front xs (f ∷ fs) t b) ∙ opened o)

          point : (c : Bool) → eqb f.kind checkpoint ≡ c → (either (is commit t f) (any (is commit t) fs) ≡ false) × (either (is rollback t f) (any (is rollback t) fs) ≡ false) × (one (both (is_change f) (eqb f.txn t)) + count (λ e. both (is_change e) (eqb e.txn t)) fs ≡ 0)
          point true c = let z : f.kind ≡ checkpoint = eqb-true f.kind checkpoint c in rw z (k.0, k.1, omega (arith, k.2))
          point false c = absurd (never c)
      go false q k = (rw (none commit q) k.0, rw (none rollback q) k.1, rw (q, both-none (is_change f)) (omega (arith, k.2)))

  -- a row that no entry of es has told of
  abbrev pub plain : List Entry → Row → Bool
  plain es r = both (eqb r.outcome 0) (both (eqb r.changes 0) (both (eqb r.ending.0 0) (both (eqb r.last.0 0) (both (not (eqb r.number.0 0)) (not (begun es r.number.0))))))

  pub plain-begun : (es fs : List Entry) → InTurn full es fs → (i : ℕ) → i < length (begun_rows fs) → plain es (get_or (begun_rows fs) i blank) ≡ true
  unfolding begun_rows is_changing
  plain-begun es [] h i b = absurd (omega arith)
  plain-begun es (f ∷ fs) h i b = go (is_begin f) refl i b (plain-begun (es ++ (f ∷ [])) fs h.1)
    where
      less : (r : Row) → plain (es ++ (f ∷ [])) r ≡ true → plain es r ≡ true
      less r e =
          let x = both_true (eqb r.outcome 0) _ e in
          let y = both_true (eqb r.changes 0) _ x.1 in
          let u = both_true (eqb r.ending.0 0) _ y.1 in
          let v = both_true (eqb r.last.0 0) _ u.1 in
          let z = both_true (not (eqb r.number.0 0)) _ v.1 in
          let w = begun-front es (f ∷ []) r.number.0 (not-true _ z.1) in
          rw (x.0, y.0, u.0, v.0, z.0, w)

      go : (c : Bool) → is_begin f ≡ c → (i : ℕ) → i < length (cons_if c (fresh f) (begun_rows fs)) → ((i : ℕ) → i < length (begun_rows fs) → plain (es ++ (f ∷ [])) (get_or (begun_rows fs) i blank) ≡ true)
          → plain es (get_or (cons_if c (fresh f) (begun_rows fs)) i blank) ≡ true
      go true e zero l k =
          let kind : f.kind ≡ begin = eqb-true f.kind begin e in
          rw (ne_eqb f.txn 0 (numbered full es f h.0 begin refl refl kind), unbegun es f h.0 kind)
      go true e (suc i) l k = less (get_or (begun_rows fs) i blank) (k i (omega arith))
      go false e i l k = less (get_or (begun_rows fs) i blank) (k i l)

  -- as is that of a Begin after them
  pub fresh-plain : (es : List Entry) (f : Entry) → Passes full es f → f.kind ≡ begin → plain es (fresh f) ≡ true
  unfolding is_changing
  fresh-plain es f h k = rw (ne_eqb f.txn 0 (numbered full es f h begin refl refl k), unbegun es f h k)

  -- is as those entries tell it
  pub plain-told : (es : List Entry) → InTurn full [] es → (r : Row) → plain es r ≡ true → (tell es r ≡ r) × (r.number.0 ≡ 0 → ⊥)
  unfolding tell outcome_of
  plain-told es h r e =
      let x = both_true (eqb r.outcome 0) _ e in
      let y = both_true (eqb r.changes 0) _ x.1 in
      let u = both_true (eqb r.ending.0 0) _ y.1 in
      let v = both_true (eqb r.last.0 0) _ u.1 in
      let z = both_true (not (eqb r.number.0 0)) _ v.1 in
      let n : r.number.0 ≡ 0 → ⊥ = eqb-false r.number.0 0 (not-true (eqb r.number.0 0) z.0) in
      let q = quiet [] es r.number.0 n h (not-true (begun es r.number.0) z.1) in
      let o : r.outcome ≡ 0 = eqb-true r.outcome 0 x.0 in
      let k : r.changes ≡ 0 = eqb-true r.changes 0 y.0 in
      let a : outcome_of es r.number.0 ≡ r.outcome = rw (q.0, q.1) (sym o) in
      let e : last_lsn (those (is_end_of r.number.0) es) ≡ r.ending.0 = ap last_lsn (none-ends r.number.0 es q.0 q.1) ∙ sym (eqb-true r.ending.0 0 u.0) in
      let l : last_lsn (those (is_change_by r.number.0) es) ≡ r.last.0 = ap last_lsn (none-those (is_change_by r.number.0) es q.2) ∙ sym (eqb-true r.last.0 0 v.0) in (
        ap₂ (λ (x y : ℕ). record { number = r.number; first = r.first; outcome = x; changes = y; ending = record { 0 = last_lsn (those (is_end_of r.number.0) es) }; last = record { 0 = last_lsn (those (is_change_by r.number.0) es) } }) a (q.2 ∙ sym k)
            ∙ ap₂ (λ (x y : ℕ). record { number = r.number; first = r.first; outcome = r.outcome; changes = r.changes; ending = record { 0 = x }; last = record { 0 = y } }) e l,
        n,
      )
