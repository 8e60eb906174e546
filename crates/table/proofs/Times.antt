-- The LSNs of a record stand in order, wherever they are not 0 (paper 02, W8): from the rules on LSNs and on the order of a transaction's entries.
-- Assumes nothing.
use mathlib.Core.Path.{◌≡◌, refl, sym, ap, ◌∙◌, subst}
use mathlib.Core.Bool.{Bool, true, false, not}
use Prim.Native.Nat.{ℕ, ◌≤◌, ◌<◌}
use native.Mathlib.Omega.{arith}
use mathlib.Core.List.{List, [], ◌∷◌, ◌++◌, append_assoc, append-nil}
use lib.Dec.{eqb}
use borrow.Author.Tests.{eqb-true, ne_eqb}
use Rattle.endian.specs.Pick.{cons_if}
use Rattle.wal.specs.Entry.{Entry, begin, commit, rollback, checkpoint}
use Rattle.wal.specs.Walk.{entries}
use Rattle.rules.specs.Shape.{both, either, is_change, is_changing}
use Rattle.rules.specs.Order.{any, is, is_begin, begun, ended, is_open, in_order, last_lsn, never_full}
use Rattle.rules.specs.Recover.{is_change_by, is_end_of, those, record_of, records_of}
use Rattle.rules.proofs.Tests.{false-true, both_true, both-none, either-false, not-true}
use Rattle.rules.proofs.OrderLaws.{Passes, InTurn, numbered, last_snoc}
use Rattle.rules.proofs.Times.{last-those, none-those, none-ends}
use Rattle.table.specs.Telling.{Orderly}
use Rattle.table.specs.Times.{AllTimed}
use Rattle.table.proofs.Telling.{both-all}
use Rattle.table.proofs.Walking.{turn-all}
use Rattle.table.proofs.Begins.{unbegun, quiet}

abbrev change_lsn : ℕ → List Entry → ℕ
change_lsn t es = last_lsn (those (is_change_by t) es)

abbrev end_lsn : ℕ → List Entry → ℕ
end_lsn t es = last_lsn (those (is_end_of t) es)

-- transaction t, which began at the LSN b, after the entries xs
record Stand (t b : ℕ) (xs : List Entry) : Type 0 where
  low : b ≤ last_lsn xs
  change_to : change_lsn t xs ≤ last_lsn xs
  end_to : end_lsn t xs ≤ last_lsn xs
  changed : (change_lsn t xs ≡ 0 → ⊥) → b < change_lsn t xs
  ended : (end_lsn t xs ≡ 0 → ⊥) → b < end_lsn t xs
  final : (change_lsn t xs ≡ 0 → ⊥) → (end_lsn t xs ≡ 0 → ⊥) → change_lsn t xs < end_lsn t xs

-- a type that changes is none that does not
unlike : (k j : ℕ) → is_changing j ≡ false → is_changing k ≡ true → eqb k j ≡ false
unlike k j h c = go (eqb k j) refl
  where
    go : (b : Bool) → eqb k j ≡ b → eqb k j ≡ false
    go true q = false-true (sym h ∙ ap is_changing (sym (eqb-true k j q)) ∙ c)
    go false q = q

module _ {full : ℕ → Bool} {xs : List Entry} {f : Entry} (h : Passes full xs f) {t b : ℕ} (n : t ≡ 0 → ⊥) (s : Stand t b xs) where
  abbrev more : List Entry
  more = xs ++ (f ∷ [])

  -- by what the entry makes of the two LSNs
  same : change_lsn t (xs ++ (f ∷ [])) ≡ change_lsn t xs → end_lsn t (xs ++ (f ∷ [])) ≡ end_lsn t xs → Stand t b (xs ++ (f ∷ []))
  same c e = record {
    low = omega (arith, s.low, h.rises, last_snoc xs f);
    change_to = omega (arith, s.change_to, h.rises, last_snoc xs f);
    end_to = omega (arith, s.end_to, h.rises, last_snoc xs f);
    changed = λ z. rw c (s.changed (λ y. z (c ∙ y)));
    ended = λ z. rw e (s.ended (λ y. z (e ∙ y)));
    final = λ z w. rw (c, e) (s.final (λ y. z (c ∙ y)) (λ y. w (e ∙ y)));
  }

  ends : change_lsn t (xs ++ (f ∷ [])) ≡ change_lsn t xs → end_lsn t (xs ++ (f ∷ [])) ≡ f.lsn → Stand t b (xs ++ (f ∷ []))
  ends c e = record {
    low = omega (arith, s.low, h.rises, last_snoc xs f);
    change_to = omega (arith, s.change_to, h.rises, last_snoc xs f);
    end_to = omega (arith, e, last_snoc xs f);
    changed = λ z. rw c (s.changed (λ y. z (c ∙ y)));
    ended = λ z. omega (arith, e, s.low, h.rises);
    final = λ z w. omega (arith, c, e, s.change_to, h.rises);
  }

  changes : change_lsn t (xs ++ (f ∷ [])) ≡ f.lsn → end_lsn t (xs ++ (f ∷ [])) ≡ 0 → Stand t b (xs ++ (f ∷ []))
  changes c e = record {
    low = omega (arith, s.low, h.rises, last_snoc xs f);
    change_to = omega (arith, c, last_snoc xs f);
    end_to = omega (arith, e);
    changed = λ z. omega (arith, c, s.low, h.rises);
    ended = λ z. absurd (z e);
    final = λ z w. absurd (w e);
  }

  stand-next : Stand t b (xs ++ (f ∷ []))
  unfolding in_order is_open ended is_changing
  stand-next = go (eqb f.txn t) refl
    where
      other : is_change_by t f ≡ false → change_lsn t (xs ++ (f ∷ [])) ≡ change_lsn t xs
      other q = last-those (is_change_by t) xs f ∙ rw q

      go : (w : Bool) → eqb f.txn t ≡ w → Stand t b (xs ++ (f ∷ []))
      go false q = same (other (rw q (both-none (is_change f)))) (last-those (is_end_of t) xs f ∙ rw (q, both-none (eqb f.kind commit), both-none (eqb f.kind rollback)))
      go true q = by (eqb f.kind commit) (eqb f.kind rollback) (is_changing f.kind) refl refl refl
        where
          mine : (k : ℕ) (w : Bool) → eqb f.kind k ≡ w → is k t f ≡ w
          mine k w e = rw (e, q, both-all w)

          changing : (w : Bool) → is_changing f.kind ≡ w → is_change_by t f ≡ w
          changing w e = rw (e, q, both-all w)

          -- a change finds its transaction unended
          unended : is_changing f.kind ≡ true → end_lsn t xs ≡ 0
          unended k =
              let z : f.txn ≡ t = eqb-true f.txn t q in
              let o : both (begun xs t) (not (either (any (is commit t) xs) (any (is rollback t) xs))) ≡ true = rw (unlike f.kind checkpoint refl k, z, ne_eqb t 0 n, unlike f.kind begin refl k) at h.ordered in
              let g = either-false (any (is commit t) xs) (any (is rollback t) xs) (not-true _ (both_true (begun xs t) _ o).1) in
              ap last_lsn (none-ends t xs g.0 g.1)

          by : (c r k : Bool) → eqb f.kind commit ≡ c → eqb f.kind rollback ≡ r → is_changing f.kind ≡ k → Stand t b (xs ++ (f ∷ []))
          by true r k d e g = ends (other (changing false (ap is_changing (eqb-true f.kind commit d)))) (last-those (is_end_of t) xs f ∙ rw (mine commit true d))
          by false true k d e g = ends (other (changing false (ap is_changing (eqb-true f.kind rollback e)))) (last-those (is_end_of t) xs f ∙ rw (mine commit false d, mine rollback true e))
          by false false true d e g = changes (last-those (is_change_by t) xs f ∙ rw (changing true g)) (last-those (is_end_of t) xs f ∙ rw (mine commit false d, mine rollback false e) (unended g))
          by false false false d e g = same (other (changing false g)) (last-those (is_end_of t) xs f ∙ rw (mine commit false d, mine rollback false e))

stand-all : (full : ℕ → Bool) (xs fs : List Entry) (t b : ℕ) → (t ≡ 0 → ⊥) → InTurn full xs fs → Stand t b xs → Stand t b (xs ++ fs)
stand-all full xs [] t b n h s = rw (append-nil xs) s
stand-all full xs (f ∷ fs) t b n h s = rw (← append_assoc xs (f ∷ []) fs) (stand-all full (xs ++ (f ∷ [])) fs t b n h.1 (stand-next h.0 n s))

-- at its Begin
stand-begin : (full : ℕ → Bool) (xs : List Entry) (f : Entry) → InTurn full [] xs → Passes full xs f → f.kind ≡ begin → Stand f.txn f.lsn (xs ++ (f ∷ []))
unfolding is_changing
stand-begin full xs f turn h k =
    let n : f.txn ≡ 0 → ⊥ = numbered full xs f h begin refl refl k in
    let q = quiet full [] xs f.txn n turn (unbegun full xs f h k) in
    let c : change_lsn f.txn (xs ++ (f ∷ [])) ≡ 0 = last-those (is_change_by f.txn) xs f ∙ rw k (ap last_lsn (none-those (is_change_by f.txn) xs q.2)) in
    let e : end_lsn f.txn (xs ++ (f ∷ [])) ≡ 0 = last-those (is_end_of f.txn) xs f ∙ rw k (ap last_lsn (none-ends f.txn xs q.0 q.1)) in
    record {
      low = omega (arith, last_snoc xs f);
      change_to = omega (arith, c);
      end_to = omega (arith, e);
      changed = λ z. absurd (z c);
      ended = λ z. absurd (z e);
      final = λ z w. absurd (z c);
    }

turn-snoc : (full : ℕ → Bool) (es xs : List Entry) (f : Entry) → InTurn full es xs → Passes full (es ++ xs) f → InTurn full es (xs ++ (f ∷ []))
turn-snoc full es [] f h p = (subst (λ (l : List Entry). Passes full l f) (append-nil es) p, tt)
turn-snoc full es (x ∷ xs) f h p = (h.0, turn-snoc full (es ++ (x ∷ [])) xs f h.1 (subst (λ (l : List Entry). Passes full l f) (sym (append_assoc es (x ∷ []) xs)) p))

timed-from : (full : ℕ → Bool) (xs fs : List Entry) → InTurn full [] xs → InTurn full xs fs → AllTimed (records_of (xs ++ fs) fs)
unfolding records_of record_of is_changing
timed-from full xs [] turn h = tt
timed-from full xs (f ∷ fs) turn h =
    go (is_begin f) refl (subst (λ (l : List Entry). AllTimed (records_of l fs)) (append_assoc xs (f ∷ []) fs) (timed-from full (xs ++ (f ∷ [])) fs (turn-snoc full [] xs f turn h.0) h.1))
  where
    go : (w : Bool) → is_begin f ≡ w → AllTimed (records_of (xs ++ (f ∷ fs)) fs) → AllTimed (cons_if w (record_of (xs ++ (f ∷ fs)) f) (records_of (xs ++ (f ∷ fs)) fs))
    go true q r =
        let k : f.kind ≡ begin = eqb-true f.kind begin q in
        let n : f.txn ≡ 0 → ⊥ = numbered full xs f h.0 begin refl refl k in
        let s : Stand f.txn f.lsn (xs ++ (f ∷ fs)) = subst (Stand f.txn f.lsn) (append_assoc xs (f ∷ []) fs) (stand-all full (xs ++ (f ∷ [])) fs f.txn f.lsn n h.1 (stand-begin full xs f turn h.0 k)) in
        (record { changed = s.changed; ended = s.ended; final = s.final }, r)
    go false q r = r

-- the records of a log in order
pub timed : (s : List ℕ) → Orderly s → AllTimed (records_of (entries s) (entries s))
timed s o = timed-from never_full [] (entries s) tt (turn-all s o)
