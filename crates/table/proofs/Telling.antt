-- One entry more: what it tells of the row of its transaction, and of no other.
-- Assumes nothing.
use mathlib.Core.Path.{◌≡◌, refl, sym, ap, ◌∙◌}
use mathlib.Core.Bool.{Bool, true, false, not}
use Prim.Native.Nat.{ℕ, zero, suc, ◌+◌, ◌≤◌, ◌<◌}
use native.Mathlib.Omega.{arith}
use mathlib.Core.List.{List, [], ◌∷◌, ◌++◌, map}
use lib.ListN.{length, get_or, set, length-map}
use lib.Dec.{eqb, ltb}
use borrow.Author.Tests.{eqb-true, eq-eqb, ne_eqb, ltb-true, ltb-false}
use Rattle.endian.specs.Pick.{pick}
use Rattle.wal.specs.Entry.{Entry, begin, commit, rollback}
use Rattle.rules.specs.Shape.{both, either, is_change, is_changing}
use Rattle.rules.specs.Order.{one, count, any, is, begun, ended, is_open, in_order, last_lsn}
use Rattle.rules.specs.Recover.{outcome_of, is_change_by, is_end_of, those}
use Rattle.rules.proofs.Tests.{both_true, both-none, either-none, either-false, not-true}
use Rattle.rules.proofs.OrderLaws.{Passes}
use Rattle.rules.proofs.Counts.{count-snoc}
use Rattle.rules.proofs.Times.{last-those}
use Rattle.table.specs.Rows.{blank, key, Rising}
use Rattle.table.specs.Telling.{tell, told_by, Entered, begins, zero as by_zero, other, own}
use Rattle.table.specs.declared.Row.{Row}
use Rattle.table.proofs.Finding.{key-number}

-- ---- each row of a list

pub get_d_map : (g : Row → Row) (l : List Row) (i : ℕ) → i < length l → get_or (map g l) i blank ≡ g (get_or l i blank)
get_d_map g [] i h = absurd (omega arith)
get_d_map g (r ∷ l) zero h = refl
get_d_map g (r ∷ l) (suc i) h = get_d_map g l i (omega arith)

pub map_same : (f g : Row → Row) (l : List Row) → ((i : ℕ) → i < length l → f (get_or l i blank) ≡ g (get_or l i blank)) → map f l ≡ map g l
map_same f g [] h = refl
map_same f g (r ∷ l) h = rw (h 0 (omega arith), map_same f g l (λ i b. h (suc i) (omega arith)))

map-set : (f g : Row → Row) (l : List Row) (j : ℕ) → j < length l → ((i : ℕ) → i < length l → (i ≡ j → ⊥) → f (get_or l i blank) ≡ g (get_or l i blank)) → set (map f l) j (g (get_or l j blank)) ≡ map g l
map-set f g [] j b h = absurd (omega arith)
map-set f g (r ∷ l) zero b h = ap (◌∷◌ (g r)) (map_same f g l (λ i k. h (suc i) (omega arith) (λ e. omega arith)))
map-set f g (r ∷ l) (suc j) b h = rw (h 0 (omega arith) (λ e. omega arith), map-set f g l j (omega arith) (λ i k n. h (suc i) (omega arith) (λ e. n (omega arith))))

-- ---- one entry more

count-le : (f : Entry → Bool) (es : List Entry) → count f es ≤ length es
count-le f [] = omega arith
count-le f (e ∷ es) = go (f e) (count-le f es)
  where
    go : (b : Bool) → count f es ≤ length es → one b + count f es ≤ suc (length es)
    go true h = omega arith
    go false h = omega arith

pub any_append : (f : Entry → Bool) (es fs : List Entry) → any f (es ++ fs) ≡ either (any f es) (any f fs)
any_append f [] fs = refl
any_append f (e ∷ es) fs = rw (any_append f es fs) (go (f e))
  where
    go : (b : Bool) → either b (either (any f es) (any f fs)) ≡ either (either b (any f es)) (any f fs)
    go true = refl
    go false = refl

pub both-all : (b : Bool) → both b true ≡ b
both-all true = refl
both-all false = refl

module _ (es : List Entry) (f : Entry) (u : ℕ) where
  outcome-after : outcome_of (es ++ (f ∷ [])) u ≡ pick (either (any (is commit u) es) (either (is commit u f) false)) 1 (pick (either (any (is rollback u) es) (either (is rollback u f) false)) 2 0)
  unfolding outcome_of
  outcome-after = rw (any_append (is commit u) es (f ∷ []), any_append (is rollback u) es (f ∷ []))

  -- an entry that is no ending of the transaction
  outcome-same : is commit u f ≡ false → is rollback u f ≡ false → outcome_of (es ++ (f ∷ [])) u ≡ outcome_of es u
  unfolding outcome_of
  outcome-same c r = outcome-after ∙ rw (c, r, either-none (any (is commit u) es), either-none (any (is rollback u) es))

module _ (es : List Entry) (f : Entry) (r : Row) where
  abbrev n : ℕ
  n = r.number.0

  -- an entry that is no ending of the transaction, and no change by it
  ending-same : is commit n f ≡ false → is rollback n f ≡ false → last_lsn (those (is_end_of n) (es ++ (f ∷ []))) ≡ last_lsn (those (is_end_of n) es)
  ending-same c q = last-those (is_end_of n) es f ∙ rw (c, q)

  last-same : is_change_by n f ≡ false → last_lsn (those (is_change_by n) (es ++ (f ∷ []))) ≡ last_lsn (those (is_change_by n) es)
  last-same q = last-those (is_change_by n) es f ∙ rw q

  changes-same : is_change_by n f ≡ false → count (is_change_by n) (es ++ (f ∷ [])) ≡ count (is_change_by n) es
  changes-same q = count-snoc (is_change_by n) es f ∙ rw q (omega arith)

  -- an entry of another transaction
  pub tell-other : (f.txn ≡ r.number.0 → ⊥) → tell (es ++ (f ∷ [])) r ≡ tell es r
  unfolding tell
  tell-other h =
      let q : eqb f.txn n ≡ false = ne_eqb f.txn n h in
      let c : is commit n f ≡ false = rw q (both-none (eqb f.kind commit)) in
      let b : is rollback n f ≡ false = rw q (both-none (eqb f.kind rollback)) in
      let g : is_change_by n f ≡ false = rw q (both-none (is_change f)) in
      rw (outcome-same es f n c b, changes-same g, ending-same c b, last-same g)

  -- a Begin
  pub tell-begin : f.kind ≡ begin → tell (es ++ (f ∷ [])) r ≡ tell es r
  unfolding tell is_changing
  tell-begin k =
      let c : is commit n f ≡ false = rw k in
      let b : is rollback n f ≡ false = rw k in
      let g : is_change_by n f ≡ false = rw k in
      rw (outcome-same es f n c b, changes-same g, ending-same c b, last-same g)

  -- an entry of its own; a Rollback comes after no Commit
  module _ (e : f.txn ≡ r.number.0) where
    mine : (k : ℕ) (b : Bool) → eqb f.kind k ≡ b → is k n f ≡ b
    mine k b q = rw (q, eq-eqb f.txn n e, both-all b)

    changing : (b : Bool) → is_changing f.kind ≡ b → is_change_by n f ≡ b
    changing b q = rw (q, eq-eqb f.txn n e, both-all b)

    -- the row by its last four numbers
    abbrev by : ℕ → ℕ → ℕ → ℕ → Row
    by o c a l = record { number = r.number; first = r.first; outcome = o; changes = c; ending = record { 0 = a }; last = record { 0 = l } }

    pub tell-own : (f.kind ≡ rollback → any (is commit r.number.0) es ≡ false) → tell (es ++ (f ∷ [])) r ≡ told_by f.kind (record { 0 = f.lsn }) (tell es r)
    unfolding tell told_by is_changing
    tell-own h = go (eqb f.kind commit) (eqb f.kind rollback) (is_changing f.kind) refl refl refl
      where
        changed : count (is_change_by n) (es ++ (f ∷ [])) ≡ count (is_change_by n) es + one (is_change_by n f)
        changed = count-snoc (is_change_by n) es f

        ended_by : (c q : Bool) → eqb f.kind commit ≡ c → eqb f.kind rollback ≡ q → outcome_of (es ++ (f ∷ [])) n ≡ pick (either (any (is commit n) es) (either c false)) 1 (pick (either (any (is rollback n) es) (either q false)) 2 0)
        ended_by c q a b = outcome-after es f n ∙ rw (mine commit c a, mine rollback q b)

        ending-by : (c q : Bool) → eqb f.kind commit ≡ c → eqb f.kind rollback ≡ q → last_lsn (those (is_end_of n) (es ++ (f ∷ []))) ≡ pick (either c q) f.lsn (last_lsn (those (is_end_of n) es))
        ending-by c q a b = last-those (is_end_of n) es f ∙ rw (mine commit c a, mine rollback q b)

        right : (b : Bool) → either b true ≡ true
        right true = refl
        right false = refl

        go : (c q k : Bool) → eqb f.kind commit ≡ c → eqb f.kind rollback ≡ q → is_changing f.kind ≡ k
            → by (outcome_of (es ++ (f ∷ [])) n) (count (is_change_by n) (es ++ (f ∷ []))) (last_lsn (those (is_end_of n) (es ++ (f ∷ [])))) (last_lsn (those (is_change_by n) (es ++ (f ∷ []))))
            ≡ pick c (by 1 (count (is_change_by n) es) f.lsn (last_lsn (those (is_change_by n) es)))
            (pick q (by 2 (count (is_change_by n) es) f.lsn (last_lsn (those (is_change_by n) es)))
            (pick k (by (outcome_of es n) (count (is_change_by n) es + 1) (last_lsn (those (is_end_of n) es)) f.lsn)
            (by (outcome_of es n) (count (is_change_by n) es) (last_lsn (those (is_end_of n) es)) (last_lsn (those (is_change_by n) es)))))
        go true q k a b d =
            let g = changing false (ap is_changing (eqb-true f.kind commit a)) in
            rw (ended_by true q a b, right (any (is commit n) es), changes-same g, ending-by true q a b, last-same g)
        go false true k a b d =
            let g = changing false (ap is_changing (eqb-true f.kind rollback b)) in
            rw (ended_by false true a b, h (eqb-true f.kind rollback b), right (any (is rollback n) es), changes-same g, ending-by false true a b, last-same g)
        go false false true a b d =
            let g = changing true d in
            let l : last_lsn (those (is_change_by n) (es ++ (f ∷ []))) ≡ f.lsn = last-those (is_change_by n) es f ∙ rw g in
            let m : count (is_change_by n) (es ++ (f ∷ [])) ≡ count (is_change_by n) es + 1 = changed ∙ rw g in
            rw (outcome-same es f n (mine commit false a) (mine rollback false b), m, ending-by false false a b, l)
        go false false false a b d =
            let g = changing false d in
            rw (outcome-same es f n (mine commit false a) (mine rollback false b), changes-same g, ending-by false false a b, last-same g)

-- ---- a list of rows, each told by the entries es

-- an entry in order that is a Rollback follows no Commit
unended : {full : ℕ → Bool} {es : List Entry} {f : Entry} → Passes full es f → (f.txn ≡ 0 → ⊥) → f.kind ≡ rollback → any (is commit f.txn) es ≡ false
unfolding in_order is_open ended
unended {full} {es} {f} h n k =
    let o : both (begun es f.txn) (not (ended es f.txn)) ≡ true = rw (k, ne_eqb f.txn 0 n) at h.ordered in
    let g : ended es f.txn ≡ false = not-true (ended es f.txn) (both_true (begun es f.txn) (not (ended es f.txn)) o).1 in
    (either-false (any (is commit f.txn) es) (any (is rollback f.txn) es) g).0

pub kept-number : (es : List Entry) (r : Row) → key 0 (tell es r) ≡ key 0 r
unfolding tell key
kept-number es r = refl

pub kept-lsn : (es : List Entry) (r : Row) → key 1 (tell es r) ≡ key 1 r
unfolding tell key
kept-lsn es r = refl

pub told-rising : (es : List Entry) (c : ℕ) → ((r : Row) → key c (tell es r) ≡ key c r) → {l : List Row} → Rising c l → Rising c (map (tell es) l)
told-rising es c e {l} r = record {
  at = λ i j p q.
      let b : j < length l = omega (arith, length-map l (tell es)) in
      rw (get_d_map (tell es) l i (omega arith), get_d_map (tell es) l j b, e (get_or l i blank), e (get_or l j blank)) (r.at i j p b);
}

pub told-changes : (es : List Entry) (l : List Row) (i : ℕ) → i < length (map (tell es) l) → (get_or (map (tell es) l) i blank).changes ≤ length es
unfolding tell
told-changes es l i h =
    let b : i < length l = omega (arith, length-map l (tell es)) in
    rw (get_d_map (tell es) l i b) (count-le (is_change_by (get_or l i blank).number.0) es)

module _ {full : ℕ → Bool} (es : List Entry) (f : Entry) (h : Passes full es f) (l : List Row) (rising : Rising 0 l) (real : (i : ℕ) → i < length l → (get_or l i blank).number.0 ≡ 0 → ⊥) where
  -- where no row is of the entry's transaction
  apart : ((i : ℕ) → i < length l → (get_or l i blank).number.0 ≡ f.txn → ⊥) → map (tell es) l ≡ map (tell (es ++ (f ∷ []))) l
  apart n = map_same (tell es) (tell (es ++ (f ∷ []))) l (λ i b. sym (tell-other es f (get_or l i blank) (λ e. n i b (sym e))))

  -- the number of a row that is told
  number-at : (i : ℕ) → i < length l → (get_or (map (tell es) l) i blank).number.0 ≡ (get_or l i blank).number.0
  unfolding tell
  number-at i b = ap (λ (r : Row). r.number.0) (get_d_map (tell es) l i b)

  -- another row has another number
  distinct : (i j : ℕ) → i < length l → j < length l → (i ≡ j → ⊥) → (get_or l i blank).number.0 ≡ (get_or l j blank).number.0 → ⊥
  distinct i j p q n e = go (ltb i j) refl
    where
      go : (b : Bool) → ltb i j ≡ b → ⊥
      go true k = omega (arith, rising.at i j (ltb-true i j k) q, key-number (get_or l i blank), key-number (get_or l j blank))
      go false k = omega (arith, rising.at j i (omega (arith, ltb-false i j k)) p, key-number (get_or l i blank), key-number (get_or l j blank))

  pub entered : {m : List Row} → Entered (map (tell es) l) f.kind f.txn (record { 0 = f.lsn }) m → m ≡ map (tell (es ++ (f ∷ []))) l
  entered (begins k e) = e ∙ map_same (tell es) (tell (es ++ (f ∷ []))) l (λ i b. sym (tell-begin es f (get_or l i blank) k))
  entered (by_zero z e) = e ∙ apart (λ i b q. real i b (q ∙ z))
  entered (other m e) = e ∙ apart (λ i b q. m i (omega (arith, length-map l (tell es))) (number-at i b ∙ q))
  entered (own j b q e) =
      let c : j < length l = omega (arith, length-map l (tell es)) in
      let t : (get_or l j blank).number.0 ≡ f.txn = sym (number-at j c) ∙ q in
      let w = tell-own es f (get_or l j blank) (sym t) (λ k. rw t (unended h (λ z. real j c (t ∙ z)) k)) in
      e ∙ ap (set (map (tell es) l) j) (ap (told_by f.kind (record { 0 = f.lsn })) (get_d_map (tell es) l j c) ∙ sym w)
      ∙ map-set (tell es) (tell (es ++ (f ∷ []))) l j c (λ i p n. sym (tell-other es f (get_or l i blank) (λ k. distinct i j p c n (sym k ∙ sym t))))
