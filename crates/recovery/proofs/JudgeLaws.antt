-- The verdict of recovery, refusal by refusal, and what an accepted log and accepted pages tell. Assumes nothing.
use Rattle.std.specs.Prelude.{◌≡◌, ℕ, zero, suc, ◌+◌, ◌<◌, ◌≤◌, Bool, true, false, ltb, leb, List, [], ◌∷◌, ◌++◌}
use mathlib.Core.Path.{refl, sym, ap, ◌∙◌}
use mathlib.Core.List.{append_assoc, append-nil}
use native.Mathlib.Omega.{arith}
use borrow.Author.Tests.{ne_eqb, lt-ltb, le-ltb, leb-false}
use Rattle.endian.specs.Pick.{pick}
use Rattle.wal.specs.Entry.{Entry, size_of}
use Rattle.wal.specs.Read.{first, header_fault}
use Rattle.wal.specs.Walk.{entries}
use Rattle.page.specs.Layout.{pages_in}
use Rattle.refusals.specs.Verdict.{verdict, accepted, ◌then◌}
use Rattle.page.specs.Fault.{size_wrong}
use Rattle.refusals.specs.declared.Verdict.{Verdict}
use Rattle.rules.specs.Shape.{both, is_known, is_shaped}
use Rattle.rules.specs.Order.{one, count, any, is_begin, last_lsn, in_order, clashes, full_at, never_full, fault_after, or_else, order_from, log_verdict}
use Rattle.rules.specs.Recover.{pages_from, stray_from, tight_from, recover_verdict}
use Rattle.rules.proofs.Tests.{into, past}
use Rattle.rules.proofs.OrderLaws.{InTurn, in-turn}
use Rattle.refusals.proofs.Then.{then-refused, then-accepted, then-zero}
use Rattle.fates.specs.Fate.{Ordered}
use Rattle.rules.specs.Lent.{lent}

-- ---- an accepted log
module _ (full : ℕ → Bool) (log : List ℕ) (h : (log_verdict full log).number ≡ 0) where
  order-ok : (order_from full [] (entries log) first).number ≡ 0
  unfolding log_verdict
  order-ok =
      let a = then-zero (verdict (header_fault log) 0) _ h in
      (then-zero (order_from full [] (entries log) first) _ a.1).0

  pub header_ok : header_fault log ≡ 0
  unfolding log_verdict
  header_ok = (then-zero (verdict (header_fault log) 0) _ h).0

-- without a bound on records nothing else is refused
fault-unbounded : (full : ℕ → Bool) (es : List Entry) (e : Entry) → fault_after full es e ≡ 0 → fault_after never_full es e ≡ 0
unfolding fault_after
fault-unbounded full es e h =
    let a = into (is_known e.kind) (λ z. omega arith) h in
    let b = into (is_shaped e) (λ z. omega arith) a.1 in
    let c = into (ltb (last_lsn es) e.lsn) (λ z. omega arith) b.1 in
    let d = into (in_order es e) (λ z. omega arith) c.1 in
    let f = past (any (clashes es e) es) (λ z. omega arith) d.1 in
    rw (a.0, b.0, c.0, d.0, f.0) (never (is_begin e))
  where
    never : (b : Bool) → pick {A = ℕ} (both b false) 10 0 ≡ 0
    never true = refl
    never false = refl

order-unbounded : (full : ℕ → Bool) (es fs : List Entry) (at : ℕ) → (order_from full es fs at).number ≡ 0 → (order_from never_full es fs at).number ≡ 0
unfolding order_from
order-unbounded full es [] at h = refl
order-unbounded full es (f ∷ fs) at h = go (fault_after full es f) refl h (order-unbounded full (es ++ (f ∷ [])) fs (at + size_of f))
  where
    go : (n : ℕ) → fault_after full es f ≡ n → (or_else n at (order_from full (es ++ (f ∷ [])) fs (at + size_of f))).number ≡ 0
        → ((order_from full (es ++ (f ∷ [])) fs (at + size_of f)).number ≡ 0 → (order_from never_full (es ++ (f ∷ [])) fs (at + size_of f)).number ≡ 0)
        → (or_else (fault_after never_full es f) at (order_from never_full (es ++ (f ∷ [])) fs (at + size_of f))).number ≡ 0
    go zero e h more = rw (fault-unbounded full es f e) (more h)
    go (suc n) e h more = absurd (omega arith)

pub ordered-ok : (full : ℕ → Bool) (log : List ℕ) → (log_verdict full log).number ≡ 0 → Ordered log
ordered-ok full log h = order-unbounded full [] (entries log) first (order-ok full log h)

-- no more Begins than records
begins-few : (records : ℕ) (es fs : List Entry) → InTurn (full_at records) es fs → count is_begin es ≤ records → count is_begin (es ++ fs) ≤ records
begins-few records es [] h k = rw (append-nil es) k
begins-few records es (f ∷ fs) h k =
    let n : count is_begin (es ++ (f ∷ [])) ≤ records = more (is_begin f) refl h.0.room in
    rw (append_assoc es (f ∷ []) fs) at (begins-few records (es ++ (f ∷ [])) fs h.1 n)
  where
    snoc : (ds : List Entry) → count is_begin (ds ++ (f ∷ [])) ≡ count is_begin ds + one (is_begin f)
    snoc [] = omega arith
    snoc (d ∷ ds) = omega (arith, snoc ds)

    more : (b : Bool) → is_begin f ≡ b → both (is_begin f) (leb records (count is_begin es)) ≡ false → count is_begin (es ++ (f ∷ [])) ≤ records
    more true e r = omega (arith, snoc es, ap one e, leb-false records (count is_begin es) (rw e at r))
    more false e r = omega (arith, snoc es, ap one e)

pub begins-fit : (records : ℕ) (log : List ℕ) → (log_verdict (full_at records) log).number ≡ 0 → count is_begin (entries log) ≤ records
begins-fit records log h = begins-few records [] (entries log) (in-turn (full_at records) [] (entries log) first (order-ok (full_at records) log h)) (omega arith)

-- ---- refusal by refusal
module _ (full : ℕ → Bool) (magic floor : ℕ) (pages log : List ℕ) where
  pub judge-size : size_wrong pages ≡ true → verdict 1 0 ≡ recover_verdict full (lent magic floor pages log)
  unfolding recover_verdict
  judge-size h = sym (rw h)

  module _ (size : size_wrong pages ≡ false) where
    past-size : recover_verdict full (lent magic floor pages log)
        ≡ (log_verdict full log then pages_from magic floor (last_lsn (entries log)) pages (pages_in pages) 0 then stray_from pages (entries log) first then tight_from (entries log) pages (pages_in pages) 0)
    unfolding recover_verdict
    past-size = rw size

    pub judge-log : (v : Verdict) → v ≡ log_verdict full log → (v.number ≡ 0 → ⊥) → v ≡ recover_verdict full (lent magic floor pages log)
    judge-log v e n = sym (past-size ∙ rw (← e) (then-refused v _ n))

    module _ (log_ok : (log_verdict full log).number ≡ 0) where
      past-log : recover_verdict full (lent magic floor pages log)
          ≡ (pages_from magic floor (last_lsn (entries log)) pages (pages_in pages) 0 then stray_from pages (entries log) first then tight_from (entries log) pages (pages_in pages) 0)
      past-log = past-size ∙ then-accepted (log_verdict full log) _ log_ok

      pub judge-pages : (v : Verdict) → v ≡ pages_from magic floor (last_lsn (entries log)) pages (pages_in pages) 0 → (v.number ≡ 0 → ⊥) → v ≡ recover_verdict full (lent magic floor pages log)
      judge-pages v e n = sym (past-log ∙ rw (← e) (then-refused v _ n))

      module _ (pages_ok : (pages_from magic floor (last_lsn (entries log)) pages (pages_in pages) 0).number ≡ 0) where
        past-pages : recover_verdict full (lent magic floor pages log) ≡ (stray_from pages (entries log) first then tight_from (entries log) pages (pages_in pages) 0)
        past-pages = past-log ∙ then-accepted (pages_from magic floor (last_lsn (entries log)) pages (pages_in pages) 0) _ pages_ok

        pub judge-stray : (v : Verdict) → v ≡ stray_from pages (entries log) first → (v.number ≡ 0 → ⊥) → v ≡ recover_verdict full (lent magic floor pages log)
        judge-stray v e n = sym (past-pages ∙ rw (← e) (then-refused v _ n))

        module _ (stray_ok : (stray_from pages (entries log) first).number ≡ 0) where
          past-stray : recover_verdict full (lent magic floor pages log) ≡ tight_from (entries log) pages (pages_in pages) 0
          past-stray = past-pages ∙ then-accepted (stray_from pages (entries log) first) _ stray_ok

          pub judge-tight : (v : Verdict) → v ≡ tight_from (entries log) pages (pages_in pages) 0 → v ≡ recover_verdict full (lent magic floor pages log)
          judge-tight v e = e ∙ sym past-stray
