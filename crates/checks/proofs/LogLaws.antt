-- The verdict on a log, from its header, the first walk and the first clash. Assumes nothing.
use Prim.Native.Nat.{ℕ, ◌^◌, ◌≤◌, ◌<◌}
use mathlib.Core.Path.{◌≡◌, sym, ap, ◌∙◌, subst}
use mathlib.Core.Bool.{Bool, true, false}
use mathlib.Core.List.{List, [], ◌∷◌, ◌++◌}
use native.Mathlib.Omega.{arith}
use lib.ListN.{length}
use lib.Dec.{ltb}
use borrow.Author.Tests.{lt-ltb, le-ltb, ltb-true, ltb-false, ne_eqb}
use Rattle.endian.specs.Pick.{pick}
use Rattle.endian.specs.Numbers.{Bytes}
use Rattle.wal.specs.Entry.{Entry}
use Rattle.wal.specs.Read.{header_fault}
use Rattle.wal.specs.Walk.{entries, end_of}
use Rattle.wal.specs.Prefix.{Met, said, before}
use Rattle.wal.proofs.Prefix.{Along, start, more, along, met-below, stands_at, before-first, before-next, before-end}
use Rattle.refusals.specs.Refusal.{number_of}
use Rattle.refusals.specs.Verdict.{verdict, told, told_by}
use Rattle.refusals.specs.declared.Refused.{Refused}
use Rattle.refusals.proofs.Told.{refused-at}
use Rattle.std.specs.Prelude.{Result, Ok}
use Rattle.rules.specs.Shape.{is_known, is_shaped}
use Rattle.rules.specs.Order.{any, last_lsn, in_order, clashes, log_verdict}
use Rattle.rules.proofs.Tests.{false-true, into, past}
use Rattle.firsts.specs.First.{FirstOf}
use Rattle.firsts.proofs.Log.{first-log}
use Rattle.order.specs.First.{stop_of, basic_fault, FirstWalk}
use Rattle.order.specs.declared.Walked.{Walked}
use Rattle.order.proofs.Passing.{no-fault-at, with-clashes}
use Rattle.states.specs.Clash.{clash_after}
use Rattle.states.proofs.States.{Told, told_none, told-snoc, ordered-is}
use Rattle.states.proofs.Clashes.{Clear, clear_none, clear-snoc, clash-is}
use Rattle.cells.specs.Cell.{Starts}
use Rattle.cells.specs.Listing.{Lists}
use Rattle.cells.specs.Measure.{Lasts, Sound, FirstBeyond}
use Rattle.clash.specs.First.{FirstIn}
use Rattle.clash.proofs.VerdictLaws.{clash-all}
use Rattle.checks.specs.Judged.{Measured}

-- a header without fault
pub header-fits : (s : List ℕ) → header_fault s ≡ 0 → length s ≤ 16777216
unfolding header_fault
header-fits s h = ltb-false _ _ (past (ltb 16777216 (length s)) (λ z. omega arith) h).0

-- what an entry without a fault is
basic-parts : (full : ℕ → Bool) (xs : List Entry) (e : Entry) → basic_fault full xs e ≡ 0 → (is_shaped e ≡ true) × (last_lsn xs < e.lsn) × (in_order xs e ≡ true)
unfolding basic_fault
basic-parts full xs e h =
    let a = into (is_known e.kind) (λ z. omega arith) h in
    let b = into (is_shaped e) (λ z. omega arith) a.1 in
    let c = into (ltb (last_lsn xs) e.lsn) (λ z. omega arith) b.1 in
    let d = into (in_order xs e) (λ z. omega arith) c.1 in
    (b.0, ltb-true _ _ c.0, d.0)

-- the entries before the place where the first walk stops
module _ {full : ℕ → Bool} {s : List ℕ} {w : Result Walked Refused} (f : FirstWalk full s w) where
  -- a walk that finds no fault comes by all entries
  pub stops : {v : Walked} → w ≡ Ok v → stop_of w ≡ end_of s
  stops {v} q = ap stop_of q ∙ f.ends v q

  pub before-all : {v : Walked} → w ≡ Ok v → before s (stop_of w) ≡ entries s
  before-all q = ap (before s) (stops q) ∙ before-end s

  parts : {p : ℕ} → Met s p → p < (stop_of w) → (is_shaped (said s p) ≡ true) × (last_lsn (before s p) < (said s p).lsn) × (in_order (before s p) (said s p) ≡ true)
  parts {p} m l = basic-parts full (before s p) (said s p) (no-fault-at f m (met-below s m f.met l).stands l)

  pub sound : Sound s (stop_of w)
  sound = record { shaped = λ m l. (parts m l).0; rises = λ m l. (parts m l).1 }

  module _ (bytes : Bytes s) {r : ℕ} (c : FirstIn 0 (2 ^ 64) s (stop_of w) r) where
    -- what the states of transactions and the newest changes tell before the first clash
    record Telling (p : ℕ) : Type 0 where
      states : (t : ℕ) → (t ≡ 0 → ⊥) → Told (before s p) t
      clear : Clear (before s p)

    clash-told : {p : ℕ} → Telling p → any (clashes (before s p) (said s p)) (before s p) ≡ clash_after (before s p) (said s p)
    clash-told {p} k = clash-is (before s p) (said s p) k.states k.clear

    no-clash : {p : ℕ} → Met s p → p < r → clash_after (before s p) (said s p) ≡ false
    no-clash {p} m l = sym (clash-all s bytes p) ∙ c.none p m l

    telling : {p : ℕ} → Along s p → p ≤ r → Telling p
    telling start l = record { states = λ t n. rw (before-first s) (told_none t); clear = rw (before-first s) clear_none }
    telling {p} (more {p = q} a m h e) l =
        let low : q < p = omega (arith, (stands_at h).front, (stands_at h).low) in
        let k = telling a (omega arith) in
        let g = parts m (omega (arith, c.low)) in
        let b : before s p ≡ before s q ++ (said s q ∷ []) = ap (before s) e ∙ before-next s m h in
        record {
          states = rw b (told-snoc (before s q) (said s q) g.0 (sym (ordered-is (before s q) (said s q) k.states) ∙ g.2) k.states);
          clear = rw b (clear-snoc (before s q) (said s q) (clash-told k ∙ no-clash m (omega arith)) k.clear);
        }

    first-clash : FirstOf (λ xs e. any (clashes xs e) xs ≡ true) (entries s) 32 (stop_of w) r
    first-clash =
        first-log s c.low
        (λ p m h l t. false-true (sym (clash-told (telling (along m) (omega arith)) ∙ no-clash m l) ∙ t))
        (λ l. record { met = c.met; stands = (met-below s c.met f.met l).stands; holds = clash-told (telling (along c.met) (omega arith)) ∙ c.some l })

    pub log_is : header_fault s ≡ 0 → log_verdict full s ≡ pick (ltb r (stop_of w)) (verdict 9 r) (told w)
    unfolding log_verdict
    log_is h = rw h (with-clashes f first-clash)

-- refused by its header
pub judged-header : (full : ℕ → Bool) (s : List ℕ) (e : Refused) (x : ℕ) → number_of e.refusal ≡ x → e.place ≡ 0 → (x ≡ 0 → ⊥) → x ≡ header_fault s → told_by e ≡ log_verdict full s
unfolding log_verdict
judged-header full s e x a b h q = refused-at e x 0 a b ∙ rw (← q, ne_eqb x 0 h)

module _ {full : ℕ → Bool} {s : List ℕ} (header : header_fault s ≡ 0) {w : Result Walked Refused} (f : FirstWalk full s w) (bytes : Bytes s) {r : ℕ} (c : FirstIn 0 (2 ^ 64) s (stop_of w) r) where
  pub judged-clash : (e : Refused) → number_of e.refusal ≡ 9 → e.place ≡ r → r < stop_of w → told_by e ≡ log_verdict full s
  judged-clash e a b h = refused-at e 9 r a b ∙ sym (log_is f bytes c header ∙ rw (lt-ltb r (stop_of w) h))

  pub judged-walk : stop_of w ≤ r → told w ≡ log_verdict full s
  judged-walk h = sym (log_is f bytes c header ∙ rw (le-ltb r (stop_of w) h))

-- what is measured before the walk's stop, where that is the end
pub measured-all : {full : ℕ → Bool} {s : List ℕ} {w : Result Walked Refused} {v : Walked} {n b : ℕ} {starts lasts lists : List ℕ} → FirstWalk full s w → w ≡ Ok v → Starts (before s (stop_of w)) n starts → Lasts s (stop_of w) n lasts
    → Lists (before s (stop_of w)) n lists → FirstBeyond s (stop_of w) n b → Measured s n starts lasts lists (record { walked = v; beyond = b })
measured-all {s = s} {v = v} {n = n} {b = b} {starts = starts} {lasts = lasts} {lists = lists} f q st la li be =
    record {
      end = f.ends v q;
      last = f.last v q;
      begin = subst (λ (es : List Entry). Starts es n starts) (before-all f q) st;
      touched = subst (λ (p : ℕ). Lasts s p n lasts) (stops f q) la;
      next = subst (λ (es : List Entry). Lists es n lists) (before-all f q) li;
      beyond = subst (λ (p : ℕ). FirstBeyond s p n b) (stops f q) be;
    }
