-- Answers that are kept: none at first, and one more.
-- Assumes nothing.
use mathlib.Core.Path.{◌≡◌, refl, sym, subst}
use Prim.Native.Nat.{ℕ, ◌+◌, ◌*◌, ◌/◌, ◌%◌, ◌≤◌, ◌<◌}
use native.Mathlib.Omega.{arith}
use mathlib.Core.Bool.{Bool, true, false}
use lib.Dec.{eqb}
use native.Mathlib.Decide.{dec_lt}
use borrow.Author.Tests.{eqb-true, eqb-false}
use mathlib.Core.List.{List}
use lib.ListN.{length, get_or, set, replicate, get_or-replicate}
use lib.Seq.{set_out, get_or-set_same, get_or-set_other}
use Rattle.wal.specs.Entry.{entry_of}
use Rattle.wal.specs.Read.{view}
use Rattle.wal.specs.Walk.{entries}
use Rattle.wal.specs.Prefix.{said, Stands}
use Rattle.wal.proofs.Prefix.{stands_at}
use Rattle.rules.specs.Recover.{outcome_of}
use Rattle.std.specs.Prelude.{Some}
use Rattle.fates.specs.declared.Outcome.{Outcome}
use Rattle.fates.specs.declared.Outcome.TheVariants.{Committed, RolledBack}
use Rattle.fates.specs.Fate.{outcome_number, Kept, answers, Memo, in_front}

kept-none : (s : List ℕ) → Kept s 0
kept-none s = record { within = λ h. absurd (omega arith); is = λ h. absurd (omega arith) }

pub memo-none : (s : List ℕ) → Memo s (replicate answers 0)
memo-none s = record { at = λ r h. subst (Kept s) (sym (get_or-replicate answers r 0 0 h)) (kept-none s) }

-- a store past the end changes nothing
memo-set : {s m : List ℕ} (i v : ℕ) → Memo s m → Kept s v → Memo s (set m i v)
memo-set {s} {m} i v k n = elim (dec_lt i (length m)) [ yes l ↦ record { at = at l } | no l ↦ rw (set_out m i v (omega arith)) k ]
  where
    at : i < length m → (r : ℕ) → r < answers → Kept s (get_or (set m i v) r 0)
    at l r h = go (eqb r i) refl
      where
        go : (b : Bool) → eqb r i ≡ b → Kept s (get_or (set m i v) r 0)
        go true q = rw (eqb-true r i q, get_or-set_same m i v 0 l) n
        go false q = rw (get_or-set_other m i r v 0 (eqb-false r i q)) (k.at r h)

pub memo-front : {s m : List ℕ} (t v : ℕ) → Memo s m → Kept s v → Memo s (in_front t v m)
unfolding in_front
memo-front t v k n = memo-set (t % 8192) v (memo-set (t % 8192 + 8192) _ k (k.at (t % 8192) (omega arith))) n

-- the answer on the transaction of an entry
pub kept_at : {s : List ℕ} {p : ℕ} (o : ℕ) → Stands s p → outcome_of (entries s) (said s p).txn ≡ o → o ≤ 2 → Kept s (4 * p + o)
unfolding entry_of view
kept_at {s} {p} o h e l =
    let a : (4 * p + o) / 4 ≡ p = omega arith in
    let b : (4 * p + o) % 4 ≡ o = omega arith in
    let k = stands_at h in
    record { within = λ z. rw a (omega (arith, k.room, k.low)); is = λ z. rw (a, b) e }

pub kept-some : {s : List ℕ} {p : ℕ} (x : Outcome) → Stands s p → outcome_of (entries s) (said s p).txn ≡ outcome_number (Some x) → Kept s (4 * p + outcome_number (Some x))
kept-some Committed h e = kept_at 1 h e (omega arith)
kept-some RolledBack h e = kept_at 2 h e (omega arith)
