-- Changes by the type of their entry, as code tells types apart. Assumes nothing.
use Rattle.std.specs.Prelude.{Option, Some, None}
use Prim.Native.Nat.{ℕ, ◌+◌}
use mathlib.Core.Path.{◌≡◌, refl, sym, ap, ◌∙◌}
use mathlib.Core.Bool.{Bool, true, false}
use mathlib.Core.List.{List}
use native.Mathlib.Omega.{arith}
use lib.Dec.{eqb}
use borrow.Author.Tests.{ne_eqb}
use Rattle.endian.specs.Pick.{pick}
use Rattle.endian.specs.Numbers.{part}
use Rattle.wal.specs.Entry.{begin, commit, rollback, insert, delete, checkpoint, update, entry_of, key_part, old_part, new_part}
use Rattle.wal.specs.Kind.{kind_number, kind_of}
use Rattle.wal.specs.declared.EntryView.{EntryView}
use Rattle.wal.specs.declared.Kind.{Kind}
use Rattle.wal.specs.declared.Kind.TheVariants.{Begin, Commit, Rollback, Insert, Delete, Checkpoint, Update}
use Rattle.wal.proofs.KindLaws.{kind-number, kind-of}
use Rattle.wal.proofs.WalkLaws.{EntryAt}
use Rattle.rules.specs.Shape.{both, either, is_changing, is_image, is_keyed, is_shaped}
use Rattle.change.proofs.Shapes.{insert-shaped, delete-shaped, update-shaped, checkpoint-shaped, other-shaped}

-- one value for each type of change, one for Checkpoints, and one for all else
abbrev pub by_kind : {A : Type 0} → A → A → A → A → A → Option Kind → A
by_kind i d u c o (Some Begin) = o
by_kind i d u c o (Some Commit) = o
by_kind i d u c o (Some Rollback) = o
by_kind i d u c o (Some Insert) = i
by_kind i d u c o (Some Delete) = d
by_kind i d u c o (Some Checkpoint) = c
by_kind i d u c o (Some Update) = u
by_kind i d u c o None = o

-- a byte that is no type's is none of the numbers
none : (n : ℕ) (k : Kind) → kind_of n ≡ None → n ≡ kind_number k → ⊥
none n k e q = let f : None ≡ Some k = sym e ∙ ap kind_of q ∙ kind-number k in cc

-- the same by the numbers of types
abbrev by_tests : {A : Type 0} → A → A → A → A → A → ℕ → A
by_tests i d u c o n = pick (eqb n insert) i (pick (eqb n delete) d (pick (eqb n update) u (pick (eqb n checkpoint) c o)))

pub by_number : {A : Type 0} (n : ℕ) (i d u c o : A) → by_tests i d u c o n ≡ by_kind i d u c o (kind_of n)
by_number {A} n i d u c o = go (kind_of n) refl
  where
    go : (k : Option Kind) → kind_of n ≡ k → by_tests i d u c o n ≡ by_kind i d u c o k
    go (Some Begin) e = ap (by_tests i d u c o) (kind-of n e)
    go (Some Commit) e = ap (by_tests i d u c o) (kind-of n e)
    go (Some Rollback) e = ap (by_tests i d u c o) (kind-of n e)
    go (Some Insert) e = ap (by_tests i d u c o) (kind-of n e)
    go (Some Delete) e = ap (by_tests i d u c o) (kind-of n e)
    go (Some Checkpoint) e = ap (by_tests i d u c o) (kind-of n e)
    go (Some Update) e = ap (by_tests i d u c o) (kind-of n e)
    go None e = rw (ne_eqb n insert (none n Insert e), ne_eqb n delete (none n Delete e), ne_eqb n update (none n Update e), ne_eqb n checkpoint (none n Checkpoint e)) refl

pub changing_by_kind : (n : ℕ) → is_changing n ≡ by_kind true true true false false (kind_of n)
unfolding is_changing
changing_by_kind n = go (eqb n insert) (eqb n delete) (eqb n update) (eqb n checkpoint) ∙ by_number n true true true false false
  where
    go : (a b c d : Bool) → either a (either b c) ≡ pick a true (pick b true (pick c true (pick d false false)))
    go true b c d = refl
    go false true c d = refl
    go false false true d = refl
    go false false false true = refl
    go false false false false = refl

pub shaped_by_kind : {s : List ℕ} {p : ℕ} {v : EntryView} → EntryAt s p v
    → is_shaped (entry_of s v) ≡ by_kind
    (both (eqb v.key_len 10) (both (eqb v.old_len 0) (is_image (new_part s v))))
    (both (eqb v.key_len 10) (both (is_image (old_part s v)) (eqb v.new_len 0)))
    (both (eqb v.key_len 10) (both (is_keyed (key_part s v) (old_part s v)) (is_keyed (key_part s v) (new_part s v))))
    (both (eqb v.length 43) (eqb v.txn.0 0))
    (eqb v.length 43)
    (kind_of v.kind)
shaped_by_kind {s} {p} {v} k = go (kind_of v.kind) refl
  where
    other : (j : Kind) → ((kind_number j ≡ insert) → ⊥) → ((kind_number j ≡ delete) → ⊥) → ((kind_number j ≡ update) → ⊥) → ((kind_number j ≡ checkpoint) → ⊥) → v.kind ≡ kind_number j → is_shaped (entry_of s v) ≡ eqb v.length 43
    other j a b c d q = other-shaped k (λ e. a (sym q ∙ e)) (λ e. b (sym q ∙ e)) (λ e. c (sym q ∙ e)) (λ e. d (sym q ∙ e))

    go : (j : Option Kind) → kind_of v.kind ≡ j → is_shaped (entry_of s v) ≡ by_kind
        (both (eqb v.key_len 10) (both (eqb v.old_len 0) (is_image (new_part s v))))
        (both (eqb v.key_len 10) (both (is_image (old_part s v)) (eqb v.new_len 0)))
        (both (eqb v.key_len 10) (both (is_keyed (key_part s v) (old_part s v)) (is_keyed (key_part s v) (new_part s v))))
        (both (eqb v.length 43) (eqb v.txn.0 0))
        (eqb v.length 43)
        j
    go (Some Begin) e = other Begin (λ q. omega arith) (λ q. omega arith) (λ q. omega arith) (λ q. omega arith) (kind-of _ e)
    go (Some Commit) e = other Commit (λ q. omega arith) (λ q. omega arith) (λ q. omega arith) (λ q. omega arith) (kind-of _ e)
    go (Some Rollback) e = other Rollback (λ q. omega arith) (λ q. omega arith) (λ q. omega arith) (λ q. omega arith) (kind-of _ e)
    go (Some Insert) e = insert-shaped k (kind-of _ e)
    go (Some Delete) e = delete-shaped k (kind-of _ e)
    go (Some Checkpoint) e = checkpoint-shaped k (kind-of _ e)
    go (Some Update) e = update-shaped k (kind-of _ e)
    go None e = other-shaped k (none v.kind Insert e) (none v.kind Delete e) (none v.kind Update e) (none v.kind Checkpoint e)
