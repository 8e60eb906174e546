-- The slots of one page, one after the other, and what is found of a page. Assumes nothing.
use Prim.Native.Nat.{ℕ, suc, ◌+◌, ◌-◌, ◌≤◌, ◌<◌}
use mathlib.Core.Path.{refl, ◌≡◌, sym, ap₂, ◌∙◌}
use mathlib.Core.Bool.{Bool, true, false}
use mathlib.Core.List.{List}
use native.Mathlib.Numerals.{add-one}
use native.Mathlib.Omega.{arith}
use lib.ListN.{length}
use borrow.Author.Tests.{eq-eqb, ne_eqb, lt-ltb}
use Rattle.endian.specs.Numbers.{part}
use Rattle.wal.specs.Entry.{Entry}
use Rattle.page.specs.Layout.{magic_of, type_of, id_of, reserved_of, slot_at}
use Rattle.rules.specs.Shape.{same}
use Rattle.rules.specs.Mend.{committed, top_of, decided}
use Rattle.change.specs.declared.Image.{Image}
use Rattle.change.specs.Tuples.{source_in, tuple_in, Stood}
use Rattle.images.specs.Tuples.{InPage, PagedAt}
use Rattle.std.specs.Prelude.{Option, None, Some}
use Rattle.endian.specs.declared.TxnNumber.{TxnNumber}
use Rattle.change.specs.declared.Source.TheVariants.{Log, Page}
use Rattle.mend.proofs.Tuples.{plain-tuple}
use Rattle.audit.specs.Judge.{alike, apart, slot_agrees, head_agrees, slots_in, slots_from, page_finding}

-- ---- one slot

-- what a page's slot holds is the part of it that its image names
pub kept-part : {q t : List ℕ} {k : ℕ} {o : Image} → InPage q o t → PagedAt q k o → part o.place o.length q ≡ t
kept-part {q} {t} {k} {o} h at = go o.deleted_by refl
  where
    there : part o.place o.length q ≡ part o.place o.length (source_in q q o.source)
    there = rw at.paged refl

    go : (x : Option TxnNumber) → o.deleted_by ≡ x → part o.place o.length q ≡ t
    go None e = plain-tuple (h.stood q).lies there e ∙ (h.stood q).is
    go (Some x) e = let z : Page ≡ Log = sym at.paged ∙ ((h.stood q).lies.headed x e).0 in absurd cc

pub kept-within : {q t : List ℕ} {k : ℕ} {o : Image} → InPage q o t → PagedAt q k o → o.place + o.length ≤ length q
kept-within {q} h at = rw at.paged at (h.stood q).lies.within

pub agrees-by : {s p q : List ℕ} {m o : Image} (es : List Entry) (i k : ℕ) → Stood s p m (decided (committed es) es i k (slot_at p k)) → InPage q o (slot_at q k) → PagedAt q k o
    → same (tuple_in s p m) (part o.place o.length q) ≡ slot_agrees es i p q k
unfolding slot_agrees
agrees-by es i k d h at = ap₂ same d.is (kept-part h at)

-- ---- slot by slot

module _ (agrees : ℕ → Bool) (i n k : ℕ) where
  pub slots-here : k < n → agrees k ≡ false → slots_from agrees i (n - k) k ≡ apart i k
  unfolding slots_from
  slots-here h e = let z : n - k ≡ suc (n - (k + 1)) = omega arith in rw (z, e)

  pub slots_next : k < n → agrees k ≡ true → slots_from agrees i (n - k) k ≡ slots_from agrees i (n - (k + 1)) (k + 1)
  unfolding slots_from
  slots_next h e = let z : n - k ≡ suc (n - (k + 1)) = omega arith in rw (z, e, add-one k)

  pub slots_end : n ≤ k → slots_from agrees i (n - k) k ≡ alike
  unfolding slots_from
  slots_end h = let z : n - k ≡ 0 = omega arith in rw z

pub slots-start : (agrees : ℕ → Bool) (i n : ℕ) {m : ℕ} → m ≡ n → slots_from agrees i (m - 0) 0 ≡ slots_from agrees i n 0
slots-start agrees i n {m} e = let z : m - 0 ≡ n = omega arith in rw z

-- ---- headers, as code tests them

module _ (p q : List ℕ) where
  pub head-magic : (magic_of p ≡ magic_of q → ⊥) → false ≡ head_agrees p q
  unfolding head_agrees
  head-magic n = sym (rw (ne_eqb (magic_of p) (magic_of q) n))

  module _ (m : magic_of p ≡ magic_of q) where
    pub head-type : (type_of p ≡ type_of q → ⊥) → false ≡ head_agrees p q
    unfolding head_agrees
    head-type n = sym (rw (eq-eqb (magic_of p) (magic_of q) m, ne_eqb (type_of p) (type_of q) n))

    module _ (t : type_of p ≡ type_of q) where
      pub head-id : (id_of p ≡ id_of q → ⊥) → false ≡ head_agrees p q
      unfolding head_agrees
      head-id n = sym (rw (eq-eqb (magic_of p) (magic_of q) m, eq-eqb (type_of p) (type_of q) t, ne_eqb (id_of p) (id_of q) n))

      pub head-rest : id_of p ≡ id_of q → same (reserved_of p) (reserved_of q) ≡ head_agrees p q
      unfolding head_agrees
      head-rest d = sym (rw (eq-eqb (magic_of p) (magic_of q) m, eq-eqb (type_of p) (type_of q) t, eq-eqb (id_of p) (id_of q) d))

-- ---- a page

module _ (es : List Entry) (i : ℕ) (p q : List ℕ) where
  module _ (none : top_of i es ≡ 0) where
    pub page-same : same p q ≡ true → alike ≡ page_finding es i p q
    unfolding page_finding
    page-same e = sym (rw (none, e))

    pub page-other : same p q ≡ false → apart i 0 ≡ page_finding es i p q
    unfolding page_finding
    page-other e = sym (rw (none, e))

  module _ (some : 0 < top_of i es) where
    pub page-head : head_agrees p q ≡ false → apart i 0 ≡ page_finding es i p q
    unfolding page_finding
    page-head e = sym (rw (lt-ltb 0 (top_of i es) some, e))

    pub page-slots : head_agrees p q ≡ true → slots_from (slot_agrees es i p q) i (slots_in es i p q) 0 ≡ page_finding es i p q
    unfolding page_finding
    page-slots e = sym (rw (lt-ltb 0 (top_of i es) some, e))
