-- What is told of one page. Assumes nothing.
use Prim.Native.Nat.{ℕ, ◌<◌}
use mathlib.Core.Path.{◌≡◌, sym, ap, ◌∙◌}
use mathlib.Core.Bool.{Bool, true, false}
use mathlib.Core.List.{List}
use lib.ListN.{length}
use lib.Dec.{eqb}
use borrow.Author.Tests.{eqb-true}
use Rattle.wal.specs.Entry.{Entry}
use Rattle.page.specs.Layout.{page_bytes, data_type, magic_of, type_of, id_of}
use Rattle.page.specs.Fault.{fault_of}
use Rattle.std.specs.Prelude.{None}
use Rattle.page.proofs.FaultLaws.{sound-good}
use Rattle.rules.specs.Shape.{same}
use Rattle.rules.specs.Mend.{top_of}
use Rattle.rules.proofs.Tests.{both_true, false-true}
use Rattle.images.specs.Page.{Sound}
use Rattle.audit.specs.declared.Finding.{Finding}
use Rattle.audit.specs.Judge.{alike, apart, slot_agrees, head_agrees, slots_in, slots_from}
use Rattle.audit.specs.Known.{PageKnown}
use Rattle.audit.specs.Right.{SameHead}
use Rattle.change.proofs.Shapes.{same_true}
use Rattle.audit.proofs.Slotwise.{page-same, page-other, page-head, page-slots}

pub head-same : (p q : List ℕ) → head_agrees p q ≡ true → SameHead p q
unfolding head_agrees
head-same p q h =
    let a = both_true (eqb (magic_of p) (magic_of q)) _ h in
    let b = both_true (eqb (type_of p) (type_of q)) _ a.1 in
    let c = both_true (eqb (id_of p) (id_of q)) _ b.1 in
    record { magic = eqb-true _ _ a.0; type = eqb-true _ _ b.0; id = eqb-true _ _ c.0; reserved = same_true _ _ c.1 }

module _ (magic : ℕ) (es : List Entry) (i : ℕ) (p q : List ℕ) where
  -- not touched
  module _ (none : top_of i es ≡ 0) where
    pub known_same : fault_of magic i p ≡ None → same p q ≡ true → {f : Finding} → f ≡ alike → PageKnown magic es i p q (record { sound = true; finding = f })
    known_same h s e = record { sound = λ _. ap (fault_of magic i) (sym (same_true p q s)) ∙ h; faulty = λ z. false-true (sym z); finding = λ _. e ∙ page-same es i p q none s }

    pub known-other : same p q ≡ false → {b : Bool} → (b ≡ true → fault_of magic i q ≡ None) × (b ≡ false → fault_of magic i q ≡ None → ⊥) → {f : Finding} → f ≡ apart i 0 → PageKnown magic es i p q (record { sound = b; finding = f })
    known-other s h e = record { sound = h.0; faulty = h.1; finding = λ _. e ∙ page-other es i p q none s }

  -- touched
  pub known-faulty : (fault_of magic i q ≡ None → ⊥) → {f : Finding} → PageKnown magic es i p q (record { sound = false; finding = f })
  known-faulty h = record { sound = λ e. false-true e; faulty = λ _. h; finding = λ e. false-true e }

  module _ (some : 0 < top_of i es) (fine : fault_of magic i q ≡ None) where
    pub known-head : head_agrees p q ≡ false → {f : Finding} → f ≡ apart i 0 → PageKnown magic es i p q (record { sound = true; finding = f })
    known-head h e = record { sound = λ _. fine; faulty = λ z. false-true (sym z); finding = λ _. e ∙ page-head es i p q some h }

    pub known-slots : head_agrees p q ≡ true → {f : Finding} → f ≡ slots_from (slot_agrees es i p q) i (slots_in es i p q) 0 → PageKnown magic es i p q (record { sound = true; finding = f })
    known-slots h e = record { sound = λ _. fine; faulty = λ z. false-true (sym z); finding = λ _. e ∙ page-slots es i p q some h }

-- as a `let .. else` on a fault finds it

pub later-sound : (magic i : ℕ) (p q : List ℕ) → length q ≡ page_bytes → fault_of magic i q ≡ None → head_agrees p q ≡ true → type_of p ≡ data_type → Sound q
later-sound magic i p q size fine h d = record { size = size; good = (sound-good magic i q size fine).data_good (sym (head-same p q h).type ∙ d) }
