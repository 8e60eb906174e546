-- Pages noted one after another.
-- Assumes nothing.
use mathlib.Core.Path.{◌≡◌, sym, ◌∙◌}
use Prim.Native.Nat.{ℕ, ◌+◌, ◌<◌}
use native.Mathlib.Decide.{dec_le}
use native.Mathlib.Omega.{arith}
use mathlib.Core.List.{List, []}
use lib.ListN.{length, get_or, set}
use lib.Seq.{get_or-set_same, get_or-set_other}
use Rattle.page.specs.Layout.{page_at}
use Rattle.page.specs.Rows.{cancelled, page_rows}
use Rattle.page.specs.Notes.{Noted}

module _ (s : List ℕ) where
  pub noted_more : (notes : List ℕ) (n v : ℕ) → n < length notes → Noted s notes n → (v ≡ 1 → page_rows cancelled n (page_at n s) ≡ []) → Noted s (set notes n v) (n + 1)
  noted_more notes n v l d h =
      record {
        at = λ i m e.
            elim (dec_le n i) [
              | yes q ↦ let z : i ≡ n = omega arith in
                  let f : get_or (set notes n v) n 0 ≡ 1 = rw z at e in
                  rw z (h (sym (get_or-set_same notes n v 0 l) ∙ f))
              | no q ↦ d.at i (omega arith) (sym (get_or-set_other notes n i v 0 (λ z. absurd (omega arith))) ∙ e)
            ];
      }
