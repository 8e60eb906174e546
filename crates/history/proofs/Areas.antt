-- A page area by the bytes of its pages. Assumes nothing.
use Prim.Native.Nat.{ℕ, ◌+◌, ◌*◌, ◌/◌, ◌%◌, ◌<◌}
use mathlib.Core.Path.{◌≡◌, sym, ap, ◌∙◌}
use mathlib.Core.List.{List}
use native.Mathlib.Decide.{dec_lt}
use native.Mathlib.Omega.{arith}
use lib.ListN.{length, drop, get_or, get_or-eq_default}
use lib.Seq.{get_or-take, get_or-drop}
use Rattle.endian.specs.Numbers.{Bytes}
use Rattle.page.specs.Layout.{page_bytes, pages_in, page_at}

-- byte j stands in page j / 16384
in-page : (s : List ℕ) (j : ℕ) → get_or s j 0 ≡ get_or (page_at (j / page_bytes) s) (j % page_bytes) 0
in-page s j =
    let e : j / 16384 * 16384 + j % 16384 ≡ j = omega arith in
    sym (get_or-take page_bytes (drop (j / page_bytes * page_bytes) s) (j % page_bytes) 0 (omega arith) ∙ get_or-drop (j / page_bytes * page_bytes) s (j % page_bytes) 0 ∙ ap (λ (n : ℕ). get_or s n 0) e)

module _ (s : List ℕ) (whole : length s % page_bytes ≡ 0) where
  in_area : (j : ℕ) → j < length s → j / page_bytes < pages_in s
  in_area j h = omega arith

  -- an area whose pages are bytes is
  pub area-bytes : ((i : ℕ) → i < pages_in s → Bytes (page_at i s)) → Bytes s
  area-bytes b = record { at = go }
    where
      go : (j : ℕ) → get_or s j 0 < 256
      go j =
          elim (dec_lt j (length s)) [
            | yes l ↦ rw (in-page s j) ((b (j / page_bytes) (in_area j l)).at (j % page_bytes))
            | no l ↦ rw (get_or-eq_default s 0 {n = j} (omega arith)) (omega arith)
          ]
