-- A page area page by page: its first page and the rest, and two areas that agree on every page.
-- Assumes nothing.
use mathlib.Core.Path.{◌≡◌, refl, sym, ap, ap₂, ◌∙◌}
use Prim.Native.Nat.{ℕ, zero, suc, ◌+◌, ◌*◌, ◌<◌}
use native.Mathlib.Omega.{arith}
use mathlib.Core.List.{List, [], ◌∷◌, ◌++◌}
use lib.ListN.{length, take, drop, length-drop, take-append-drop}
use lib.Seq.{take_at, drop_at, drop-drop}
use Rattle.page.specs.Layout.{page_bytes, page_at}

pub page-first : (m rest : List ℕ) → length m ≡ page_bytes → page_at 0 (m ++ rest) ≡ m
page-first m rest e = take_at m rest page_bytes e

page-next : (j : ℕ) (s : List ℕ) → page_at (suc j) s ≡ page_at j (drop page_bytes s)
page-next j s =
    let a : suc j * page_bytes ≡ page_bytes + j * page_bytes = omega arith in
    ap (take page_bytes) (ap (λ (n : ℕ). drop n s) a ∙ sym (drop-drop (j * page_bytes) page_bytes s))

pub page-later : (j : ℕ) (m rest : List ℕ) → length m ≡ page_bytes → page_at (suc j) (m ++ rest) ≡ page_at j rest
page-later j m rest e = page-next j (m ++ rest) ∙ ap (page_at j) (drop_at m rest page_bytes e)

-- two areas of n pages that agree on every page are the same
pub same-pages : (n : ℕ) (a b : List ℕ) → length a ≡ n * page_bytes → length b ≡ n * page_bytes → ((i : ℕ) → i < n → page_at i a ≡ page_at i b) → a ≡ b
same-pages zero [] [] la lb h = refl
same-pages zero (x ∷ a) b la lb h = absurd (omega arith)
same-pages zero [] (x ∷ b) la lb h = absurd (omega arith)
same-pages (suc n) a b la lb h =
    let da : length (drop page_bytes a) ≡ n * page_bytes = simp length-drop (omega arith) in
    let db : length (drop page_bytes b) ≡ n * page_bytes = simp length-drop (omega arith) in
    let first : take page_bytes a ≡ take page_bytes b = h 0 (omega arith) in
    sym (take-append-drop page_bytes a)
    ∙ ap₂ ◌++◌ first (same-pages n (drop page_bytes a) (drop page_bytes b) da db (λ i l. sym (page-next i a) ∙ h (suc i) (omega arith) ∙ page-next i b))
    ∙ take-append-drop page_bytes b
