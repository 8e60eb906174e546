-- The working page under its header.
-- Assumes nothing.
use mathlib.Core.Path.{◌≡◌, ap, ap₂, ◌∙◌}
use Prim.Native.Nat.{ℕ, ◌+◌, ◌-◌, max}
use mathlib.Core.List.{List}
use lib.ListN.{length}
use Rattle.endian.specs.Numbers.{number_at}
use Rattle.wal.specs.Walk.{entries, end_of}
use Rattle.wal.proofs.Prefix.{before-end}
use Rattle.page.specs.Layout.{page_bytes, body_bytes, body_of, count_of, magic_of, type_of, id_of, lsn_of, reserved_of}
use Rattle.page.specs.Packed.{packed, tuple_bytes, body}
use Rattle.page.specs.Writer.{head_of, sealed}
use Rattle.page.specs.declared.PageHead.{PageHead}
use Rattle.page.proofs.Packing.{packing-sealed}
use Rattle.rules.specs.Mend.{committed, top_of, last_on, head_for, repacked}
use Rattle.cells.specs.Measure.{LastAt}
use Rattle.mend.proofs.Filling.{wanted, all_wanted, wanted-all}

-- the header that the page is to have
pub record HeadIs (h : PageHead) (s p : List ℕ) (last : ℕ) : Type 0 where
  pub magic : h.magic ≡ magic_of p
  pub kind : h.kind ≡ type_of p
  pub id : h.id.0 ≡ id_of p
  pub lsn : h.lsn.0 ≡ max (lsn_of p) (number_at 8 (last + 4) s)

module _ {s : List ℕ} {i last : ℕ} (a : LastAt s (end_of s) i last) where
  last-is : number_at 8 (last + 4) s ≡ last_on i (entries s)
  last-is = a.is ∙ ap (last_on i) (before-end s)

  head-is : {h : PageHead} {p : List ℕ} → HeadIs h s p last → head_of h (reserved_of p) ≡ head_for (committed (entries s)) (entries s) i p
  head-is {h} {p} e =
      let l : h.lsn.0 ≡ max (lsn_of p) (last_on i (entries s)) = e.lsn ∙ ap (max (lsn_of p)) last-is in
      λ j. record { magic = e.magic j; type = e.kind j; id = e.id j; lsn = l j; reserved = reserved_of p }

  -- sealed, the working page is the page, repacked
  pub repacked-is : {h : PageHead} {p : List ℕ} {n top : ℕ} (w : List ℕ) {v : List ℕ} → HeadIs h s p last → n ≡ max (count_of p) (top_of i (entries s)) → length w ≡ page_bytes
      → top ≡ body_bytes - tuple_bytes (all_wanted s i p) → body_of w ≡ body (all_wanted s i p)
      → v ≡ sealed (head_of h (reserved_of p)) n top (body_of w) → v ≡ repacked (committed (entries s)) (entries s) i p
  repacked-is {h} {p} {n} {top} w e en lw et eb ev =
      ev
      ∙ packing-sealed (head_of h (reserved_of p)) n (wanted s i p) {w = w} {top = top} (record { long = lw; start = rw (wanted-all s p i n en) et; holds = rw (wanted-all s p i n en) eb })
      ∙ ap₂ packed (head-is e) (wanted-all s p i n en)
