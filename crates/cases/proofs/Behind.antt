-- A log of a header, encoded entries and some bytes behind them, of which it is known how they read.
-- Assumes nothing.
use mathlib.Core.Path.{◌≡◌, refl, sym, ap, ◌∙◌}
use Prim.Native.Nat.{ℕ, ◌+◌}
use mathlib.Core.List.{List, ◌++◌}
use lib.ListN.{length}
use Rattle.endian.specs.Numbers.{bytes_of}
use Rattle.wal.specs.Entry.{Entry, AllEncodable, encoded_all, header, sizes_of}
use Rattle.wal.specs.Read.{header_fault, read_at}
use Rattle.wal.specs.Walk.{entries, end_of, ending_of}
use Rattle.wal.specs.declared.EntryView.{EntryView}
use Rattle.wal.specs.declared.Reading.{Reading}
use Rattle.wal.specs.declared.Reading.TheVariants.{Whole}
use Rattle.wal.proofs.Encoding.{entries-encoded, end-encoded}
use Rattle.refusals.specs.Verdict.{accepted}
use Rattle.rules.specs.Order.{end_verdict}
use Rattle.cases.proofs.Pages.{Says}

pub record Behind (file : List ℕ) (es : List Entry) (rest : List ℕ) (r : Reading) : Type 0 where
  pub is : file ≡ header ++ (encoded_all es ++ rest)
  pub head : header_fault (header ++ (encoded_all es ++ rest)) ≡ 0
  pub reads : read_at (header ++ (encoded_all es ++ rest)) (32 + sizes_of es) ≡ r
  pub never : (v : EntryView) → r ≡ Whole v → ⊥

header-32 : length header ≡ 32
unfolding header bytes_of
header-32 = refl

module _ {file : List ℕ} {es : List Entry} {rest : List ℕ} {r : Reading} (b : Behind file es rest r) (fs : AllEncodable es) where
  stop : (v : EntryView) → read_at (header ++ (encoded_all es ++ rest)) (32 + sizes_of es) ≡ Whole v → ⊥
  stop v q = b.never v (sym b.reads ∙ q)

  pub header_is : header_fault file ≡ 0
  header_is = ap header_fault b.is ∙ b.head

  pub entries-is : entries file ≡ es
  entries-is = ap entries b.is ∙ entries-encoded header rest header-32 es fs stop

  pub end_is : end_of file ≡ 32 + sizes_of es
  end_is = ap end_of b.is ∙ end-encoded header rest header-32 es fs stop

  pub ending-is : ending_of file ≡ r
  ending-is = ap (read_at file) end_is ∙ ap (λ (s : List ℕ). read_at s (32 + sizes_of es)) b.is ∙ b.reads

  -- where such an end is accepted
  pub says-file : ((at : ℕ) → end_verdict r at ≡ accepted) → Says file es
  says-file fine = record { head = header_is; says = entries-is; end = ap (λ (x : Reading). end_verdict x (end_of file)) ending-is ∙ fine (end_of file) }
