-- Internal: where the tuple that an image is stands.
use Rattle.std.specs.Prelude.{ℕ, ◌+◌, ◌≤◌, ◌≡◌, List, length, Option, None, Some}
use Rattle.endian.specs.Numbers.{part}
use Rattle.endian.specs.declared.TxnNumber.{TxnNumber}
use Rattle.page.specs.Layout.{body_bytes, row_head}
use Rattle.rules.specs.Shape.{stamped}
use Rattle.change.specs.declared.Image.{Image}
use Rattle.change.specs.declared.Source.{Source}
use Rattle.change.specs.declared.Source.TheVariants.{Log, Page}

-- a source is a log s, or else a page p
abbrev pub source_in : List ℕ → List ℕ → Source → List ℕ
source_in s p Log = s
source_in s p Page = p

-- a tuple, deleted where a transaction is named that did
abbrev pub stamped_by : Option TxnNumber → List ℕ → List ℕ
stamped_by None t = t
stamped_by (Some x) t = stamped x.0 t

-- the bytes that an image names in its source, stamped where they are to be
abbrev pub tuple_at : List ℕ → Image → List ℕ
tuple_at source m = stamped_by m.deleted_by (part m.place m.length source)

-- its source is a log s, or else a page p
unfoldable pub tuple_in : List ℕ → List ℕ → Image → List ℕ
tuple_in s p m = tuple_at (source_in s p m.source) m

-- the image lies in the log or in the page; what is stamped has a row header
pub record Lies (s p : List ℕ) (m : Image) : Type 0 where
  pub within : m.place + m.length ≤ length (source_in s p m.source)
  pub short : m.length ≤ body_bytes
  pub headed : (x : TxnNumber) → m.deleted_by ≡ Some x → (m.source ≡ Log) × (row_head ≤ m.length)

-- the image m, in s or p, stands for the tuple t
pub record Stood (s p : List ℕ) (m : Image) (t : List ℕ) : Type 0 where
  pub is : tuple_in s p m ≡ t
  pub lies : Lies s p m
  pub long : m.length ≡ length t

-- n bytes of the log from place a on; and the same, deleted by transaction x
abbrev pub logged : ℕ → ℕ → Image
logged a n = record { source = Log; place = a; length = n; deleted_by = None }

abbrev pub deleted : ℕ → ℕ → TxnNumber → Image
deleted a n x = record { source = Log; place = a; length = n; deleted_by = Some x }

-- the image m stands for the tuple t by the log alone
pub record InLog (s : List ℕ) (m : Image) (t : List ℕ) : Type 0 where
  pub stood : (p : List ℕ) → Stood s p m t

-- the image m stands at place p of the log
pub record LoggedAt (m : Image) (p : ℕ) : Type 0 where
  pub logged : m.source ≡ Log
  pub at : m.place ≡ p
