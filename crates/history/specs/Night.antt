-- Any number of power failures (paper 02, W12), over files of an honest history as in demand 3, and any pages: runs in a row, each stopped anywhere or refused; page stores in any order; and
-- what a later table says of a transaction that an earlier one calls committed.
use Rattle.std.specs.Prelude.{ℕ, ◌*◌, ◌≤◌, ◌<◌, ◌≡◌, ◌⊎◌, List, [], ◌∷◌, length, get_or}
use Rattle.std.proofs.Math.Seq.{paste}
use Rattle.endian.specs.Numbers.{Bytes}
use Rattle.wal.specs.Entry.{Entry}
use Rattle.wal.specs.Walk.{entries}
use Rattle.page.specs.Layout.{page_bytes, pages_in, page_at}
use Rattle.rules.specs.Lent.{lent}
use Rattle.rules.specs.Mend.{top_of, mend}
use Rattle.rules.specs.Recover.{Recovered, records_of, recover_of}
use Rattle.rules.specs.declared.Record.{Record}
use Rattle.history.specs.Demand3.{History, file, Mixed}

-- ---- runs

-- a run: its floor, its cut, the zero bytes behind it, and the table that it is lent
pub record Run : Type 0 where
  pub floor : ℕ
  pub cut : ℕ
  pub zeros : ℕ
  pub table : List Record

abbrev pub file_for : History → Run → List ℕ
file_for h r = file h r.cut r.zeros

-- the run on pages P
abbrev pub ran : History → ℕ → Run → List ℕ → Recovered
ran h magic r P = recover_of (lent magic r.floor P (file_for h r)) r.table

-- s may come after r: one floor, as many records, and neither the cut nor its file with the zeros is shorter
pub record NoShorter (h : History) (r s : Run) : Type 0 where
  pub floors : r.floor ≡ s.floor
  pub records : length r.table ≡ length s.table
  pub cuts : r.cut ≤ s.cut
  pub files : length (file_for h r) ≤ length (file_for h s)

-- each of some runs may come after the one before it, and the last run after all of them
abbrev pub Rising : History → List Run → Run → Type 0
Rising h [] last = Unit {0}
Rising h (r ∷ []) last = NoShorter h r last
Rising h (r ∷ s ∷ rs) last = NoShorter h r s × Rising h (s ∷ rs) last

-- the runs leave Q of the pages P: each is lent what the one before it left, and is stopped anywhere or refused
pub data Leaves (h : History) (magic : ℕ) : List Run → List ℕ → List ℕ → Type 0 where
  none : {P : List ℕ} → Leaves h magic [] P P
  then : {r : Run} {rs : List Run} {P R Q : List ℕ} → Mixed P (ran h magic r P).pages R → Leaves h magic rs R Q → Leaves h magic (r ∷ rs) P Q

-- ---- page stores

-- page i is mended in its place
unfoldable pub store : List Entry → ℕ → List ℕ → List ℕ
store es i Q = paste Q (i * page_bytes) (mend es i (page_at i Q)) page_bytes

-- the pages of a list, one after the other
abbrev pub stored : List Entry → List ℕ → List ℕ → List ℕ
stored es [] Q = Q
stored es (i ∷ is) Q = stored es is (store es i Q)

abbrev pub AllBelow : ℕ → List ℕ → Type 0
AllBelow n [] = Unit {0}
AllBelow n (i ∷ is) = (i < n) × AllBelow n is

abbrev pub Has : ℕ → List ℕ → Type 0
Has k [] = ⊥
Has k (i ∷ is) = (i ≡ k) ⊎ Has k is

-- ---- the theorem

pub record Night (h : History) : Type 0 where
  -- Where the last run is accepted on the first pages, it is accepted on what the runs before it left, with the same answer, so the same offset and ending, and the same bytes. Its table then
  -- may hold anything in as many records. The buffers are bytes.
  pub repeats : (magic : ℕ) (runs : List Run) (last : Run) (P Q : List ℕ) (T : List Record) → Bytes P → Bytes h.log → Rising h runs last → length T ≡ length last.table
      → (ran h magic last P).answer.number ≡ 0
      → Leaves h magic runs P Q
      → ((recover_of (lent magic last.floor Q (file_for h last)) T).answer ≡ (ran h magic last P).answer)
      × ((recover_of (lent magic last.floor Q (file_for h last)) T).pages ≡ (ran h magic last P).pages)
  -- The pages may be mended in any order: where a list of lent pages has each touched one, once or more often, storing them one after the other leaves what the accepted run leaves.
  pub any_order : (magic : ℕ) (r : Run) (P : List ℕ) → Bytes P → Bytes h.log → (ran h magic r P).answer.number ≡ 0
      → (is : List ℕ) → AllBelow (pages_in P) is → ((i : ℕ) → i < pages_in P → 0 < top_of i (entries (file_for h r)) → Has i is)
      → stored (entries (file_for h r)) is P ≡ (ran h magic r P).pages
  -- A stop between any two of such stores leaves what a power failure leaves.
  pub any_stop : (magic : ℕ) (r : Run) (P : List ℕ) → Bytes P → Bytes h.log → (ran h magic r P).answer.number ≡ 0
      → (is : List ℕ) → AllBelow (pages_in P) is → Mixed P (ran h magic r P).pages (stored (entries (file_for h r)) is P)
  -- Of two accepted runs, on whatever pages, of which the later is no shorter: a record of the earlier that says committed, at index j of
  -- its table, stands at the same index of the later's table, the same in every number.
  pub kept : (magic : ℕ) (r s : Run) (P R : List ℕ) → NoShorter h r s → (ran h magic r P).answer.number ≡ 0 → (ran h magic s R).answer.number ≡ 0
      → (d : Record) (j : ℕ) → j < length (records_of (entries (file_for h r)) (entries (file_for h r))) → (get_or (ran h magic r P).table j d).outcome ≡ 1
      → get_or (ran h magic s R).table j d ≡ get_or (ran h magic r P).table j d
