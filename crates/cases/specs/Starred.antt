-- The starred cases of paper 01: one table of inputs and what is expected, and one statement.
use Rattle.std.specs.Prelude.{ℕ, ◌≡◌, List, [], ◌∷◌, ◌++◌, take, replicate}
use Rattle.endian.specs.Numbers.{bytes_of}
use Rattle.wal.specs.Entry.{encoded, header}
use Rattle.page.specs.Layout.{page_at, body_of, slot_at, slot_off, free_start_of, free_end_of, xmax_of, deleted_of}
use Rattle.rules.specs.Recover.{Recovered, recover_of}
use Rattle.rules.specs.declared.Record.{Record}
use Rattle.cases.specs.Build.{begins, commits, rolls_back, inserts, deletes, updates, log_of, magic, page, area, tuple}
use Rattle.rules.specs.Lent.{lent}

-- what is lent: the floor, the pages and the log; the table has eight records
pub record Input : Type 0 where
  pub floor : ℕ
  pub pages : List ℕ
  pub log : List ℕ

abbrev pub no_record : Record
no_record = record { number = record { 0 = 0 }; first = record { 0 = 0 }; outcome = 0; changes = 0; ending = record { 0 = 0 }; last = record { 0 = 0 } }

abbrev pub run : Input → Recovered
run x = recover_of (lent magic x.floor x.pages x.log) (replicate 8 no_record)

-- what is expected of page 0 and of the answer
pub data Expected : Type 0 where
  -- number and place
  answers : ℕ → ℕ → Expected
  -- number 0, and the tail offset
  tail : ℕ → Expected
  -- number 0, and what slot k then holds
  holds : ℕ → List ℕ → Expected
  -- number 0, and the row in slot k is deleted by a transaction
  deleted : ℕ → ℕ → Expected
  -- number 0, and the offsets of slots 0 and 1, free start and free end
  placed : ℕ → ℕ → ℕ → ℕ → Expected

abbrev pub Meets : Recovered → Expected → Type 0
Meets r (answers n p) = (r.answer.number ≡ n) × (r.answer.place ≡ p)
Meets r (tail p) = (r.answer.number ≡ 0) × (r.answer.tail ≡ p)
Meets r (holds k t) = (r.answer.number ≡ 0) × (slot_at (page_at 0 r.pages) k ≡ t)
Meets r (deleted k x) = (r.answer.number ≡ 0) × (xmax_of (slot_at (page_at 0 r.pages) k) ≡ x) × (deleted_of (slot_at (page_at 0 r.pages) k) ≡ 1)
Meets r (placed a b s e) =
    (r.answer.number ≡ 0) × (slot_off (body_of (page_at 0 r.pages)) 0 ≡ a) × (slot_off (body_of (page_at 0 r.pages)) 1 ≡ b)
    × (free_start_of (page_at 0 r.pages) ≡ s) × (free_end_of (page_at 0 r.pages) ≡ e)

pub record Case : Type 0 where
  pub input : Input
  pub expected : Expected

abbrev pub input : ℕ → List ℕ → List ℕ → Input
input floor pages log = record { floor = floor; pages = pages; log = log }

abbrev pub case : Input → Expected → Case
case x e = record { input = x; expected = e }

-- three tuples that differ
abbrev pub a : List ℕ
a = tuple 29 1

abbrev pub b : List ℕ
b = tuple 29 2

abbrev pub c : List ℕ
c = tuple 29 3

-- page 0, empty, and with the tuple a in slot 0
abbrev pub empty : List ℕ
empty = area (page 0 [] ∷ [])

abbrev pub one : List ℕ
one = area (page 0 (a ∷ []) ∷ [])

abbrev pub starred : List Case
starred =
    -- header only, no pages: 0, tail offset 32. 31 bytes: 3
    case (input 0 [] header) (tail 32)
    ∷ case (input 0 [] (take 31 header)) (answers 3 0)
    -- header and 42 bytes of a Begin: 0, tail 32. Length 42: 4 at 32
    ∷ case (input 0 [] (header ++ take 42 (encoded (begins 1 7)))) (tail 32)
    ∷ case (input 0 [] (header ++ (bytes_of 4 42 ++ replicate 38 0))) (answers 4 32)
    -- Begin 7, Insert, no Commit: slot empty. With Commit: the row
    ∷ case (input 0 empty (log_of (begins 1 7 ∷ inserts 2 7 0 0 a ∷ []))) (holds 0 [])
    ∷ case (input 0 empty (log_of (begins 1 7 ∷ inserts 2 7 0 0 a ∷ commits 3 7 ∷ []))) (holds 0 a)
    -- 7 updates and commits, 8 updates and is unended: 7's image
    ∷ case (input 0 one (log_of (begins 1 7 ∷ updates 2 7 0 0 a b ∷ commits 3 7 ∷ begins 4 8 ∷ updates 5 8 0 0 b c ∷ []))) (holds 0 b)
    -- 8 updates and rolls back, 9 deletes and commits: xmax 9, deleted 1
    ∷ case (input 0 one (log_of (begins 1 8 ∷ updates 2 8 0 0 a b ∷ rolls_back 3 8 ∷ begins 4 9 ∷ deletes 5 9 0 0 a ∷ commits 6 9 ∷ []))) (deleted 0 9)
    -- tuples of 30 and 40 bytes in slots 0 and 1: offsets 16,290 and 16,250, free start 8, free end 16,250
    ∷ case (input 0 empty (log_of (inserts 1 0 0 0 (tuple 29 1) ∷ inserts 2 0 0 1 (tuple 39 1) ∷ []))) (placed 16290 16250 8 16250)
    -- 16,316 bytes into slot 0 of an empty page fits; 16,313 into slot 1: 14
    ∷ case (input 0 empty (log_of (inserts 1 0 0 0 (tuple 16315 1) ∷ []))) (holds 0 (tuple 16315 1))
    ∷ case (input 0 empty (log_of (inserts 1 0 0 1 (tuple 16312 1) ∷ []))) (answers 14 0)
    -- Insert by transaction 0: stays. Begin 0: 8
    ∷ case (input 0 empty (log_of (inserts 1 0 0 0 a ∷ []))) (holds 0 a)
    ∷ case (input 0 empty (log_of (begins 1 0 ∷ []))) (answers 8 32)
    -- page LSN 9, last LSN 8, floor 8: 12. Floor 9: 0
    ∷ case (input 8 (area (page 9 [] ∷ [])) (log_of (begins 8 7 ∷ []))) (answers 12 0)
    ∷ case (input 9 (area (page 9 [] ∷ [])) (log_of (begins 8 7 ∷ []))) (answers 0 0)
    ∷ []

abbrev pub Each : List Case → Type 0
Each [] = Unit {0}
Each (x ∷ xs) = Meets (run x.input) x.expected × Each xs

-- the statement
abbrev pub Starred : Type 0
Starred = Each starred
