-- Why neither a later cut nor its file may be shorter. The history is one Update by transaction 0, which the page has not felt. The first run finds it and puts its image; the second does not, and
-- leaves the page as it is. Once because two zero bytes that completed the Update behind the same cut are gone; once because zero bytes stand where the first run's cut had it.
use Rattle.std.specs.Prelude.{ℕ, ◌≤◌, ◌≡◌, List, [], ◌∷◌, length}
use Rattle.endian.specs.Numbers.{Bytes}
use Rattle.wal.specs.Entry.{Entry}
use Rattle.rules.specs.Lent.{lent}
use Rattle.rules.specs.Recover.{recover_of}
use Rattle.rules.specs.declared.Record.{Record}
use Rattle.history.specs.History.{Step, logged}
use Rattle.history.specs.Demand3.{History, file, Stands, HasFelt, Mixed}
use Rattle.cases.specs.Build.{updates, log_of, page, area}
use Rattle.cases.specs.Starred.{a, b}

abbrev pub before : List ℕ
before = area (page 0 (a ∷ []) ∷ [])

abbrev pub made : List Entry
made = updates 1 0 0 0 a b ∷ []

abbrev pub steps : List Step
steps = logged (updates 1 0 0 0 a b) ∷ []

abbrev pub log : List ℕ
log = log_of made

-- the second half of demand 3, of pages at moments of the history whose felt changes both files have, and of cuts and zeros that keep a condition
abbrev pub RepeatsIf : (History → ℕ → ℕ → ℕ → ℕ → Type 0) → Type 0
RepeatsIf Keeps =
    (h : History) (moment : ℕ → ℕ) (magic floor : ℕ) (P : List ℕ) (c₁ z₁ c₂ z₂ : ℕ) (T₁ T₂ T₃ : List Record) → Bytes P → Bytes h.log
    → Stands h moment P → HasFelt h moment P (file h c₁ z₁) → HasFelt h moment P (file h c₂ z₂)
    → Keeps h c₁ z₁ c₂ z₂ → length T₁ ≡ length T₂ → length T₃ ≡ length T₂
    → (recover_of (lent magic floor P (file h c₂ z₂)) T₂).answer.number ≡ 0
    → (Q : List ℕ) → Mixed P (recover_of (lent magic floor P (file h c₁ z₁)) T₁).pages Q
    → ((recover_of (lent magic floor Q (file h c₂ z₂)) T₃).answer ≡ (recover_of (lent magic floor P (file h c₂ z₂)) T₂).answer)
    × ((recover_of (lent magic floor Q (file h c₂ z₂)) T₃).pages ≡ (recover_of (lent magic floor P (file h c₂ z₂)) T₂).pages)

-- the two conditions of demand 3
abbrev pub CutNoShorter : History → ℕ → ℕ → ℕ → ℕ → Type 0
CutNoShorter h c₁ z₁ c₂ z₂ = c₁ ≤ c₂

abbrev pub FileNoShorter : History → ℕ → ℕ → ℕ → ℕ → Type 0
FileNoShorter h c₁ z₁ c₂ z₂ = length (file h c₁ z₁) ≤ length (file h c₂ z₂)
