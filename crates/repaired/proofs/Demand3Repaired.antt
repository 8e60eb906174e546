-- Demand 3 holds of a repair and the recovery after it, for every honest history.
-- Assumes nothing.
use mathlib.Core.Path.{◌≡◌, refl, sym, ap, ◌∙◌}
use mathlib.Core.Logic.{◌⊎◌, inl, inr}
use mathlib.Core.Bool.{false}
use Prim.Native.Nat.{ℕ, ◌*◌, ◌/◌, ◌≤◌, ◌<◌}
use native.Mathlib.Omega.{arith}
use mathlib.Core.List.{List}
use lib.ListN.{length}
use Rattle.endian.specs.Numbers.{Bytes}
use Rattle.wal.specs.Walk.{entries}
use Rattle.page.specs.Layout.{page_bytes, data_type, pages_in, page_at, type_of, slot_at}
use Rattle.page.proofs.FaultLaws.{sound-good}
use Rattle.page.proofs.Verdicts.{page-length}
use Rattle.doublewrite.specs.File.{slot_count}
use Rattle.doublewrite.specs.Repair.{copy_of, is_torn, repaired_page, repaired, repair_verdict, pages_after}
use Rattle.doublewrite.proofs.Repairing.{good-whole, whole-stays, page-kept, page-cases, page-twice}
use Rattle.doublewrite.proofs.Laws.{pagewise, length-repaired, count-repaired, repair-whole, after-repair, repair-again}
use Rattle.rules.specs.Lent.{lent}
use Rattle.rules.specs.Recover.{recover_of}
use Rattle.rules.specs.declared.Answer.{Answer}
use Rattle.rules.specs.declared.Record.{Record}
use Rattle.rules.proofs.Again.{zero-accepted}
use Rattle.history.specs.History.{ledger}
use Rattle.history.specs.Demand3.{History, file, Stands, HasFelt, Mixed}
use Rattle.history.proofs.Demand3.{demand3}
use Rattle.repaired.specs.Demand3Repaired.{StandsAt, StandsRepaired, MixedRepaired, Demand3Repaired}
use Rattle.repaired.proofs.After.{repaired-bytes, length-after}

-- ---- the first half: the repaired pages stand at their moments

pub stands-repaired : (h : History) (moment : ℕ → ℕ) (magic : ℕ) (P f : List ℕ) → StandsRepaired h moment magic P f → Stands h moment (repaired magic f P)
stands-repaired h moment magic P f s =
    record {
      type = λ i l. (page i (omega (arith, count-repaired magic f P))).type;
      slots = λ i k l d. (page i (omega (arith, count-repaired magic f P))).slots d k;
    }
  where
    page : (i : ℕ) → i < pages_in P → StandsAt h (moment i) i (page_at i (repaired magic f P))
    page i l = rw (pagewise magic f P i l) (page-cases magic i (copy_of f i) (page_at i P) (StandsAt h (moment i) i) (s.own i l) (s.copy i l))

-- ---- the second half

module _ (h : History) (magic floor₁ floor : ℕ) (P f : List ℕ) (c₁ z₁ c₂ z₂ : ℕ) (T₁ T₂ : List Record) (b_p : Bytes P) (bf : Bytes f) (b_l : Bytes h.log)
    (le : c₁ ≤ c₂) (long₂ : length (file h c₁ z₁) ≤ length (file h c₂ z₂)) (t₁ : length T₁ ≡ length T₂) (whole : length P ≡ pages_in P * page_bytes)
    (ok : (recover_of (lent magic floor (repaired magic f P) (file h c₂ z₂)) T₂).answer.number ≡ 0) where
  abbrev R : List ℕ
  R = repaired magic f P

  -- what the first run left of them
  abbrev S : List ℕ
  S = (recover_of (lent magic floor₁ R (file h c₁ z₁)) T₁).pages

  bytes : Bytes R
  bytes = repaired-bytes magic f P bf b_p (slot_count f) (pages_in P) 0

  count : pages_in R ≡ pages_in P
  count = count-repaired magic f P

  long : length S ≡ length R
  long = length-after magic floor₁ R (file h c₁ z₁) T₁ (length-repaired magic f P ∙ sym (ap (λ (n : ℕ). n * page_bytes) count))

  -- the second run accepts them too: so they are not torn
  untorn : (i : ℕ) → i < pages_in P → is_torn (page_at i S) ≡ false
  untorn i l =
      let m : Mixed R S S = record { size = long; each = λ j b. inr refl } in
      let e = ((demand3 h).repeats magic floor₁ floor R c₁ z₁ c₂ z₂ T₁ T₂ T₂ bytes b_l le long₂ t₁ refl ok S m).0 in
      let a = zero-accepted magic floor S (file h c₂ z₂) T₂ (ap (λ (x : Answer). x.number) e ∙ ok) in
      let n : pages_in S ≡ pages_in P = ap (λ (m : ℕ). m / page_bytes) long ∙ count in
      let b : i < pages_in S = omega arith in
      good-whole magic i (page_at i S) (sound-good magic i (page_at i S) (page-length S i b) (a.sane i b).sound)

  -- repaired again, each page is as repaired at first or as the first run left it
  again : (Q : List ℕ) → MixedRepaired P R S Q → Mixed R S (repaired magic f Q)
  again Q m =
      let n : pages_in Q ≡ pages_in P = ap (λ (m : ℕ). m / page_bytes) m.size in
      record {
        size = length-repaired magic f Q ∙ ap (λ (m : ℕ). m * page_bytes) n ∙ sym (length-repaired magic f P);
        each = λ i l.
            let b : i < pages_in P = omega (arith, count) in
            one i b (pagewise magic f Q i (omega (arith, n))) (m.each i b);
      }
    where
      one : (i : ℕ) → i < pages_in P → page_at i (repaired magic f Q) ≡ repaired_page magic i (copy_of f i) (page_at i Q)
          → (page_at i Q ≡ page_at i P) ⊎ ((page_at i Q ≡ page_at i R) ⊎ (page_at i Q ≡ page_at i S))
          → (page_at i (repaired magic f Q) ≡ page_at i R) ⊎ (page_at i (repaired magic f Q) ≡ page_at i S)
      one i l w (inl e) = inl (w ∙ ap (repaired_page magic i (copy_of f i)) e ∙ sym (pagewise magic f P i l))
      one i l w (inr (inl e)) =
          inl (w ∙ ap (repaired_page magic i (copy_of f i)) (e ∙ pagewise magic f P i l) ∙ page-twice magic i (copy_of f i) (page_at i P) ∙ sym (pagewise magic f P i l))
      one i l w (inr (inr e)) =
          inr (w ∙ ap (repaired_page magic i (copy_of f i)) e ∙ page-kept magic i (copy_of f i) (page_at i S) (whole-stays magic i (copy_of f i) (page_at i S) (untorn i l)))

  pub repaired-repeats : (T₃ : List Record) → length T₃ ≡ length T₂ → (Q : List ℕ) → MixedRepaired P R S Q
      → ((recover_of (lent magic floor (repaired magic f Q) (file h c₂ z₂)) T₃).answer ≡ (recover_of (lent magic floor R (file h c₂ z₂)) T₂).answer)
      × ((recover_of (lent magic floor (repaired magic f Q) (file h c₂ z₂)) T₃).pages ≡ (recover_of (lent magic floor R (file h c₂ z₂)) T₂).pages)
  repaired-repeats T₃ t₃ Q m = (demand3 h).repeats magic floor₁ floor R c₁ z₁ c₂ z₂ T₁ T₂ T₃ bytes b_l le long₂ t₁ t₃ ok (repaired magic f Q) (again Q m)

-- ---- the theorem

pub demand3-repaired : (h : History) → Demand3Repaired h
demand3-repaired h =
    record {
      exact = λ magic floor moment P f c z table v s felt ok i k l d.
          let e : pages_after magic P f ≡ repaired magic f P = after-repair P f v magic in
          exact magic floor moment P f c z table s (pages_after magic P f) e felt ok i k l d;
      repeats = λ magic floor₁ floor P f c₁ z₁ c₂ z₂ T₁ T₂ T₃ b_p bf b_l le long₂ t₁ t₃ v ok Q m.
          let w : (repair_verdict Q f).number ≡ 0 = repair-again P f v Q m.size in
          let r = repeats magic floor₁ floor P f c₁ z₁ c₂ z₂ T₁ T₂ T₃ b_p bf b_l le long₂ t₁ t₃ (repair-whole P f v) (pages_after magic P f) (after-repair P f v magic) ok Q m (pages_after magic Q f) (after-repair Q f w magic) in
          (w, r.0, r.1);
    }
  where
    exact : (magic floor : ℕ) (moment : ℕ → ℕ) (P f : List ℕ) (c z : ℕ) (table : List Record) → StandsRepaired h moment magic P f
        → (R : List ℕ) → R ≡ repaired magic f P → HasFelt h moment R (file h c z)
        → (recover_of (lent magic floor R (file h c z)) table).answer.number ≡ 0
        → (i k : ℕ) → i < pages_in P → type_of (page_at i R) ≡ data_type
        → slot_at (page_at i (recover_of (lent magic floor R (file h c z)) table).pages) k ≡ ledger h.pages (entries (file h c z)) i k
    exact magic floor moment P f c z table s R e felt ok i k l d =
        let st : Stands h moment R = rw e (stands-repaired h moment magic P f s) in
        (demand3 h).exact magic floor moment R c z table st felt ok i k (omega (arith, ap pages_in e, count-repaired magic f P)) d

    repeats : (magic floor₁ floor : ℕ) (P f : List ℕ) (c₁ z₁ c₂ z₂ : ℕ) (T₁ T₂ T₃ : List Record) → Bytes P → Bytes f → Bytes h.log
        → c₁ ≤ c₂ → length (file h c₁ z₁) ≤ length (file h c₂ z₂) → length T₁ ≡ length T₂ → length T₃ ≡ length T₂
        → length P ≡ pages_in P * page_bytes → (R : List ℕ) → R ≡ repaired magic f P
        → (recover_of (lent magic floor R (file h c₂ z₂)) T₂).answer.number ≡ 0
        → (Q : List ℕ) → MixedRepaired P R (recover_of (lent magic floor₁ R (file h c₁ z₁)) T₁).pages Q
        → (W : List ℕ) → W ≡ repaired magic f Q
        → ((recover_of (lent magic floor W (file h c₂ z₂)) T₃).answer ≡ (recover_of (lent magic floor R (file h c₂ z₂)) T₂).answer)
        × ((recover_of (lent magic floor W (file h c₂ z₂)) T₃).pages ≡ (recover_of (lent magic floor R (file h c₂ z₂)) T₂).pages)
    repeats magic floor₁ floor P f c₁ z₁ c₂ z₂ T₁ T₂ T₃ b_p bf b_l le long₂ t₁ t₃ whole R e ok Q m W e_w =
        rw (e_w, e) (repaired-repeats h magic floor₁ floor P f c₁ z₁ c₂ z₂ T₁ T₂ b_p bf b_l le long₂ t₁ whole (rw e at ok) T₃ t₃ Q (rw e at m))
