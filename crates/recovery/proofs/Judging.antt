-- What judging tells, refusal by refusal, and what an accepted log and accepted pages are. Assumes nothing.
use Rattle.std.specs.Prelude.{◌≡◌, ℕ, ◌*◌, ◌<◌, ◌≤◌, Bool, false, List, [], ◌∷◌, ◌++◌, length, Result, IsErrAnd}
use mathlib.Core.Path.{refl, sym, ap, ◌∙◌}
use native.Mathlib.Omega.{arith}
use borrow.Author.Tests.{eq-eqb}
use Rattle.wal.specs.Entry.{Entry}
use Rattle.wal.specs.Read.{first}
use Rattle.wal.specs.Walk.{entries, end_of}
use Rattle.wal.proofs.Prefix.{met-end, before-end}
use Rattle.page.specs.Layout.{page_bytes, data_type, pages_in, page_at, type_of}
use Rattle.refusals.specs.Verdict.{accepted, told_by}
use Rattle.refusals.specs.declared.Verdict.{Verdict}
use Rattle.page.specs.Fault.{size_wrong}
use Rattle.refusals.specs.declared.Refused.{Refused}
use Rattle.refusals.proofs.Told.{refused-some}
use Rattle.std.proofs.lemmas.Result.{err_from_is_err_and}
use Rattle.page.proofs.FaultLaws.{sound-good}
use Rattle.page.proofs.Verdicts.{page-length, right-size}
use Rattle.rules.specs.Order.{last_lsn, log_verdict, never_full}
use Rattle.rules.specs.Recover.{pages_from, stray_from, tight_from, recover_verdict}
use Rattle.rules.proofs.OrderLaws.{InTurn, in-turn}
use Rattle.rules.proofs.Verdicts.{Sane, pages-sane, lent-all, stray-none}
use Rattle.fates.specs.Fate.{Ordered}
use Rattle.cells.specs.Measure.{Sound as Rises}
use Rattle.cells.proofs.Soundness.{Rising, sound-of}
use Rattle.images.specs.Page.{Sound, Touched}
use Rattle.cells.specs.declared.Scratch.{Scratch}
use Rattle.recovery.specs.Judgement.{Judgement}
use Rattle.recovery.specs.declared.Judged.{Judged}
use Rattle.recovery.proofs.JudgeLaws.{header_ok, ordered-ok, judge-log, judge-pages, judge-stray, judge-tight}
use Rattle.checks.specs.declared.Found.{Found}
use Rattle.checks.specs.Judged.{Measured}
use Rattle.checks.proofs.LogLaws.{header-fits}
use Rattle.rules.specs.Lent.{lent}

-- ---- what an accepted log is

rising : (full : ℕ → Bool) (es fs : List Entry) → InTurn full es fs → Rising es fs
rising full es [] h = tt
rising full es (f ∷ fs) h = ((h.0.shaped, h.0.rises), rising full (es ++ (f ∷ [])) fs h.1)

pub rises-ok : (log : List ℕ) → Ordered log → Rises log (end_of log)
rises-ok log o = sound-of (met-end log) (rw (before-end log) (rising never_full [] (entries log) (in-turn never_full [] (entries log) first o)))

-- ---- what accepted pages are

pub size_is : (pages : List ℕ) → size_wrong pages ≡ false → (length pages ≡ pages_in pages * page_bytes) × (pages_in pages ≤ 4096)
size_is pages h = let r = right-size pages h in (omega (arith, r.0), r.1)

-- a page that has no fault, and of type 1
pub sane-sound : {magic floor last : ℕ} {pages : List ℕ} {i : ℕ} → Sane magic floor last pages i → i < pages_in pages → type_of (page_at i pages) ≡ data_type → Sound (page_at i pages)
sane-sound {magic} {floor} {last} {pages} {i} s l d =
    let y = page-length pages i l in
    record { size = y; good = (sound-good magic i (page_at i pages) y s.sound).data_good d }

-- each touched page is lent, good and a Data page
pub touched-ok : (magic floor last : ℕ) (pages log : List ℕ) (n : ℕ) → n ≡ pages_in pages → (pages_from magic floor last pages (pages_in pages) 0).number ≡ 0
    → (stray_from pages (entries log) first).number ≡ 0 → Touched log pages 0 n
touched-ok magic floor last pages log n e p s =
    record {
      at = λ i a b t.
          let l = lent-all pages i (entries log) (stray-none pages (entries log) first s) t in
          sane-sound (pages-sane magic floor last pages (pages_in pages) 0 p i (omega arith) (omega (arith, l.within))) l.within l.is_data;
    }

-- ---- the verdict, told

-- refused, nothing is known
pub judged-refused : {full : ℕ → Bool} {magic floor : ℕ} {pages log : List ℕ} {c : Scratch} (r : Result Judged Refused) (e : Refused) → IsErrAnd r (λ d. d ≡ e) → told_by e ≡ recover_verdict full (lent magic floor pages log)
    → Judgement full magic floor pages log c r
judged-refused r e h b = let p = err_from_is_err_and r h in rw (p.1, p.2) (record { tells = b; accepted = tt })

-- behind the refusals of the size and of the log
module _ (full : ℕ → Bool) (magic floor : ℕ) (pages log : List ℕ) (size : size_wrong pages ≡ false) where
  pub err-log : (e : Refused) → told_by e ≡ log_verdict full log → told_by e ≡ recover_verdict full (lent magic floor pages log)
  err-log e h = judge-log full magic floor pages log size (told_by e) h (refused-some e)

  module _ (lt : accepted ≡ log_verdict full log) {n : ℕ} {starts lasts lists : List ℕ} {f : Found} (m : Measured log n starts lasts lists f) where
    log-zero : (log_verdict full log).number ≡ 0
    log-zero = sym (ap (λ (v : Verdict). v.number) lt)

    pub now-ordered : Ordered log
    now-ordered = ordered-ok full log log-zero

    pub now-small : length log ≤ 16777216
    now-small = header-fits log (header_ok full log log-zero)

    pub err-pages : (e : Refused) → told_by e ≡ pages_from magic floor f.walked.last.0 pages (pages_in pages) 0 → told_by e ≡ recover_verdict full (lent magic floor pages log)
    err-pages e h = judge-pages full magic floor pages log size log-zero (told_by e) (rw m.last at h) (refused-some e)

    module _ (pt : accepted ≡ pages_from magic floor f.walked.last.0 pages (pages_in pages) 0) where
      pages-zero : (pages_from magic floor (last_lsn (entries log)) pages (pages_in pages) 0).number ≡ 0
      pages-zero = sym (ap (λ (v : Verdict). v.number) (rw m.last at pt))

      pub err-stray : (e : Refused) → told_by e ≡ stray_from pages (entries log) first → told_by e ≡ recover_verdict full (lent magic floor pages log)
      err-stray e h = judge-stray full magic floor pages log size log-zero pages-zero (told_by e) h (refused-some e)

      module _ (st : accepted ≡ stray_from pages (entries log) first) where
        stray-zero : (stray_from pages (entries log) first).number ≡ 0
        stray-zero = sym (ap (λ (v : Verdict). v.number) st)

        pub now-touched : Touched log pages 0 (pages_in pages)
        now-touched = touched-ok magic floor (last_lsn (entries log)) pages log (pages_in pages) refl pages-zero stray-zero

        pub by-tight : (v : Verdict) → v ≡ tight_from (entries log) pages (pages_in pages) 0 → v ≡ recover_verdict full (lent magic floor pages log)
        by-tight v h = judge-tight full magic floor pages log size log-zero pages-zero stray-zero v h
