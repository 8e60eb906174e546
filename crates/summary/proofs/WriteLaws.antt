-- What writing answers, case by case.
-- Assumes nothing.
use mathlib.Core.Path.{◌≡◌, sym, ◌∙◌}
use mathlib.Core.Bool.{true, false}
use Prim.Native.Nat.{ℕ, ◌≤◌, ◌<◌}
use native.Mathlib.Omega.{arith}
use mathlib.Core.List.{List}
use lib.ListN.{length}
use lib.Dec.{ltb}
use borrow.Author.Tests.{lt-ltb, le-ltb, eq-eqb, ne_eqb}
use Rattle.std.specs.Prelude.{Ok, Err}
use Rattle.endian.specs.Pick.{pick}
use Rattle.refusals.specs.Verdict.{verdict, accepted, ◌then◌}
use Rattle.refusals.specs.declared.Verdict.{Verdict}
use Rattle.refusals.proofs.Then.{then-refused}
use Rattle.page.specs.Fault.{verdict_of}
use Rattle.summary.specs.Summary.{summary_file, write_verdict, summary_written, summary_after}
use Rattle.summary.specs.Inner.{put}
use Rattle.summary.proofs.RowBytes.{put_front}

module _ (magic : ℕ) (s : List ℕ) (lsn : ℕ) (area : List ℕ) where
  pub write-refused : (v : Verdict) → v ≡ verdict_of magic s → (v.number ≡ 0 → ⊥) → (Err v ≡ summary_written magic s lsn area) × (area ≡ summary_after magic s lsn area)
  unfolding summary_after write_verdict
  write-refused v is h =
      let t : (verdict_of magic s then pick (ltb (length area) (length (summary_file s lsn))) (verdict 27 0) accepted) ≡ v = rw (← is) (then-refused v _ h) in
      (sym (rw (t, ne_eqb v.number 0 h)), sym (rw (t, ne_eqb v.number 0 h)))

  module _ (z : (verdict_of magic s).number ≡ 0) (need : ℕ) (long : need ≡ length (summary_file s lsn)) where
    pub write-short : length area < need → (Err (verdict 27 0) ≡ summary_written magic s lsn area) × (area ≡ summary_after magic s lsn area)
    unfolding summary_after write_verdict
    write-short l =
        let m : ltb (length area) (length (summary_file s lsn)) ≡ true = lt-ltb (length area) (length (summary_file s lsn)) (omega arith) in
        (sym (rw (eq-eqb (verdict_of magic s).number 0 z, m)), sym (rw (eq-eqb (verdict_of magic s).number 0 z, m)))

    pub write_done : need ≤ length area → (new : List ℕ) → new ≡ put area 0 (summary_file s lsn) → (Ok need ≡ summary_written magic s lsn area) × (new ≡ summary_after magic s lsn area)
    unfolding summary_after write_verdict
    write_done l new e =
        let m : ltb (length area) (length (summary_file s lsn)) ≡ false = le-ltb (length area) (length (summary_file s lsn)) (omega arith) in
        (rw long (sym (rw (eq-eqb (verdict_of magic s).number 0 z, m))), e ∙ put_front area (summary_file s lsn) ∙ sym (rw (eq-eqb (verdict_of magic s).number 0 z, m)))
