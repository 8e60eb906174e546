-- The night holds of every honest history: by induction from demand 3's two runs. Assumes nothing.
use Prim.Native.Nat.{ℕ, ◌≤◌}
use mathlib.Core.Path.{◌≡◌, refl, ap, ◌∙◌}
use mathlib.Core.Logic.{inl}
use mathlib.Core.List.{List, [], ◌∷◌}
use native.Mathlib.Omega.{arith}
use lib.ListN.{length}
use Rattle.endian.specs.Numbers.{Bytes}
use Rattle.wal.proofs.Files.{two-cuts}
use Rattle.page.proofs.Verdicts.{right-size}
use Rattle.rules.specs.Lent.{lent}
use Rattle.rules.specs.Order.{full_at}
use Rattle.rules.specs.Recover.{recover_of}
use Rattle.rules.specs.declared.Answer.{Answer}
use Rattle.rules.specs.declared.Record.{Record}
use Rattle.rules.proofs.Verdicts.{log-undamaged}
use Rattle.rules.proofs.Again.{zero-accepted}
use Rattle.history.specs.Demand3.{History}
use Rattle.history.specs.Night.{Run, file_for, ran, NoShorter, Rising, Leaves, none, then, Night}
use Rattle.history.proofs.Demand3.{bytes-file, demand3}
use Rattle.history.proofs.Left.{bytes_left}
use Rattle.history.proofs.Stores.{any_order_lem, any-stop}
use Rattle.history.proofs.Records.{never-otherwise}

-- ---- all that is needed of the runs: none is longer than the last, whatever their floors and their order

pub record Within (h : History) (r last : Run) : Type 0 where
  pub records : length r.table ≡ length last.table
  pub cuts : r.cut ≤ last.cut
  pub files : length (file_for h r) ≤ length (file_for h last)

abbrev pub AllWithin : History → List Run → Run → Type 0
AllWithin h [] last = Unit {0}
AllWithin h (r ∷ rs) last = Within h r last × AllWithin h rs last

-- runs that never get shorter are within the last
within : {h : History} {r s : Run} → NoShorter h r s → Within h r s
within a = record { records = a.records; cuts = a.cuts; files = a.files }

onward : {h : History} {r s t : Run} → NoShorter h r s → Within h s t → Within h r t
onward a b = record { records = a.records ∙ b.records; cuts = omega (arith, a.cuts, b.cuts); files = omega (arith, a.files, b.files) }

all-within : (h : History) (rs : List Run) (last : Run) → Rising h rs last → AllWithin h rs last
all-within h [] last a = tt
all-within h (r ∷ []) last a = (within a, tt)
all-within h (r ∷ s ∷ rs) last a = let m = all-within h (s ∷ rs) last a.1 in (onward a.0 m.0, m)

-- ---- the chain

module _ (h : History) (magic : ℕ) (log : Bytes h.log) (last : Run) (T : List Record) (t : length T ≡ length last.table) where
  abbrev EndsAs : List ℕ → List ℕ → Type 0
  EndsAs P Q =
      ((recover_of (lent magic last.floor Q (file_for h last)) T).answer ≡ (ran h magic last P).answer)
      × ((recover_of (lent magic last.floor Q (file_for h last)) T).pages ≡ (ran h magic last P).pages)

  pub night-from : {rs : List Run} {P Q : List ℕ} → Leaves h magic rs P Q → AllWithin h rs last → Bytes P → (ran h magic last P).answer.number ≡ 0 → EndsAs P Q
  night-from (none {P = P}) w b ok =
      (demand3 h).repeats magic last.floor last.floor P last.cut last.zeros last.cut last.zeros last.table last.table T b log (omega arith) (omega arith) refl t ok P
      (record { size = refl; each = λ i l. inl refl })
  night-from (then {r = r} {P = P} {R = R} m more) w b ok =
      let n = w.0 in
      let a = (demand3 h).repeats magic r.floor last.floor P r.cut r.zeros last.cut last.zeros r.table last.table last.table b log n.cuts n.files n.records refl ok R m in
      let whole = (right-size P (zero-accepted magic last.floor P (file_for h last) last.table ok).size).0 in
      let x = night-from more w.1 (bytes_left magic r.floor P (file_for h r) r.table b (bytes-file r.cut r.zeros log) whole R m) (ap (λ (y : Answer). y.number) a.0 ∙ ok) in
      (x.0 ∙ a.0, x.1 ∙ a.1)

-- ---- the theorem

pub night : (h : History) → Night h
night h =
    record {
      repeats = λ magic runs last P Q T bytes log rising t ok left. night-from h magic log last T t left (all-within h runs last rising) bytes ok;
      any_order = λ magic r P bytes log ok is below all. any_order_lem magic r.floor P (file_for h r) r.table bytes (bytes-file r.cut r.zeros log) ok is below all;
      any_stop = λ magic r P bytes log ok is below. any-stop magic r.floor P (file_for h r) r.table bytes (bytes-file r.cut r.zeros log) ok is below;
      kept = λ magic r s P R n ok₁ ok₂ d j l says.
          let fine = log-undamaged (full_at (length s.table)) (file_for h s) (zero-accepted magic s.floor R (file_for h s) s.table ok₂).log_ok in
          never-otherwise magic r.floor magic s.floor P R (file_for h r) (file_for h s) r.table s.table
          (two-cuts h.log r.cut r.zeros s.cut s.zeros n.cuts n.files fine) ok₁ ok₂ d j l (λ z. omega arith);
    }
