-- What the theorem needs of the repaired pages and of the pages that a recovery leaves.
-- Assumes nothing.
use mathlib.Core.Path.{◌≡◌, refl, sym, ap, ◌∙◌}
use mathlib.Core.Bool.{Bool, true, false}
use Prim.Native.Nat.{ℕ, zero, suc, ◌+◌, ◌*◌}
use native.Mathlib.Omega.{arith}
use mathlib.Core.List.{List}
use lib.ListN.{length}
use lib.Dec.{eqb}
use borrow.Author.Tests.{eqb-true}
use Rattle.endian.specs.Pick.{pick}
use Rattle.endian.specs.Numbers.{Bytes}
use Rattle.endian.proofs.Bytes.{bytes-nil, bytes-append, bytes_take, bytes_drop}
use Rattle.wal.specs.Entry.{Entry}
use Rattle.wal.specs.Walk.{entries}
use Rattle.page.specs.Layout.{page_bytes, pages_in, page_at}
use Rattle.page.proofs.Verdicts.{page-length}
use Rattle.doublewrite.specs.File.{slot_place, id_at, copy_at}
use Rattle.doublewrite.specs.Repair.{copy_in, repaired_by}
use Rattle.doublewrite.proofs.Repairing.{page-cases}
use Rattle.rules.specs.Lent.{lent}
use Rattle.rules.specs.Order.{full_at}
use Rattle.rules.specs.Mend.{committed, mend}
use Rattle.rules.specs.Recover.{recover_verdict, mended_from, Recovered, recover_of}
use Rattle.rules.specs.declared.Record.{Record}
use Rattle.rules.proofs.Mended.{length-mended}
use Rattle.rules.proofs.Area as area
use Rattle.rules.proofs.Verdicts.{Accepted, is-accepted}
use Rattle.rules.proofs.Again.{recover-done, recover-refused}

-- ---- the repair

-- pages and file are bytes, and so are the repaired pages
copy-bytes : (f : List ℕ) → Bytes f → (i k : ℕ) → Bytes (copy_in f i k)
unfolding copy_in
copy-bytes f b i zero = bytes-nil
copy-bytes f b i (suc k) = go (eqb (id_at f k) i) (copy-bytes f b i k)
  where
    go : (t : Bool) → Bytes (copy_in f i k) → Bytes (pick t (copy_at f k) (copy_in f i k))
    go true c = bytes_take page_bytes (bytes_drop (slot_place k + 8) b)
    go false c = c

pub repaired-bytes : (magic : ℕ) (f s : List ℕ) → Bytes f → Bytes s → (k n i : ℕ) → Bytes (repaired_by magic f k s n i)
unfolding repaired_by
repaired-bytes magic f s bf bs k zero i = bytes-nil
repaired-bytes magic f s bf bs k (suc n) i =
    bytes-append (page-cases magic i (copy_in f i k) (page_at i s) Bytes (λ _. bytes_take page_bytes (bytes_drop (i * page_bytes) bs)) (λ _. copy-bytes f bf i k)) (repaired-bytes magic f s bf bs k n (suc i))

-- ---- the recovery

mended-long : {full : ℕ → Bool} {magic floor : ℕ} (P log : List ℕ) → Accepted full magic floor P log → length (mended_from (entries log) P (pages_in P) 0) ≡ pages_in P * page_bytes
unfolding mend
mended-long P log a =
    let E : List Entry = entries log in
    area.length-mended E P (pages_in P) 0 (λ k x y. length-mended (committed E) E k (page_at k P) (page-length P k (omega arith)) (a.roomy k (omega arith)))

-- it leaves as many bytes as it was lent
pub length-after : (magic floor : ℕ) (P log : List ℕ) (T : List Record) → length P ≡ pages_in P * page_bytes → length (recover_of (lent magic floor P log) T).pages ≡ length P
length-after magic floor P log T whole = go (eqb (recover_verdict (full_at (length T)) (lent magic floor P log)).number 0) refl
  where
    go : (b : Bool) → eqb (recover_verdict (full_at (length T)) (lent magic floor P log)).number 0 ≡ b → length (recover_of (lent magic floor P log) T).pages ≡ length P
    go true e =
        let v : (recover_verdict (full_at (length T)) (lent magic floor P log)).number ≡ 0 = eqb-true _ _ e in
        let a : Accepted (full_at (length T)) magic floor P log = is-accepted (full_at (length T)) magic floor P log v in
        ap length (recover-done magic floor P log T v).1 ∙ mended-long P log a ∙ sym whole
    go false e = ap length (ap (λ (r : Recovered). r.pages) (recover-refused magic floor P log T e))
