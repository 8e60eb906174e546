-- Demand 3 holds of every honest history.
-- Assumes nothing.
use mathlib.Core.List.{List}
use Prim.Native.Nat.{ℕ}
use lib.ListN.{length}
use Rattle.endian.specs.Numbers.{Bytes}
use Rattle.endian.proofs.Bytes.{bytes_take, bytes-append, bytes-zeros}
use Rattle.wal.specs.Walk.{file_of}
use Rattle.wal.proofs.Files.{two-cuts}
use Rattle.rules.specs.Order.{full_at}
use Rattle.rules.proofs.Verdicts.{log-undamaged}
use Rattle.rules.proofs.Again.{zero-accepted, again}
use Rattle.history.specs.Demand3.{History, Demand3}
use Rattle.history.proofs.Exact.{exact}

pub bytes-file : {L : List ℕ} (c z : ℕ) → Bytes L → Bytes (file_of L c z)
bytes-file c z b = bytes-append (bytes_take c b) (bytes-zeros z)

pub demand3 : (h : History) → Demand3 h
demand3 h =
    record {
      exact = λ magic floor moment P c z table stands felt ok i k l d. exact h magic floor moment P c z table stands felt ok i k l d;
      repeats = λ magic floor₁ floor P c₁ z₁ c₂ z₂ T₁ T₂ T₃ bytes log le long t₁ t₃ ok Q mixed.
          let fine = log-undamaged (full_at (length T₂)) (file_of h.log c₂ z₂) (zero-accepted magic floor P (file_of h.log c₂ z₂) T₂ ok).log_ok in
          again magic floor₁ floor P (file_of h.log c₁ z₁) (file_of h.log c₂ z₂) bytes (bytes-file c₁ z₁ log) (bytes-file c₂ z₂ log) (two-cuts h.log c₁ z₁ c₂ z₂ le long fine)
          T₁ T₂ T₃ t₁ t₃ ok Q mixed.size mixed.each;
    }
