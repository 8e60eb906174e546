-- The body that is filled, under its header, is the page repacked.
use Rattle.std.proofs.Common.{◌≡◌, ℕ, length, ap, ◌∙◌}
use Rattle.std.proofs.lemmas.List.{length-replicate}
use Rattle.mend.proofs.Heads.{repacked-is}
use Rattle.mend.proofs.inner.repack.Goals as goal

pub returns : goal.returns
returns c =
    let h = c.head_for-h.ensures in
    let f = c.fill-top in
    let long : length f.new.work ≡ 16384 = f.auto.work ∙ ap length c.requires.work_value ∙ length-replicate {0} {A = ℕ} 16384 0 in
    repacked-is c.requires.last_at f.new.work (record { magic = h.0; kind = h.1; id = h.2; lsn = h.3 }) c.requires.n_value long f.ensures.value f.ensures.work_after c.seal.ensures
