use Rattle.std.proofs.Common.{◌≡◌, ◌+◌, ◌≤◌, length}
use Rattle.page.specs.Rows.{visible_rows, rows_at}
use Rattle.summary.specs.Summary.{rows_bytes, summary_rows}
use Rattle.summary.specs.Inner.{put}
use Rattle.summary.proofs.RowBytes.{rest_bytes}
use Rattle.summary.proofs.writer.put_rows.Given as goal

abbrev pub invariant-loop-row : goal.invariant-loop-row
invariant-loop-row l = record {
  room : l.at + length (rest_bytes l.p.pages.now l.page l.slot) ≤ length l.area;
  put-so-far : put l.area l.at (rest_bytes l.p.pages.now l.page l.slot) ≡ put l.initial.area l.first (rows_bytes (summary_rows l.p.pages.now));
}

abbrev pub decreases-loop-row : goal.decreases-loop-row
decreases-loop-row l = length (rows_at l.page l.slot (visible_rows l.p.pages.now))
