use Rattle.std.proofs.Common.{ℕ, length, get_or, rules}
use Rattle.sorting.specs.Parts.{Sought}
use Rattle.table.specs.Rows.{blank, key, rows}
use Rattle.table.proofs.Storing.{rows-length}
use Rattle.table.proofs.Finding.{ascends, row-sought}
use Rattle.table.proofs.inner.search.Goals as goal

pub returns : goal.returns
returns c =
    let l = rows c.args.a.now in
    let long = rows-length c.args.a.now in
    let keys = λ (i : ℕ). key 0 (get_or l i blank) in
    let up = ascends c.requires in
    let up-here = rw long at up in
    let there = c.binary_search_by_key.ensures.found keys (λ i b h p. search rules) up-here in
    let sought : Sought keys c.args.t.0 (length l) c.binary_search_by_key.result = rw long there in
    row-sought l c.args.t.0 _ sought
