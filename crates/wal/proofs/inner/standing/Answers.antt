use Rattle.std.proofs.Common.{arith, ◌∙◌, ap}
use Rattle.wal.specs.Read.{view}
use Rattle.wal.proofs.WalkLaws.{inner-lengths}
use Rattle.wal.proofs.ReadLaws.{is-old, is_view}
use Rattle.wal.proofs.Prefix.{stands_at}
use Rattle.wal.proofs.inner.standing.Goals as goal

pub u32_at-n-requires : goal.u32_at-n-requires
u32_at-n-requires c = let k = stands_at c.requires in omega arith

pub overflow_add-place : goal.overflow_add-place
overflow_add-place c = let k = stands_at c.requires in omega arith

pub u16_at-key_len-requires : goal.u16_at-key_len-requires
u16_at-key_len-requires c = let k = stands_at c.requires in omega arith

pub overflow_add-place-2 : goal.overflow_add-place-2
overflow_add-place-2 c =
    let k = stands_at c.requires in
    let i = inner-lengths k in
    omega arith

pub u32_at-old_len-requires : goal.u32_at-old_len-requires
u32_at-old_len-requires c =
    let k = stands_at c.requires in
    let i = inner-lengths k in
    omega arith

pub overflow_sub-new_len : goal.overflow_sub-new_len
overflow_sub-new_len c = let k = stands_at c.requires in omega arith

pub overflow_sub-new_len-2 : goal.overflow_sub-new_len-2
overflow_sub-new_len-2 c =
    let k = stands_at c.requires in
    let i = inner-lengths k in
    omega arith

pub overflow_sub-new_len-3 : goal.overflow_sub-new_len-3
overflow_sub-new_len-3 c =
    let k = stands_at c.requires in
    let i = inner-lengths k in
    let old = is-old _ _ c.u16_at-key_len.ensures c.u32_at-old_len.ensures ∙ i.1 in
    omega arith

pub fields_at-requires : goal.fields_at-requires
fields_at-requires c = let k = stands_at c.requires in omega arith

pub returns : goal.returns
returns c =
    let k = stands_at c.requires in
    let ek = c.u16_at-key_len.ensures in
    let old = is-old _ _ ek c.u32_at-old_len.ensures in
    let i = inner-lengths k in
    is_view _ _ _ c.fields_at.ensures ek old (omega arith) ∙ ap (view _ _) c.u32_at-n.ensures
