use Rattle.summary.specs.Number.{groups}
use Rattle.summary.proofs.RowBytes.{first-room, second-room, third-room, three-put}
use Rattle.summary.proofs.numbers.put_three.Goals as goal

pub put_number-second-requires : goal.put_number-second-requires
put_number-second-requires c = first-room c.args.area.now c.args.at (groups c.args.a) (groups c.args.b) (groups c.args.c) c.requires

pub put_number-third-requires : goal.put_number-third-requires
put_number-third-requires c =
    let a = c.put_number-second in
    second-room c.args.area.now c.args.at (groups c.args.a) (groups c.args.b) (groups c.args.c) c.requires a.new.area a.result a.ensures.area_after a.ensures.value

pub put_number-requires : goal.put_number-requires
put_number-requires c =
    let a = c.put_number-second in
    let b = c.put_number-third in
    third-room c.args.area.now c.args.at (groups c.args.a) (groups c.args.b) (groups c.args.c) c.requires a.new.area a.result a.ensures.area_after a.ensures.value b.new.area b.result b.ensures.area_after b.ensures.value

pub returns : goal.returns
returns c =
    let a = c.put_number-second in
    let b = c.put_number-third in
    let d = c.put_number in
    let t = three-put c.args.area.now c.args.at (groups c.args.a) (groups c.args.b) (groups c.args.c) c.requires a.new.area a.result a.ensures.area_after a.ensures.value b.new.area b.result b.ensures.area_after b.ensures.value d.new.area d.result d.ensures.area_after d.ensures.value in
    record { value = t.0; area_after = t.1 }
