use native.Mathlib.Omega.{arith}
use Rattle.merger.proofs.Lining.{classes_long, sort_room, blocks_room, internals_room, arranged}
use Rattle.merger.proofs.result.arrange.Goals as goal

pub list_class-externals-requires-clause-room : goal.list_class-externals-requires-clause-room
list_class-externals-requires-clause-room c = omega (arith, c.requires.as_long, classes_long c.args.nodes.now c.args.sources.now)

pub sort_by_digest-requires : goal.sort_by_digest-requires
sort_by_digest-requires c =
    let one = c.list_class-externals.ensures in
    let cut = c.split_at_mut-by_digest.ensures in
    sort_room c.requires one.count one.listed cut.front cut.back

pub list_class-blocks-requires-clause-room : goal.list_class-blocks-requires-clause-room
list_class-blocks-requires-clause-room c =
    let one = c.list_class-externals.ensures in
    let cut = c.split_at_mut-by_digest.ensures in
    blocks_room c.requires one.count one.listed cut.front cut.back

pub list_class-requires-clause-room : goal.list_class-requires-clause-room
list_class-requires-clause-room c =
    let one = c.list_class-externals.ensures in
    let cut = c.split_at_mut-by_digest.ensures in
    let two = c.list_class-blocks.ensures in
    let past = c.split_at_mut-internals.ensures in
    internals_room c.requires one.count one.listed cut.front cut.back two.count two.listed past.front past.back

pub returns : goal.returns
returns c =
    let one = c.list_class-externals.ensures in
    let cut = c.split_at_mut-by_digest.ensures in
    let two = c.list_class-blocks.ensures in
    let past = c.split_at_mut-internals.ensures in
    arranged c.requires one.count one.listed cut.front cut.back two.count two.listed past.front past.back c.sort_by_digest.ensures.sorted c.list_class.ensures.count c.list_class.ensures.listed
