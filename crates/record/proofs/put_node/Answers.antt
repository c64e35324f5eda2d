use Prim.Native.Nat.{◌*◌}
use borrow.Author.Rules.{rules}
use Rattle.std.proofs.lemmas.List.{map-id}
use Rattle.record.proofs.Lengths.{Full}
use Rattle.record.proofs.Puts.{put_fields}
use Rattle.record.specs.Node.{size}
use Rattle.record.proofs.put_node.Goals as goal

pub returns : goal.returns
returns c =
    let n = c.args.n in
    let f : Full n = record { kids_long = search rules; digest_long = search rules } in
    put_fields n (size * c.args.i) c.args.out.now c.requires f c.put.ensures c.put-2.ensures
    (rw (map-id n.kids) at c.put_words.ensures)
    (rw (map-id n.digest) at c.put_words-2.ensures)
