use Rattle.std.proofs.Common.{map}
use Rattle.std.specs.List.{filter_map}
use Rattle.contest_objects.specs.Items.{array_of}
use Rattle.contest_objects.proofs.WrittenLemmas.{served_written, text_written}
use Rattle.contest_objects.proofs.collection.array.Goals as goal

pub returns : goal.returns
returns g c =
    let item = g.C.Collection.item c.args.collection.now in
    text_written (array_of (filter_map item (map (λ r. r.now) c.args.rows.now))) c.new-out.result c.end_array.new.out _ c.into_inner.result.items c.new.ensures.items c.new-out.ensures.before c.new-out.ensures.tokens
    (served_written item (λ r. r.now) c.args.rows.now c.in_ok-begin_array.ensures c.in_ok-write_each.ensures c.in_ok-end_array.ensures) c.into_inner.ensures.items
