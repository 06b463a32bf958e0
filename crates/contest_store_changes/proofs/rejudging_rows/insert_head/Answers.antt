use Rattle.std.proofs.Common.{refl}
use Rattle.contest_types.specs.declared.entry.Entry.TheVariants.{NewRejudging}
use Rattle.contest_store_changes.proofs.rejudging_rows.insert_head.Goals as goal

pub returns : goal.returns
returns g c = c.insert_row.ensures c.args.lists.now (NewRejudging c.args.rejudging.now) (λ x sound held may. (refl, cc))
