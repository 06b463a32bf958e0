use Rattle.std.proofs.Common.{Ok}
use Rattle.contest_operations.proofs.RouteLemmas.{only_memory, taken}
use Rattle.contest_operations.proofs.route_table.add.Goals as goal

pub want_of_memory-requires : goal.want_of_memory-requires
want_of_memory-requires c = only_memory c.args.text.now c.args.offer c.args.table.now c.insert.new.self c.in-Err.error c.requires c.in-Err.ensures

pub returns-in-Ok : goal.returns-in-Ok
returns-in-Ok c = taken c.args.text.now c.args.offer c.args.table.now c.insert.new.self (Ok c.in-Ok.field-0) c.in-Ok.ensures
