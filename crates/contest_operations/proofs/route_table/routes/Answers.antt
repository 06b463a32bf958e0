use Rattle.contest_operations.proofs.RouteLemmas.{all_made, all_taken}
use Rattle.contest_operations.proofs.route_table.routes.Goals as goal

pub loop-text-init : goal.loop-text-init
loop-text-init c = record {
  taken = rw (c.rows-rows.ensures, c.new-table.ensures) all_taken;
  makes = rw (c.rows-rows.ensures, c.new-table.ensures) all_made;
}
