use Rattle.std.proofs.Common.{◌≡◌, true, map, drop}
use Rattle.contest_operations.specs.Routes.{routes, takes_routes, with_routes}
use Rattle.contest_operations.proofs.route_table.routes.Given as goal

-- the rows that are left are taken, and make the whole table of what stands
abbrev pub invariant-loop-text : goal.invariant-loop-text
invariant-loop-text l = record {
  taken : takes_routes l.table (map (λ row. (row.0.now, row.1)) (drop l.text-index l.rows)) ≡ true;
  makes : with_routes (map (λ row. (row.0.now, row.1)) (drop l.text-index l.rows)) l.table ≡ routes;
}
