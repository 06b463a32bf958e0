use Rattle.std.proofs.Common.{refl}
use Rattle.contest_types.specs.declared.entry.Entry.TheVariants.{NewTeam}
use Rattle.contest_store_changes.proofs.team_row.insert_team.Goals as goal

pub returns-in-Ok : goal.returns-in-Ok
returns-in-Ok g c = c.insert_row.ensures c.args.lists.now (NewTeam c.args.team.now) (λ x sound held may. (refl, cc c.in-Ok.ensures))
