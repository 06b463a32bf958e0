use Rattle.contest_types.proofs.AddChanges.{named_is_valid}
use Rattle.contest_types.proofs.settings.Settings.set_team_name.Goals as goal

pub invariant_of-self : goal.invariant_of-self
invariant_of-self c = rw c.set_team_name.ensures (named_is_valid (record { head = c.self.inside.head; types = c.self.inside.types; languages = c.self.inside.languages; problems = c.self.inside.problems; groups = c.self.inside.groups; teams = c.self.inside.teams }) c.args.place c.args.name c.self.invariant)
