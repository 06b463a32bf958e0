use Rattle.std.proofs.Common.{rules}
use Rattle.contest_types.proofs.SetupLemmas.{refers_wider}
use Rattle.contest_types.proofs.settings.Settings.add_group.Goals as goal

pub invariant_of-self : goal.invariant_of-self
invariant_of-self c =
    let stood = c.self.invariant in
    let groups = c.add.ensures.different stood.groups in
    let references = refers_wider _ _ c.add.ensures.grows c.self.inside.teams stood.references in
    let few_groups = c.add.ensures.within stood.few_groups in
    search (rules, stood, groups, references, few_groups)
