use Rattle.std.proofs.Common.{◌∙◌}
use Rattle.std.proofs.lemmas.List.Sums.{length-filter}
use Rattle.contest_types.specs.State.{names, of_proposal}
use Rattle.contest_postings.proofs.judged.JudgedSoFarJudged.proposals_made.Goals as goal

pub returns : goal.returns
returns c = c.proposals_for.ensures ∙ length-filter (λ p. names c.args.team c.args.number (of_proposal p)) c.args.self.now.lists.now.proposals
