use Rattle.std.proofs.Common.{◌∙◌, sym}
use Rattle.std.proofs.lemmas.Bool.{false≢true}
use Rattle.contest_score.specs.Lists.{CanBeScored}
use Rattle.contest_score.proofs.ValidLists.{valid_can_be_scored}
use Rattle.contest_view.proofs.awards.solves_for.Goals as goal

-- the lists of a valid contest can be scored
pub returns-else-can_be_scored : goal.returns-else-can_be_scored
returns-else-can_be_scored c x shows =
    let lists = c.args.seen.now.lists.now in
    let scored : CanBeScored lists.fixed lists.submissions lists.releases = rw shows.lists (valid_can_be_scored x shows.valid).1 in
    absurd (false≢true (sym c.if-can_be_scored.false ∙ c.can_be_scored.ensures.1 (rw (c.fixed.ensures, c.submissions.ensures, c.releases.ensures) scored)))
