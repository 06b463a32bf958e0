use Rattle.contest_view.proofs.RejudgingLaws as lemmas
use Rattle.contest_view.proofs.laws.only_the_jury_reads_rejudgings.Goals as goal

pub returns : goal.returns
returns c = lemmas.only_the_jury
