use Rattle.std.proofs.Common.{◌∙◌}
use Rattle.contest_feed_reader.specs.Verdicts.{last_judgement}
use Rattle.contest_feed_reader.proofs.VerdictLemmas.{kept_verdict}
use Rattle.contest_feed_reader.proofs.verdicts.verdict_on.Goals as goal

pub returns-in-Some : goal.returns-in-Some
returns-in-Some c = λ types js are. kept_verdict types (last_judgement c.args.submission.now js) c.in-Some.last.now (rw c.as_str.ensures.text at c.in-Some.ensures.value ∙ are c.args.submission.now)
