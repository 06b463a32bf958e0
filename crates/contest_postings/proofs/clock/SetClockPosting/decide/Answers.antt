use Rattle.std.proofs.Common.{◌∙◌}
use Rattle.contest_postings.proofs.LoadedClock.{set_over}
use Rattle.contest_postings.proofs.clock.SetClockPosting.decide.Goals as goal

pub returns : goal.returns
returns c = λ x valid are fits. c.decide_clock.ensures ∙ set_over x c.args.lists.now c.args.now c.args.self.wanted are c.fixed.ensures c.submissions.ensures c.clarifications.ensures
