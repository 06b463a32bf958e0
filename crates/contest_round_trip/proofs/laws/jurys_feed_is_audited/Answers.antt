use Rattle.contest_round_trip.proofs.Audits as lemmas
use Rattle.contest_round_trip.proofs.laws.jurys_feed_is_audited.Goals as goal

pub returns : goal.returns
returns c = lemmas.is_audited
