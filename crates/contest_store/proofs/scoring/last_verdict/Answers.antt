use Rattle.std.proofs.Common.{◌∙◌, ap}
use Rattle.std.specs.Option.{option_map}
use Rattle.contest_types.specs.declared.submission.Release.{Release}
use Rattle.contest_store.proofs.ScoringLemmas.{last_type}
use Rattle.contest_store.proofs.scoring.last_verdict.Goals as goal

pub returns-in-Some : goal.returns-in-Some
returns-in-Some c = ap (option_map (λ (v : Release). v.verdict)) c.in-Some.ensures ∙ last_type c.args.lists.now.releases c.args.team c.args.number

pub returns-in-None : goal.returns-in-None
returns-in-None c = ap (option_map (λ (v : Release). v.verdict)) c.in-None.ensures ∙ last_type c.args.lists.now.releases c.args.team c.args.number
