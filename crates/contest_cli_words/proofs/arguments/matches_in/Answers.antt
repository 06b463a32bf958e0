use Rattle.std.proofs.Common.{◌∙◌}
use Rattle.clap.specs.Simple.{app_of}
use Rattle.contest_cli_words.proofs.WordLemmas.{faults_are, refuses, rows_are, simple_alone, wanted_there}
use Rattle.contest_cli_words.proofs.arguments.matches_in.Goals as goal

pub returns-in-Ok-clause-faultless : goal.returns-in-Ok-clause-faultless
returns-in-Ok-clause-faultless c = faults_are (app_of c.args.command) _ ∙ c.in-Ok.ensures.kinds c.requires

pub returns-in-Ok-clause-rows : goal.returns-in-Ok-clause-rows
returns-in-Ok-clause-rows c =
    (c.in-Ok.ensures.matches (simple_alone (app_of c.args.command) c.requires)).0 ∙ rows_are (app_of c.args.command) _

pub returns-in-Ok-clause-wanted : goal.returns-in-Ok-clause-wanted
returns-in-Ok-clause-wanted c = λ name wants. wanted_there c.args.command c.in-Ok.matches name wants c.in-Ok.ensures.parsed

pub returns-in-Err-clause-refused : goal.returns-in-Err-clause-refused
returns-in-Err-clause-refused c =
    refuses c.in-Err.error c.from_clap.result _ _ (faults_are (app_of c.args.command) _) (c.in-Err.ensures.kinds c.requires) c.from_clap.ensures.memory c.from_clap.ensures.words
