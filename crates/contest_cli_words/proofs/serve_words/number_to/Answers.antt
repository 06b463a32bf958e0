use Rattle.std.proofs.Common.{◌∙◌, ap, Some}
use Rattle.contest_cli_words.proofs.NumberLemmas.{number_none, number_some}
use Rattle.contest_cli_words.proofs.serve_words.number_to.Goals as goal

pub returns-in-None-clause-value : goal.returns-in-None-clause-value
returns-in-None-clause-value c = rw c.as_bytes.ensures.value at (number_none c.args.most c.as_bytes.result.now c.in-None.ensures)

pub returns-in-Some-clause-value : goal.returns-in-Some-clause-value
returns-in-Some-clause-value c =
    rw c.as_bytes.ensures.value at (ap Some c.in-Some.ensures.1 ∙ number_some c.args.most c.as_bytes.result.now c.in-Some.ensures.0.0 c.in-Some.ensures.0.1)
