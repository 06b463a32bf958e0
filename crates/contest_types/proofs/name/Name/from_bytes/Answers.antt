use Rattle.std.proofs.Common.{sym}
use Rattle.std.proofs.lemmas.Result.{IfOk-weaker}
use Rattle.contest_types.specs.NameText.{is_name, name_of}
use Rattle.contest_types.proofs.TextLemmas.{of_text, no_text, wanted}
use Rattle.contest_types.proofs.name.Name.from_bytes.Goals as goal

pub returns-in-Ok-clause-value : goal.returns-in-Ok-clause-value
returns-in-Ok-clause-value c =
    IfOk-weaker c.parse.result _ _ (λ found h. of_text name_of c.args.bytes.now c.in-Ok.text.now found c.in-Ok.ensures.cases.0 c.in-Ok.ensures.cases.1 h) c.parse.ensures.value

pub returns-in-Ok-clause-memory : goal.returns-in-Ok-clause-memory
returns-in-Ok-clause-memory c =
    wanted is_name c.args.bytes.now c.in-Ok.text.now c.parse.result c.in-Ok.ensures.cases.0 c.in-Ok.ensures.cases.1 c.parse.ensures.memory

pub returns-in-Err-clause-value : goal.returns-in-Err-clause-value
returns-in-Err-clause-value c = sym (no_text name_of c.args.bytes.now c.in-Err.ensures.cases.0)
