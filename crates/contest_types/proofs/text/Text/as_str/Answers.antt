use Rattle.std.specs.String.{string_bytes}
use Rattle.contest_types.specs.ClarificationText.{is_text}
use Rattle.contest_types.proofs.TextLemmas.{read_back}
use Rattle.contest_types.proofs.text.Text.as_str.Goals as goal

pub returns-clause-text : goal.returns-clause-text
returns-clause-text c = read_back is_text c.args.self.now (string_bytes c.self.inside.text) c.as_str.result.now c.self.view_is c.as_str.ensures.value c.as_str.utf8 c.self.invariant
