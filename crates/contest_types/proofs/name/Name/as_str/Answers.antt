use Rattle.std.specs.String.{string_bytes}
use Rattle.contest_types.specs.NameText.{is_name}
use Rattle.contest_types.proofs.TextLemmas.{read_back}
use Rattle.contest_types.proofs.name.Name.as_str.Goals as goal

pub returns-clause-name : goal.returns-clause-name
returns-clause-name c = read_back is_name c.args.self.now (string_bytes c.self.inside.text) c.as_str.result.now c.self.view_is c.as_str.ensures.value c.as_str.utf8 c.self.invariant
