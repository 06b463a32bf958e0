use Rattle.std.proofs.Common.{◌∙◌, ap}
use Rattle.std.specs.Prelude.{nat_lt}
use Rattle.contest_rules.proofs.JudgedLemmas.{counted_released}
use Rattle.contest_import_verdicts.proofs.imported.is_released.Goals as goal

pub returns : goal.returns
returns c = ap (nat_lt 0) c.releases_on.ensures ∙ counted_released c.args.team c.args.number c.args.lists.now.releases
