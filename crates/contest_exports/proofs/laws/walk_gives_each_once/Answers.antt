use Rattle.contest_exports.proofs.ExportLaws.{gives_each_once}
use Rattle.contest_exports.proofs.laws.walk_gives_each_once.Goals as goal

pub returns : goal.returns
returns c = gives_each_once
