use Rattle.contest_exports.proofs.ExportLaws.{reads_back}
use Rattle.contest_exports.proofs.laws.export_reads_back.Goals as goal

pub returns : goal.returns
returns c = reads_back
