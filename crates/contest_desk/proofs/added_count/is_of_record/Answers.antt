use Rattle.std.proofs.Common.{rules}
use Rattle.contest_desk.specs.Imports.{is_of_record}
use Rattle.contest_desk.proofs.added_count.is_of_record.Goals as goal

pub returns : goal.returns
unfolding is_of_record
returns c = search rules
