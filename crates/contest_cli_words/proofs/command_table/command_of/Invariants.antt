use Rattle.std.proofs.Common.{◌≡◌, IfOk, map, take}
use Rattle.clap.specs.Simple.{app_of}
use Rattle.contest_cli_words.specs.CommandTable.{command_with, rule_by}
use Rattle.contest_cli_words.proofs.command_table.command_of.Given as goal

abbrev pub invariant-loop-row : goal.invariant-loop-row
invariant-loop-row l = IfOk l.command (λ c. app_of c ≡ command_with l.fn.table.name.now (map rule_by (take l.row-index l.fn.table.rows.now)))
