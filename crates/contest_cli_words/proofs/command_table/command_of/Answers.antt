use Rattle.contest_cli_words.proofs.NamingLemmas.{adds_row}
use Rattle.contest_cli_words.proofs.command_table.command_of.Goals as goal

pub loop-row-preserved : goal.loop-row-preserved
loop-row-preserved c =
    adds_row c.loop-row.command c.with_arg-command.result c.args.table.now.name.now c.args.table.now.rows.now c.loop-row.row-index _ _
    c.loop-row-test.true c.loop-row.invariant c.arg_of.ensures.rule c.with_arg-command.ensures
