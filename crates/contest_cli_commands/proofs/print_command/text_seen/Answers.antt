use Rattle.contest_cli_commands.proofs.print_command.text_seen.Goals as goal

pub returns-in-Board-clause-text : goal.returns-in-Board-clause-text
returns-in-Board-clause-text c x s same = rw c.in-Board.is (rw same at (c.board_seen.ensures.text x s))
