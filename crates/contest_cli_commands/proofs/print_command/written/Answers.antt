use Rattle.contest_cli_commands.proofs.print_command.written.Goals as goal

pub returns-in_ok-text-in-Text-clause-text : goal.returns-in_ok-text-in-Text-clause-text
returns-in_ok-text-in-Text-clause-text c x s = rw (c.into_bytes.ensures.value, c.in-Text.is) (rw (c.fixed-fixed.ensures, s.lists) at c.in_ok-text-in-Text.ensures.text)
