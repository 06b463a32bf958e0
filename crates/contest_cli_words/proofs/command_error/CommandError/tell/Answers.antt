use Rattle.contest_cli_words.proofs.command_error.CommandError.tell.Goals as goal

pub returns-in-File-clause-err : goal.returns-in-File-clause-err
returns-in-File-clause-err g c = rw c.in-File.is c.write_all-in-File.ensures.err

pub returns-in-Clock-clause-err : goal.returns-in-Clock-clause-err
returns-in-Clock-clause-err g c = rw c.in-Clock.is c.write_all-in-Clock.ensures.err

pub returns-in-Net-clause-err : goal.returns-in-Net-clause-err
returns-in-Net-clause-err g c = rw c.in-Net.is c.write_all-in-Net.ensures.err
