use Rattle.sqlite.specs.Files.{file_state}
use Rattle.sqlite.specs.WalFiles.{image_at}
use Rattle.contest_cli_machine.proofs.HostLemmas.{are_found, is_numbered}
use Rattle.contest_cli_machine.proofs.host.open_store.Goals as goal

pub returns-in-Ok-clause-found : goal.returns-in-Ok-clause-found
returns-in-Ok-clause-found g c clean =
    are_found (image_at g.D.Start) (file_state c.in-Ok.conn) (c.in-Ok.ensures.opened clean).0 (c.in-Ok.ensures.found clean)

pub returns-in-Ok-clause-numbered : goal.returns-in-Ok-clause-numbered
returns-in-Ok-clause-numbered g c = is_numbered (image_at g.D.Start) (file_state c.in-Ok.conn) c.in-Ok.ensures.opened c.in-Ok.ensures.found
