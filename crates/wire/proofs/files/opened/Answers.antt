use Rattle.wire.proofs.OpenedLemmas.{is_numbered}
use Rattle.wire.proofs.files.opened.Goals as goal

pub returns-in-Ok : goal.returns-in-Ok
returns-in-Ok g c = is_numbered c.args.files c.in-Ok.conn c.in-Ok.ensures.opened c.in-Ok.ensures.found
