use Rattle.std.proofs.Common.{inl, inr}
use Rattle.std.proofs.KnownBytes.{Keeps-refl}
use Rattle.contest_cli.proofs.file_command.run_by_words.Goals as goal

pub returns-in-Ok : goal.returns-in-Ok
returns-in-Ok g c =
    let it = c.in-Ok.it in
    let is = c.in-Ok.ensures in
    inr (it.asked, is.named, it.now, is.fits, it.input, is.has, it.conn, c.run-status.result.1, is.found, is.numbered, c.run-status.ensures, c.into_store.result, c.part.ensures)

pub returns-in-Err : goal.returns-in-Err
returns-in-Err g c = inl ((c.in-Err.stop, c.in-Err.ensures.stops, c.refuse.ensures.status, c.refuse.ensures.told), Keeps-refl _)
