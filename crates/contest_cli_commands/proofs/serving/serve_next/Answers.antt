use Rattle.std.proofs.Common.{Some, inr}
use Rattle.contest_cli_commands.specs.Clients.{Stops}
use Rattle.contest_cli_commands.proofs.ClientLemmas.{served}
use Rattle.contest_cli_commands.proofs.OpeningLemmas.{same_err}
use Rattle.contest_cli_commands.proofs.serving.serve_next.Goals as goal

pub returns-clause-next : goal.returns-clause-next
returns-clause-next g c = (
  Some (c.in-Some.connected.reader, c.in-Some.connected.writer),
  rw c.in-Some.is at c.in_ok-connected.ensures.some,
  served _ _ _ _ _ _ _ _ _ _ _ _ _ _ _ c.in_ok-now.now c.serve_one.result
      c.in_ok-now.ensures.shown c.new-reader.ensures.inner c.new-reader.ensures.faults c.new-writer.ensures.inner c.new-writer.ensures.faults
      c.serve_one.ensures.handled c.serve_one.ensures.bytes c.serve_one.ensures.read c.serve_one.ensures.write c.part.ensures,
)

pub returns-in_err-now-clause-stops : goal.returns-in_err-now-clause-stops
returns-in_err-now-clause-stops g c =
    let stops = Stops g.N.Listener.Listen.gives g.N.Listener.Listen.parts (g.N.Network.shows c.args.network.now) g.N.Listener.Reader.Read.remaining g.N.Listener.Writer.Write.contents
    g.S.ContestStore.kept g.N.Listener.Listen.breaks c.args.listener.now c.accept.new.self in
    let from = c.from_residual-in_err-now in
    same_err from.result stops c.in_err-now.field-0.0 from.ensures.1 (inr (
      c.in_err-now.ensures.err,
      ((c.in-Some.connected.reader, c.in-Some.connected.writer), rw c.in-Some.is at c.in_ok-connected.ensures.some),
      c.in_err-now.ensures.shown,
    ))
