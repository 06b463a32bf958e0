use Rattle.std.proofs.Common.{IsTrue}
use Rattle.contest_cli_commands.specs.Clients.{ServesClients}
use Rattle.contest_cli_commands.proofs.ServingLemmas.{SoFar}
use Rattle.contest_cli_commands.proofs.serving.serve.Given as goal

abbrev pub invariant-loop : goal.invariant-loop
invariant-loop g l = record {
  clients : ServesClients g.N.Listener.Listen.gives g.N.Listener.Listen.parts (g.N.Network.shows l.network) g.N.Listener.Reader.Read.remaining g.N.Listener.Writer.Write.contents g.S.ContestStore.kept l.counter l.fn.listener l.listener l.fn.desk l.desk;
  goes : (g.S.ContestStore.kept l.desk).is_clean → SoFar (g.S.ContestStore.kept l.fn.desk) (g.S.ContestStore.kept l.desk) l.counter;
  clean : (g.S.ContestStore.kept l.desk).is_clean → (g.S.ContestStore.kept l.fn.desk).is_clean;
  up : (g.S.ContestStore.kept l.desk).is_clean → IsTrue (g.S.ContestStore.kept l.desk).is_open → IsTrue (g.S.ContestStore.kept l.fn.desk).is_open;
}
