use Rattle.std.proofs.Common.{map, string_bytes}
use Rattle.contest_cli_commands.specs.Serve.{ServesOn}
use Rattle.contest_cli.proofs.CommandLemmas.{out_of_memory}
use Rattle.contest_cli.proofs.commands.run_owned.Goals as goal

pub returns-in-Err-clause-command : goal.returns-in-Err-clause-command
returns-in-Err-clause-command g c = λ command is.
    let on = g.M.Outside.Listener in
    let all = ServesOn g.M.Disk.Store on.Listen.port_of on.Listen.gives on.Listen.parts g.M.Outside.Network.shows on.Reader.Read.remaining on.Writer.Write.contents in
    out_of_memory g.M.Disk.Store g.M.Outside.File.Read.remaining (g.M.MachineClock.shows c.args.machine) (g.M.Machine.there c.args.machine) g.M.Machine.found g.M.Outside.Outside.reads g.M.Machine.left all command (map string_bytes c.args.words.now) _ _ _ _ _ _ c.refuse.ensures.status c.refuse.ensures.told
