use Rattle.sqlite.specs.Held.{state}
use Rattle.contest_store_tables.proofs.HoldLemmas.{bare_holds, celless_holds, desk_holds, lacking_holds}
use Rattle.contest_store_tables.proofs.tables.Tables.new.Goals as goal

pub returns-clause-bare : goal.returns-clause-bare
returns-clause-bare g c = bare_holds (state g.S.Store c.args.conn)

pub returns-clause-desk : goal.returns-clause-desk
returns-clause-desk g c = desk_holds (state g.S.Store c.args.conn)

pub returns-clause-lacking : goal.returns-clause-lacking
returns-clause-lacking g c table = lacking_holds table (state g.S.Store c.args.conn)

pub returns-clause-celless : goal.returns-clause-celless
returns-clause-celless g c place = celless_holds place (state g.S.Store c.args.conn)
