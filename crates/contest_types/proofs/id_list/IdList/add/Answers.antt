use Rattle.std.proofs.Common.{sym}
use Rattle.contest_types.proofs.AdditionLemmas.{place_of_new}
use Rattle.contest_types.proofs.id_list.IdList.add.Goals as goal

pub push_within-requires : goal.push_within-requires
push_within-requires g c = place_of_new g.T.Identified.id g.T.PartialEq.eq c.args.self.now c.args.row (sym c.in-New.ensures)
