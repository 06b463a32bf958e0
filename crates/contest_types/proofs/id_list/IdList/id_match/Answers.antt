use Rattle.std.proofs.Common.{◌≡◌, sym, arith, map, Some}
use Rattle.contest_types.specs.Places.{place_of}
use Rattle.contest_types.proofs.PlaceLemmas.{place_within}
use Rattle.contest_types.proofs.AdditionLemmas.{stands_new, stands_same, stands_other}
use Rattle.contest_types.proofs.id_list.IdList.id_match.Goals as goal

pub index-requires : goal.index-requires
index-requires g c =
    let at : place_of (g.T.Identified.id c.args.row.now) (map g.T.Identified.id c.self.inside.rows.items) ≡ Some c.in-Some.place = rw (← c.id.ensures, ← c.as_bytes.ensures.bytes, c.self.view_is) (sym c.in-Some.ensures.place) in
    omega (arith, place_within g.T.Identified.id (g.T.Identified.id c.args.row.now) c.self.inside.rows.items c.in-Some.place at)

pub returns-in-None : goal.returns-in-None
returns-in-None g c =
    stands_new g.T.Identified.id g.T.PartialEq.eq c.args.self.now c.args.row.now (rw (← c.id.ensures, ← c.as_bytes.ensures.bytes) (sym c.in-None.ensures.place))

pub returns-then-eq : goal.returns-then-eq
returns-then-eq g c =
    stands_same g.T.Identified.id g.T.PartialEq.eq c.args.self.now c.args.row.now c.index.result.now c.in-Some.place (rw (← c.id.ensures, ← c.as_bytes.ensures.bytes) (sym c.in-Some.ensures.place)) (rw c.self.view_is at c.index.ensures) (sym c.if-eq.ensures)

pub returns-else-eq : goal.returns-else-eq
returns-else-eq g c =
    stands_other g.T.Identified.id g.T.PartialEq.eq c.args.self.now c.args.row.now c.index.result.now c.in-Some.place (rw (← c.id.ensures, ← c.as_bytes.ensures.bytes) (sym c.in-Some.ensures.place)) (rw c.self.view_is at c.index.ensures) (sym c.if-eq.ensures)
