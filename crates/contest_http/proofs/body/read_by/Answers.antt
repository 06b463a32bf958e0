use Rattle.std.proofs.Common.{◌++◌, arith, take}
use Rattle.std.proofs.lemmas.Grind.{common_steps}
use Rattle.std.proofs.KnownBytes.{Consumes-trans}
use Rattle.contest_http.proofs.body.read_by.Goals as goal

-- the last piece is taken too, though memory for it was refused
pub returns-then-is_err-clause-err : goal.returns-then-is_err-clause-err
returns-then-is_err-clause-err g c =
    let bytes = c.loop-bytes.bytes.items in
    let last = take c.in-Ok.count c.read_piece.new.piece in
    record {
      bytes = bytes ++ last;
      within = grind (arith, common_steps, c.in-Ok.ensures.bound);
      taken = Consumes-trans _ _ _ bytes last c.loop-bytes.invariant.taken c.in-Ok.ensures.bytes.0;
    }
