use Rattle.std.proofs.Common.{◌++◌, ◌≤◌, ◌+◌, length, Result, Ok, Err, OnErr, arith, take}
use Rattle.std.proofs.lemmas.Grind.{common_steps}
use Rattle.std.proofs.KnownBytes.{Consumes-trans}
use Rattle.contest_streams.specs.Streams.{TakesUpTo}
use Rattle.contest_streams.proofs.input.read_by.Goals as goal

on_err_always : {T E P : Type 0} (r : Result T E) → P → OnErr r P
on_err_always (Ok v) p = tt
on_err_always (Err e) p = p

-- the last piece is taken too, though memory for it was refused
pub returns-in_err-extend_from_slice-clause-err : goal.returns-in_err-extend_from_slice-clause-err
returns-in_err-extend_from_slice-clause-err g c =
    let bytes = c.loop-bytes.bytes.items in
    let last = take c.in_ok-count.count c.read_piece.new.piece in
    let taken = Consumes-trans _ _ _ bytes last c.loop-bytes.invariant.taken c.in_ok-count.ensures.bytes.0 in
    let short : length (bytes ++ last) ≤ c.args.limit + 1 = grind (arith, common_steps, c.in_ok-count.ensures.bound) in
    let front : TakesUpTo (g.R.Read.remaining c.args.reader.now.inner) (g.R.Read.remaining c.read_piece.new.reader.inner) (c.args.limit + 1) =
    (bytes ++ last, short, taken) in
    on_err_always _ front
