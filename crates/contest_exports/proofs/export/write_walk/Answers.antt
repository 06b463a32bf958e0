use Rattle.std.specs.List.{flat_map}
use Rattle.contest_streams.specs.Streams.{stream}
use Rattle.contest_streams.proofs.StreamLemmas.{front_first}
use Rattle.std.proofs.Common.{◌++◌}
use Rattle.contest_exports.specs.SubmissionsCsv.{header, record_of}
use Rattle.contest_exports.specs.Walks.{all_in_order}
use Rattle.contest_exports.proofs.ExportWritten.{front_if_err, writes_then}
use Rattle.contest_exports.proofs.export.write_walk.Goals as goal

pub returns-in_err-write_header-clause-written : goal.returns-in_err-write_header-clause-written
returns-in_err-write_header-clause-written g c = λ clean.
    let x = (g.S.ContestStore.kept c.args.store.now).contest in
    let rows = flat_map (record_of x) (all_in_order x) in
    let out = stream g.W.Write.contents c.args.out.now in
    let new = stream g.W.Write.contents c.write_header.new.out in
    front_if_err c.from_residual.result out new (header ++ rows) c.from_residual.ensures.0 (front_first out.bytes new.bytes header rows c.in_err-write_header.ensures.written)

pub returns-clause-written : goal.returns-clause-written
returns-clause-written g c = λ clean.
    let x = (g.S.ContestStore.kept c.args.store.now).contest in
    writes_then c.write_rows.result (stream g.W.Write.contents c.args.out.now) (stream g.W.Write.contents c.write_header.new.out) (stream g.W.Write.contents c.write_rows.new.out) header
    (flat_map (record_of x) (all_in_order x)) c.in_ok-write_header.ensures.written (c.write_rows.ensures.written clean)
