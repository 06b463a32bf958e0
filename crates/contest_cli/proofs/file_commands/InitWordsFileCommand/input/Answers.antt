use Rattle.std.proofs.Common.{List, inr, subst, sym, ℕ}
use Rattle.std.proofs.lemmas.Result.{err_from_is_err_and}
use Rattle.contest_streams.specs.Streams.{ReadsAll, stream}
use Rattle.contest_types.specs.declared.limits.TheConstants.{IMPORTED_FILE}
use Rattle.contest_cli.proofs.file_commands.InitWordsFileCommand.input.Goals as goal

pub returns-in_err-bytes-clause-err : goal.returns-in_err-bytes-clause-err
returns-in_err-bytes-clause-err g c =
    let from = c.from_residual-in_err-bytes in
    let p = err_from_is_err_and from.result from.ensures.1 in
    rw (p.1, p.2) (inr (c.in_ok-reader.reader, c.in_ok-reader.ensures.reads, stream g.W.File.Read.remaining c.whole_file.new.reader, c.in_err-bytes.ensures.err))

pub returns-clause-ok : goal.returns-clause-ok
returns-clause-ok g c =
    let left = g.W.File.Read.remaining c.whole_file.new.reader.inner in
    let all = subst (λ (bytes : List ℕ). ReadsAll (g.W.File.Read.remaining c.in_ok-reader.reader.inner) left IMPORTED_FILE bytes) (sym c.from_vec.ensures) c.in_ok-bytes.ensures.ok in
    (c.in_ok-reader.reader, c.in_ok-reader.ensures.reads, left, all)
