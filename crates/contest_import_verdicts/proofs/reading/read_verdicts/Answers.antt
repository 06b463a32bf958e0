use Rattle.std.proofs.Common.{◌≡◌, ◌∙◌, ap, sym, Some, rules}
use Rattle.contest_import_verdicts.specs.VerdictFiles.{after_records, below_header, verdicts_in}
use Rattle.contest_import_verdicts.proofs.SoFarLemmas.{first_so_far}
use Rattle.contest_import_verdicts.proofs.reading.read_verdicts.Goals as goal

pub returns-clause-ok : goal.returns-clause-ok
returns-clause-ok c = λ x valid are.
    let none = c.in_ok-so_far.ensures.none in
    let first = first_so_far x c.args.lists.now c.in_ok-so_far.so_far.imported c.in_ok-so_far.so_far.verdicts valid are none c.in_ok-so_far.ensures.imported in
    let below : below_header c.args.records.now ≡ Some c.has_header.new.records = search rules in
    ap (verdicts_in x c.args.now) below ∙ (ap (λ vs. after_records x c.args.now vs 1 c.has_header.new.records) (sym none) ∙ c.in_ok-take_all.ensures.ok x first)
