use Rattle.std.proofs.Common.{ap, sym, ◌∙◌}
use Rattle.std.specs.Result.{result_ok}
use Rattle.std.proofs.lemmas.Fmt.{parse-decimal}
use Rattle.contest_objects.proofs.id_numbers.number_in.Goals as goal

pub returns : goal.returns
returns c = λ number small e.
    c.ok.ensures.value ∙ ap result_ok (parse-decimal 64 number c.args.text.now c.parse.result small small (sym e) c.parse.ensures.value.0)
