use Rattle.std.proofs.Common.{◌≡◌, ◌+◌, ◌++◌, ◌∷◌, ap, drop, sym, ◌∙◌, subst}
use Rattle.std.specs.Fmt.{decimal}
use Rattle.std.specs.Str.{IsUtf8}
use Rattle.contest_objects.proofs.SubmissionIds.{no_text, numbers_utf8}
use Rattle.contest_objects.proofs.id_numbers.submission_numbers.Goals as goal

pub returns-in_err-text-clause-whole : goal.returns-in_err-text-clause-whole
returns-in_err-text-clause-whole c = λ team number small_team small_number e.
    let text = c.in_ok-strip_prefix.field-0.now in
    let rest : decimal (team + 1) ++ 45 ∷ decimal number ≡ text = sym (c.in_ok-strip_prefix.ensures.cases.1 ∙ ap (drop 1) (sym e)) in
    absurd (no_text _ text c.from_utf8.result c.from_utf8.ensures.cases (sym c.ok.ensures.value ∙ c.in_err-text.was) (subst IsUtf8 rest (numbers_utf8 (team + 1) number small_team small_number)))
