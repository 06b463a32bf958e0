use Rattle.std.proofs.Common.{◌∙◌, sym}
use Rattle.contest_http.proofs.LengthLemmas.{length_over, length_some}
use Rattle.contest_http.proofs.plan.length_in.Goals as goal

pub returns-in-Some : goal.returns-in-Some
returns-in-Some c = rw c.in-Some.ensures.1 (sym (length_some c.args.value.now c.in-Some.ensures.0.0 c.in-Some.ensures.0.1))

pub returns-then-are_digits : goal.returns-then-are_digits
returns-then-are_digits c = sym (length_over c.args.value.now (sym c.are_digits.ensures ∙ c.if-are_digits.true) c.in-None.ensures)
