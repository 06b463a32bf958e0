use Rattle.std.proofs.Common.{◌≡◌, ap, sym, ◌∙◌}
use Rattle.std.specs.Prelude.{None, Some}
use Rattle.contest_objects.proofs.SubmissionIds.{split_numbers}
use Rattle.contest_objects.proofs.id_numbers.dashed_numbers.Goals as goal

pub returns-in_err-first : goal.returns-in_err-first
returns-in_err-first c = λ first second small_first small_second e.
    absurd (split_numbers c.args.text.now first second None c.in_err-first.ensures.cases small_first e)

pub returns-in_err-number_in : goal.returns-in_err-number_in
returns-in_err-number_in c = λ first second small_first small_second e.
    let parts = split_numbers c.args.text.now first second (Some (c.in_ok-first.first, c.in_ok-first.second)) c.in_ok-first.ensures.cases small_first e in
    absurd (cc (sym c.in_err-number_in.was ∙ c.number_in.ensures first small_first (sym parts.0)))

pub returns-in_err-number_in-2 : goal.returns-in_err-number_in-2
returns-in_err-number_in-2 c = λ first second small_first small_second e.
    let parts = split_numbers c.args.text.now first second (Some (c.in_ok-first.first, c.in_ok-first.second)) c.in_ok-first.ensures.cases small_first e in
    absurd (cc (sym c.in_err-number_in-2.was ∙ c.number_in-2.ensures second small_second (sym parts.1)))

pub returns : goal.returns
returns c = λ first second small_first small_second e.
    let parts = split_numbers c.args.text.now first second (Some (c.in_ok-first.first, c.in_ok-first.second)) c.in_ok-first.ensures.cases small_first e in
    let one : c.in_ok-number_in.field-0 ≡ first = cc (sym c.in_ok-number_in.was ∙ c.number_in.ensures first small_first (sym parts.0)) in
    let two : c.in_ok-number_in-2.field-0 ≡ second = cc (sym c.in_ok-number_in-2.was ∙ c.number_in-2.ensures second small_second (sym parts.1)) in
    ap Some (λ i. (one i, two i))
