use Rattle.std.proofs.Common.{◌≡◌, ◌∙◌, ◌+◌, List, None, ap, rules, sym, arith}
use Rattle.std.specs.Prelude.{slice_get}
use Rattle.std.specs.Option.{option_map}
use Rattle.contest_types.specs.declared.rejudging.Rejudging.{Rejudging}
use Rattle.contest_view.proofs.RejudgingLemmas.{named_at, named_none, named_zero}
use Rattle.contest_view.proofs.named.named_rejudging.Goals as goal

pub returns-in_err-number : goal.returns-in_err-number
returns-in_err-number c = λ x valid are.
    rw (named_none x valid c.args.id.now c.rejudging_number.result c.rejudging_number.ensures.whole c.in_err-number.was) (search rules)

pub returns-in_err-checked_sub : goal.returns-in_err-checked_sub
returns-in_err-checked_sub c = λ x valid are.
    let zero : c.in_ok-number.number ≡ 0 = omega (arith, c.in_err-checked_sub.ensures) in
    rw (named_zero x valid c.args.id.now (rw zero at c.in_ok-number.ensures.named)) (search rules)

pub returns-in_err-rejudging : goal.returns-in_err-rejudging
returns-in_err-rejudging c = λ x valid are.
    let place = c.in_ok-checked_sub.field-0 in
    let number = c.in_ok-number.number in
    let next : number ≡ 1 + place = omega (arith, c.in_ok-checked_sub.ensures.0, c.in_ok-checked_sub.ensures.1) in
    let none : slice_get x.rejudgings place ≡ None = ap (λ (rs : List Rejudging). slice_get rs place) (sym are) ∙ (sym c.rejudging_at.ensures ∙ ap (option_map (λ r. r.now)) c.in_err-rejudging.was) in
    rw (named_at x valid number place c.args.id.now next (omega arith) c.in_ok-number.ensures.named ∙ ap (option_map (λ (r : Rejudging). (number, r))) none) (search rules)

pub returns : goal.returns
returns c = λ x valid are.
    let place = c.in_ok-checked_sub.field-0 in
    let number = c.in_ok-number.number in
    let next : number ≡ 1 + place = omega (arith, c.in_ok-checked_sub.ensures.0, c.in_ok-checked_sub.ensures.1) in
    named_at x valid number place c.args.id.now next (omega arith) c.in_ok-number.ensures.named
    ∙ ap (option_map (λ (r : Rejudging). (number, r))) (ap (λ (rs : List Rejudging). slice_get rs place) (sym are) ∙ (sym c.rejudging_at.ensures ∙ ap (option_map (λ r. r.now)) c.in_ok-rejudging.was))
