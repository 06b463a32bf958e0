use Rattle.std.proofs.Common.{◌≡◌, Some, None, ap, rules, sym, ◌∙◌}
use Rattle.std.specs.Prelude.{slice_get}
use Rattle.contest_lists.specs.Lists.{places_of}
use Rattle.contest_lists.proofs.TeamRowLemmas.{own_at, own_none}
use Rattle.contest_lists.proofs.lists.Lists.submission_of.Goals as goal

pub returns : goal.returns
returns c =
    let rows = c.args.self.now.submissions in
    let k = c.args.own_place in
    let place = c.in_ok-place.field-0.now in
    let at : slice_get (places_of c.args.team rows) k ≡ Some place = ap (λ ps. slice_get ps k) (sym c.places_of.ensures.places) ∙ sym c.in_ok-place.ensures in
    c.row_at-2.ensures ∙ (ap (λ ss. slice_get ss place) c.submissions.ensures ∙ own_at c.args.team rows k place at)

pub returns-in_err-place : goal.returns-in_err-place
returns-in_err-place c =
    let rows = c.args.self.now.submissions in
    let k = c.args.own_place in
    let at : slice_get (places_of c.args.team rows) k ≡ None = ap (λ ps. slice_get ps k) (sym c.places_of.ensures.places) ∙ sym c.in_err-place.ensures in
    rw (own_none c.args.team rows k at) (search rules)
