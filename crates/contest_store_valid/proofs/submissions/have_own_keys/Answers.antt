use Rattle.std.proofs.Common.{◌≡◌, ◌∙◌, Bool, IfOk, sym, subst, map, ap}
use Rattle.contest_store_valid.specs.Keys.{read}
use Rattle.contest_store_valid.proofs.SubmissionLemmas.{keys_by_team}
use Rattle.contest_store_valid.proofs.submissions.have_own_keys.Goals as goal

pub returns : goal.returns
returns c =
    let is = keys_by_team c.args.submissions.now c.deref.result.now (ap (map read) c.deref.ensures.value ∙ c.in_ok-keys.ensures) in
    subst (λ (b : Bool). IfOk c.are_at_most.result (λ answer. answer ≡ b)) (sym is) c.are_at_most.ensures
