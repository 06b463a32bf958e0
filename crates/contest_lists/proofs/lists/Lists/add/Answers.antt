use Rattle.std.proofs.Common.{◌≡◌, true, sym, ap, subst, ◌∙◌}
use Rattle.contest_types.specs.Addable.{is_addable}
use Rattle.contest_types.specs.State.{ContestState, add}
use Rattle.contest_lists.specs.Lists.{filed, unfiled}
use Rattle.contest_lists.proofs.FixedAlone.{OfNoRow, fixed_changed, fixed_whoever}
use Rattle.contest_lists.proofs.lists.Lists.add.Goals as goal

pub returns-in_ok-self-inside-in_default-clause-ok : goal.returns-in_ok-self-inside-in_default-clause-ok
returns-in_ok-self-inside-in_default-clause-ok c = λ submissions may.
    let was : ContestState = record {
      fixed = c.self.inside.fixed.value;
      submissions = c.self.inside.submissions;
      proposals = c.self.inside.proposals;
      releases = c.self.inside.releases;
      clarifications = c.self.inside.clarifications.items;
      rejudgings = c.self.inside.rejudgings.items;
    } in
    let other : OfNoRow c.args.entry.now = record {
      submission = c.in_default.not-NewSubmission;
      proposal = c.in_default.not-NewProposal;
      release = c.in_default.not-NewRelease;
      clarification = c.in_default.not-NewClarification;
      rejudging = c.in_default.not-NewRejudging;
      member = c.in_default.not-SetMember;
      state = c.in_default.not-SetRejudging;
    } in
    let addable : is_addable (filed submissions was) c.args.entry.now ≡ true = subst (λ x. is_addable (filed submissions x) c.args.entry.now ≡ true) (sym c.self.view_is) may in
    fixed_changed was c.args.entry.now c.in_ok-self-inside-in_default.field-0.value other
    (c.in_ok-self-inside-in_default.ensures.changed (filed submissions was) (sym c.deref.ensures) addable ∙ fixed_whoever was submissions c.args.entry.now)
    ∙ ap (λ x. add x (unfiled c.args.entry.now)) c.self.view_is
