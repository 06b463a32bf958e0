use Rattle.std.proofs.Common.{◌≡◌, refl, subst, sym, rules, tests}
use Rattle.std.specs.Prelude.{nat_le}
use Rattle.std.proofs.lemmas.Fn.{filter_same}
use Rattle.contest_score.specs.declared.submission.JudgedSubmission.{JudgedSubmission}
use Rattle.contest_replay.specs.ReplayContest.{up_to}
use Rattle.contest_replay.specs.ReplayState.{IsReplay}
use Rattle.contest_replay.proofs.ReplayUntil.{replay_until}
use Rattle.contest_replay.proofs.replay.contest.ReplayContest.retain_until.Goals as goal

pub invariant_of-self : goal.invariant_of-self
invariant_of-self c =
    let s = c.self.inside.settings in
    let us = c.self.inside.submissions.items in
    let kept : c.retain.new.self.items ≡ up_to c.args.now us = filter_same _ (λ (u : JudgedSubmission). nat_le u.time c.args.now) _ (λ u b q h. (search (rules, tests), search (rules, tests))) _ _ c.retain.ensures.filtered in
    subst (IsReplay s) (sym kept) (replay_until s us c.args.now c.self.invariant)

pub returns : goal.returns
returns c =
    let us = c.self.inside.submissions.items in
    let kept : c.retain.new.self.items ≡ up_to c.args.now us = filter_same _ (λ (u : JudgedSubmission). nat_le u.time c.args.now) _ (λ u b q h. (search (rules, tests), search (rules, tests))) _ _ c.retain.ensures.filtered in
    rw (← c.self.view_is) (rw kept refl)
