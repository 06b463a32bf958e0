use Rattle.std.proofs.Common.{◌≡◌, ◌+◌, ◌++◌, ◌∷◌, [], length, subst, sym, refl, arith, length-append}
use Rattle.std.specs.Prelude.{true}
use Rattle.contest_types.specs.Setup.{Setup}
use Rattle.contest_types.specs.SetupAdditions.{with_team}
use Rattle.contest_replay.specs.ReplayState.{IsReplayed}
use Rattle.contest_replay.proofs.ReplayStateLemmas.{IsReplayed-team, no_submissions}
use Rattle.contest_replay.proofs.replay.builder.ReplayBuilder.add_team.Goals as goal

pub invariant_of-self-in-Ok : goal.invariant_of-self-in-Ok
invariant_of-self-in-Ok c =
    let old = c.self.inside.settings in
    let new = with_team true old c.args.row in
    let us = c.self.inside.submissions.items in
    let teams = c.self.inside.teams.items in
    let e : c.add_team.new.self ≡ new = rw c.if-branch.true at c.in_ok-add_team.ensures.ok.1 in
    let more : length new.teams ≡ length old.teams + 1 = length-append old.teams (c.args.row ∷ []) in
    rw (c.in-Ok.ensures.items, c.reserve.ensures.items) (subst (λ (s : Setup). IsReplayed s us (teams ++ no_submissions ∷ [])) (sym e) (IsReplayed-team old new us teams refl more (omega arith) (omega arith) (omega arith) c.self.invariant))
