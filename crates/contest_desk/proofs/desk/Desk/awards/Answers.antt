use Rattle.std.proofs.Common.{◌≡◌, IfOk, None, Some, subst}
use Rattle.contest_view.specs.Awards.{audience_awards}
use Rattle.contest_desk.specs.Boards.{found_told}
use Rattle.contest_desk.proofs.BoardLemmas.{told_found, told_missing}
use Rattle.contest_desk.proofs.desk.Desk.awards.Goals as goal

pub returns-clause-awards : goal.returns-clause-awards
returns-clause-awards g c clean =
    rw c.found_told.ensures (subst (λ s. IfOk (found_told c.shown.result) (λ awards. audience_awards c.args.audience c.args.now (g.S.ContestStore.kept s).contest ≡ Some awards)) c.self.view_is
    (told_found c.shown.result _ (c.shown.ensures.value clean)))

pub returns-clause-missing : goal.returns-clause-missing
returns-clause-missing g c clean none =
    subst (λ s. audience_awards c.args.audience c.args.now (g.S.ContestStore.kept s).contest ≡ None) c.self.view_is
    (told_missing c.shown.result _ (c.shown.ensures.value clean) (rw c.found_told.ensures at none))
