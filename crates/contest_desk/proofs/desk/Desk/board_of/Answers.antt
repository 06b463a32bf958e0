use Rattle.std.proofs.Common.{◌≡◌, IfOk, None, Some, subst}
use Rattle.contest_view.specs.Scoreboards.{board_found}
use Rattle.contest_desk.specs.Boards.{found_told}
use Rattle.contest_desk.proofs.BoardLemmas.{told_found, told_missing}
use Rattle.contest_desk.proofs.desk.Desk.board_of.Goals as goal

pub returns-clause-board : goal.returns-clause-board
returns-clause-board g c clean =
    rw c.found_told.ensures (subst (λ s. IfOk (found_told c.found.result) (λ b. board_found c.args.audience c.args.now c.args.group (g.S.ContestStore.kept s).contest ≡ Some b)) c.self.view_is
    (told_found c.found.result _ (c.found.ensures.value clean)))

pub returns-clause-missing : goal.returns-clause-missing
returns-clause-missing g c clean none =
    subst (λ s. board_found c.args.audience c.args.now c.args.group (g.S.ContestStore.kept s).contest ≡ None) c.self.view_is
    (told_missing c.found.result _ (c.found.ensures.value clean) (rw c.found_told.ensures at none))
