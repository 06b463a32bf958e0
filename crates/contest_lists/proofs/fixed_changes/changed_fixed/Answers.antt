use Rattle.std.proofs.Common.{subst, sym}
use Rattle.std.proofs.lemmas.Result.{IfOk-weaker}
use Rattle.contest_lists.specs.RowsAdded.{HasSameSettings}
use Rattle.contest_lists.proofs.fixed_changes.changed_fixed.Goals as goal

pub returns-clause-same : goal.returns-clause-same
returns-clause-same c =
    IfOk-weaker c.shared.result _ _
    (λ changed is no.
    subst (λ fixed. HasSameSettings fixed changed.value) c.in_ok-copied_fixed.ensures
    (subst (λ fixed. HasSameSettings c.in_ok-copied_fixed.field-0 fixed) (sym is) (c.in_ok-changed.ensures.same no)))
    c.shared.ensures
