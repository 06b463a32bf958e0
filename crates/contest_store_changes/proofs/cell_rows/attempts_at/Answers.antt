use Rattle.std.proofs.Common.{◌≡◌, ◌∙◌, ◌+◌, Some, ap, arith, sym}
use Rattle.std.specs.Prelude.{◌==◌, filter, length, slice_get}
use Rattle.std.proofs.lemmas.Bool.{eq-eqb, ne_eqb}
use Rattle.contest_types.specs.State.{submissions_of}
use Rattle.contest_types.specs.declared.submission.Submission.{Submission}
use Rattle.contest_lists.proofs.TeamRowLemmas.{next_own, taken_all}
use Rattle.contest_store_changes.proofs.ScoredEntries.{counted_past, counted_too}
use Rattle.contest_store_changes.proofs.cell_rows.attempts_at.Goals as goal
use Rattle.contest_store_changes.proofs.cell_rows.attempts_at.Goals.{then-submissions-place, else-submissions-place}

pub loop-place-preserved : goal.loop-place-preserved
loop-place-preserved c =
    let rows = c.args.lists.now.submissions in
    let k = c.loop-place.place-index in
    let own = submissions_of c.args.team rows in
    let row = c.index-submissions-place.result in
    let at : slice_get own k ≡ Some row = next_own c.args.team rows c.places_of-place-items.result.now k row c.places_of-place-items.ensures.places c.places_of-place-items.ensures.within c.loop-place-test.true (rw c.submissions-submissions.ensures at c.index-submissions-place.is) in
    let h = c.loop-place.invariant in
    let its = ap (λ (s : Submission). s.problem) c.index-submissions-place.is in
    elim c.if-submissions-place.branch [
      | then-submissions-place w ↦ (w.count-is ∙ ap (λ n. n + 1) h.0 ∙ sym (counted_too c.args.problem own k row at (eq-eqb row.problem c.args.problem (its ∙ w.if-submissions-place.true))), omega (arith, w.count-is, h.1))
      | else-submissions-place w ↦ (w.count-is ∙ h.0 ∙ sym (counted_past c.args.problem own k row at (ne_eqb row.problem c.args.problem (λ e. w.if-submissions-place.false (sym its ∙ e)))), omega (arith, w.count-is, h.1))
    ]

pub returns : goal.returns
returns c =
    let all = taken_all c.args.team c.args.lists.now.submissions c.places_of-place-items.result.now c.loop-place.place-index c.places_of-place-items.ensures.places c.loop-place-test.false in
    c.loop-place.invariant.0 ∙ ap (λ rows. length (filter (λ (s : Submission). s.problem == c.args.problem) rows)) all
