use Rattle.std.proofs.Common.{◌≡◌, ◌+◌, ◌++◌, ◌∷◌, List, [], Some, subst, sym, take}
use Rattle.std.specs.Prelude.{slice_get}
use Rattle.std.proofs.lemmas.Bool.{eq-eqb, ne_eqb}
use Rattle.contest_types.specs.State.{submissions_of}
use Rattle.contest_types.specs.declared.submission.Submission.{Submission}
use Rattle.contest_lists.proofs.TeamRowLemmas.{next_own, taken_all}
use Rattle.contest_score.specs.CachedCells.{cached_at}
use Rattle.contest_score.specs.declared.cached_cells.CachedCells.{CachedCells}
use Rattle.contest_score.proofs.CachedLemmas.{numbered_more, numbered_past, numbered_so_far}
use Rattle.contest_score.proofs.OwnCells.{taken_next}
use Rattle.contest_store.proofs.scoring.count_numbered.Goals as goal
use Rattle.contest_store.proofs.scoring.count_numbered.Goals.{then-submission-number+in_ok-count_again, else-submission-number}

pub loop-place-preserved : goal.loop-place-preserved
loop-place-preserved c = λ t p.
    (let x = c.args.lists.now in
    let n = c.args.number in
    let rows = x.submissions in
    let k = c.loop-place.place-index in
    let own = submissions_of c.args.team rows in
    let row = c.index-submissions-place.result in
    let old = cached_at c.args.cells.now in
    let at : slice_get own k ≡ Some row = next_own c.args.team rows c.places_of-place-items.result.now k row c.places_of-place-items.ensures.places c.places_of-place-items.ensures.within c.loop-place-test.true (rw c.submissions-submissions.ensures at c.index-submissions-place.is) in
    let next : take (k + 1) own ≡ take k own ++ row ∷ [] = taken_next own k row at in
    let all : cached_at c.if-submission-number.cells t p ≡ numbered_so_far x n (take k own ++ row ∷ []) old t p = elim c.if-submission-number.branch [
      | then-submission-number+in_ok-count_again w ↦
          subst (λ (d : CachedCells). cached_at d t p ≡ numbered_so_far x n (take k own ++ row ∷ []) old t p) (sym w.cells-is)
          (numbered_more x n (take k own) row c.loop-place.cells w.count_again.new.cells old c.loop-place.invariant (eq-eqb row.number n w.if-submission-number.true) w.in_ok-count_again.ensures t p)
      | else-submission-number w ↦
          subst (λ (d : CachedCells). cached_at d t p ≡ numbered_so_far x n (take k own ++ row ∷ []) old t p) (sym w.cells-is)
          (numbered_past x n (take k own) row c.loop-place.cells old c.loop-place.invariant (ne_eqb row.number n w.if-submission-number.false) t p)
    ] in
    subst (λ (ss : List Submission). cached_at c.if-submission-number.cells t p ≡ numbered_so_far x n ss old t p) (sym next) all)

pub returns : goal.returns
returns c = λ t p.
    (let all = taken_all c.args.team c.args.lists.now.submissions c.places_of-place-items.result.now c.loop-place.place-index c.places_of-place-items.ensures.places c.loop-place-test.false in
    let so_far = c.loop-place.invariant t p in
    rw all at so_far)
