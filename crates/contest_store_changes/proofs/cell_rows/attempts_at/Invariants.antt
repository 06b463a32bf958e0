use Rattle.std.proofs.Common.{◌≡◌, ◌==◌, ◌≤◌, filter, length, take}
use Rattle.contest_types.specs.State.{submissions_of}
use Rattle.contest_types.specs.declared.submission.Submission.{Submission}
use Rattle.contest_store_changes.proofs.cell_rows.attempts_at.Given as goal

-- how many of the team's submissions so far are at the problem
abbrev pub invariant-loop-place : goal.invariant-loop-place
invariant-loop-place l =
    (l.count ≡ length (filter (λ (s : Submission). s.problem == l.problem) (take l.place-index (submissions_of l.team l.lists.submissions)))) × (l.count ≤ l.place-index)
