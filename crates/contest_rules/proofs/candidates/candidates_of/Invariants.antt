use Rattle.std.proofs.Common.{◌≡◌, ◌++◌, map, drop}
use Rattle.contest_types.specs.State.{of_submission}
use Rattle.contest_rules.specs.Candidates.{candidate_by}
use Rattle.contest_rules.proofs.candidates.candidates_of.Given as goal

-- those so far, and those that are left
abbrev pub invariant-loop-submission : goal.invariant-loop-submission
invariant-loop-submission g l =
    l.candidates ++ map (candidate_by (g.J.Judged.releases l.judged) l.members) (map (λ s. of_submission s.now) (drop l.submission-index l.named))
    ≡ map (candidate_by (g.J.Judged.releases l.judged) l.members) (map (λ s. of_submission s.now) l.named)
