use Rattle.std.proofs.Common.{◌≡◌, drop}
use Rattle.std.specs.List.{list_all}
use Rattle.contest_types.specs.ValidSubmissions.{is_valid_submission}
use Rattle.contest_store_valid.proofs.submissions.are_valid_alone.Given as goal

abbrev pub invariant-loop-submission : goal.invariant-loop-submission
invariant-loop-submission l = list_all (is_valid_submission l.fixed) l.submissions ≡ list_all (is_valid_submission l.fixed) (drop l.submission-index l.submissions)
