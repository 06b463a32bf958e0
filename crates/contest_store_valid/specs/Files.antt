-- The posted files of a contest (own).
use Rattle.std.specs.Prelude.{Bool, nat_le, length}
use Rattle.std.specs.List.{list_all}
use Rattle.contest_types.specs.State.{ContestState}
use Rattle.contest_types.specs.declared.limits.TheConstants.{POSTED_FILE}
use Rattle.contest_types.specs.declared.submission.Submission.{Submission}

-- no posted file is too large
abbrev pub has_small_files : ContestState → Bool
has_small_files x = list_all (λ (s : Submission). nat_le (length s.file) POSTED_FILE) x.submissions
