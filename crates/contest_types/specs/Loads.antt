-- What loads give of a contest.
use Rattle.std.specs.Prelude.{ℕ, List, [], map, Option, find}
use Rattle.std.specs.Option.{option_map}
use Rattle.contest_types.specs.State.{ContestState, names, of_submission}
use Rattle.contest_types.specs.declared.submission.Submission.{Submission}

-- files are large, and are loaded one by one
abbrev pub without_file : Submission → Submission
without_file s = record s { file = [] }

abbrev pub loaded_submissions : ContestState → List Submission
loaded_submissions x = map without_file x.submissions

-- the file of a team's submission with this number, if that one stands
abbrev pub file_of : ContestState → (team number : ℕ) → Option (List ℕ)
file_of x team number = option_map (λ (s : Submission). s.file) (find (λ (s : Submission). names team number (of_submission s)) x.submissions)
