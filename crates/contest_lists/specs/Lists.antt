-- The lists of a contest in memory (own). Files are large, and are loaded one by one.
use Rattle.std.specs.Prelude.{ℕ, ◌==◌, List, [], map, filter}
use Rattle.std.specs.List.{enumerate_from}
use Rattle.contest_types.specs.State.{FixedPart, ContestState}
use Rattle.contest_types.specs.declared.entry.Entry.{Entry}
use Rattle.contest_types.specs.declared.entry.Entry.TheVariants.{NewSubmission}
use Rattle.contest_types.specs.declared.submission.Submission.{Submission}
use Rattle.contest_types.specs.Loads.{loaded_submissions, without_file}

-- the contest with no file in it
abbrev pub loaded : ContestState → ContestState
loaded x = record x { submissions = loaded_submissions x }

-- the change with no file in it
abbrev pub unfiled : Entry → Entry
unfiled (NewSubmission s) = NewSubmission (without_file s)
unfiled e = e

-- the places, from 0, of a team's submissions among those of all teams, in their order
abbrev pub places_of : (team : ℕ) → List Submission → List ℕ
places_of team rows = map (λ p. p.0) (filter (λ p. p.1.team == team) (enumerate_from 0 rows))

-- a contest in which nothing but submissions stands
abbrev pub with_submissions : FixedPart → List Submission → ContestState
with_submissions fixed submissions = record {
  fixed = fixed;
  submissions = submissions;
  proposals = [];
  releases = [];
  clarifications = [];
  rejudgings = [];
}

-- the contest with these submissions
abbrev pub filed : List Submission → ContestState → ContestState
filed submissions x = record x { submissions = submissions }
