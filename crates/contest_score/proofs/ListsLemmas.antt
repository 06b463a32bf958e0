-- A contest's own lists, as scoring reads them.
use Rattle.std.proofs.Common.{◌≡◌, ℕ, ◌<◌, List, length, get_or, map, Option, refl, ap, ◌∙◌, All}
use Rattle.std.proofs.lemmas.List.Elements.{All-map}
use Rattle.std.proofs.lemmas.Simd.{map-map}
use Rattle.contest_types.specs.State.{FixedPart, ContestState}
use Rattle.contest_types.specs.declared.audience.Audience.{Audience}
use Rattle.contest_types.specs.declared.submission.Submission.{Submission}
use Rattle.contest_types.specs.declared.submission.Release.{Release}
use Rattle.contest_score.specs.declared.submission.JudgedSubmission.{JudgedSubmission}
use Rattle.contest_score.specs.MaskedCells.{cell_for, IsAdmitted}
use Rattle.contest_score.specs.Contest.{seen_cell}
use Rattle.contest_score.specs.LastVerdicts.{judged_by, last_type}
use Rattle.contest_types.specs.Loads.{without_file}
use Rattle.contest_score.specs.Lists.{IsCountable}
use Rattle.contest_score.proofs.MaskLemmas.{map_same}
use Rattle.contest_score.proofs.LastTypes.{last_within}

pub judged_all : (f : FixedPart) (submissions : List Submission) (releases : List Release) → All (IsCountable f) submissions → All (λ v. v.verdict < length f.settings.types) releases
    → All (IsAdmitted f.settings f.marks) (map (judged_by (last_type releases)) submissions)
judged_all f submissions releases h types =
    All-map (IsAdmitted f.settings f.marks) (judged_by (last_type releases)) submissions
    (λ i d l. record { team = (h i d l).team; problem = (h i d l).problem; verdict = last_within (length f.settings.types) releases (get_or submissions i d).team (get_or submissions i d).number types; started = (h i d l).started })

pub judged_same : (f g : ℕ → ℕ → Option ℕ) → ((team number : ℕ) → f team number ≡ g team number) → (submissions : List Submission) → map (judged_by f) submissions ≡ map (judged_by g) submissions
judged_same f g h = map_same (judged_by f) (judged_by g) (λ s. let judged : Option ℕ → JudgedSubmission = λ v. record { team = s.team; problem = s.problem; time = s.time; verdict = v } in ap judged (h s.team s.number))

-- the cells of a contest are those of its lists
cells_of_lists : (a : Audience) (now : ℕ) (f : FixedPart) (submissions : List Submission) (releases : List Release) (us : List JudgedSubmission) (x : ContestState)
    → us ≡ map (judged_by (last_type releases)) submissions → x.fixed ≡ f → x.submissions ≡ submissions → x.releases ≡ releases
    → cell_for a f.settings f.marks now us ≡ seen_cell a now x
cells_of_lists a now f submissions releases us x h fixed sent released = rw (h, ← fixed, ← sent, ← released) refl

-- and files aren't read
pub files_unread : (types : ℕ → ℕ → Option ℕ) (submissions : List Submission) → map (judged_by types) (map without_file submissions) ≡ map (judged_by types) submissions
files_unread types submissions = map-map (judged_by types) without_file submissions

pub cells_of_loads : (a : Audience) (now : ℕ) (f : FixedPart) (submissions : List Submission) (releases : List Release) (us : List JudgedSubmission) (x : ContestState)
    → us ≡ map (judged_by (last_type releases)) submissions → x.fixed ≡ f → map without_file x.submissions ≡ submissions → x.releases ≡ releases
    → cell_for a f.settings f.marks now us ≡ seen_cell a now x
cells_of_loads a now f submissions releases us x h fixed sent released =
    cells_of_lists a now f x.submissions releases us x (h ∙ (rw (← sent) (files_unread (last_type releases) x.submissions))) fixed refl released
