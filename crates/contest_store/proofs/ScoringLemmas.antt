-- What scoring reads of lists, and of the same lists after a change.
use Rattle.std.proofs.Common.{◌≡◌, ◌∙◌, List, [], Option, Some, None, ap, append-nil, true, false, refl, sym}
use Rattle.std.proofs.lemmas.Bool.{false≢true}
use Rattle.std.specs.List.{last_or}
use Rattle.std.specs.Option.{option_map}
use Rattle.std.specs.Prelude.{◌==◌, ◌&&◌, if◌then◌else◌, ℕ}
use Rattle.contest_types.specs.Loads.{without_file}
use Rattle.contest_types.specs.Sight.{Judgement, judgement_of, last_on, type_of}
use Rattle.contest_types.specs.State.{ContestState, of_release, releases_on}
use Rattle.contest_types.specs.declared.entry.Entry.{Entry}
use Rattle.contest_types.specs.declared.entry.Entry.TheVariants.{NewSubmission, NewProposal, NewRelease, NewClarification, NewRejudging, SetMember, SetRejudging, SetStart, SetThaw, SetFinalized, SetDuration, SetTeamName, SetDigest, NewType, NewLanguage, NewProblem, NewGroup, NewTeam, NewAccount}
use Rattle.contest_types.specs.declared.submission.Release.{Release}
use Rattle.contest_types.specs.declared.submission.Submission.{Submission}
use Rattle.contest_lists.specs.RowsAdded.{added_releases, added_submissions, is_setting_or_mark}
use Rattle.contest_lists.specs.RowsOn.{last_row}
use Rattle.contest_score.specs.CachedCells.{AreCellsOf, cached_at, has_number, masked_cell}
use Rattle.contest_score.specs.declared.cached_cells.CachedCells.{CachedCells}
use Rattle.contest_score.proofs.CachedLemmas.{ScoredAlike, after_release, after_submission, cells_stay}
use Rattle.contest_store.specs.Grown.{IsGrown, scores_nothing}
use Rattle.contest_types.proofs.LastLemmas.{last_mapped}

mapped_again : {X Y Z : Type 0} (g : Y → Z) (f : X → Y) (o : Option X) → option_map g (option_map f o) ≡ option_map (λ x. g (f x)) o
mapped_again g f None = refl
mapped_again g f (Some x) = refl

-- the type of the last release on a submission
pub last_type : (vs : List Release) (team number : ℕ) → option_map (λ (v : Release). v.verdict) (last_row of_release vs team number) ≡ type_of (last_on vs team number)
last_type vs team number =
    sym (ap type_of (sym (last_mapped judgement_of None (releases_on team number vs))) ∙ mapped_again (λ (j : Judgement). j.verdict) judgement_of (last_or None (releases_on team number vs)))

-- what bears on no cell leaves what scoring reads
alike_still : (e : Entry) (x y : ContestState) → added_submissions e ≡ [] → added_releases e ≡ [] → is_setting_or_mark e ≡ false → IsGrown e x y → ScoredAlike x y
alike_still e x y no_submission no_release no_setting grown = record {
  settings = (grown.settings no_setting).0;
  marks = (grown.settings no_setting).1;
  submissions = grown.submissions ∙ (rw no_submission (append-nil x.submissions));
  releases = grown.releases ∙ (rw no_release (append-nil x.releases));
}

pub still_scored : (e : Entry) (x y : ContestState) (c : CachedCells) → scores_nothing e ≡ true → IsGrown e x y → AreCellsOf x c → AreCellsOf y c
still_scored (NewProposal p) x y c h grown = cells_stay x y c (alike_still (NewProposal p) x y refl refl refl grown)
still_scored (NewClarification a) x y c h grown = cells_stay x y c (alike_still (NewClarification a) x y refl refl refl grown)
still_scored (NewRejudging r) x y c h grown = cells_stay x y c (alike_still (NewRejudging r) x y refl refl refl grown)
still_scored (SetMember n place state) x y c h grown = cells_stay x y c (alike_still (SetMember n place state) x y refl refl refl grown)
still_scored (SetRejudging n state) x y c h grown = cells_stay x y c (alike_still (SetRejudging n state) x y refl refl refl grown)
still_scored (NewAccount a) x y c h grown = cells_stay x y c (alike_still (NewAccount a) x y refl refl refl grown)
still_scored (NewSubmission s) x y c h grown = absurd (false≢true h)
still_scored (NewRelease v) x y c h grown = absurd (false≢true h)
still_scored (SetStart start) x y c h grown = absurd (false≢true h)
still_scored (SetThaw thaw) x y c h grown = absurd (false≢true h)
still_scored (SetFinalized finalized) x y c h grown = absurd (false≢true h)
still_scored (SetDuration duration freeze) x y c h grown = absurd (false≢true h)
still_scored (SetTeamName team name) x y c h grown = absurd (false≢true h)
still_scored (SetDigest id digest) x y c h grown = cells_stay x y c (alike_still (SetDigest id digest) x y refl refl refl grown)
still_scored (NewType t) x y c h grown = absurd (false≢true h)
still_scored (NewLanguage l) x y c h grown = absurd (false≢true h)
still_scored (NewProblem p) x y c h grown = absurd (false≢true h)
still_scored (NewGroup g) x y c h grown = absurd (false≢true h)
still_scored (NewTeam t) x y c h grown = absurd (false≢true h)

pub scored_submission : (s : Submission) (x y : ContestState) (c d : CachedCells) → IsGrown (NewSubmission s) x y
    → ((t p : ℕ) → cached_at d t p ≡ (if (s.team == t) && (s.problem == p) then Some (masked_cell y s.team s.problem) else cached_at c t p)) → AreCellsOf x c → AreCellsOf y d
scored_submission s x y c d grown puts = after_submission x y (without_file s) c d
    (record { settings = (grown.settings refl).0; marks = (grown.settings refl).1; submissions = grown.submissions; releases = grown.releases ∙ append-nil x.releases }) puts

pub scored_release : (v : Release) (x y : ContestState) (c d : CachedCells) → IsGrown (NewRelease v) x y
    → ((t p : ℕ) → cached_at d t p ≡ (if has_number y v.team v.number t p then Some (masked_cell y t p) else cached_at c t p)) → AreCellsOf x c → AreCellsOf y d
scored_release v x y c d grown puts = after_release x y v c d
    (record { settings = (grown.settings refl).0; marks = (grown.settings refl).1; submissions = grown.submissions ∙ append-nil x.submissions; releases = grown.releases }) puts
