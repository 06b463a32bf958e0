-- A hidden team moves nothing.
use Rattle.std.proofs.Common.{◌≡◌, ◌≢◌, ℕ, true, false, List, [], ◌∷◌, ◌++◌, Option, None, sym, ap, ◌∙◌, inl}
use Rattle.std.specs.Prelude.{◌&&◌, if◌then◌else◌}
use Rattle.std.specs.List.{filter_map}
use Rattle.std.proofs.Math.Path.{fun_ext}
use Rattle.std.proofs.lemmas.Bool.{false≢true, eqb-true}
use Rattle.contest_types.specs.TeamPlaces.{team_places, is_public}
use Rattle.contest_types.specs.Masks.{mask_for}
use Rattle.contest_types.specs.State.{ContestState, add, names, of_release}
use Rattle.contest_types.specs.declared.entry.Entry.{Entry}
use Rattle.contest_types.specs.declared.entry.Entry.TheVariants.{NewSubmission, NewProposal, NewRelease, NewClarification, NewRejudging, SetMember, SetRejudging, SetStart, SetThaw, SetFinalized, SetDuration, SetTeamName, SetDigest, NewType, NewLanguage, NewProblem, NewGroup, NewTeam, NewAccount}
use Rattle.contest_types.specs.declared.audience.Audience.{Audience}
use Rattle.contest_types.specs.declared.audience.Audience.TheVariants.{Jury}
use Rattle.contest_types.specs.declared.sight.Mask.{Mask}
use Rattle.contest_types.specs.declared.sight.Mask.TheVariants.{Full}
use Rattle.contest_types.specs.declared.submission.Submission.{Submission}
use Rattle.contest_types.specs.declared.submission.Release.{Release}
use Rattle.contest_types.proofs.PlaceLemmas.{and_left, and_right}
use Rattle.contest_score.specs.Scoring.{cell_of_attempts}
use Rattle.contest_score.specs.MaskedCells.{start_of}
use Rattle.contest_score.specs.Ranking.{is_on_board, problem_order}
use Rattle.contest_score.specs.Contest.{seen_cell, board_for, solve_of, solves_of}
use Rattle.contest_score.specs.Awards.{Award, awards_of, shows_awards, shown_awards}
use Rattle.contest_score.specs.ScoringLaws.{is_of_team, is_at, bears_on}
use Rattle.contest_score.proofs.BoardAlike.{board_same, on_board_public}
use Rattle.contest_score.proofs.AwardsAlike.{attempts_of, flat_map_kept, solve_from}
use Rattle.contest_score.proofs.OneChange.{attempts_but_one, attempts_but_its, none_passes, named_team}

-- a shown team isn't a hidden one
other_team : (x : ContestState) (team u : ℕ) → is_public x.fixed.settings team ≡ false → is_public x.fixed.settings u ≡ true → u ≢ team
other_team x team u h e same = false≢true (sym h ∙ (ap (is_public x.fixed.settings) (sym same) ∙ e))

-- a release to another team bears on none of this one's cells
bears_on_none : (x : ContestState) (v : Release) (u problem : ℕ) → u ≢ v.team → bears_on v x u problem ≡ false
bears_on_none x v u problem off =
    none_passes (λ (s : Submission). names s.team s.number (of_release v) && is_at u problem s) x.submissions
    (λ s h e.
    (let at : is_at u problem s ≡ true = and_right (names s.team s.number (of_release v)) _ e in
    let own : s.team ≡ u = eqb-true s.team u (and_left _ _ at) in
    off (sym (named_team v s (and_left _ _ e) ∙ own))))

-- the contest with other submissions and releases
abbrev with_lists : ContestState → List Submission → List Release → ContestState
with_lists x submissions releases = record x { submissions = submissions; releases = releases }

-- where the attempts of the shown teams stay, the board and the awards do
abbrev ShownStay : ContestState → List Submission → List Release → Type 0
ShownStay x submissions releases =
    (mask : Mask) (u problem : ℕ) → is_public x.fixed.settings u ≡ true → attempts_of mask (with_lists x submissions releases) u problem ≡ attempts_of mask x u problem

board_stays : (a : Audience) (now : ℕ) (group : Option ℕ) (x : ContestState) (submissions : List Submission) (releases : List Release) → ShownStay x submissions releases → board_for a now group (with_lists x submissions releases) ≡ board_for a now group x
board_stays a now group x submissions releases h =
    let s = x.fixed.settings in
    board_same s (is_on_board s group) (seen_cell a now (with_lists x submissions releases)) (seen_cell a now x)
    (λ u p e. ap (cell_of_attempts (start_of x.fixed.marks)) (h (mask_for a x.fixed.marks now u) u p (on_board_public s group u e)))

solves_stay : (x : ContestState) (submissions : List Submission) (releases : List Release) → ShownStay x submissions releases → solves_of (with_lists x submissions releases) ≡ solves_of x
solves_stay x submissions releases h =
    let s = x.fixed.settings in
    let y = with_lists x submissions releases in
    let one : (u : ℕ) → is_public s u ≡ true → solve_of y u ≡ solve_of x u = λ u e. fun_ext (λ p. ap (solve_from u p) (h Full u p e)) in
    flat_map_kept (is_public s) (λ u. filter_map (solve_of y u) (problem_order s)) (λ u. filter_map (solve_of x u) (problem_order s)) (λ u e. ap (λ f. filter_map f (problem_order s)) (one u e)) (team_places s)

awards_stay : (a : Audience) (now : ℕ) (x : ContestState) (submissions : List Submission) (releases : List Release) → ShownStay x submissions releases → shown_awards a now (with_lists x submissions releases) ≡ shown_awards a now x
awards_stay a now x submissions releases h =
    let s = x.fixed.settings in
    let y = with_lists x submissions releases in
    let pick : List Award → List Award = λ w. if shows_awards a now x then w else [] in
    let same : awards_of s (board_for Jury now None y) (solves_of y) ≡ awards_of s (board_for Jury now None x) (solves_of x) =
    ap (λ rows. awards_of s rows (solves_of y)) (board_stays Jury now None x submissions releases h) ∙ ap (awards_of s (board_for Jury now None x)) (solves_stay x submissions releases h) in
    ap pick same

submission_stays : (x : ContestState) (team : ℕ) (s : Submission) → is_public x.fixed.settings team ≡ false → s.team ≡ team → ShownStay x (x.submissions ++ s ∷ []) x.releases
submission_stays x team s h e = λ mask u p k. attempts_but_one mask x s u p (inl (λ same. other_team x team u h k (same ∙ e)))

release_stays : (x : ContestState) (team : ℕ) (v : Release) → is_public x.fixed.settings team ≡ false → v.team ≡ team → ShownStay x x.submissions (x.releases ++ v ∷ [])
release_stays x team v h e = λ mask u p k. attempts_but_its mask x v u p (bears_on_none x v u p (λ same. other_team x team u h k (same ∙ e)))

pub hidden_moves_no_board : (a : Audience) (now : ℕ) (group : Option ℕ) (x : ContestState) (team : ℕ) (e : Entry) → is_public x.fixed.settings team ≡ false → is_of_team team e ≡ true → board_for a now group (add x e) ≡ board_for a now group x
hidden_moves_no_board a now group x team (NewSubmission s) h k = board_stays a now group x (x.submissions ++ s ∷ []) x.releases (submission_stays x team s h (eqb-true s.team team k))
hidden_moves_no_board a now group x team (NewRelease v) h k = board_stays a now group x x.submissions (x.releases ++ v ∷ []) (release_stays x team v h (eqb-true v.team team k))
hidden_moves_no_board a now group x team (NewProposal p) h k = absurd (false≢true k)
hidden_moves_no_board a now group x team (NewClarification c) h k = absurd (false≢true k)
hidden_moves_no_board a now group x team (NewRejudging r) h k = absurd (false≢true k)
hidden_moves_no_board a now group x team (SetMember n place state) h k = absurd (false≢true k)
hidden_moves_no_board a now group x team (SetRejudging n state) h k = absurd (false≢true k)
hidden_moves_no_board a now group x team (SetStart start) h k = absurd (false≢true k)
hidden_moves_no_board a now group x team (SetThaw thaw) h k = absurd (false≢true k)
hidden_moves_no_board a now group x team (SetFinalized finalized) h k = absurd (false≢true k)
hidden_moves_no_board a now group x team (SetDuration duration freeze) h k = absurd (false≢true k)
hidden_moves_no_board a now group x team (SetTeamName named name) h k = absurd (false≢true k)
hidden_moves_no_board a now group x team (SetDigest id digest) h k = absurd (false≢true k)
hidden_moves_no_board a now group x team (NewType t) h k = absurd (false≢true k)
hidden_moves_no_board a now group x team (NewLanguage l) h k = absurd (false≢true k)
hidden_moves_no_board a now group x team (NewProblem p) h k = absurd (false≢true k)
hidden_moves_no_board a now group x team (NewGroup g) h k = absurd (false≢true k)
hidden_moves_no_board a now group x team (NewTeam t) h k = absurd (false≢true k)
hidden_moves_no_board a now group x team (NewAccount account) h k = absurd (false≢true k)

pub hidden_moves_no_award : (a : Audience) (now : ℕ) (x : ContestState) (team : ℕ) (e : Entry) → is_public x.fixed.settings team ≡ false → is_of_team team e ≡ true → shown_awards a now (add x e) ≡ shown_awards a now x
hidden_moves_no_award a now x team (NewSubmission s) h k = awards_stay a now x (x.submissions ++ s ∷ []) x.releases (submission_stays x team s h (eqb-true s.team team k))
hidden_moves_no_award a now x team (NewRelease v) h k = awards_stay a now x x.submissions (x.releases ++ v ∷ []) (release_stays x team v h (eqb-true v.team team k))
hidden_moves_no_award a now x team (NewProposal p) h k = absurd (false≢true k)
hidden_moves_no_award a now x team (NewClarification c) h k = absurd (false≢true k)
hidden_moves_no_award a now x team (NewRejudging r) h k = absurd (false≢true k)
hidden_moves_no_award a now x team (SetMember n place state) h k = absurd (false≢true k)
hidden_moves_no_award a now x team (SetRejudging n state) h k = absurd (false≢true k)
hidden_moves_no_award a now x team (SetStart start) h k = absurd (false≢true k)
hidden_moves_no_award a now x team (SetThaw thaw) h k = absurd (false≢true k)
hidden_moves_no_award a now x team (SetFinalized finalized) h k = absurd (false≢true k)
hidden_moves_no_award a now x team (SetDuration duration freeze) h k = absurd (false≢true k)
hidden_moves_no_award a now x team (SetTeamName named name) h k = absurd (false≢true k)
hidden_moves_no_award a now x team (SetDigest id digest) h k = absurd (false≢true k)
hidden_moves_no_award a now x team (NewType t) h k = absurd (false≢true k)
hidden_moves_no_award a now x team (NewLanguage l) h k = absurd (false≢true k)
hidden_moves_no_award a now x team (NewProblem p) h k = absurd (false≢true k)
hidden_moves_no_award a now x team (NewGroup g) h k = absurd (false≢true k)
hidden_moves_no_award a now x team (NewTeam t) h k = absurd (false≢true k)
hidden_moves_no_award a now x team (NewAccount account) h k = absurd (false≢true k)
