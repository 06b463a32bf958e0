-- What one change of a contest does to its cells.
use Rattle.std.proofs.Common.{◌≡◌, ◌≢◌, ◌⊎◌, ℕ, Bool, true, false, List, [], ◌∷◌, ◌++◌, map, filter, Option, Some, None, refl, sym, ap, ◌∙◌, inl, inr, append-nil}
use Rattle.std.specs.Prelude.{◌==◌, ◌&&◌, ◌||◌, not, if◌then◌else◌}
use Rattle.std.specs.List.{list_any, last_or}
use Rattle.std.specs.Option.{option_map}
use Rattle.std.proofs.Math.Path.{fun_ext}
use Rattle.std.proofs.lemmas.Simd.{map-map}
use Rattle.std.proofs.lemmas.List.Elements.{filter-append}
use Rattle.std.proofs.lemmas.Bool.{cases_Bool, false≢true, eqb-true, ne_eqb}
use Rattle.contest_types.specs.Addable.{is_addable, freezes_the_same}
use Rattle.contest_types.specs.Clock.{is_frozen}
use Rattle.contest_types.specs.Masks.{mask_for}
use Rattle.contest_types.specs.Order.{Has}
use Rattle.contest_types.specs.State.{ContestState, with_duration, add, names, of_release}
use Rattle.contest_types.specs.declared.entry.Entry.{Entry}
use Rattle.contest_types.specs.declared.entry.Entry.TheVariants.{NewSubmission, NewProposal, NewRelease, NewClarification, NewRejudging, SetMember, SetRejudging, SetStart, SetThaw, SetFinalized, SetDuration, SetTeamName, SetDigest, NewType, NewLanguage, NewProblem, NewGroup, NewTeam, NewAccount}
use Rattle.contest_types.specs.Sight.{Judgement, judgement_of, full_verdict}
use Rattle.contest_types.specs.Valid.{is_valid}
use Rattle.contest_types.specs.declared.audience.Audience.{Audience}
use Rattle.contest_types.specs.declared.sight.Mask.{Mask}
use Rattle.contest_types.specs.declared.sight.Mask.TheVariants.{Full, Held}
use Rattle.contest_types.specs.declared.marks.Marks.{Marks}
use Rattle.contest_types.specs.declared.objects.Group.{Group}
use Rattle.contest_types.specs.declared.objects.Language.{Language}
use Rattle.contest_types.specs.Setup.{Setup}
use Rattle.contest_score.specs.declared.cell.Cell.{Cell}
use Rattle.contest_score.specs.Ranking.{board_rows, is_on_board}
use Rattle.contest_types.specs.declared.submission.Submission.{Submission}
use Rattle.contest_types.specs.declared.submission.Release.{Release}
use Rattle.contest_types.proofs.PlaceLemmas.{and_left, and_right}
use Rattle.contest_types.proofs.ExtensionLemmas.{agreed, same_of_some}
use Rattle.contest_types.proofs.SeenWhole.{one_submission}
use Rattle.contest_score.specs.declared.submission.JudgedSubmission.{JudgedSubmission}
use Rattle.contest_score.specs.Scoring.{cell_of_attempts}
use Rattle.contest_score.specs.MaskedCells.{attempt_under, is_by, start_of, cell_under, verdict_of}
use Rattle.contest_score.specs.Contest.{judged_submission, judged_submissions, contest_cell, seen_cell, board_for}
use Rattle.contest_score.specs.Awards.{shown_awards}
use Rattle.contest_score.specs.CachedCells.{attempt_at}
use Rattle.contest_score.specs.ScoringLaws.{ExtensionMovesNoBoard, can_score, can_award, is_at, bears_on}
use Rattle.contest_score.proofs.MaskLemmas.{filter_mapped}
use Rattle.contest_score.proofs.AwardsAlike.{attempts_of}

-- the attempts are those of the submissions at the cell
pub attempts_are : (mask : Mask) (x : ContestState) (team problem : ℕ) → attempts_of mask x team problem ≡ map (attempt_at mask x) (filter (is_at team problem) x.submissions)
attempts_are mask x team problem =
    let under = attempt_under mask x.fixed.settings x.fixed.marks in
    ap (map under) (filter_mapped (is_by team problem) (is_at team problem) (judged_submission x) (λ s. refl) x.submissions)
    ∙ map-map under (judged_submission x) (filter (is_at team problem) x.submissions)

-- it stands at another cell
elsewhere : (s : Submission) (team problem : ℕ) → (team ≢ s.team) ⊎ (problem ≢ s.problem) → is_at team problem s ≡ false
elsewhere s team problem h =
    let off : (b : Bool) → (b && false) ≡ false = elim [ true ↦ refl | false ↦ refl ] in
    elim h [
      | inl t ↦ (let e : (s.team == team) ≡ false = ne_eqb s.team team (λ k. t (sym k)) in rw e refl)
      | inr p ↦ (let e : (s.problem == problem) ≡ false = ne_eqb s.problem problem (λ k. p (sym k)) in rw e (off (s.team == team)))
    ]

-- a submission at another cell leaves the attempts at this one
pub attempts_but_one : (mask : Mask) (x : ContestState) (s : Submission) (team problem : ℕ) → (team ≢ s.team) ⊎ (problem ≢ s.problem) → attempts_of mask (add x (NewSubmission s)) team problem ≡ attempts_of mask x team problem
attempts_but_one mask x s team problem h =
    let kept : filter (is_at team problem) (x.submissions ++ s ∷ []) ≡ filter (is_at team problem) x.submissions =
    filter-append (is_at team problem) x.submissions (s ∷ []) ∙ (rw (elsewhere s team problem h) (append-nil (filter (is_at team problem) x.submissions))) in
    let made : attempts_of mask (add x (NewSubmission s)) team problem ≡ map (attempt_at mask x) (filter (is_at team problem) (x.submissions ++ s ∷ [])) =
    attempts_are mask (add x (NewSubmission s)) team problem in
    made ∙ (ap (map (attempt_at mask x)) kept ∙ sym (attempts_are mask x team problem))

pub submission_moves_one_cell : (a : Audience) (now : ℕ) (x : ContestState) (s : Submission) (team problem : ℕ) → (team ≢ s.team) ⊎ (problem ≢ s.problem)
    → seen_cell a now (add x (NewSubmission s)) team problem ≡ seen_cell a now x team problem
submission_moves_one_cell a now x s team problem h =
    ap (cell_of_attempts (start_of x.fixed.marks)) (attempts_but_one (mask_for a x.fixed.marks now team) x s team problem h)

-- a release on another submission
same_verdict : (x : ContestState) (v : Release) (s : Submission) → names s.team s.number (of_release v) ≡ false → judged_submission (add x (NewRelease v)) s ≡ judged_submission x s
same_verdict x v s h =
    let on : Release → Bool = λ w. names s.team s.number (of_release w) in
    let kept : filter on (x.releases ++ v ∷ []) ≡ filter on x.releases = filter-append on x.releases (v ∷ []) ∙ (rw h (append-nil (filter on x.releases))) in
    let judged : Option ℕ → JudgedSubmission = λ o. record { team = s.team; problem = s.problem; time = s.time; verdict = o } in
    let verdict : full_verdict (add x (NewRelease v)) s ≡ full_verdict x s = ap (λ vs. option_map (λ (j : Judgement). j.verdict) (last_or None (map judgement_of vs))) kept in
    ap judged verdict

-- functions that agree on what is kept, but for what isn't there
same_unless : {X Y : Type 0} (f g : X → Y) (p q : X → Bool) → ((x : X) → q x ≡ false → f x ≡ g x) → (xs : List X) → list_any (λ x. q x && p x) xs ≡ false → map f (filter p xs) ≡ map g (filter p xs)
same_unless f g p q h [] none = refl
same_unless {X} {Y} f g p q h (x ∷ xs) none =
    let first : (b c : Bool) → (b || c) ≡ false → (b ≡ false) × (c ≡ false) = elim [ true ↦ λ c e. absurd (false≢true (sym e)) | false ↦ λ c e. (refl, e) ] in
    let parts = first (q x && p x) (list_any (λ y. q y && p y) xs) none in
    let rest = same_unless f g p q h xs parts.1 in
    let none_here : (b c : Bool) → (b && c) ≡ false → c ≡ true → b ≡ false = elim [ true ↦ λ c e k. absurd (false≢true (sym e ∙ k)) | false ↦ λ c e k. refl ] in
    let go : (b : Bool) → p x ≡ b → map f (if b then x ∷ filter p xs else filter p xs) ≡ map g (if b then x ∷ filter p xs else filter p xs) =
    elim [ true ↦ λ e. rw (h x (none_here (q x) (p x) parts.0 e), rest) refl | false ↦ λ e. rest ] in
    go (p x) refl

pub attempts_but_its : (mask : Mask) (x : ContestState) (v : Release) (team problem : ℕ) → bears_on v x team problem ≡ false → attempts_of mask (add x (NewRelease v)) team problem ≡ attempts_of mask x team problem
attempts_but_its mask x v team problem h =
    let under = attempt_under mask x.fixed.settings x.fixed.marks in
    let same : map (attempt_at mask (add x (NewRelease v))) (filter (is_at team problem) x.submissions) ≡ map (attempt_at mask x) (filter (is_at team problem) x.submissions) =
    same_unless (attempt_at mask (add x (NewRelease v))) (attempt_at mask x) (is_at team problem) (λ s. names s.team s.number (of_release v)) (λ s e. ap under (same_verdict x v s e)) x.submissions h in
    attempts_are mask (add x (NewRelease v)) team problem ∙ (same ∙ sym (attempts_are mask x team problem))

pub release_moves_its_cell : (a : Audience) (now : ℕ) (x : ContestState) (v : Release) (team problem : ℕ) → bears_on v x team problem ≡ false
    → seen_cell a now (add x (NewRelease v)) team problem ≡ seen_cell a now x team problem
release_moves_its_cell a now x v team problem h =
    ap (cell_of_attempts (start_of x.fixed.marks)) (attempts_but_its (mask_for a x.fixed.marks now team) x v team problem h)

-- where none of the list passes, none does
pub none_passes : {X : Type 0} (p : X → Bool) (xs : List X) → ((x : X) → Has xs x → p x ≡ true → ⊥) → list_any p xs ≡ false
none_passes p [] h = refl
none_passes {X} p (x ∷ xs) h =
    let rest = none_passes p xs (λ y k. h y (inr k)) in
    elim (cases_Bool (p x)) [ inl e ↦ absurd (h x (inl refl) e) | inr e ↦ rw (e, rest) refl ]

-- what a release names is its own
pub named_team : (v : Release) (s : Submission) → names s.team s.number (of_release v) ≡ true → v.team ≡ s.team
named_team v s h = eqb-true v.team s.team (and_left _ _ h)

pub named_number : (v : Release) (s : Submission) → names s.team s.number (of_release v) ≡ true → v.number ≡ s.number
named_number v s h = eqb-true v.number s.number (and_right (v.team == s.team) _ h)

pub release_moves_one_cell : (a : Audience) (now : ℕ) (x : ContestState) (v : Release) (s : Submission) (team problem : ℕ) → is_valid x ≡ true
    → Has x.submissions s → names s.team s.number (of_release v) ≡ true → (team ≢ s.team) ⊎ (problem ≢ s.problem)
    → seen_cell a now (add x (NewRelease v)) team problem ≡ seen_cell a now x team problem
release_moves_one_cell a now x v s team problem valid there is off =
    let none : bears_on v x team problem ≡ false = none_passes (λ t. names t.team t.number (of_release v) && is_at team problem t) x.submissions
    (λ t h e.
    (let on : names t.team t.number (of_release v) ≡ true = and_left _ _ e in
    let same : t ≡ s = one_submission x t s valid h there (sym (named_team v t on) ∙ named_team v s is) (sym (named_number v t on) ∙ named_number v s is) in
    let at : is_at team problem s ≡ true = ap (is_at team problem) (sym same) ∙ and_right (names t.team t.number (of_release v)) _ e in
    false≢true (sym (elsewhere s team problem off) ∙ at))) in
    release_moves_its_cell a now x v team problem none

-- under a mask, a cell doesn't depend on finalizing, nor on languages and groups
finalizing_scores_nothing : (mask : Mask) (s : Setup) (marks : Marks) (finalized : Option ℕ) (us : List JudgedSubmission) → cell_under mask s (record marks { finalized = finalized }) us ≡ cell_under mask s marks us
finalizing_scores_nothing Full s marks finalized us = refl
finalizing_scores_nothing Held s marks finalized us = refl

languages_score_nothing : (mask : Mask) (s : Setup) (marks : Marks) (languages : List Language) (us : List JudgedSubmission) → cell_under mask (record s { languages = languages }) marks us ≡ cell_under mask s marks us
languages_score_nothing Full s marks languages us = refl
languages_score_nothing Held s marks languages us = refl

groups_score_nothing : (mask : Mask) (s : Setup) (marks : Marks) (groups : List Group) (us : List JudgedSubmission) → cell_under mask (record s { groups = groups }) marks us ≡ cell_under mask s marks us
groups_score_nothing Full s marks groups us = refl
groups_score_nothing Held s marks groups us = refl

-- the same cells make the same board
with_board : (a : Audience) (now : ℕ) (group : Option ℕ) (x y : ContestState) → ((cells : ℕ → ℕ → Cell) → board_rows y.fixed.settings (is_on_board y.fixed.settings group) cells ≡ board_rows x.fixed.settings (is_on_board x.fixed.settings group) cells)
    → seen_cell a now y ≡ seen_cell a now x → (seen_cell a now y ≡ seen_cell a now x) × (board_for a now group y ≡ board_for a now group x)
with_board a now group x y h cells = (cells, h (seen_cell a now y) ∙ ap (board_rows x.fixed.settings (is_on_board x.fixed.settings group)) cells)

-- new languages and new groups change no board of the same cells
with_languages : (s : Setup) (group : Option ℕ) (languages : List Language) (cells : ℕ → ℕ → Cell) → board_rows (record s { languages = languages }) (is_on_board (record s { languages = languages }) group) cells ≡ board_rows s (is_on_board s group) cells
with_languages s None languages cells = refl
with_languages s (Some group) languages cells = refl

with_groups : (s : Setup) (group : Option ℕ) (groups : List Group) (cells : ℕ → ℕ → Cell) → board_rows (record s { groups = groups }) (is_on_board (record s { groups = groups }) group) cells ≡ board_rows s (is_on_board s group) cells
with_groups s None groups cells = refl
with_groups s (Some group) groups cells = refl

pub nothing_else_scores : (a : Audience) (now : ℕ) (group : Option ℕ) (x : ContestState) (e : Entry) → can_score e ≡ false → (seen_cell a now (add x e) ≡ seen_cell a now x) × (board_for a now group (add x e) ≡ board_for a now group x)
nothing_else_scores a now group x (NewSubmission s) h = absurd (false≢true (sym h))
nothing_else_scores a now group x (NewProposal p) h = (refl, refl)
nothing_else_scores a now group x (NewRelease v) h = absurd (false≢true (sym h))
nothing_else_scores a now group x (NewClarification c) h = (refl, refl)
nothing_else_scores a now group x (NewRejudging r) h = (refl, refl)
nothing_else_scores a now group x (SetMember n place state) h = (refl, refl)
nothing_else_scores a now group x (SetRejudging n state) h = (refl, refl)
nothing_else_scores a now group x (SetStart start) h = absurd (false≢true (sym h))
nothing_else_scores a now group x (SetThaw thaw) h = absurd (false≢true (sym h))
nothing_else_scores a now group x (SetFinalized finalized) h =
    with_board a now group x (add x (SetFinalized finalized)) (λ cells. refl)
    (fun_ext (λ team. ap (λ c. c team) (finalizing_scores_nothing (mask_for a x.fixed.marks now team) x.fixed.settings x.fixed.marks (Some finalized) (judged_submissions x))))
nothing_else_scores a now group x (SetDuration duration freeze) h = absurd (false≢true (sym h))
nothing_else_scores a now group x (SetTeamName team name) h = absurd (false≢true (sym h))
nothing_else_scores a now group x (SetDigest id digest) h = (refl, refl)
nothing_else_scores a now group x (NewType t) h = absurd (false≢true (sym h))
nothing_else_scores a now group x (NewLanguage l) h =
    with_board a now group x (add x (NewLanguage l)) (with_languages x.fixed.settings group (x.fixed.settings.languages ++ l ∷ []))
    (fun_ext (λ team. ap (λ c. c team) (languages_score_nothing (mask_for a x.fixed.marks now team) x.fixed.settings x.fixed.marks (x.fixed.settings.languages ++ l ∷ []) (judged_submissions x))))
nothing_else_scores a now group x (NewProblem p) h = absurd (false≢true (sym h))
nothing_else_scores a now group x (NewGroup g) h =
    with_board a now group x (add x (NewGroup g)) (with_groups x.fixed.settings group (x.fixed.settings.groups ++ g ∷ []))
    (fun_ext (λ team. ap (λ c. c team) (groups_score_nothing (mask_for a x.fixed.marks now team) x.fixed.settings x.fixed.marks (x.fixed.settings.groups ++ g ∷ []) (judged_submissions x))))
nothing_else_scores a now group x (NewTeam t) h = absurd (false≢true (sym h))
nothing_else_scores a now group x (NewAccount account) h = (refl, refl)

-- where the same submissions are frozen, the cells are the same
module _ (x : ContestState) (duration : ℕ) (freeze : Option ℕ) (may : is_addable x (SetDuration duration freeze) ≡ true) where
  abbrev s : Setup
  s = x.fixed.settings

  abbrev t : Setup
  t = with_duration s duration freeze

  abbrev y : ContestState
  y = add x (SetDuration duration freeze)

  abbrev agree : Submission → Bool
  agree u = if is_frozen s x.fixed.marks u.time then is_frozen t x.fixed.marks u.time else not (is_frozen t x.fixed.marks u.time)

  attempt_stays : (mask : Mask) (u : Submission) → agree u ≡ true → attempt_at mask y u ≡ attempt_at mask x u
  attempt_stays Full u h = refl
  attempt_stays Held u h = ap (λ frozen. record { time = u.time; verdict = verdict_of s.types (if frozen then None else full_verdict x u) }) (agreed (is_frozen s x.fixed.marks u.time) (is_frozen t x.fixed.marks u.time) h)

  pub cell_stays : (mask : Mask) (team problem : ℕ) → contest_cell mask y team problem ≡ contest_cell mask x team problem
  cell_stays mask team problem =
      ap (cell_of_attempts (start_of x.fixed.marks))
      (attempts_are mask y team problem
      ∙ (same_of_some (attempt_at mask y) (attempt_at mask x) agree (is_at team problem) (attempt_stays mask) x.submissions (and_right _ (freezes_the_same s t x.fixed.marks x.submissions) may)
      ∙ sym (attempts_are mask x team problem)))

  rows_stay : (group : Option ℕ) (cells : ℕ → ℕ → Cell) → board_rows t (is_on_board t group) cells ≡ board_rows s (is_on_board s group) cells
  rows_stay None cells = refl
  rows_stay (Some group) cells = refl

  pub extension_stays : (a : Audience) (now : ℕ) (group : Option ℕ) → (seen_cell a now y ≡ seen_cell a now x) × (board_for a now group y ≡ board_for a now group x)
  extension_stays a now group = with_board a now group x y (rows_stay group) (fun_ext (λ team. fun_ext (λ problem. cell_stays (mask_for a x.fixed.marks now team) team problem)))

pub extension_moves_no_board : ExtensionMovesNoBoard
extension_moves_no_board a now group x duration freeze may = extension_stays x duration freeze may a now group

pub nothing_else_awards : (a : Audience) (now : ℕ) (x : ContestState) (e : Entry) → can_award e ≡ false → shown_awards a now (add x e) ≡ shown_awards a now x
nothing_else_awards a now x (NewSubmission s) h = absurd (false≢true (sym h))
nothing_else_awards a now x (NewProposal p) h = refl
nothing_else_awards a now x (NewRelease v) h = absurd (false≢true (sym h))
nothing_else_awards a now x (NewClarification c) h = refl
nothing_else_awards a now x (NewRejudging r) h = refl
nothing_else_awards a now x (SetMember n place state) h = refl
nothing_else_awards a now x (SetRejudging n state) h = refl
nothing_else_awards a now x (SetStart start) h = absurd (false≢true (sym h))
nothing_else_awards a now x (SetThaw thaw) h = absurd (false≢true (sym h))
nothing_else_awards a now x (SetFinalized finalized) h = absurd (false≢true (sym h))
nothing_else_awards a now x (SetDuration duration freeze) h = absurd (false≢true (sym h))
nothing_else_awards a now x (SetTeamName team name) h = absurd (false≢true (sym h))
nothing_else_awards a now x (SetDigest id digest) h = refl
nothing_else_awards a now x (NewType t) h = absurd (false≢true (sym h))
nothing_else_awards a now x (NewLanguage l) h = refl
nothing_else_awards a now x (NewProblem p) h = absurd (false≢true (sym h))
nothing_else_awards a now x (NewGroup g) h = absurd (false≢true (sym h))
nothing_else_awards a now x (NewTeam t) h = absurd (false≢true (sym h))
nothing_else_awards a now x (NewAccount account) h = refl
