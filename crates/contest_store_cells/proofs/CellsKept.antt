-- Changes but submissions and releases leave the rows of all cells.
use Rattle.std.proofs.Common.{◌≡◌, ◌∙◌, ◌<◌, ℕ, Bool, true, false, List, [], ◌∷◌, ◌++◌, length, Option, Some, None, refl, sym, ap, subst}
use Rattle.std.specs.Prelude.{IfSome, not, if◌then◌else◌}
use Rattle.std.specs.List.{AllByRecursion}
use Rattle.std.specs.Option.{option_map, option_map_or}
use Rattle.std.proofs.lemmas.Bool.{eqb-true, false≢true}
use Rattle.std.proofs.lemmas.List.{nil_from_length}
use Rattle.sqlite_keyed.proofs.ListLemmas.{all_of, all_weaker}
use Rattle.contest_types.specs.Addable.{freezes_the_same, is_addable}
use Rattle.contest_types.specs.Clock.{is_frozen}
use Rattle.contest_types.specs.Masks.{verdict_under}
use Rattle.contest_types.specs.ProblemPlaces.{problem_id_at}
use Rattle.contest_types.specs.Setup.{Setup}
use Rattle.contest_types.specs.Sight.{full_verdict}
use Rattle.contest_types.specs.State.{ContestState, add, with_duration}
use Rattle.contest_types.specs.Valid.{is_valid}
use Rattle.contest_types.specs.declared.entry.Entry.{Entry}
use Rattle.contest_types.specs.declared.entry.Entry.TheVariants.{NewSubmission, NewProposal, NewRelease, NewClarification, NewRejudging, SetMember, SetRejudging, SetStart, SetThaw, SetFinalized, SetDuration, SetTeamName, SetDigest, NewType, NewLanguage, NewProblem, NewGroup, NewTeam, NewAccount}
use Rattle.contest_types.specs.declared.objects.JudgementType.{JudgementType}
use Rattle.contest_types.specs.declared.objects.Problem.{Problem}
use Rattle.contest_types.specs.declared.sight.Mask.{Mask}
use Rattle.contest_types.specs.declared.sight.Mask.TheVariants.{Full, Held}
use Rattle.contest_types.specs.declared.submission.Submission.{Submission}
use Rattle.contest_types.proofs.ExtensionLemmas.{agreed, same_of_some}
use Rattle.contest_types.proofs.PlaceLemmas.{and_left, and_right}
use Rattle.contest_score.specs.CachedCells.{attempt_at}
use Rattle.contest_score.specs.Contest.{contest_cell}
use Rattle.contest_score.specs.MaskedCells.{start_of, verdict_of}
use Rattle.contest_score.specs.Scoring.{cell_of_attempts}
use Rattle.contest_score.specs.ScoringLaws.{is_at}
use Rattle.contest_score.specs.declared.attempt.Attempt.{Attempt}
use Rattle.contest_score.specs.declared.attempt.Verdict.{Verdict}
use Rattle.contest_score.proofs.LastTypes.{last_within}
use Rattle.contest_score.proofs.MaskLemmas.{map_same}
use Rattle.contest_score.proofs.OneChange.{attempts_are}
use Rattle.contest_score.proofs.ValidLists.{valid_can_be_scored}
use Rattle.contest_store_cells.specs.CellRows.{cell_row, cell_rows, first_attempts}
use Rattle.contest_store_cells.specs.CellLaws.{is_on_a_submission}
use Rattle.contest_store_cells.proofs.CellChanges.{HasSameRow, cells_same}
use Rattle.contest_store_cells.proofs.CellOrder.{is_placed}
use Rattle.contest_store_cells.proofs.FirstAttempts.{all_first}
use Rattle.contest_types.proofs.GrownSettings.{at_append}

-- where no submission stands there are no cells
no_start : (x : ContestState) (start : Option ℕ) → is_addable x (SetStart start) ≡ true → cell_rows (add x (SetStart start)) ≡ cell_rows x
no_start x start may =
    let none : x.submissions ≡ [] = nil_from_length x.submissions (eqb-true (length x.submissions) 0 (and_left _ _ (and_left _ _ may))) in
    cells_same x (add x (SetStart start)) refl (subst (λ ss. AllByRecursion (HasSameRow x (add x (SetStart start))) (first_attempts ss)) (sym none) tt)

-- a mark or a setting that no cell reads
unread : (x y : ContestState) → first_attempts y.submissions ≡ first_attempts x.submissions → ((s : Submission) → HasSameRow x y s) → cell_rows y ≡ cell_rows x
unread x y first same = cells_same x y first (all_of (HasSameRow x y) same (first_attempts x.submissions))

-- another duration, under which the same submissions are frozen
module _ (x : ContestState) (duration : ℕ) (freeze : Option ℕ) (may : is_addable x (SetDuration duration freeze) ≡ true) where
  abbrev was : Setup
  was = x.fixed.settings

  abbrev extended : Setup
  extended = with_duration was duration freeze

  abbrev after : ContestState
  after = add x (SetDuration duration freeze)

  abbrev agree : Submission → Bool
  agree u = if is_frozen was x.fixed.marks u.time then is_frozen extended x.fixed.marks u.time else not (is_frozen extended x.fixed.marks u.time)

  as_frozen : (mask : Mask) (u : Submission) → agree u ≡ true → attempt_at mask after u ≡ attempt_at mask x u
  as_frozen Full u h = refl
  as_frozen Held u h =
      let made : Bool → Attempt = λ frozen. record { time = u.time; verdict = verdict_of was.types (if frozen then None else full_verdict x u) } in
      ap made (agreed (is_frozen was x.fixed.marks u.time) (is_frozen extended x.fixed.marks u.time) h)

  pub duration_keeps : cell_rows after ≡ cell_rows x
  duration_keeps = unread x after refl (λ u mask.
      let kept = same_of_some (attempt_at mask after) (attempt_at mask x) agree (is_at u.team u.problem) (as_frozen mask) x.submissions (and_right _ (freezes_the_same was extended x.fixed.marks x.submissions) may) in
      let same : contest_cell mask after u.team u.problem ≡ contest_cell mask x u.team u.problem =
      ap (cell_of_attempts (start_of x.fixed.marks)) (attempts_are mask after u.team u.problem ∙ kept ∙ sym (attempts_are mask x u.team u.problem)) in
      ap (cell_row was mask u.team u.problem) same)

-- a new judgement type, which no release names yet
module _ (x : ContestState) (t : JudgementType) (valid : is_valid x ≡ true) where
  abbrev s : Setup
  s = x.fixed.settings

  abbrev y : ContestState
  y = add x (NewType t)

  abbrev IsThere : Option ℕ → Type 0
  IsThere v = IfSome v (λ place. place < length s.types)

  same_type : (v : Option ℕ) → IsThere v → verdict_of (s.types ++ t ∷ []) v ≡ verdict_of s.types v
  same_type None there = refl
  same_type (Some place) there = ap (option_map (λ (u : JudgementType). record { solving = u.solved; penalised = u.penalty })) (at_append s.types (t ∷ []) place there)

  same_verdict : (mask : Mask) (time : ℕ) (v : Option ℕ) → IsThere v → verdict_of (s.types ++ t ∷ []) (verdict_under mask y.fixed.settings x.fixed.marks time v) ≡ verdict_of s.types (verdict_under mask s x.fixed.marks time v)
  same_verdict Full time v there = same_type v there
  same_verdict Held time v there =
      let go : (b : Bool) → verdict_of (s.types ++ t ∷ []) (if b then None else v) ≡ verdict_of s.types (if b then None else v) = elim [ true ↦ refl | false ↦ same_type v there ] in
      go (is_frozen s x.fixed.marks time)

  same_attempt : (mask : Mask) (u : Submission) → attempt_at mask y u ≡ attempt_at mask x u
  same_attempt mask u =
      let made : Option Verdict → Attempt = λ v. record { time = u.time; verdict = v } in
      ap made (same_verdict mask u.time (full_verdict x u) (last_within (length s.types) x.releases u.team u.number (valid_can_be_scored x valid).0.of_types))

  pub type_keeps : cell_rows y ≡ cell_rows x
  type_keeps = unread x y refl (λ u mask.
      let same : contest_cell mask y u.team u.problem ≡ contest_cell mask x u.team u.problem =
      ap (cell_of_attempts (start_of x.fixed.marks)) (attempts_are mask y u.team u.problem ∙ map_same (attempt_at mask y) (attempt_at mask x) (same_attempt mask) _ ∙ sym (attempts_are mask x u.team u.problem)) in
      ap (cell_row s mask u.team u.problem) same)

-- a new problem, which no submission names yet
id_kept : (ps : List Problem) (p : Problem) (i : ℕ) → i < length ps → problem_id_at (ps ++ p ∷ []) i ≡ problem_id_at ps i
id_kept ps p i within = ap (λ (o : Option Problem). option_map_or (λ (q : Problem). q.id) o []) (at_append ps (p ∷ []) i within)

problem_keeps : (x : ContestState) (p : Problem) → is_valid x ≡ true → cell_rows (add x (NewProblem p)) ≡ cell_rows x
problem_keeps x p valid =
    let y = add x (NewProblem p) in
    cells_same x y refl (all_weaker (λ (s : Submission). s.problem < length x.fixed.settings.problems) (HasSameRow x y) (λ s there. named s (id_kept x.fixed.settings.problems p s.problem there))
    (first_attempts x.submissions) (all_first (λ (s : Submission). s.problem < length x.fixed.settings.problems) x.submissions (is_placed x valid).within))
  where
    named : (s : Submission) → problem_id_at (x.fixed.settings.problems ++ p ∷ []) s.problem ≡ problem_id_at x.fixed.settings.problems s.problem → HasSameRow x (add x (NewProblem p)) s
    named s id Full = rw id refl
    named s id Held = rw id refl

pub others_keep_cells : (x : ContestState) (e : Entry) → is_valid x ≡ true → is_addable x e ≡ true → is_on_a_submission e ≡ false → cell_rows (add x e) ≡ cell_rows x
others_keep_cells x (NewSubmission s) valid may h = absurd (false≢true (sym h))
others_keep_cells x (NewRelease v) valid may h = absurd (false≢true (sym h))
others_keep_cells x (NewProposal p) valid may h = refl
others_keep_cells x (NewClarification c) valid may h = refl
others_keep_cells x (NewRejudging r) valid may h = refl
others_keep_cells x (SetMember n place state) valid may h = refl
others_keep_cells x (SetRejudging n state) valid may h = refl
others_keep_cells x (NewAccount a) valid may h = refl
others_keep_cells x (SetStart start) valid may h = no_start x start may
others_keep_cells x (SetThaw thaw) valid may h = unread x (add x (SetThaw thaw)) refl (λ s. elim [ Full ↦ refl | Held ↦ refl ])
others_keep_cells x (SetFinalized finalized) valid may h = unread x (add x (SetFinalized finalized)) refl (λ s. elim [ Full ↦ refl | Held ↦ refl ])
others_keep_cells x (SetDuration duration freeze) valid may h = duration_keeps x duration freeze may
others_keep_cells x (SetTeamName team name) valid may h = unread x (add x (SetTeamName team name)) refl (λ s. elim [ Full ↦ refl | Held ↦ refl ])
others_keep_cells x (SetDigest id digest) valid may h = refl
others_keep_cells x (NewLanguage l) valid may h = unread x (add x (NewLanguage l)) refl (λ s. elim [ Full ↦ refl | Held ↦ refl ])
others_keep_cells x (NewGroup g) valid may h = unread x (add x (NewGroup g)) refl (λ s. elim [ Full ↦ refl | Held ↦ refl ])
others_keep_cells x (NewTeam t) valid may h = unread x (add x (NewTeam t)) refl (λ s. elim [ Full ↦ refl | Held ↦ refl ])
others_keep_cells x (NewType t) valid may h = type_keeps x t valid
others_keep_cells x (NewProblem p) valid may h = problem_keeps x p valid
