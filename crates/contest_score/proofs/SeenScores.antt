-- A board is the scoring of what its reader may see.
use Rattle.std.proofs.Common.{◌≡◌, ℕ, Bool, true, false, List, [], ◌∷◌, ◌++◌, Option, None, Some, refl, sym, ap, ◌∙◌, inl, inr, append_assoc}
use Rattle.std.specs.Prelude.{◌&&◌, ◌||◌, is_none, if◌then◌else◌}
use Rattle.std.specs.List.{list_any}
use Rattle.std.proofs.lemmas.List.Folds.{list_any-append}
use Rattle.std.proofs.Math.Bool.{or-true}
use Rattle.contest_types.specs.Clock.{freeze_of, is_thawed, is_finalized}
use Rattle.contest_types.specs.Masks.{is_jury, knows_all_of, mask_for}
use Rattle.contest_types.specs.State.{ContestState}
use Rattle.contest_types.specs.Sight.{sees_team}
use Rattle.contest_types.specs.declared.audience.Audience.{Audience}
use Rattle.contest_types.specs.declared.audience.Audience.TheVariants.{Jury}
use Rattle.contest_types.specs.declared.marks.Marks.{Marks}
use Rattle.contest_types.specs.declared.sight.Mask.TheVariants.{Full}
use Rattle.contest_score.specs.declared.attempt.Attempt.{Attempt}
use Rattle.contest_score.specs.Scoring.{is_solving, cell_of_attempts}
use Rattle.contest_score.specs.MaskedCells.{start_of}
use Rattle.contest_score.specs.Ranking.{board_rows, is_on_board}
use Rattle.contest_score.specs.Contest.{contest_cell, seen_cell, board_for, solves_of}
use Rattle.contest_score.specs.Awards.{awards_of, shows_awards, shown_awards}
use Rattle.contest_score.specs.Laws.{with_freeze}
use Rattle.contest_score.specs.ScoringLaws.{scored_by_sight, HoldsNothing, with_thaw}
use Rattle.contest_score.proofs.CellSteps.{cell_past}
use Rattle.contest_score.proofs.MaskLemmas.{attempts_seen}
use Rattle.contest_score.proofs.BoardAlike.{board_same, on_board_public, seen_of_public}
use Rattle.contest_score.proofs.AwardsAlike.{same_attempts}

pub cells_score_the_seen : (a : Audience) (now : ℕ) (x : ContestState) (team problem : ℕ) → sees_team a x.fixed.settings team ≡ true → seen_cell a now x team problem ≡ scored_by_sight a now x team problem
cells_score_the_seen a now x team problem h = ap (cell_of_attempts (start_of x.fixed.marks)) (attempts_seen a now x team problem h)

pub boards_score_the_seen : (a : Audience) (now : ℕ) (group : Option ℕ) (x : ContestState) → board_for a now group x ≡ board_rows x.fixed.settings (is_on_board x.fixed.settings group) (scored_by_sight a now x)
boards_score_the_seen a now group x =
    let s = x.fixed.settings in
    board_same s (is_on_board s group) (seen_cell a now x) (scored_by_sight a now x) (λ u p e. cells_score_the_seen a now x u p (seen_of_public a s u (on_board_public s group u e)))

thawed_full : (a : Audience) (marks : Marks) (now team : ℕ) → is_thawed marks now ≡ true → mask_for a marks now team ≡ Full
thawed_full a marks now team h =
    let go : (b : Bool) → (b || true) ≡ true = elim [ true ↦ refl | false ↦ refl ] in
    rw (h, go (knows_all_of a team)) refl

pub all_read_the_jurys_cells : (a : Audience) (now : ℕ) (x : ContestState) (team problem : ℕ) → HoldsNothing now x → seen_cell a now x team problem ≡ seen_cell Jury now x team problem
all_read_the_jurys_cells a now x team problem h = elim h [
  | inl thawed ↦ (let full : seen_cell a now x team problem ≡ contest_cell Full x team problem = ap (λ m. contest_cell m x team problem) (thawed_full a x.fixed.marks now team thawed) in full)
  | inr none ↦ ap (cell_of_attempts (start_of x.fixed.marks)) (same_attempts (mask_for a x.fixed.marks now team) x team problem none)
]

pub all_read_the_jurys_board : (a : Audience) (now : ℕ) (group : Option ℕ) (x : ContestState) → HoldsNothing now x → board_for a now group x ≡ board_for Jury now group x
all_read_the_jurys_board a now group x h =
    let s = x.fixed.settings in
    board_same s (is_on_board s group) (seen_cell a now x) (seen_cell Jury now x) (λ u p e. all_read_the_jurys_cells a now x u p h)

last_true : (b c : Bool) → (b || (c || true)) ≡ true
last_true true c = refl
last_true false true = refl
last_true false false = refl

middle_true : (b c : Bool) → (b || (true || c)) ≡ true
middle_true true c = refl
middle_true false c = refl

shown_to_all : (a : Audience) (now : ℕ) (x : ContestState) → HoldsNothing now x → shows_awards a now x ≡ shows_awards Jury now x
shown_to_all a now x h =
    let none = is_none (freeze_of x.fixed.settings x.fixed.marks) in
    let thawed = is_thawed x.fixed.marks now in
    let same : (b c : Bool) → c ≡ true → (is_jury a || (b || c)) ≡ true = λ b c e. rw e (last_true (is_jury a) b) in
    let any : (is_jury a || (none || thawed)) ≡ true = elim h [
      | inl e ↦ same none thawed e
      | inr e ↦ (rw e (middle_true (is_jury a) thawed))
    ] in
    ap (λ b. is_finalized x.fixed.marks now && b) any

pub all_read_the_jurys_awards : (a : Audience) (now : ℕ) (x : ContestState) → HoldsNothing now x → shown_awards a now x ≡ shown_awards Jury now x
all_read_the_jurys_awards a now x h =
    let list = awards_of x.fixed.settings (board_for Jury now None x) (solves_of x) in
    ap (λ b. if b then list else []) (shown_to_all a now x h)

pub jurys_board_ignores_the_freeze : (now : ℕ) (group : Option ℕ) (x : ContestState) (freeze thaw : Option ℕ) → board_for Jury now group (with_thaw (with_freeze x freeze) thaw) ≡ board_for Jury now group x
jurys_board_ignores_the_freeze now None x freeze thaw = refl
jurys_board_ignores_the_freeze now (Some group) x freeze thaw = refl

pub jurys_board_stays : (now later : ℕ) (group : Option ℕ) (x : ContestState) → board_for Jury now group x ≡ board_for Jury later group x
jurys_board_stays now later group x = refl

pub nothing_after_accepted : (start : ℕ) (earlier : List Attempt) (a : Attempt) (later : List Attempt) → is_solving a ≡ true → cell_of_attempts start (earlier ++ a ∷ later) ≡ cell_of_attempts start (earlier ++ a ∷ [])
nothing_after_accepted start earlier a later h =
    let yet : list_any is_solving (earlier ++ a ∷ []) ≡ true = list_any-append is_solving earlier (a ∷ []) ∙ (rw h (or-true (list_any is_solving earlier))) in
    let joined : (earlier ++ a ∷ []) ++ later ≡ earlier ++ a ∷ later = append_assoc earlier (a ∷ []) later in
    ap (cell_of_attempts start) (sym joined) ∙ cell_past start (earlier ++ a ∷ []) later yet
