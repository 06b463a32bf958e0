-- The submissions that a walk gives: each by its numbers.
use Rattle.std.proofs.Common.{◌≡◌, ◌∙◌, ◌+◌, ◌≤◌, ℕ, zero, suc, true, List, [], ◌∷◌, length, map, Option, Some, None, refl, sym, ap, subst, arith, inl, inr}
use Rattle.std.specs.Prelude.{◌==◌, find, slice_get}
use Rattle.std.specs.Option.{option_map}
use Rattle.std.proofs.lemmas.List.{length-map}
use Rattle.std.proofs.lemmas.Option.{slice_get-map, slice_get_past}
use Rattle.std.proofs.lemmas.Bool.{eq-eqb, eqb-true}
use Rattle.contest_types.specs.Order.{Has}
use Rattle.contest_types.specs.Loads.{file_of, loaded_submissions, without_file}
use Rattle.contest_types.specs.State.{ContestState, submissions_of}
use Rattle.contest_types.specs.Valid.{is_valid}
use Rattle.contest_types.specs.declared.submission.Submission.{Submission}
use Rattle.contest_types.proofs.InOrderLemmas.{found_in, nothing_added}
use Rattle.contest_types.proofs.PlaceLemmas.{and_left, and_right, both_true}
use Rattle.contest_types.proofs.SeenWhole.{one_submission}
use Rattle.contest_view.specs.Rows.{row_cmp}
use Rattle.contest_view.proofs.NamedLemmas.{none_below, numbered}
use Rattle.contest_view.proofs.OwnNumbers.{find_both, number_of, own_numbers}
use Rattle.contest_exports.specs.Walks.{all_in_order, has_numbers, numbers_of}
use Rattle.contest_types.proofs.OwnLemmas.{own_loaded}

-- the submission with a submission's numbers is itself
named_is : (x : ContestState) (s : Submission) → is_valid x ≡ true → Has x.submissions s → find (has_numbers (numbers_of s)) x.submissions ≡ Some s
named_is x s valid there =
    let f = found_in (has_numbers (numbers_of s)) x.submissions s there (both_true _ _ (eq-eqb s.team s.team refl) (eq-eqb s.number s.number refl)) in
    let t = f.item in
    let team : t.team ≡ s.team = eqb-true t.team s.team (and_left _ _ f.passes) in
    let number : t.number ≡ s.number = eqb-true t.number s.number (and_right (t.team == s.team) _ f.passes) in
    f.found ∙ ap Some (one_submission x t s valid f.there there team number)

got_has : {X : Type 0} (xs : List X) (k : ℕ) (x : X) → slice_get xs k ≡ Some x → Has xs x
got_has [] k x e = absurd (cc (sym (slice_get_past [] k (omega arith)) ∙ e))
got_has (y ∷ ys) zero x e = inl (let same : y ≡ x = cc e in sym same)
got_has (y ∷ ys) (suc k) x e = inr (got_has ys k x e)

-- the submission with the numbers at a place of a walk is the one that stands there
pub in_its_turn : (x : ContestState) (order : List (ℕ × ℕ)) (k : ℕ) (numbers : ℕ × ℕ) → is_valid x ≡ true → order ≡ map numbers_of (all_in_order x) → slice_get order k ≡ Some numbers
    → find (has_numbers numbers) x.submissions ≡ slice_get (all_in_order x) k
in_its_turn x order k numbers valid is at =
    let rows = all_in_order x in
    let go : (o : Option Submission) → slice_get rows k ≡ o → option_map numbers_of o ≡ Some numbers → find (has_numbers numbers) x.submissions ≡ o = elim [
      | None ↦ λ e f. absurd (cc f)
      | (Some s) ↦ λ e f. (let same : numbers_of s ≡ numbers = cc f in
          subst (λ n. find (has_numbers n) x.submissions ≡ Some s) same (named_is x s valid (nothing_added (row_cmp x.fixed.settings) x.submissions s (got_has rows k s e))))
    ] in
    go (slice_get rows k) refl (sym (slice_get-map numbers_of rows k) ∙ (ap (λ ys. slice_get ys k) (sym is) ∙ at))

-- after the last one there is none
pub none_left : (x : ContestState) (order : List (ℕ × ℕ)) (k : ℕ) → order ≡ map numbers_of (all_in_order x) → length order ≤ k → None ≡ slice_get (all_in_order x) k
none_left x order k is past =
    let same = length-map (all_in_order x) numbers_of in
    let more = ap (λ ys. length ys) is in
    sym (slice_get_past (all_in_order x) k (omega (arith, past, same, more)))

-- the submission with these numbers, without its file, stands at its number among those of its team
pub found_at : (x : ContestState) → is_valid x ≡ true → (team place : ℕ)
    → option_map without_file (find (has_numbers (team, 1 + place)) x.submissions) ≡ slice_get (submissions_of team (loaded_submissions x)) place
found_at x valid team place =
    let own = submissions_of team x.submissions in
    ap (option_map without_file) (find_both (λ (s : Submission). s.team == team) (λ (s : Submission). s.number == 1 + place) x.submissions ∙ numbered own 1 (length (map number_of own)) place (own_numbers x team valid))
    ∙ (sym (slice_get-map without_file own place) ∙ ap (λ rows. slice_get rows place) (sym (own_loaded team x.submissions)))

-- none has the number 0
pub none_at_zero : (x : ContestState) → is_valid x ≡ true → (team : ℕ) → option_map without_file (find (has_numbers (team, 0)) x.submissions) ≡ None
none_at_zero x valid team =
    let own = submissions_of team x.submissions in
    ap (option_map without_file) (find_both (λ (s : Submission). s.team == team) (λ (s : Submission). s.number == 0) x.submissions
    ∙ none_below own 1 (length (map number_of own)) 0 (omega arith) (own_numbers x team valid))

-- a submission's row with its file is the submission
pub row_is : (x : ContestState) (numbers : ℕ × ℕ) (row : Submission) (file : List ℕ) → Some row ≡ option_map without_file (find (has_numbers numbers) x.submissions)
    → Some file ≡ file_of x numbers.0 numbers.1 → Some (record row { file = file }) ≡ find (has_numbers numbers) x.submissions
row_is x numbers row file rows files =
    let go : (o : Option Submission) → Some row ≡ option_map without_file o → Some file ≡ option_map (λ (s : Submission). s.file) o → Some (record row { file = file }) ≡ o = elim [
      | None ↦ λ r f. absurd (cc r)
      | (Some s) ↦ λ r f. (let row_same : row ≡ without_file s = cc r in
          let file_same : file ≡ s.file = cc f in
          ap (λ (t : Submission). Some (record t { file = file })) row_same ∙ ap (λ text. Some (record s { file = text })) file_same)
    ] in
    go (find (has_numbers numbers) x.submissions) rows files

-- where there is no such row, there is no submission
pub no_row : (x : ContestState) (numbers : ℕ × ℕ) → None ≡ option_map without_file (find (has_numbers numbers) x.submissions) → None ≡ find (has_numbers numbers) x.submissions
no_row x numbers none =
    let go : (o : Option Submission) → None ≡ option_map without_file o → ◌≡◌ {A = Option Submission} None o = elim [
      | None ↦ λ e. refl
      | (Some s) ↦ λ e. absurd (cc e)
    ] in
    go (find (has_numbers numbers) x.submissions) none

-- nor where there is no file
pub no_file : (x : ContestState) (numbers : ℕ × ℕ) → None ≡ file_of x numbers.0 numbers.1 → None ≡ find (has_numbers numbers) x.submissions
no_file x numbers none =
    let go : (o : Option Submission) → None ≡ option_map (λ (s : Submission). s.file) o → ◌≡◌ {A = Option Submission} None o = elim [
      | None ↦ λ e. refl
      | (Some s) ↦ λ e. absurd (cc e)
    ] in
    go (find (has_numbers numbers) x.submissions) none
