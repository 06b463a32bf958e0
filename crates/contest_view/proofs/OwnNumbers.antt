-- A team's submissions are numbered one after another, with or without their files.
use Rattle.std.proofs.Common.{◌≡◌, ℕ, Bool, true, false, cond, List, [], ◌∷◌, length, map, Some, refl, ap}
use Rattle.std.specs.Prelude.{◌&&◌, find, filter}
use Rattle.std.specs.List.{range_with_len, list_all}
use Rattle.std.proofs.lemmas.Slice.Eq.{bytes_eq-Decides}
use Rattle.contest_types.specs.PlainRows.{plain_submission}
use Rattle.contest_types.specs.State.{ContestState, submissions_of}
use Rattle.contest_types.specs.Series.{count_up}
use Rattle.contest_types.specs.Valid.{is_valid}
use Rattle.contest_types.specs.ValidSubmissions.{is_valid_submission, of_one_team, are_valid_submissions}
use Rattle.contest_types.specs.declared.submission.Submission.{Submission}
use Rattle.contest_types.proofs.PlaceLemmas.{and_right}
use Rattle.contest_types.proofs.ValidParts.{parts, four}
use Rattle.contest_types.proofs.SeriesLemmas.{in_any}
use Rattle.contest_types.proofs.AddLemmas.{one_team}

abbrev pub number_of : Submission → ℕ
number_of s = s.number

-- the first that passes both tests is the first of those that pass the one that passes the other
pub find_both : {X : Type 0} (p q : X → Bool) (xs : List X) → find (λ x. p x && q x) xs ≡ find q (filter p xs)
find_both p q [] = refl
find_both p q (x ∷ xs) =
    let go : (b : Bool) → p x ≡ b → find (λ x. p x && q x) (x ∷ xs) ≡ find q (filter p (x ∷ xs)) = elim [
      | true ↦ λ is. rw is (ap (λ rest. cond (q x) (Some x) rest) (find_both p q xs))
      | false ↦ λ is. rw is (find_both p q xs)
    ] in
    go (p x) refl

-- a team's submissions are numbered 1, 2, 3 and so on
pub own_numbers : (x : ContestState) (team : ℕ) → is_valid x ≡ true
    → map number_of (submissions_of team x.submissions) ≡ range_with_len 1 (length (map number_of (submissions_of team x.submissions)))
own_numbers x team valid =
    let own = submissions_of team x.submissions in
    let one : Submission = plain_submission team 0 0 0 0 in
    let series : are_valid_submissions own ≡ true = in_any of_one_team are_valid_submissions one_team refl x.submissions one (and_right (list_all (is_valid_submission x.fixed) x.submissions) _ (parts x valid).submissions) in
    let counted : count_up (map number_of own) ≡ true = (four (count_up (map number_of own)) _ _ _ series).first in
    (bytes_eq-Decides (map number_of own) (range_with_len 1 (length (map number_of own)))).0 counted
