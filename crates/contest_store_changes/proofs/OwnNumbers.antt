-- The submissions of a team with one number: in a valid contest there is at most one.
use Rattle.std.proofs.Common.{◌≡◌, ◌∙◌, ◌⊎◌, ◌≤◌, ◌<◌, ◌+◌, ℕ, suc, Bool, true, false, List, [], ◌∷◌, length, map, filter, refl, ap, inl, inr, arith}
use Rattle.std.specs.Prelude.{◌==◌, nat_lt, nat_le, if◌then◌else◌}
use Rattle.std.specs.List.{list_all, range_with_len}
use Rattle.std.proofs.lemmas.Bool.Decides.{nat_tests}
use Rattle.std.proofs.lemmas.List.{length-map}
use Rattle.std.proofs.lemmas.Slice.Eq.{bytes_eq-Decides}
use Rattle.std.proofs.lemmas.Bool.{leb-true}
use Rattle.contest_types.specs.PlainRows.{plain_submission}
use Rattle.contest_types.specs.Series.{count_up, have_own_keys, never_fall}
use Rattle.contest_types.specs.State.{ContestState, names, of_submission, submissions_of}
use Rattle.contest_types.specs.Valid.{is_valid}
use Rattle.contest_types.specs.ValidSubmissions.{are_valid_submissions, is_valid_submission, of_one_team}
use Rattle.contest_types.specs.declared.limits.TheConstants.{TEAM_SUBMISSIONS, TEAMS}
use Rattle.contest_types.specs.declared.submission.Submission.{Submission}
use Rattle.contest_types.proofs.AddLemmas.{one_team}
use Rattle.contest_types.proofs.PlaceLemmas.{and_left, and_right}
use Rattle.contest_types.proofs.SeriesLemmas.{in_any}
use Rattle.contest_types.proofs.SetupLemmas.{all_wider}
use Rattle.contest_types.proofs.ValidParts.{four, parts}
use Rattle.contest_types.proofs.Ranges.{first_is, rest_is}
use Rattle.contest_types.proofs.Filters.{filter_both}
use Rattle.contest_types.proofs.GroupLemmas.{not_below}

abbrev pub number_of : Submission → ℕ
number_of s = s.number

abbrev with_number : ℕ → List Submission → List Submission
with_number n = filter (λ s. s.number == n)

-- those of the team with the number
abbrev pub named_by : (team number : ℕ) → List Submission → List Submission
named_by team number = filter (λ s. names team number (of_submission s))

-- a number that is none of so many from k on
abbrev IsOut : (k count n : ℕ) → Type 0
IsOut k count n = (n < k) ⊎ (k + count ≤ n)

not_first : (a k count n : ℕ) → a ≡ k → IsOut k (suc count) n → (a == n) ≡ false
not_first a k count n is (inl low) = grind (arith, nat_tests, is, low)
not_first a k count n is (inr high) = grind (arith, nat_tests, is, high)

not_later : (k count n : ℕ) → IsOut k (suc count) n → IsOut (k + 1) count n
not_later k count n (inl low) = inl (omega (arith, low))
not_later k count n (inr high) = inr (omega (arith, high))

none_out : (k n : ℕ) (ss : List Submission) → map number_of ss ≡ range_with_len k (length ss) → IsOut k (length ss) n → with_number n ss ≡ []
none_out k n [] up out = refl
none_out k n (s ∷ ss) up out =
    let other : (s.number == n) ≡ false = not_first s.number k (length ss) n (first_is _ k (length ss) _ up) out in
    rw other (none_out (k + 1) n ss (rest_is _ k (length ss) _ up) (not_later k (length ss) n out))

passed : (a k n : ℕ) → a ≡ k → (a == n) ≡ true → n < k + 1
passed a k n is same = grind (arith, nat_tests, is, same)

at_most_one : (k n : ℕ) (ss : List Submission) → map number_of ss ≡ range_with_len k (length ss) → length (with_number n ss) ≤ 1
at_most_one k n [] up = omega arith
at_most_one k n (s ∷ ss) up =
    let rest = rest_is _ k (length ss) _ up in
    let here : (s.number == n) ≡ true → length (s ∷ with_number n ss) ≤ 1 =
    λ same. rw (none_out (k + 1) n ss rest (inl (passed s.number k n (first_is _ k (length ss) _ up) same))) omega arith in
    let go : (b : Bool) → (s.number == n) ≡ b → length (if b then s ∷ with_number n ss else with_number n ss) ≤ 1 = elim [
      | true ↦ here
      | false ↦ λ _. at_most_one (k + 1) n ss rest
    ] in
    go (s.number == n) refl

-- a team's submissions, of a valid contest
pub record CountsUp (own : List Submission) : Type 0 where
  pub up : map number_of own ≡ range_with_len 1 (length own)
  pub few : length own ≤ TEAM_SUBMISSIONS

counts_up : (own : List Submission) → are_valid_submissions own ≡ true → CountsUp own
counts_up own series =
    let numbers = map number_of own in
    let times = map (λ (s : Submission). s.time) own in
    let keys = map (λ (s : Submission). s.key) own in
    let tests = four (count_up numbers) (never_fall times) (have_own_keys keys) (nat_le (length own) TEAM_SUBMISSIONS) series in
    let all : numbers ≡ range_with_len 1 (length numbers) = (bytes_eq-Decides numbers (range_with_len 1 (length numbers))).0 tests.first in
    record { up = all ∙ ap (range_with_len 1) (length-map own number_of); few = leb-true (length own) TEAM_SUBMISSIONS tests.fourth }

pub own_counts : (x : ContestState) (team : ℕ) → is_valid x ≡ true → CountsUp (submissions_of team x.submissions)
own_counts x team valid =
    let any : Submission = plain_submission team 0 0 0 0 in
    counts_up (submissions_of team x.submissions)
    (in_any of_one_team are_valid_submissions one_team refl x.submissions any (and_right (list_all (is_valid_submission x.fixed) x.submissions) _ (parts x valid).submissions))

of_team : (team number : ℕ) (ss : List Submission) → named_by team number ss ≡ with_number number (submissions_of team ss)
of_team team number ss = filter_both (λ (s : Submission). s.team == team) (λ (s : Submission). s.number == number) ss

pub one_named : (x : ContestState) (team number : ℕ) → is_valid x ≡ true → length (named_by team number x.submissions) ≤ 1
one_named x team number valid = rw (of_team team number x.submissions) (at_most_one 1 number (submissions_of team x.submissions) (own_counts x team valid).up)

-- none has a number beyond the limit
pub none_numbered : (x : ContestState) (team number : ℕ) → is_valid x ≡ true → TEAM_SUBMISSIONS < number → named_by team number x.submissions ≡ []
none_numbered x team number valid beyond =
    let own = own_counts x team valid in
    of_team team number x.submissions ∙ none_out 1 number (submissions_of team x.submissions) own.up (inr (omega (arith, own.few, beyond)))

none_of_team : (n team : ℕ) (ss : List Submission) → n ≤ team → list_all (λ (s : Submission). nat_lt s.team n) ss ≡ true → submissions_of team ss ≡ []
none_of_team n team [] high all = refl
none_of_team n team (s ∷ ss) high all =
    let other : (s.team == team) ≡ false = not_below s.team n team (and_left (nat_lt s.team n) _ all) high in
    rw other (none_of_team n team ss high (and_right (nat_lt s.team n) _ all))

-- nor a team
pub none_teamed : (x : ContestState) (team number : ℕ) → is_valid x ≡ true → length x.fixed.settings.teams ≤ TEAMS → TEAMS ≤ team → named_by team number x.submissions ≡ []
none_teamed x team number valid few beyond =
    let n = length x.fixed.settings.teams in
    let there : list_all (is_valid_submission x.fixed) x.submissions ≡ true = and_left _ _ (parts x valid).submissions in
    let low : list_all (λ (s : Submission). nat_lt s.team n) x.submissions ≡ true =
    all_wider (is_valid_submission x.fixed) _ (λ s h. and_left _ _ (and_left _ _ (and_left _ _ (and_left _ _ (and_left _ _ h))))) x.submissions there in
    of_team team number x.submissions ∙ ap (with_number number) (none_of_team n team x.submissions (omega (arith, few, beyond)) low)
