-- The lists of a valid contest can be scored.
use Rattle.std.proofs.Common.{◌≡◌, ℕ, zero, suc, ◌+◌, ◌*◌, ◌<◌, ◌≤◌, ◌^◌, Bool, true, false, cond, List, [], ◌∷◌, length, map, filter, refl, arith, All, get_or, inl, inr}
use Rattle.std.specs.Prelude.{◌==◌, nat_lt, if◌then◌else◌}
use Rattle.std.specs.List.{list_all}
use Rattle.std.proofs.lemmas.Bool.{cases_Bool, ltb-true, lt-ltb, le-ltb, leb-true}
use Rattle.std.proofs.lemmas.Bool.Decides.{nat_tests}
use Rattle.std.proofs.lemmas.List.Elements.{All-map}
use Rattle.std.proofs.lemmas.List.{length-map}
use Rattle.std.proofs.lemmas.List.Sums.{AllPass-from_list_all}
use Rattle.contest_types.specs.PlainRows.{plain_submission}
use Rattle.contest_types.specs.Series.{in_each}
use Rattle.contest_types.specs.State.{FixedPart, ContestState, submissions_of}
use Rattle.contest_types.specs.Valid.{is_valid}
use Rattle.contest_types.specs.ValidSubmissions.{is_valid_submission, of_one_team, are_valid_submissions, is_valid_release}
use Rattle.contest_types.specs.declared.limits.TheConstants.{TEAMS, TEAM_SUBMISSIONS}
use Rattle.contest_types.specs.declared.submission.Submission.{Submission}
use Rattle.contest_types.specs.declared.submission.Release.{Release}
use Rattle.contest_types.proofs.PlaceLemmas.{and_left, and_right}
use Rattle.contest_types.proofs.SeriesLemmas.{in_any}
use Rattle.contest_types.proofs.ValidParts.{parts}
use Rattle.contest_types.proofs.AddLemmas.{one_team}
use Rattle.contest_types.proofs.SettingsTest.{is_settings}
use Rattle.contest_types.specs.Loads.{without_file}
use Rattle.contest_score.specs.Lists.{IsCountable, CanBeScored}

at_most_one : (b : Bool) → cond b 1 0 ≤ 1
at_most_one true = omega arith
at_most_one false = omega arith

-- a place below the next one is below this one, or it is this one
one_more_team : (m n : ℕ) → cond (nat_lt m (suc n)) 1 0 ≤ cond (nat_lt m n) 1 0 + cond (m == n) 1 0
one_more_team m n =
    let past : nat_lt m n ≡ false → (m == n) ≡ false → nat_lt m (suc n) ≡ false = λ e off. le-ltb m (suc n) (grind (arith, nat_tests, e, off)) in
    elim (cases_Bool (nat_lt m n)) [
      | inl e ↦ rw e (omega (arith, at_most_one (nat_lt m (suc n))))
      | inr e ↦ elim (cases_Bool (m == n)) [
        | inl same ↦ rw same (omega (arith, at_most_one (nat_lt m (suc n))))
        | inr off ↦ rw (past e off) (omega arith)
      ]
    ]

kept_length : {X : Type 0} (x : X) (xs : List X) (b : Bool) → length (if b then x ∷ xs else xs) ≡ cond b 1 0 + length xs
kept_length x xs true = omega arith
kept_length x xs false = omega arith

-- the submissions of the first teams
abbrev below : ℕ → List Submission → List Submission
below n = filter (λ (s : Submission). nat_lt s.team n)

one_team_more : (n : ℕ) (xs : List Submission) → length (below (suc n) xs) ≤ length (below n xs) + length (submissions_of n xs)
one_team_more n [] = omega arith
one_team_more n (x ∷ xs) =
    omega (arith, one_more_team x.team n, one_team_more n xs, kept_length x (below (suc n) xs) (nat_lt x.team (suc n)), kept_length x (below n xs) (nat_lt x.team n), kept_length x (submissions_of n xs) (x.team == n))

none_below : (xs : List Submission) → length (below 0 xs) ≡ 0
none_below [] = refl
none_below (x ∷ xs) = rw (le-ltb x.team 0 (omega arith)) (none_below xs)

few_in_teams : (n most : ℕ) (xs : List Submission) → ((team : ℕ) → length (submissions_of team xs) ≤ most) → length (below n xs) ≤ n * most
few_in_teams zero most xs h = omega (arith, none_below xs)
few_in_teams (suc n) most xs h =
    let more : suc n * most ≡ n * most + most = grind arith in
    omega (arith, more, one_team_more n xs, few_in_teams n most xs h, h n)

all_below : (n : ℕ) (xs : List Submission) → All (λ s. s.team < n) xs → length xs ≤ length (below n xs)
all_below n [] h = omega arith
all_below n (x ∷ xs) h =
    let first : nat_lt x.team n ≡ true = lt-ltb x.team n (h 0 x (omega arith)) in
    let rest = all_below n xs (λ i d l. h (suc i) d (omega (arith, l))) in
    rw first (omega (arith, rest))

countable : (f : FixedPart) (s : Submission) → is_valid_submission f s ≡ true → IsCountable f s
countable f s h =
    let named = and_left _ _ (and_left _ _ h) in
    let places = and_left _ _ (and_left _ _ named) in
    record { team = ltb-true s.team _ (and_left _ _ places); problem = ltb-true s.problem _ (and_right _ _ places); started = and_right _ _ named }

all_countable : (f : FixedPart) (xs : List Submission) → list_all (is_valid_submission f) xs ≡ true → All (IsCountable f) xs
all_countable f xs h i d l = countable f (get_or xs i d) (AllPass-from_list_all (is_valid_submission f) xs h i d l)

all_of_types : (x : ContestState) (vs : List Release) → list_all (is_valid_release x) vs ≡ true → All (λ v. v.verdict < length x.fixed.settings.types) vs
all_of_types x vs h i d l = ltb-true (get_or vs i d).verdict _ (and_right _ _ (AllPass-from_list_all (is_valid_release x) vs h i d l))

-- no team has more than its limit
few_of_team : (xs : List Submission) (team : ℕ) → in_each of_one_team are_valid_submissions xs ≡ true → length (submissions_of team xs) ≤ TEAM_SUBMISSIONS
few_of_team xs team h =
    let by_team : Submission = plain_submission team 0 0 0 0 in
    leb-true _ _ (and_right _ _ (in_any of_one_team are_valid_submissions one_team refl xs by_team h))

-- and all teams together fewer than can be counted
few_in_all : (teams : ℕ) (xs : List Submission) → teams ≤ TEAMS → All (λ s. s.team < teams) xs → in_each of_one_team are_valid_submissions xs ≡ true → length xs < 2 ^ 32
few_in_all teams xs few there own =
    let most = few_in_teams teams TEAM_SUBMISSIONS xs (λ team. few_of_team xs team own) in
    omega (arith, all_below teams xs there, most, few)

without_files : (f : FixedPart) (xs : List Submission) (vs : List Release) → CanBeScored f xs vs → CanBeScored f (map without_file xs) vs
without_files f xs vs h = record {
  few = omega (arith, h.few, length-map xs without_file);
  countable = All-map (IsCountable f) without_file xs (λ i d l. record { team = (h.countable i d l).team; problem = (h.countable i d l).problem; started = (h.countable i d l).started });
  of_types = h.of_types;
}

pub valid_can_be_scored : (x : ContestState) → is_valid x ≡ true → CanBeScored x.fixed x.submissions x.releases × CanBeScored x.fixed (map without_file x.submissions) x.releases
valid_can_be_scored x v =
    let p = parts x v in
    let all = all_countable x.fixed x.submissions (and_left _ _ p.submissions) in
    let whole : CanBeScored x.fixed x.submissions x.releases = record {
      few = few_in_all (length x.fixed.settings.teams) x.submissions (is_settings x p.settings).few_teams (λ i d l. (all i d l).team) (and_right _ _ p.submissions);
      countable = all;
      of_types = all_of_types x x.releases (and_left _ _ p.releases);
    } in
    (whole, without_files x.fixed x.submissions x.releases whole)
