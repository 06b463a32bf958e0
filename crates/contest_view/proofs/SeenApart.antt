-- No two submissions of a valid contest tie.
use Rattle.std.proofs.Common.{◌≡◌, ℕ, ◌≤◌, true, List, length, map, refl, sym, ap, ◌∙◌, arith}
use Rattle.std.specs.Prelude.{◌==◌, ◌&&◌, nat_le}
use Rattle.std.specs.List.{list_all, range_with_len, IsDistinct}
use Rattle.std.specs.Ordering.{eq_by_cmp}
use Rattle.std.proofs.lemmas.Bool.{eq-eqb, leb-true}
use Rattle.std.proofs.lemmas.List.{length-map}
use Rattle.std.proofs.lemmas.Map.Lookups.{exact_bytes, exact_unsigned}
use Rattle.std.proofs.lemmas.Slice.Eq.{bytes_eq-Decides}
use Rattle.contest_types.specs.PlainRows.{plain_submission}
use Rattle.contest_types.specs.Series.{count_up, never_fall, have_own_keys}
use Rattle.contest_types.specs.Order.{Has}
use Rattle.contest_types.specs.State.{ContestState, submissions_of}
use Rattle.contest_types.specs.Valid.{is_valid}
use Rattle.contest_types.specs.declared.limits.TheConstants.{TEAM_SUBMISSIONS}
use Rattle.contest_types.specs.ValidSubmissions.{is_valid_submission, of_one_team, are_valid_submissions}
use Rattle.contest_types.specs.declared.objects.Team.{Team}
use Rattle.contest_types.specs.declared.submission.Submission.{Submission}
use Rattle.contest_types.proofs.PlaceLemmas.{and_left, and_right}
use Rattle.contest_types.proofs.Different.{one_place}
use Rattle.contest_types.proofs.SeriesLemmas.{in_any}
use Rattle.contest_types.proofs.ValidParts.{parts}
use Rattle.contest_types.proofs.AddLemmas.{one_team}
use Rattle.contest_types.proofs.SettingsTest.{is_settings}
use Rattle.contest_types.proofs.InOrderLemmas.{has_filter, is_equal}
use Rattle.contest_types.proofs.SeenWhole.{both_equal, not_greater, team_there}
use Rattle.contest_view.specs.Rows.{row_cmp}
use Rattle.contest_view.proofs.SeriesApart.{CountsUp, apart}

series : (x : ContestState) → is_valid x ≡ true → (team : ℕ) → are_valid_submissions (submissions_of team x.submissions) ≡ true
series x valid team =
    let one : Submission = plain_submission team 0 0 0 0 in
    in_any of_one_team are_valid_submissions one_team refl x.submissions one (and_right (list_all (is_valid_submission x.fixed) x.submissions) _ (parts x valid).submissions)

counts_up : (x : ContestState) → is_valid x ≡ true → (team : ℕ) → CountsUp (λ (s : Submission). s.number) (submissions_of team x.submissions)
counts_up x valid team =
    let own = submissions_of team x.submissions in
    let numbers : List ℕ = map (λ (r : Submission). r.number) own in
    let up : count_up numbers ≡ true = and_left _ _ (and_left _ _ (and_left _ _ (series x valid team))) in
    let all : numbers ≡ range_with_len 1 (length numbers) = (bytes_eq-Decides numbers (range_with_len 1 (length numbers))).0 up in
    record { first = 1; numbers = all ∙ ap (range_with_len 1) (length-map own (λ (r : Submission). r.number)) }

pub rows_apart : (x : ContestState) → is_valid x ≡ true → IsDistinct (eq_by_cmp (row_cmp x.fixed.settings)) x.submissions
rows_apart x valid =
    let st = x.fixed.settings in
    apart (λ (s t : Submission). s.team == t.team) (λ s. eq-eqb s.team s.team refl) (λ (s : Submission). s.number) (eq_by_cmp (row_cmp st)) x.submissions (λ s. counts_up x valid s.team) (λ s t hs ht e.
    (let rest = (both_equal _ _ (is_equal (row_cmp st s t) e)).1 in
    let ids = exact_bytes _ _ (both_equal _ _ rest).0 in
    let team : s.team ≡ t.team = one_place (λ (u : Team). u.id) st.teams (is_settings x (parts x valid).settings).teams s.team t.team (team_there x s valid hs) (team_there x t valid ht) ids in
    (eq-eqb t.team s.team (sym team), exact_unsigned _ _ (both_equal _ _ rest).1)))

-- a number of a valid contest is small
pub number_small : (x : ContestState) → is_valid x ≡ true → (s : Submission) → Has x.submissions s → s.number ≤ TEAM_SUBMISSIONS
unfolding counts_up
number_small x valid s h =
    let own = submissions_of s.team x.submissions in
    let numbers : List ℕ = map (λ (r : Submission). r.number) own in
    let few : nat_le (length own) TEAM_SUBMISSIONS ≡ true = and_right (count_up numbers && never_fall (map (λ (r : Submission). r.time) own) && have_own_keys (map (λ (r : Submission). r.key) own)) _ (series x valid s.team) in
    let low = not_greater (λ (r : Submission). r.number) 1 own s (counts_up x valid s.team).numbers (has_filter (λ (r : Submission). r.team == s.team) x.submissions s h (eq-eqb s.team s.team refl)) in
    omega (arith, low, leb-true (length own) TEAM_SUBMISSIONS few)
