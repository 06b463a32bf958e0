-- What belongs to a team: who knows it, and in which order its submissions stand.
use Rattle.std.proofs.Common.{◌≡◌, ◌⊎◌, ℕ, ◌+◌, ◌<◌, Bool, true, false, List, [], ◌∷◌, map, length, Some, None, refl, sym, ◌∙◌, ap, inl, inr, arith}
use Rattle.std.specs.Prelude.{◌↔◌, ◌&&◌, ◌||◌, ◌==◌, nat_lt, nat_le, is_some, if◌then◌else◌}
use Rattle.std.specs.List.{list_all, range_with_len}
use Rattle.std.proofs.lemmas.Bool.{false≢true, eqb-true, eq-eqb}
use Rattle.std.proofs.lemmas.Bool.Decides.{nat_tests}
use Rattle.std.proofs.lemmas.List.{length-map}
use Rattle.std.proofs.lemmas.Slice.Eq.{bytes_eq-Decides}
use Rattle.contest_types.specs.PlainRows.{plain_submission}
use Rattle.contest_types.specs.Setup.{Setup}
use Rattle.contest_types.specs.Series.{count_up, never_fall, have_own_keys}
use Rattle.contest_types.specs.Order.{Has, IsInOrder}
use Rattle.contest_types.specs.Loads.{without_file}
use Rattle.contest_types.specs.Masks.{audience_at, knows_all_of}
use Rattle.contest_types.specs.State.{ContestState, submissions_of}
use Rattle.contest_types.specs.Sight.{SeenSubmission, program_of, seen_submission, seen_submissions, hears}
use Rattle.contest_types.specs.Valid.{is_valid}
use Rattle.contest_types.specs.ValidSubmissions.{is_valid_submission, of_one_team, are_valid_submissions}
use Rattle.contest_types.specs.SightLaws.{is_earlier}
use Rattle.contest_types.specs.declared.limits.TheConstants.{TEAM_SUBMISSIONS}
use Rattle.contest_types.specs.declared.audience.Audience.{Audience}
use Rattle.contest_types.specs.declared.audience.Audience.TheVariants as audience
use Rattle.contest_types.specs.declared.clarification.Addressee.TheVariants as addressee
use Rattle.contest_types.specs.declared.submission.Submission.{Submission}
use Rattle.contest_types.proofs.PlaceLemmas.{and_left, and_right}
use Rattle.contest_types.proofs.SeriesLemmas.{in_any}
use Rattle.contest_types.proofs.ValidParts.{parts, four}
use Rattle.contest_types.proofs.AddLemmas.{one_team}
use Rattle.contest_types.proofs.InOrderLemmas.{has_map}
use Rattle.contest_types.proofs.Rising.{before_all}
use Rattle.contest_types.proofs.SeenWhole.{all_has, not_smaller, listed_seen}

who_knows : (a : Audience) (team : ℕ) → knows_all_of a team ≡ true → (a ≡ audience.Jury) ⊎ (a ≡ audience_at team)
who_knows audience.Public team h = absurd (false≢true h)
who_knows (audience.Team number) team h = inr (ap audience.Team (eqb-true number (team + 1) h))
who_knows audience.Jury team h = inl refl

they_know : (a : Audience) (team : ℕ) → (a ≡ audience.Jury) ⊎ (a ≡ audience_at team) → knows_all_of a team ≡ true
they_know a team h = elim h [
  | inl jury ↦ ap (λ b. knows_all_of b team) jury
  | inr own ↦ ap (λ b. knows_all_of b team) own ∙ eq-eqb (team + 1) (team + 1) refl
]

pub know_all : (a : Audience) (team : ℕ) → (knows_all_of a team ≡ true) ↔ ((a ≡ audience.Jury) ⊎ (a ≡ audience_at team))
know_all a team = (who_knows a team, they_know a team)

pub program_shown : (a : Audience) (now : ℕ) (x : ContestState) (s : Submission) → (seen_submission a now x s).program ≡ (if knows_all_of a s.team then Some (program_of s) else None)
program_shown a now x s = refl

pub program_listed : (a : Audience) (now : ℕ) (x : ContestState) (v : SeenSubmission) → Has (seen_submissions a now x) v → is_some v.program ≡ knows_all_of a v.team
program_listed a now x v h =
    let i = listed_seen a now x v h in
    let go : (b : Bool) → is_some (if b then Some (program_of i.submission) else None) ≡ b = elim [ true ↦ refl | false ↦ refl ] in
    ap (λ w. is_some w.program) i.shown ∙ (go (knows_all_of a i.submission.team) ∙ ap (λ w. knows_all_of a w.team) (sym i.shown))

pub asked_heard : (a : Audience) (s : Setup) (team : ℕ) → hears a s (addressee.Team team) ≡ knows_all_of a team
asked_heard a s team = refl

earlier : (t u m n : ℕ) → nat_le t u ≡ true → m < n → (nat_lt t u || ((t == u) && nat_lt m n)) ≡ true
earlier t u m n h l = grind (arith, nat_tests)

-- rows that count up and whose times never fall
in_time : (first : ℕ) (xs : List Submission) → map (λ (s : Submission). s.number) xs ≡ range_with_len first (length xs) → never_fall (map (λ (s : Submission). s.time) xs) ≡ true → IsInOrder is_earlier xs
in_time first [] e f = tt
in_time first (x ∷ xs) e f =
    let head : x.number ≡ first = cc e in
    let tail : map (λ (s : Submission). s.number) xs ≡ range_with_len (first + 1) (length xs) = cc e in
    let times = map (λ (s : Submission). s.time) xs in
    let later : (y : Submission) → Has xs y → nat_le x.time y.time ≡ true =
    λ y k. all_has (nat_le x.time) times y.time (and_left _ _ f) (has_map (λ (s : Submission). s.time) xs y k) in
    let more : (y : Submission) → Has xs y → x.number < y.number =
    λ y k. (let low = not_smaller (λ (s : Submission). s.number) (first + 1) xs y tail k in omega (arith, low, head)) in
    (before_all is_earlier x xs (λ y k. earlier x.time y.time x.number y.number (later y k) (more y k)), in_time (first + 1) xs tail (and_right (list_all (nat_le x.time) times) _ f))

pub by_time : (x : ContestState) (team : ℕ) → is_valid x ≡ true → IsInOrder is_earlier (submissions_of team x.submissions)
by_time x team v =
    let own = submissions_of team x.submissions in
    let numbers : List ℕ = map (λ (s : Submission). s.number) own in
    let any : Submission = plain_submission team 0 0 0 0 in
    let series : are_valid_submissions own ≡ true = in_any of_one_team are_valid_submissions one_team refl x.submissions any (and_right (list_all (is_valid_submission x.fixed) x.submissions) _ (parts x v).submissions) in
    let tests = four (count_up numbers) (never_fall (map (λ (s : Submission). s.time) own)) (have_own_keys (map (λ (s : Submission). s.key) own)) (nat_le (length own) TEAM_SUBMISSIONS) series in
    let all : numbers ≡ range_with_len 1 (length numbers) = (bytes_eq-Decides numbers (range_with_len 1 (length numbers))).0 tests.first in
    in_time 1 own (all ∙ ap (range_with_len 1) (length-map own (λ (s : Submission). s.number))) tests.second

-- a team's rows without their files
pub own_loaded : (team : ℕ) (ss : List Submission) → submissions_of team (map without_file ss) ≡ map without_file (submissions_of team ss)
own_loaded team [] = refl
own_loaded team (s ∷ ss) =
    let go : (b : Bool) → (if b then without_file s ∷ submissions_of team (map without_file ss) else submissions_of team (map without_file ss)) ≡ map without_file (if b then s ∷ submissions_of team ss else submissions_of team ss) =
    elim [ true ↦ ap (λ rows. without_file s ∷ rows) (own_loaded team ss) | false ↦ own_loaded team ss ] in
    go (s.team == team)
