-- The numbers of what may be added to a sound contest fit into cells.
use Rattle.std.proofs.Common.{◌≡◌, ◌∙◌, ◌+◌, ◌<◌, ◌≤◌, ◌^◌, ℕ, Bool, true, false, List, [], ◌∷◌, ◌++◌, length, map, filter, refl, inl, inr, sym, ap, ap₂, subst, arith, slice_index_or}
use Rattle.std.specs.Prelude.{◌||◌, ◌==◌, not, nat_le, nat_lt, is_some, if◌then◌else◌}
use Rattle.std.specs.List.{list_all}
use Rattle.std.proofs.lemmas.Bool.{cases_Bool, eqb-true, false≢true, leb-true, ltb-true}
use Rattle.std.proofs.lemmas.Bool.Decides.{nat_tests}
use Rattle.std.proofs.lemmas.List.Folds.{list_all_at}
use Rattle.contest_types.specs.Addable.{is_addable, is_next_release, is_next_submission}
use Rattle.contest_types.specs.Series.{count_up, have_own_keys, never_fall}
use Rattle.contest_types.specs.State.{ContestState, add, changed_at, names, of_release, of_submission, releases_on, submissions_of, with_member_state, with_settings}
use Rattle.contest_types.specs.ValidClarifications.{is_an_addressee, is_valid_clarification}
use Rattle.contest_types.specs.ValidRejudgings.{is_valid_member, is_valid_rejudging}
use Rattle.contest_types.specs.ValidSubmissions.{are_valid_submissions, has_submission, is_valid_release, is_valid_submission, of_one_team}
use Rattle.contest_types.specs.declared.clarification.Clarification.{Clarification}
use Rattle.contest_types.specs.declared.entry.Entry.TheVariants.{NewSubmission, NewProposal, NewRelease, NewClarification, NewRejudging, SetMember, SetRejudging, SetTeamName}
use Rattle.contest_types.specs.declared.limits.TheConstants.{REJUDGING_MEMBERS, REJUDGINGS, TEAM_SUBMISSIONS, TEAMS}
use Rattle.contest_types.specs.declared.objects.Team.{Team}
use Rattle.contest_types.specs.declared.proposal.Proposal.{Proposal}
use Rattle.contest_types.specs.declared.rejudging.Member.{Member}
use Rattle.contest_types.specs.declared.rejudging.MemberState.{MemberState}
use Rattle.contest_types.specs.declared.rejudging.Rejudging.{Rejudging}
use Rattle.contest_types.specs.declared.rejudging.RejudgingState.{RejudgingState}
use Rattle.contest_types.specs.declared.submission.Release.{Release}
use Rattle.contest_types.specs.declared.submission.Submission.{Submission}
use Rattle.contest_types.proofs.AddEntry.{adding}
use Rattle.contest_types.proofs.PlaceLemmas.{and_left, and_right}
use Rattle.contest_types.proofs.ValidParts.{four, parts}
use Rattle.contest_store_rows.specs.ListRows.{audience_number}
use Rattle.contest_store_changes.specs.Sound.{IsSound}
use Rattle.contest_store_changes.proofs.NamedReplies.{all_left, reach, small_number, small_numbers, small_addressee, IsSmall}
use Rattle.contest_types.proofs.ChangeLemmas.{after_all}
use Rattle.contest_store_changes.proofs.Writable.{writable}

-- cells hold the numbers after both
abbrev pub Fit : (n m : ℕ) → Type 0
Fit n m = (n + 1 < 2 ^ 63) × (m + 1 < 2 ^ 63)

few_teams : (x : ContestState) → IsSound x → length x.fixed.settings.teams ≤ TEAMS
few_teams x sound = (writable x sound).valid.few_teams

pub few_addressees : (x : ContestState) → IsSound x → IsSmall x.fixed.settings
few_addressees x sound = record { teams = (writable x sound).valid.few_teams; groups = (writable x sound).valid.few_groups }

team_fits : (n team : ℕ) → n ≤ TEAMS → nat_lt team n ≡ true → team + 1 < 2 ^ 63
team_fits n team few low = let there : team < n = ltb-true team n low in omega (arith, few, there)

-- a submission that comes next
pub submission_fits : (x : ContestState) (s : Submission) → IsSound x → is_addable x (NewSubmission s) ≡ true → Fit s.team s.number
submission_fits x s sound may =
    let valid : is_valid_submission x.fixed s ≡ true = and_left _ _ may in
    let there : nat_lt s.team (length x.fixed.settings.teams) ≡ true = and_left _ _ (and_left _ _ (and_left _ _ (and_left _ _ (and_left _ _ valid)))) in
    let own = submissions_of s.team x.submissions in
    let next : is_next_submission own s ≡ true = and_right (is_valid_submission x.fixed s) _ may in
    let number = eqb-true s.number (length own + 1) (and_left _ _ (and_left _ _ (and_left _ _ next))) in
    let room : length own < TEAM_SUBMISSIONS = ltb-true _ _ (and_right _ (nat_lt (length own) TEAM_SUBMISSIONS) next) in
    (team_fits (length x.fixed.settings.teams) s.team (few_teams x sound) there, omega (arith, number, room))

of_its_own_team : (s : Submission) → of_one_team s s ≡ true
of_its_own_team s = grind (arith, nat_tests)

-- a submission that stands
pub named_fits : (x : ContestState) (team number : ℕ) → IsSound x → has_submission x team number ≡ true → Fit team number
named_fits x team number sound named =
    let d = reach (λ (s : Submission). names team number (of_submission s)) x.submissions named in
    let its_team = eqb-true d.x.team team (and_left (d.x.team == team) _ d.passes) in
    let its_number = eqb-true d.x.number number (and_right (d.x.team == team) _ d.passes) in
    let all = (parts x sound.valid).submissions in
    let valid : is_valid_submission x.fixed d.x ≡ true = d.with_all (is_valid_submission x.fixed) (and_left _ _ all) in
    let there : nat_lt d.x.team (length x.fixed.settings.teams) ≡ true = and_left _ _ (and_left _ _ (and_left _ _ (and_left _ _ (and_left _ _ valid)))) in
    let own = filter (of_one_team d.x) x.submissions in
    let series : are_valid_submissions own ≡ true = d.with_all (λ s. are_valid_submissions (filter (of_one_team s) x.submissions)) (and_right (list_all (is_valid_submission x.fixed) x.submissions) _ all) in
    let numbers = map (λ (s : Submission). s.number) own in
    let times = map (λ (s : Submission). s.time) own in
    let keys = map (λ (s : Submission). s.key) own in
    let tests = four (count_up numbers) (never_fall times) (have_own_keys keys) (nat_le (length own) TEAM_SUBMISSIONS) series in
    let each = all_left (of_one_team d.x) (λ s. nat_le s.number (length own)) x.submissions (small_numbers (λ (s : Submission). s.number) own tests.first) in
    let here : (not (of_one_team d.x d.x) || nat_le d.x.number (length own)) ≡ true = d.with_all (λ s. not (of_one_team d.x s) || nat_le s.number (length own)) each in
    let low = leb-true d.x.number (length own) (rw (of_its_own_team d.x) at here) in
    let few = leb-true (length own) TEAM_SUBMISSIONS tests.fourth in (
      subst (λ n. n + 1 < 2 ^ 63) its_team (team_fits (length x.fixed.settings.teams) d.x.team (few_teams x sound) there),
      subst (λ n. n + 1 < 2 ^ 63) its_number (omega (arith, low, few)),
    )

pub proposal_fits : (x : ContestState) (p : Proposal) → IsSound x → is_addable x (NewProposal p) ≡ true → Fit p.team p.number
proposal_fits x p sound may = named_fits x p.team p.number sound (and_left _ _ (and_left _ _ (and_left _ _ may)))

shorter : {X : Type 0} (p : X → Bool) (xs : List X) → length (filter p xs) ≤ length xs
shorter p [] = omega arith
shorter {X} p (x ∷ xs) =
    let rest = shorter p xs in
    let go : (b : Bool) → length (if b then x ∷ filter p xs else filter p xs) ≤ length (x ∷ xs) = elim [ true ↦ omega (arith, rest) | false ↦ omega (arith, rest) ] in
    go (p x)

-- a release, of which there are as many as memory holds
pub release_fits : (x : ContestState) (v : Release) → IsSound x → is_addable x (NewRelease v) ≡ true → length x.releases + 2 < 2 ^ 63 → Fit v.team v.number × (v.round + 1 < 2 ^ 63)
release_fits x v sound may room =
    let valid : is_valid_release x v ≡ true = and_left _ _ may in
    let rounds = releases_on v.team v.number x.releases in
    let next : is_next_release rounds v ≡ true = and_right (is_valid_release x v) _ may in
    let round = eqb-true v.round (length rounds + 1) next in
    let few = shorter (λ (w : Release). names v.team v.number (of_release w)) x.releases in
    (named_fits x v.team v.number sound (and_left _ _ valid), omega (arith, round, few, room))

-- what all pass with one more, that one passes
last_passes : {X : Type 0} (q : X → Bool) (xs : List X) (x : X) → list_all q (xs ++ x ∷ []) ≡ true → q x ≡ true
last_passes q [] x all = and_left _ _ all
last_passes q (y ∷ ys) x all = last_passes q ys x (and_right (q y) _ all)

pub clarification_fits : (x : ContestState) (c : Clarification) → IsSound x → is_addable x (NewClarification c) ≡ true → (audience_number c.addressee < 2 ^ 63) × (c.number + 1 < 2 ^ 63)
clarification_fits x c sound may =
    let few = few_addressees x sound in
    let valid : is_valid_clarification x c ≡ true = and_right (is_some x.fixed.marks.start) (is_valid_clarification x c) (and_left _ _ (and_left _ _ may)) in
    let addressed : is_an_addressee x.fixed c.addressee ≡ true = and_left _ _ (and_left _ _ (and_left _ _ (and_left _ _ valid))) in
    let to = small_addressee x.fixed c.addressee few addressed in
    let after = add x (NewClarification c) in
    let low = small_number after few (parts after (adding x (NewClarification c) sound.valid may)).clarifications c (λ q all. last_passes q x.clarifications c all) in
    (omega (arith, to), omega (arith, low))

-- a member, which has a release
member_fits : (x : ContestState) (m : Member) → IsSound x → is_valid_member x m ≡ true → Fit m.team m.number
member_fits x m sound is =
    let d = reach (λ (v : Release). names m.team m.number (of_release v)) x.releases (and_left _ _ is) in
    let its_team = eqb-true d.x.team m.team (and_left (d.x.team == m.team) _ d.passes) in
    let its_number = eqb-true d.x.number m.number (and_right (d.x.team == m.team) _ d.passes) in
    let valid : is_valid_release x d.x ≡ true = d.with_all (is_valid_release x) (and_left _ _ (parts x sound.valid).releases) in
    let fit = named_fits x d.x.team d.x.number sound (and_left _ _ valid) in
    (subst (λ n. n + 1 < 2 ^ 63) its_team fit.0, subst (λ n. n + 1 < 2 ^ 63) its_number fit.1)

pub each_passes : {X : Type 0} (q : X → Bool) (xs : List X) (at : ℕ) (d : X) → at < length xs → list_all q xs ≡ true → q (slice_index_or xs at d) ≡ true
each_passes q xs at d within all = elim (cases_Bool (q (slice_index_or xs at d))) [ inl passes ↦ passes | inr fails ↦ absurd (false≢true (sym (list_all_at q xs at d within fails) ∙ all)) ]

pub member_at_fits : (x : ContestState) (r : Rejudging) (slice : List Member) (at : ℕ) (m : Member) → slice ≡ r.members → at < length slice → m ≡ slice_index_or slice at m
    → IsSound x → is_addable x (NewRejudging r) ≡ true → Fit m.team m.number
member_at_fits x r slice at m same within is sound may =
    let valid : is_valid_rejudging x r ≡ true = and_left _ _ may in
    let all : list_all (is_valid_member x) slice ≡ true = subst (λ (ms : List Member). list_all (is_valid_member x) ms ≡ true) (sym same) (and_left _ _ (and_left _ _ valid)) in
    subst (λ (n : Member). Fit n.team n.number) (sym is) (member_fits x (slice_index_or slice at m) sound (each_passes (is_valid_member x) slice at m within all))

-- a number that doesn't fit is none of a contest's
past : (n : ℕ) → ¬ (n + 1 < 2 ^ 63) → 2 ^ 63 ≤ n + 1
past n too_large = elim (cases_Bool (nat_lt (n + 1) (2 ^ 63))) [ inl low ↦ absurd (too_large (ltb-true (n + 1) (2 ^ 63) low)) | inr large ↦ grind (arith, nat_tests, large) ]

few_rejudgings : (x : ContestState) → IsSound x → length x.rejudgings ≤ REJUDGINGS
few_rejudgings x sound = leb-true (length x.rejudgings) REJUDGINGS (and_right _ (nat_le (length x.rejudgings) REJUDGINGS) (parts x sound.valid).rejudgings)

no_rejudging_at : (x : ContestState) (n : ℕ) (f : Rejudging → Rejudging) → IsSound x → 2 ^ 63 ≤ n + 1 → changed_at 1 n f x.rejudgings ≡ x.rejudgings
no_rejudging_at x n f sound beyond = let few = few_rejudgings x sound in after_all 1 n f x.rejudgings (omega (arith, few, beyond))

pub no_such_rejudging : (x : ContestState) (n : ℕ) (state : RejudgingState) → IsSound x → ¬ (n + 1 < 2 ^ 63) → add x (SetRejudging n state) ≡ x
no_such_rejudging x n state sound too_large = ap (λ (rs : List Rejudging). record x { rejudgings = rs }) (no_rejudging_at x n _ sound (past n too_large))

-- and so is a team's
pub no_such_team : (x : ContestState) (team : ℕ) (name : List ℕ) → IsSound x → ¬ (team + 1 < 2 ^ 63) → add x (SetTeamName team name) ≡ x
no_such_team x team name sound too_large =
    let few = few_teams x sound in
    let beyond = past team too_large in
    ap (λ (ts : List Team). with_settings x (record x.fixed.settings { teams = ts }))
    (after_all 0 team (λ (t : Team). record t { name = name }) x.fixed.settings.teams (omega (arith, few, beyond)))

-- what stays as it is where it may be changed
all_same : {X : Type 0} (first at : ℕ) (f : X → X) (q : X → Bool) → ((x : X) → q x ≡ true → f x ≡ x) → (xs : List X) → list_all q xs ≡ true → changed_at first at f xs ≡ xs
all_same first at f q same [] all = refl
all_same first at f q same (x ∷ xs) all =
    let here : (b : Bool) → (if b then f x else x) ≡ x = elim [ true ↦ same x (and_left (q x) _ all) | false ↦ refl ] in
    ap₂ ◌∷◌ (here (first == at)) (all_same (first + 1) at f q same xs (and_right (q x) _ all))

no_member_at : (x : ContestState) (place : ℕ) (state : MemberState) → 2 ^ 63 ≤ place + 1 → (r : Rejudging) → is_valid_rejudging x r ≡ true → with_member_state place state r ≡ r
no_member_at x place state beyond r valid =
    let few = leb-true (length r.members) REJUDGING_MEMBERS (and_right _ (nat_le (length r.members) REJUDGING_MEMBERS) valid) in
    ap (λ (ms : List Member). record r { members = ms }) (after_all 0 place (λ (m : Member). record m { state = state }) r.members (omega (arith, few, beyond)))

pub no_such_member : (x : ContestState) (n place : ℕ) (state : MemberState) → IsSound x → ¬ Fit n place → add x (SetMember n place state) ≡ x
no_such_member x n place state sound too_large =
    let all : list_all (is_valid_rejudging x) x.rejudgings ≡ true = and_left _ _ (and_left _ _ (parts x sound.valid).rejudgings) in
    let stay : changed_at 1 n (with_member_state place state) x.rejudgings ≡ x.rejudgings =
    elim (cases_Bool (nat_lt (n + 1) (2 ^ 63))) [
      | inl small ↦ (let beyond = past place (λ low. too_large (ltb-true (n + 1) (2 ^ 63) small, low)) in all_same 1 n (with_member_state place state) (is_valid_rejudging x) (no_member_at x place state beyond) x.rejudgings all)
      | inr large ↦ no_rejudging_at x n (with_member_state place state) sound (grind (arith, nat_tests, large))
    ] in
    ap (λ (rs : List Rejudging). record x { rejudgings = rs }) stay
