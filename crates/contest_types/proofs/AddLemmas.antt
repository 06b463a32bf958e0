-- Adding what may be added keeps a contest valid: submissions, proposals, releases and marks.
use Rattle.std.proofs.Common.{◌≡◌, ℕ, ◌+◌, Bool, true, false, List, [], ◌∷◌, ◌++◌, length, map, Option, Some, None, refl, sym, ap, arith, rules}
use Rattle.std.specs.Prelude.{◌&&◌, ◌||◌, ◌==◌, not, nat_le, nat_lt, count_by, is_some}
use Rattle.std.specs.List.{list_all}
use Rattle.std.proofs.lemmas.Bool.{false≢true, eqb-true, eq-eqb}
use Rattle.std.proofs.lemmas.List.{map-append, length-map, length_push}
use Rattle.contest_types.specs.Clock.{reached, end_of}
use Rattle.contest_types.specs.Series.{count_up, never_fall, have_own_keys, is_new_key}
use Rattle.contest_types.specs.State.{ContestState, submissions_of, releases_on, proposals_for, add, NewSubmission, NewProposal, NewRelease}
use Rattle.contest_types.specs.ValidSubmissions.{is_valid_submission, of_one_team, are_valid_submissions, has_submission, is_valid_release, on_one_submission, are_valid_releases, is_valid_proposal, for_one_submission, are_valid_proposals, is_imported, has_valid_submissions, has_valid_releases, has_valid_proposals}
use Rattle.contest_types.specs.ValidRejudgings.{is_valid_rejudging, is_valid_member, has_release, has_valid_rejudgings}
use Rattle.contest_types.specs.Valid.{is_valid}
use Rattle.contest_types.specs.Addable.{is_addable, is_next_submission, is_next_proposal}
use Rattle.contest_types.specs.declared.limits.TheConstants.{TEAM_SUBMISSIONS, PROPOSALS, POSTED_FILE}
use Rattle.contest_types.specs.declared.submission.Submission.{Submission}
use Rattle.contest_types.specs.declared.submission.Release.{Release}
use Rattle.contest_types.specs.declared.proposal.Proposal.{Proposal}
use Rattle.contest_types.specs.declared.rejudging.Rejudging.{Rejudging}
use Rattle.contest_types.specs.declared.rejudging.Member.{Member}
use Rattle.contest_types.specs.ValidFixed.{has_valid_clock}
use Rattle.contest_types.proofs.PlaceLemmas.{and_left, and_right, both_true, all_push}
use Rattle.contest_types.proofs.SetupLemmas.{all_wider}
use Rattle.contest_types.proofs.SeriesLemmas.{IsTogether, in_each_push, in_any, some_more, count_up_push, never_fall_push, own_keys_push, room, count_push, list_all_map}
use Rattle.contest_types.proofs.ValidParts.{parts, whole, four, all_four}
use Rattle.contest_types.proofs.Tests.{each_of, weaker, kept}

same_number : (m n k : ℕ) → (n == m) ≡ true → (k == m) ≡ (k == n)
same_number m n k e = ap (λ t. k == t) (sym (eqb-true n m e))

pub one_team : IsTogether of_one_team
one_team = record { itself = λ s. eq-eqb s.team s.team refl; same = λ s t u e. same_number s.team t.team u.team e }

both_same : (a b : ℕ) → ((a == a) && (b == b)) ≡ true
both_same a b = both_true _ _ (eq-eqb a a refl) (eq-eqb b b refl)

same_pair : (a b c d e f : ℕ) → ((c == a) && (d == b)) ≡ true → ((e == a) && (f == b)) ≡ ((e == c) && (f == d))
same_pair a b c d e f h = rw (same_number a c e (and_left (c == a) _ h), same_number b d f (and_right (c == a) _ h)) refl

one_submission : IsTogether on_one_submission
one_submission = record { itself = λ v. both_same v.team v.number; same = λ v w u e. same_pair v.team v.number w.team w.number u.team u.number e }

one_proposed : IsTogether for_one_submission
one_proposed = record { itself = λ p. both_same p.team p.number; same = λ p q r e. same_pair p.team p.number q.team q.number r.team r.number e }

-- the next number of rows that count up
pub next_number : {X : Type 0} (number : X → ℕ) (xs : List X) (x : X) → count_up (map number xs) ≡ true → (number x == length xs + 1) ≡ true → count_up (map number (xs ++ x ∷ [])) ≡ true
next_number number xs x h e =
    let next : number x ≡ length (map number xs) + 1 = omega (arith, eqb-true (number x) (length xs + 1) e, length-map xs number) in
    rw map-append (count_up_push (map number xs) (number x) h next)

pub next_key : {X : Type 0} (key : X → Option (List ℕ)) (xs : List X) (x : X) → have_own_keys (map key xs) ≡ true → is_new_key (map key xs) (key x) ≡ true → have_own_keys (map key (xs ++ x ∷ [])) ≡ true
next_key key xs x h e = rw map-append (own_keys_push (map key xs) (key x) h e)

next_time : (own : List Submission) (s : Submission) → never_fall (map (λ (t : Submission). t.time) own) ≡ true → list_all (λ (t : Submission). nat_le t.time s.time) own ≡ true → never_fall (map (λ (t : Submission). t.time) (own ++ s ∷ [])) ≡ true
next_time own s h e = rw map-append (never_fall_push (map (λ (t : Submission). t.time) own) s.time h (list_all_map (λ (t : Submission). t.time) (λ u. nat_le u s.time) own e))

pub next_room : {X : Type 0} (xs : List X) (x : X) (most : ℕ) → nat_lt (length xs) most ≡ true → nat_le (length (xs ++ x ∷ [])) most ≡ true
next_room xs x most h = rw (length_push xs x) (room (length xs) most h)

submission_follows : (own : List Submission) (s : Submission) → are_valid_submissions own ≡ true → is_next_submission own s ≡ true → are_valid_submissions (own ++ s ∷ []) ≡ true
submission_follows own s h n =
    let was = four (count_up (map (λ (t : Submission). t.number) own)) (never_fall (map (λ (t : Submission). t.time) own)) (have_own_keys (map (λ (t : Submission). t.key) own)) (nat_le (length own) TEAM_SUBMISSIONS) h in
    let next = four (s.number == length own + 1) (list_all (λ (t : Submission). nat_le t.time s.time) own) (is_new_key (map (λ (t : Submission). t.key) own) s.key) (nat_lt (length own) TEAM_SUBMISSIONS) n in
    all_four _ _ _ _ (next_number (λ (t : Submission). t.number) own s was.first next.first) (next_time own s was.second next.second) (next_key (λ (t : Submission). t.key) own s was.third next.third) (next_room own s TEAM_SUBMISSIONS next.fourth)

pub has_start : (start : Option ℕ) (time : ℕ) → reached start time ≡ true → is_some start ≡ true
has_start None time h = absurd (false≢true h)
has_start (Some m) time h = refl

-- where the start is set, any row may stand
pub clock_kept : (end : Bool) (start none : Bool) (some : Bool) → (end && (start || none)) ≡ true → start ≡ true → (end && (start || some)) ≡ true
clock_kept end start none some h s = both_true _ _ (and_left end _ h) (rw s refl)

pub adding_submission : (x : ContestState) (s : Submission) → is_valid x ≡ true → is_addable x (NewSubmission s) ≡ true → is_valid (add x (NewSubmission s)) ≡ true
adding_submission x s h a =
    let v = parts x h in
    let y = add x (NewSubmission s) in
    let own = submissions_of s.team x.submissions in
    let valid : is_valid_submission x.fixed s ≡ true = and_left _ _ a in
    let next : is_next_submission own s ≡ true = and_right (is_valid_submission x.fixed s) _ a in
    let each = and_right (list_all (is_valid_submission x.fixed) x.submissions) _ v.submissions in
    let there : (team number : ℕ) → has_submission x team number ≡ true → has_submission y team number ≡ true =
    λ team number. some_more (λ (t : Submission). (t.team == team) && (t.number == number)) x.submissions (s ∷ []) in
    let start : is_some x.fixed.marks.start ≡ true = has_start x.fixed.marks.start s.time (each_of (nat_lt s.team (length x.fixed.settings.teams)) (nat_lt s.problem (length x.fixed.settings.problems) ∷ nat_lt s.language (length x.fixed.settings.languages) ∷ reached x.fixed.marks.start s.time ∷ not (reached (end_of x.fixed.settings x.fixed.marks) s.time) ∷ nat_le (length s.file) POSTED_FILE ∷ []) valid 3) in
    let clock : has_valid_clock y ≡ true = clock_kept _ (is_some x.fixed.marks.start) _ _ v.clock start in
    let submissions : has_valid_submissions y ≡ true =
    both_true _ _ (all_push (is_valid_submission x.fixed) x.submissions s (and_left _ _ v.submissions) valid)
    (in_each_push of_one_team are_valid_submissions one_team x.submissions s each (submission_follows own s (in_any of_one_team are_valid_submissions one_team refl x.submissions s each) next)) in
    let proposals : has_valid_proposals y ≡ true = weaker (all_wider (is_valid_proposal x) (is_valid_proposal y) (λ (p : Proposal). weaker (weaker (there p.team p.number) kept) kept) x.proposals) kept v.proposals in
    let releases : has_valid_releases y ≡ true = weaker (all_wider (is_valid_release x) (is_valid_release y) (λ (r : Release). weaker (there r.team r.number) kept) x.releases) kept v.releases in
    whole y (search (rules, v, clock, submissions, proposals, releases))

proposal_follows : (ps : List Proposal) (p : Proposal) → are_valid_proposals ps ≡ true → is_next_proposal ps p ≡ true → are_valid_proposals (ps ++ p ∷ []) ≡ true
proposal_follows ps p h n =
    let few : nat_le (count_by is_imported ps) 1 ≡ true = and_right (nat_le (length ps) PROPOSALS) _ h in
    let go : (b : Bool) → is_imported p ≡ b → (not b || (count_by is_imported ps == 0)) ≡ true → nat_le (count_by is_imported (ps ++ p ∷ [])) 1 ≡ true =
    elim [
      | true ↦ λ e one. (let none : count_by is_imported ps ≡ 0 = eqb-true (count_by is_imported ps) 0 one in rw (count_push is_imported ps p true e, none) refl)
      | false ↦ λ e any. (let same : count_by is_imported ps + 0 ≡ count_by is_imported ps = omega arith in rw (count_push is_imported ps p false e, same) few)
    ] in
    both_true _ _ (next_room ps p PROPOSALS (and_left _ _ n)) (go (is_imported p) refl (and_right (nat_lt (length ps) PROPOSALS) _ n))

pub adding_proposal : (x : ContestState) (p : Proposal) → is_valid x ≡ true → is_addable x (NewProposal p) ≡ true → is_valid (add x (NewProposal p)) ≡ true
adding_proposal x p h a =
    let v = parts x h in
    let ps = proposals_for p.team p.number x.proposals in
    let each = and_right (list_all (is_valid_proposal x) x.proposals) _ v.proposals in
    let proposals : has_valid_proposals (add x (NewProposal p)) ≡ true =
    both_true _ _ (all_push (is_valid_proposal x) x.proposals p (and_left _ _ v.proposals) (and_left _ _ a))
    (in_each_push for_one_submission are_valid_proposals one_proposed x.proposals p each (proposal_follows ps p (in_any for_one_submission are_valid_proposals one_proposed refl x.proposals p each) (and_right (is_valid_proposal x p) _ a))) in
    whole (add x (NewProposal p)) (search (rules, v, proposals))

pub adding_release : (x : ContestState) (r : Release) → is_valid x ≡ true → is_addable x (NewRelease r) ≡ true → is_valid (add x (NewRelease r)) ≡ true
adding_release x r h a =
    let v = parts x h in
    let y = add x (NewRelease r) in
    let rs = releases_on r.team r.number x.releases in
    let each = and_right (list_all (is_valid_release x) x.releases) _ v.releases in
    let there : (team number : ℕ) → has_release x team number ≡ true → has_release y team number ≡ true =
    λ team number. some_more (λ (w : Release). (w.team == team) && (w.number == number)) x.releases (r ∷ []) in
    let members : (ms : List Member) → list_all (is_valid_member x) ms ≡ true → list_all (is_valid_member y) ms ≡ true =
    all_wider (is_valid_member x) (is_valid_member y) (λ (m : Member). weaker (there m.team m.number) kept) in
    let releases : has_valid_releases y ≡ true =
    both_true _ _ (all_push (is_valid_release x) x.releases r (and_left _ _ v.releases) (and_left _ _ a))
    (in_each_push on_one_submission are_valid_releases one_submission x.releases r each
    (next_number (λ (w : Release). w.round) rs r (in_any on_one_submission are_valid_releases one_submission refl x.releases r each) (and_right (is_valid_release x r) _ a))) in
    let rejudgings : has_valid_rejudgings y ≡ true = weaker (weaker (all_wider (is_valid_rejudging x) (is_valid_rejudging y) (λ (j : Rejudging). weaker (weaker (members j.members) kept) kept) x.rejudgings) kept) kept v.rejudgings in
    whole y (search (rules, v, releases, rejudgings))
