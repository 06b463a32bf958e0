-- A submission that a team adds to alike contests leaves them alike for it.
use Rattle.std.proofs.Common.{◌≡◌, ◌∙◌, ◌+◌, ◌≤◌, ℕ, zero, suc, Bool, true, false, List, [], ◌∷◌, ◌++◌, length, map, refl, sym, ap, subst, arith}
use Rattle.std.specs.Prelude.{◌==◌, ◌&&◌, if◌then◌else◌}
use Rattle.std.specs.List.{list_all, list_any, range_with_len}
use Rattle.std.proofs.lemmas.Bool.{eq-eqb, eqb-true, false≢true}
use Rattle.std.proofs.lemmas.Bool.Decides.{nat_tests}
use Rattle.std.proofs.lemmas.List.{map-append}
use Rattle.contest_types.specs.Alike.{OwnRecord, own_record, open_record, TeamSight, Whole, Open, Nothing, sight_of, Alike}
use Rattle.contest_types.specs.Masks.{owns}
use Rattle.contest_types.specs.TeamPlaces.{is_public}
use Rattle.contest_types.specs.Sight.{judgement_of, judgements_on}
use Rattle.contest_types.specs.State.{ContestState, submissions_of, releases_on, add}
use Rattle.contest_types.specs.Valid.{is_valid}
use Rattle.contest_types.specs.ValidSubmissions.{has_submission, is_valid_release}
use Rattle.contest_types.specs.declared.entry.Entry.TheVariants.{NewSubmission}
use Rattle.contest_types.specs.declared.audience.Audience.{Audience}
use Rattle.contest_types.specs.declared.audience.Audience.TheVariants as audience
use Rattle.contest_types.specs.declared.submission.Submission.{Submission}
use Rattle.contest_types.specs.declared.submission.Release.{Release}
use Rattle.contest_types.proofs.PlaceLemmas.{and_left, and_right}
use Rattle.contest_types.proofs.ValidParts.{parts}
use Rattle.contest_view.proofs.OwnNumbers.{number_of, own_numbers}
use Rattle.contest_rules.proofs.SubmittingLemmas.{own_sight, own_alike}
use Rattle.contest_types.proofs.Filters.{any_both}

-- a team's submissions with one more
pub own_more : (team : ℕ) (ss : List Submission) (s : Submission) → (s.team == team) ≡ true → submissions_of team (ss ++ s ∷ []) ≡ submissions_of team ss ++ s ∷ []
own_more team [] s is = rw is refl
own_more team (t ∷ ss) s is =
    let go : (b : Bool) → (t.team == team) ≡ b → submissions_of team ((t ∷ ss) ++ s ∷ []) ≡ submissions_of team (t ∷ ss) ++ s ∷ [] = elim [
      | true ↦ λ own. rw own (ap (λ rest. t ∷ rest) (own_more team ss s is))
      | false ↦ λ own. rw own (own_more team ss s is)
    ] in
    go (t.team == team) refl

-- those of another team stay
pub own_stay : (team : ℕ) (ss : List Submission) (s : Submission) → (s.team == team) ≡ false → submissions_of team (ss ++ s ∷ []) ≡ submissions_of team ss
own_stay team [] s is = rw is refl
own_stay team (t ∷ ss) s is =
    let go : (b : Bool) → (t.team == team) ≡ b → submissions_of team ((t ∷ ss) ++ s ∷ []) ≡ submissions_of team (t ∷ ss) = elim [
      | true ↦ λ own. rw own (ap (λ rest. t ∷ rest) (own_stay team ss s is))
      | false ↦ λ own. rw own (own_stay team ss s is)
    ] in
    go (t.team == team) refl

not_it : (a k n l : ℕ) → a ≡ k → k + suc l ≤ n → (a == n) ≡ false
not_it a k n l e past = grind (arith, nat_tests, e, past)

-- a number past the last is no submission's
past_last : (ss : List Submission) (k n m : ℕ) → map number_of ss ≡ range_with_len k m → k + length ss ≤ n → list_any (λ s. s.number == n) ss ≡ false
past_last [] k n m all past = refl
past_last (s ∷ ss) k n zero all past = absurd (cc all)
past_last (s ∷ ss) k n (suc m) all past =
    let first : s.number ≡ k = cc all in
    let rest : map number_of ss ≡ range_with_len (k + 1) m = cc all in
    let other : (s.number == n) ≡ false = not_it s.number k n (length ss) first past in
    rw other (past_last ss (k + 1) n m rest (omega (arith, past)))

-- nothing is released on what isn't there
no_release : (x : ContestState) (team n : ℕ) (vs : List Release) → has_submission x team n ≡ false → list_all (is_valid_release x) vs ≡ true → releases_on team n vs ≡ []
no_release x team n [] none all = refl
no_release x team n (v ∷ vs) none all =
    let named : has_submission x v.team v.number ≡ true = and_left (has_submission x v.team v.number) _ (and_left (is_valid_release x v) (list_all (is_valid_release x) vs) all) in
    let rest = no_release x team n vs none (and_right (is_valid_release x v) (list_all (is_valid_release x) vs) all) in
    let go : (b : Bool) → ((v.team == team) && (v.number == n)) ≡ b → releases_on team n (v ∷ vs) ≡ [] = elim [
      | true ↦ λ is. (let t : v.team ≡ team = eqb-true _ _ (and_left (v.team == team) (v.number == n) is) in
          let k : v.number ≡ n = eqb-true _ _ (and_right (v.team == team) (v.number == n) is) in
          absurd (false≢true (sym none ∙ (λ i. has_submission x (sym t i) (sym k i)) ∙ named)))
      | false ↦ λ is. rw is rest
    ] in
    go ((v.team == team) && (v.number == n)) refl

-- nothing is released yet on a team's next submission
pub unjudged : (x : ContestState) (team n : ℕ) → is_valid x ≡ true → n ≡ length (submissions_of team x.submissions) + 1 → releases_on team n x.releases ≡ []
unjudged x team n valid next =
    let own = submissions_of team x.submissions in
    let past : list_any (λ s. s.number == n) own ≡ false = past_last own 1 n (length (map number_of own)) (own_numbers x team valid) (omega (arith, next)) in
    no_release x team n x.releases (any_both (λ s. s.team == team) (λ s. s.number == n) x.submissions ∙ past) (and_left (list_all (is_valid_release x) x.releases) _ (parts x valid).releases)

-- what a team knows of itself, with one more of its submissions
own_grows : (x : ContestState) (team : ℕ) (s : Submission) → is_valid x ≡ true → (s.team == team) ≡ true → s.number ≡ length (submissions_of team x.submissions) + 1
    → sight_of (audience.Team (team + 1)) (add x (NewSubmission s)) team ≡ Whole (map (own_record x) (submissions_of team x.submissions) ++ record { submission = s; judgements = [] } ∷ [])
own_grows x team s valid own next =
    let t : s.team ≡ team = eqb-true _ _ own in
    let none : judgements_on x s ≡ [] = ap (λ u. map judgement_of (releases_on u s.number x.releases)) t ∙ ap (map judgement_of) (unjudged x team s.number valid next) in
    let last : own_record x s ∷ [] ≡ record { submission = s; judgements = [] } ∷ [] = λ i. record { submission = s; judgements = none i } ∷ [] in
    own_sight (add x (NewSubmission s)) team
    ∙ (ap (λ ss. Whole (map (own_record x) ss)) (own_more team x.submissions s own)
    ∙ (ap Whole (map-append (own_record x) (submissions_of team x.submissions) (s ∷ [])) ∙ ap (λ rs. Whole (map (own_record x) (submissions_of team x.submissions) ++ rs)) last))

records_of : TeamSight → List OwnRecord
records_of (Whole rs) = rs
records_of (Open rs) = []
records_of Nothing = []

whole_same : (rs qs : List OwnRecord) → Whole rs ≡ Whole qs → rs ≡ qs
unfolding records_of
whole_same rs qs e = ap records_of e

-- what is known of another team stays
pub other_stays : (a : Audience) (x : ContestState) (team : ℕ) (s : Submission) → (s.team == team) ≡ false → sight_of a (add x (NewSubmission s)) team ≡ sight_of a x team
other_stays a x team s other =
    let same = own_stay team x.submissions s other in
    λ i. if owns a team then Whole (map (own_record x) (same i)) else (if is_public x.fixed.settings team then Open (map (open_record x) (same i)) else Nothing)

pub added_alike : (x y : ContestState) (team : ℕ) (s : Submission) → is_valid x ≡ true → is_valid y ≡ true → Alike (audience.Team (team + 1)) x y → s.team ≡ team
    → s.number ≡ length (submissions_of team x.submissions) + 1 → Alike (audience.Team (team + 1)) (add x (NewSubmission s)) (add y (NewSubmission s))
added_alike x y team s valid_x valid_y h own next =
    let a = audience.Team (team + 1) in
    let own_same : submissions_of team x.submissions ≡ submissions_of team y.submissions = own_alike x y team h in
    let next_y : s.number ≡ length (submissions_of team y.submissions) + 1 = next ∙ ap (λ (ss : List Submission). length ss + 1) own_same in
    let is : (s.team == team) ≡ true = eq-eqb s.team team own in
    let known : map (own_record x) (submissions_of team x.submissions) ≡ map (own_record y) (submissions_of team y.submissions) =
    whole_same _ _ (sym (own_sight x team) ∙ (h.teams team ∙ own_sight y team)) in
    let mine : sight_of a (add x (NewSubmission s)) team ≡ sight_of a (add y (NewSubmission s)) team =
    own_grows x team s valid_x is next ∙ (ap (λ rs. Whole (rs ++ record { submission = s; judgements = [] } ∷ [])) known ∙ sym (own_grows y team s valid_y is next_y)) in
    let each : (u : ℕ) (b : Bool) → (s.team == u) ≡ b → sight_of a (add x (NewSubmission s)) u ≡ sight_of a (add y (NewSubmission s)) u = λ u. elim [
      | true ↦ λ e. (let same : team ≡ u = sym own ∙ eqb-true _ _ e in subst (λ v. sight_of a (add x (NewSubmission s)) v ≡ sight_of a (add y (NewSubmission s)) v) same mine)
      | false ↦ λ e. other_stays a x u s e ∙ (h.teams u ∙ sym (other_stays a y u s e))
    ] in
    record { fixed = h.fixed; teams = λ u. each u (s.team == u) refl; told = h.told }
