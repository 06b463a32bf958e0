-- What others add, entry by entry.
use Rattle.std.proofs.Common.{◌≡◌, ◌∙◌, ◌+◌, ℕ, Bool, true, false, List, [], ◌∷◌, ◌++◌, length, map, refl, sym, ap, subst}
use Rattle.std.specs.Prelude.{◌&&◌, ◌==◌, filter, if◌then◌else◌}
use Rattle.std.proofs.lemmas.Bool.{eq-eqb, eqb-true}
use Rattle.std.proofs.lemmas.List.{map-append}
use Rattle.std.proofs.lemmas.Simd.{map-map}
use Rattle.std.proofs.lemmas.List.Elements.{filter-append}
use Rattle.contest_types.specs.Addable.{is_addable, are_addable, is_next_submission}
use Rattle.contest_types.specs.Alike.{OwnRecord, own_record, OpenRecord, open_record, TeamSight, Whole, Open, Nothing, sight_of, Alike}
use Rattle.contest_types.specs.Clock.{is_frozen}
use Rattle.contest_types.specs.Masks.{owns}
use Rattle.contest_types.specs.TeamPlaces.{is_public}
use Rattle.contest_types.specs.Sight.{Judgement, judgement_of, judgements_on}
use Rattle.contest_types.specs.State.{FixedPart, ContestState, submissions_of, releases_on, add}
use Rattle.contest_types.specs.Valid.{is_valid}
use Rattle.contest_types.specs.ValidSubmissions.{is_valid_submission}
use Rattle.contest_types.specs.declared.entry.Entry.{Entry}
use Rattle.contest_types.specs.declared.entry.Entry.TheVariants.{NewClarification, NewRelease, NewSubmission, NewType, NewLanguage, NewProblem, NewGroup, NewTeam, NewAccount, SetStart, SetThaw, SetFinalized, SetDuration, SetTeamName, SetDigest}
use Rattle.contest_types.specs.declared.audience.Audience.{Audience}
use Rattle.contest_types.specs.declared.submission.Release.{Release}
use Rattle.contest_types.specs.declared.submission.Submission.{Submission}
use Rattle.contest_types.proofs.AddEntry.{adding}
use Rattle.contest_types.proofs.PlaceLemmas.{and_left, and_right}
use Rattle.contest_types.proofs.SightLemmas.{map-filter_same}
use Rattle.contest_desk.specs.Moves.{ReleasesLike, ShowTheSame, ShowsLike, TellsLike, AreSame, InFirst, InSecond, InBoth, first_entries, second_entries, MovesStayAlike}
use Rattle.contest_types.specs.declared.clarification.Clarification.{Clarification}
use Rattle.contest_operations.proofs.SaidAlike.{said_alike}
use Rattle.contest_operations.proofs.AddedAlike.{own_more, unjudged, other_stays}
use Rattle.contest_desk.proofs.ChangesAlike.{digest_alike, duration_alike, team_name_alike}
use Rattle.contest_desk.proofs.ClockAlike.{final_alike, start_alike, thaw_alike}
use Rattle.contest_desk.proofs.SettingsAlike.{type_alike, language_alike, problem_alike, group_alike, team_alike, account_alike}
use Rattle.contest_desk.proofs.UnseenLemmas.{alike_onward, unseen_entry}

pub turned : (a : Audience) (x y : ContestState) → Alike a x y → Alike a y x
turned a x y h = record { fixed = sym h.fixed; teams = λ team. sym (h.teams team); told = λ to. sym (h.told to) }

open_sight : (a : Audience) (x : ContestState) (team : ℕ) → owns a team ≡ false → is_public x.fixed.settings team ≡ true → sight_of a x team ≡ Open (map (open_record x) (submissions_of team x.submissions))
open_sight a x team other shown = rw (other, shown) refl

records_of : TeamSight → List OpenRecord
records_of (Whole rs) = []
records_of (Open rs) = rs
records_of Nothing = []

open_same : (rs qs : List OpenRecord) → Open rs ≡ Open qs → rs ≡ qs
unfolding records_of
open_same rs qs e = ap records_of e

-- what is open of a submission on which nothing was released
abbrev fresh_record : Submission → OpenRecord
fresh_record s = record { number = s.number; problem = s.problem; language = s.language; time = s.time; judgements = [] }

none_held : (b : Bool) (js : List Judgement) → js ≡ [] → (if b then [] else js) ≡ []
none_held true js e = refl
none_held false js e = e

is_fresh : (x : ContestState) (s : Submission) → judgements_on x s ≡ [] → open_record x s ≡ fresh_record s
is_fresh x s none =
    let held : (if is_frozen x.fixed.settings x.fixed.marks s.time then [] else judgements_on x s) ≡ [] = none_held (is_frozen x.fixed.settings x.fixed.marks s.time) (judgements_on x s) none in
    λ i. record { number = s.number; problem = s.problem; language = s.language; time = s.time; judgements = held i }

open_grows : (a : Audience) (x : ContestState) (team : ℕ) (s : Submission) → is_valid x ≡ true → owns a team ≡ false → is_public x.fixed.settings team ≡ true
    → s.team ≡ team → s.number ≡ length (submissions_of team x.submissions) + 1
    → sight_of a (add x (NewSubmission s)) team ≡ Open (map (open_record x) (submissions_of team x.submissions) ++ fresh_record s ∷ [])
open_grows a x team s valid other shown own next =
    let is : (s.team == team) ≡ true = eq-eqb s.team team own in
    let none : judgements_on x s ≡ [] = ap (λ u. map judgement_of (releases_on u s.number x.releases)) own ∙ ap (map judgement_of) (unjudged x team s.number valid next) in
    let last : open_record x s ∷ [] ≡ fresh_record s ∷ [] = ap (λ r. r ∷ []) (is_fresh x s none) in
    open_sight a (add x (NewSubmission s)) team other shown
    ∙ (ap (λ ss. Open (map (open_record x) ss)) (own_more team x.submissions s is)
    ∙ (ap Open (map-append (open_record x) (submissions_of team x.submissions) (s ∷ [])) ∙ ap (λ rs. Open (map (open_record x) (submissions_of team x.submissions) ++ rs)) last))

fresh_same : (a : Audience) (x : ContestState) (s t : Submission) → ShowTheSame a x s t → fresh_record s ≡ fresh_record t
fresh_same a x s t h = λ i. record { number = h.number i; problem = h.problem i; language = h.language i; time = h.time i; judgements = [] }

next_number : (x : ContestState) (s : Submission) → is_addable x (NewSubmission s) ≡ true → s.number ≡ length (submissions_of s.team x.submissions) + 1
next_number x s can =
    let own = submissions_of s.team x.submissions in
    let next = and_right (is_valid_submission x.fixed s) (is_next_submission own s) can in
    eqb-true s.number (length own + 1) (and_left _ _ (and_left _ _ (and_left _ _ next)))

paired_submission : (a : Audience) (x y : ContestState) (s t : Submission) → is_valid x ≡ true → is_valid y ≡ true → Alike a x y → is_addable x (NewSubmission s) ≡ true → is_addable y (NewSubmission t) ≡ true
    → ShowTheSame a x s t → Alike a (add x (NewSubmission s)) (add y (NewSubmission t))
paired_submission a x y s t valid_x valid_y h can can_too same =
    let team = s.team in
    let shown_y : is_public y.fixed.settings team ≡ true = sym (ap (λ f. is_public f.settings team) h.fixed) ∙ same.shown in
    let known : map (open_record x) (submissions_of team x.submissions) ≡ map (open_record y) (submissions_of team y.submissions) =
    open_same _ _ (sym (open_sight a x team same.other same.shown) ∙ (h.teams team ∙ open_sight a y team same.other shown_y)) in
    let next_t : t.number ≡ length (submissions_of team y.submissions) + 1 = next_number y t can_too ∙ ap (λ u. length (submissions_of u y.submissions) + 1) (sym same.team) in
    let theirs : sight_of a (add x (NewSubmission s)) team ≡ sight_of a (add y (NewSubmission t)) team =
    open_grows a x team s valid_x same.other same.shown refl (next_number x s can) ∙ (ap (λ rs. Open (rs ++ fresh_record s ∷ [])) known
    ∙ (ap (λ r. Open (map (open_record y) (submissions_of team y.submissions) ++ r ∷ [])) (fresh_same a x s t same) ∙ sym (open_grows a y team t valid_y same.other shown_y (sym same.team) next_t))) in
    let each : (u : ℕ) (b : Bool) → (s.team == u) ≡ b → sight_of a (add x (NewSubmission s)) u ≡ sight_of a (add y (NewSubmission t)) u = λ u. elim [
      | true ↦ λ e. subst (λ v. sight_of a (add x (NewSubmission s)) v ≡ sight_of a (add y (NewSubmission t)) v) (eqb-true _ _ e) theirs
      | false ↦ λ e. other_stays a x u s e ∙ (h.teams u ∙ sym (other_stays a y u t (ap (λ w. w == u) (sym same.team) ∙ e)))
    ] in
    record { fixed = h.fixed; teams = λ u. each u (s.team == u) refl; told = h.told }

shown_alike : (a : Audience) (x y : ContestState) (s : Submission) (f : Entry) → is_valid x ≡ true → is_valid y ≡ true → Alike a x y → is_addable x (NewSubmission s) ≡ true → is_addable y f ≡ true
    → ShowsLike a x s f → Alike a (add x (NewSubmission s)) (add y f)
shown_alike a x y s (NewSubmission t) valid_x valid_y h can can_too same = paired_submission a x y s t valid_x valid_y h can can_too same
shown_alike a x y s _ valid_x valid_y h can can_too same = absurd same

-- what a release adds to what was released on a submission of a team with this number
more_of : (team number : ℕ) → Release → List Judgement
more_of team number v = if (v.team == team) && (v.number == number) then judgement_of v ∷ [] else []

judged_more : (x : ContestState) (v : Release) (s : Submission) → judgements_on (add x (NewRelease v)) s ≡ judgements_on x s ++ more_of s.team s.number v
unfolding more_of
judged_more x v s =
    let on : Release → Bool = λ w. (w.team == s.team) && (w.number == s.number) in
    let go : (b : Bool) → map judgement_of (filter on x.releases ++ (if b then v ∷ [] else [])) ≡ map judgement_of (filter on x.releases) ++ (if b then judgement_of v ∷ [] else []) = elim [
      | true ↦ map-append judgement_of (filter on x.releases) (v ∷ [])
      | false ↦ map-append judgement_of (filter on x.releases) []
    ] in
    ap (map judgement_of) (filter-append on x.releases (v ∷ [])) ∙ go (on v)

-- a record of an own submission, with one more release
own_with : Release → OwnRecord → OwnRecord
own_with v r = record r { judgements = r.judgements ++ more_of r.submission.team r.submission.number v }

-- an open record of a team's submission
open_with : ContestState → (team : ℕ) → Release → OpenRecord → OpenRecord
open_with x team v r = record r { judgements = if is_frozen x.fixed.settings x.fixed.marks r.time then [] else r.judgements ++ more_of team r.number v }

own_more_record : (x : ContestState) (v : Release) (s : Submission) → own_record (add x (NewRelease v)) s ≡ own_with v (own_record x s)
unfolding own_with
own_more_record x v s = λ i. record { submission = s; judgements = judged_more x v s i }

open_more_record : (x : ContestState) (team : ℕ) (v : Release) (s : Submission) → (s.team == team) ≡ true → open_record (add x (NewRelease v)) s ≡ open_with x team v (open_record x s)
unfolding open_with
open_more_record x team v s is =
    let here : judgements_on (add x (NewRelease v)) s ≡ judgements_on x s ++ more_of team s.number v = judged_more x v s ∙ ap (λ t. judgements_on x s ++ more_of t s.number v) (eqb-true s.team team is) in
    let go : (b : Bool) → (if b then [] else judgements_on (add x (NewRelease v)) s) ≡ (if b then [] else (if b then [] else judgements_on x s) ++ more_of team s.number v) = elim [ true ↦ refl | false ↦ here ] in
    let shown = go (is_frozen x.fixed.settings x.fixed.marks s.time) in
    λ i. record { number = s.number; problem = s.problem; language = s.language; time = s.time; judgements = shown i }

-- what is learned of a team, with one more release
sight_with : ContestState → (team : ℕ) → Release → TeamSight → TeamSight
sight_with x team v (Whole rs) = Whole (map (own_with v) rs)
sight_with x team v (Open rs) = Open (map (open_with x team v) rs)
sight_with x team v Nothing = Nothing

released_sight : (a : Audience) (x : ContestState) (v : Release) (team : ℕ) → sight_of a (add x (NewRelease v)) team ≡ sight_with x team v (sight_of a x team)
unfolding sight_with
released_sight a x v team =
    let y = add x (NewRelease v) in
    let own = submissions_of team x.submissions in
    let whole : map (own_record y) own ≡ map (own_with v) (map (own_record x) own) =
    map-filter_same (own_record y) (λ s. own_with v (own_record x s)) (λ s. s.team == team) (λ s e. own_more_record x v s) x.submissions ∙ sym (map-map (own_with v) (own_record x) own) in
    let opened : map (open_record y) own ≡ map (open_with x team v) (map (open_record x) own) =
    map-filter_same (open_record y) (λ s. open_with x team v (open_record x s)) (λ s. s.team == team) (λ s e. open_more_record x team v s e) x.submissions ∙ sym (map-map (open_with x team v) (open_record x) own) in
    let go : (b c : Bool) → (if b then Whole (map (own_record y) own) else (if c then Open (map (open_record y) own) else Nothing))
    ≡ sight_with x team v (if b then Whole (map (own_record x) own) else (if c then Open (map (open_record x) own) else Nothing)) = elim [
      | true ↦ λ c. ap Whole whole
      | false ↦ elim [ true ↦ ap Open opened | false ↦ refl ]
    ] in
    go (owns a team) (is_public x.fixed.settings team)

-- which goes by the fixed part alone
fixed_sight : (x y : ContestState) (team : ℕ) (v : Release) (t : TeamSight) → x.fixed ≡ y.fixed → sight_with x team v t ≡ sight_with y team v t
unfolding sight_with open_with
fixed_sight x y team v (Whole rs) same = refl
fixed_sight x y team v (Open rs) same = ap (λ (f : FixedPart). Open (map (λ (r : OpenRecord). record r { judgements = if is_frozen f.settings f.marks r.time then [] else r.judgements ++ more_of team r.number v }) rs)) same
fixed_sight x y team v Nothing same = refl

paired_release : (a : Audience) (x y : ContestState) (v : Release) → Alike a x y → Alike a (add x (NewRelease v)) (add y (NewRelease v))
unfolding sight_with open_with
paired_release a x y v h = record {
  fixed = h.fixed;
  teams = λ team. released_sight a x v team ∙ (ap (sight_with x team v) (h.teams team) ∙ (fixed_sight x y team v (sight_of a y team) h.fixed ∙ sym (released_sight a y v team)));
  told = h.told;
}

like_release : (a : Audience) (x y : ContestState) (v : Release) (f : Entry) → Alike a x y → ReleasesLike v f → Alike a (add x (NewRelease v)) (add y f)
like_release a x y v (NewRelease u) h same = subst (λ w. Alike a (add x (NewRelease v)) (add y (NewRelease w))) same (paired_release a x y v h)
like_release a x y v _ h same = absurd same

like_clarification : (a : Audience) (x y : ContestState) (c : Clarification) (f : Entry) → Alike a x y → TellsLike a x c f → Alike a (add x (NewClarification c)) (add y f)
like_clarification a x y c (NewClarification d) h same = said_alike a x y c d h same.addressee same.told
like_clarification a x y c _ h same = absurd same

-- an equal row in both
like_row : (a : Audience) (x y : ContestState) (e f : Entry) → Alike a (add x e) (add y e) → f ≡ e → Alike a (add x e) (add y f)
like_row a x y e f h same = subst (λ g. Alike a (add x e) (add y g)) (sym same) h

-- two entries that show the same
same_alike : (a : Audience) (x y : ContestState) (e f : Entry) → is_valid x ≡ true → is_valid y ≡ true → Alike a x y → is_addable x e ≡ true → is_addable y f ≡ true → AreSame a x e f → Alike a (add x e) (add y f)
same_alike a x y (NewSubmission s) f valid_x valid_y h can can_too same = shown_alike a x y s f valid_x valid_y h can can_too same
same_alike a x y (NewRelease v) f valid_x valid_y h can can_too same = like_release a x y v f h same
same_alike a x y (NewClarification c) f valid_x valid_y h can can_too same = like_clarification a x y c f h same
same_alike a x y (NewType t) f valid_x valid_y h can can_too same = like_row a x y (NewType t) f (type_alike a x y t h) same
same_alike a x y (NewLanguage l) f valid_x valid_y h can can_too same = like_row a x y (NewLanguage l) f (language_alike a x y l h) same
same_alike a x y (NewProblem p) f valid_x valid_y h can can_too same = like_row a x y (NewProblem p) f (problem_alike a x y p h) same
same_alike a x y (NewGroup g) f valid_x valid_y h can can_too same = like_row a x y (NewGroup g) f (group_alike a x y g h) same
same_alike a x y (NewTeam t) f valid_x valid_y h can can_too same = like_row a x y (NewTeam t) f (team_alike a x y t valid_x valid_y h same.1) same.0
same_alike a x y (NewAccount account) f valid_x valid_y h can can_too same = like_row a x y (NewAccount account) f (account_alike a x y account h) same
same_alike a x y (SetStart start) f valid_x valid_y h can can_too same = like_row a x y (SetStart start) f (start_alike a x y start h can (subst (λ g. is_addable y g ≡ true) same can_too)) same
same_alike a x y (SetThaw thaw) f valid_x valid_y h can can_too same = like_row a x y (SetThaw thaw) f (thaw_alike a x y thaw h) same
same_alike a x y (SetFinalized finalized) f valid_x valid_y h can can_too same = like_row a x y (SetFinalized finalized) f (final_alike a x y finalized h) same
same_alike a x y (SetDuration duration freeze) f valid_x valid_y h can can_too same = like_row a x y (SetDuration duration freeze) f (duration_alike a x y duration freeze h can (subst (λ g. is_addable y g ≡ true) same can_too)) same
same_alike a x y (SetTeamName team name) f valid_x valid_y h can can_too same = like_row a x y (SetTeamName team name) f (team_name_alike a x y team name h) same
same_alike a x y (SetDigest id digest) f valid_x valid_y h can can_too same = like_row a x y (SetDigest id digest) f (digest_alike a x y id digest h) same
same_alike a x y _ f valid_x valid_y h can can_too same = absurd same

pub moves_stay_alike : MovesStayAlike
moves_stay_alike a x y [] valid_x valid_y h can can_too moves = h
moves_stay_alike a x y (InFirst e ∷ ms) valid_x valid_y h can can_too moves =
    let one = and_left (is_addable x e) (are_addable (add x e) (first_entries ms)) can in
    let rest = and_right (is_addable x e) (are_addable (add x e) (first_entries ms)) can in
    moves_stay_alike a (add x e) y ms (adding x e valid_x one) valid_y (alike_onward a (add x e) x y (unseen_entry a x e moves.0) h) rest can_too moves.1
moves_stay_alike a x y (InSecond f ∷ ms) valid_x valid_y h can can_too moves =
    let one = and_left (is_addable y f) (are_addable (add y f) (second_entries ms)) can_too in
    let rest = and_right (is_addable y f) (are_addable (add y f) (second_entries ms)) can_too in
    moves_stay_alike a x (add y f) ms valid_x (adding y f valid_y one) (alike_onward a x y (add y f) h (turned a (add y f) y (unseen_entry a y f moves.0))) can rest moves.1
moves_stay_alike a x y (InBoth e f ∷ ms) valid_x valid_y h can can_too moves =
    let one = and_left (is_addable x e) (are_addable (add x e) (first_entries ms)) can in
    let rest = and_right (is_addable x e) (are_addable (add x e) (first_entries ms)) can in
    let one_too = and_left (is_addable y f) (are_addable (add y f) (second_entries ms)) can_too in
    let rest_too = and_right (is_addable y f) (are_addable (add y f) (second_entries ms)) can_too in
    moves_stay_alike a (add x e) (add y f) ms (adding x e valid_x one) (adding y f valid_y one_too) (same_alike a x y e f valid_x valid_y h one one_too moves.0) rest rest_too moves.1
