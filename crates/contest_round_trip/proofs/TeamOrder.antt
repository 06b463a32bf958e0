-- What the jury sees of one team's submissions stands in all that it sees in the order in which it was accepted.
use Rattle.std.proofs.Common.{◌≡◌, ◌∙◌, ◌<◌, ℕ, Bool, true, false, List, [], ◌∷◌, map, filter, refl, sym, ap, subst, inl, inr}
use Rattle.std.specs.Prelude.{◌==◌, ◌||◌, ◌&&◌, nat_lt, if◌then◌else◌}
use Rattle.std.specs.Cmp.Lexicographic.{slice_cmp}
use Rattle.std.specs.Cmp.{nat_cmp_is}
use Rattle.std.specs.Ordering.{is_lt, nat_cmp, ordering_then}
use Rattle.std.specs.declared.cmp.Ordering.TheVariants.{Less, Equal}
use Rattle.std.proofs.lemmas.Bool.{and_parts, cases_Bool, eqb-true, ltb-true}
use Rattle.std.proofs.lemmas.Cmp.{nat_cmp_total, nat_list_cmp_total, tied_itself}
use Rattle.contest_types.specs.Order.{Has, IsInOrder}
use Rattle.contest_types.specs.Sight.{SeenSubmission, seen_of_team, seen_submission, seen_submissions, submission_cmp}
use Rattle.contest_types.specs.SightLaws.{is_earlier}
use Rattle.contest_types.specs.State.{ContestState, submissions_of}
use Rattle.contest_types.specs.TeamPlaces.{team_id_at}
use Rattle.contest_types.specs.Valid.{is_valid}
use Rattle.contest_types.specs.declared.audience.Audience.TheVariants.{Jury}
use Rattle.contest_types.specs.declared.submission.Submission.{Submission}
use Rattle.contest_types.proofs.InOrderLemmas.{filter_has, has_filter, has_map, map_has}
use Rattle.contest_types.proofs.OrderLemmas.{before_each, same_order}
use Rattle.contest_types.proofs.OwnLemmas.{by_time}
use Rattle.contest_types.proofs.Rising.{before_all, strict}
use Rattle.contest_types.proofs.SeenWhole.{listed_seen, seen_listed, seen_rises, submission_order}

-- ---- lists in order

-- what is kept of a list in order is in order
pub kept_in_order : {X : Type 0} (before : X → X → Bool) (p : X → Bool) (xs : List X) → IsInOrder before xs → IsInOrder before (filter p xs)
kept_in_order before p [] h = tt
kept_in_order {X} before p (x ∷ xs) h =
    let rest = kept_in_order before p xs h.1 in
    let go : (b : Bool) → IsInOrder before (if b then x ∷ filter p xs else filter p xs) = elim [
      | true ↦ (before_all before x (filter p xs) (λ y k. before_each before x xs y h.0 (filter_has p xs y k).0), rest)
      | false ↦ rest
    ] in
    go (p x)

-- what is made of a list in order is in order, where it keeps to the order of what it is made of
pub mapped_in_order : {X Y : Type 0} (before : X → X → Bool) (after : Y → Y → Bool) (f : X → Y) (xs : List X)
    → ((x y : X) → Has xs x → Has xs y → before x y ≡ true → after (f x) (f y) ≡ true) → IsInOrder before xs → IsInOrder after (map f xs)
mapped_in_order before after f [] keeps h = tt
mapped_in_order {X} {Y} before after f (x ∷ xs) keeps h = (
  before_all after (f x) (map f xs) (λ y k. let m = map_has f xs y k in subst (λ z. after (f x) z ≡ true) (sym m.is) (keeps x m.item (inl refl) (inr m.there) (before_each before x xs m.item h.0 m.there))),
  mapped_in_order before after f xs (λ y z j k. keeps y z (inr j) (inr k)) h.1,
)

-- ---- one team's submissions

less : (a b : ℕ) → a < b → nat_cmp a b ≡ Less
less a b h = sym (nat_cmp_is a b Less h)

one : (a : ℕ) → nat_cmp a a ≡ Equal
one a = tied_itself nat_cmp_total a

one_text : (a : List ℕ) → slice_cmp nat_cmp a a ≡ Equal
one_text a = tied_itself nat_list_cmp_total a

earlier_first : (t u : ℕ) (id : List ℕ) (m n : ℕ) → (nat_lt t u || ((t == u) && nat_lt m n)) ≡ true → is_lt (ordering_then (nat_cmp t u) (ordering_then (slice_cmp nat_cmp id id) (nat_cmp m n))) ≡ true
earlier_first t u id m n h = elim (cases_Bool (nat_lt t u)) [
  | inl e ↦ rw (less t u (ltb-true t u e)) refl
  | inr e ↦ (let both = and_parts (t == u) (nat_lt m n) (rw e at h) in
      let same : nat_cmp t u ≡ Equal = ap (nat_cmp t) (sym (eqb-true t u both.0)) ∙ one t in
      rw (same, one_text id, less m n (ltb-true m n both.1)) refl)
]

own_in_order : (now : ℕ) (x : ContestState) (team : ℕ) → is_valid x ≡ true → IsInOrder (λ v w. is_lt (submission_cmp x.fixed.settings v w)) (seen_of_team Jury now x team)
own_in_order now x team valid =
    let st = x.fixed.settings in
    let own = submissions_of team x.submissions in
    let of_team : (s : Submission) → Has own s → s.team ≡ team = λ s k. eqb-true s.team team (filter_has (λ r. r.team == team) x.submissions s k).1 in
    mapped_in_order is_earlier (λ v w. is_lt (submission_cmp st v w)) (seen_submission Jury now x) own
    (λ s t j k e. let same : team_id_at st t.team ≡ team_id_at st s.team = ap (team_id_at st) (of_team t k ∙ sym (of_team s j)) in rw same (earlier_first s.time t.time (team_id_at st s.team) s.number t.number e))
    (by_time x team valid)

-- ---- and so in all that is seen

pub one_team_of_all : (now : ℕ) (x : ContestState) (team : ℕ) → is_valid x ≡ true → filter (λ v. v.team == team) (seen_submissions Jury now x) ≡ seen_of_team Jury now x team
one_team_of_all now x team valid =
    let st = x.fixed.settings in
    let all = seen_submissions Jury now x in
    let of_team : SeenSubmission → Bool = λ v. v.team == team in
    let see : Submission → SeenSubmission = seen_submission Jury now x in
    same_order (λ v w. is_lt (submission_cmp st v w)) (strict (submission_order st)) (filter of_team all) (seen_of_team Jury now x team)
    (kept_in_order (λ v w. is_lt (submission_cmp st v w)) of_team all (seen_rises Jury now x))
    (own_in_order now x team valid)
    (λ v h. let parts = filter_has of_team all v h in
    let i = listed_seen Jury now x v parts.0 in
    let theirs : (i.submission.team == team) ≡ true = ap (λ w. w.team == team) (sym i.shown) ∙ parts.1 in
    subst (λ w. Has (seen_of_team Jury now x team) w) (sym i.shown) (has_map see (submissions_of team x.submissions) i.submission (has_filter (λ r. r.team == team) x.submissions i.submission i.there theirs)))
    (λ v h. let m = map_has see (submissions_of team x.submissions) v h in
    let parts = filter_has (λ r. r.team == team) x.submissions m.item m.there in
    has_filter of_team all v (seen_listed Jury now x valid v (record { submission = m.item; there = parts.0; sees = refl; shown = m.is })) (ap (λ w. w.team == team) m.is ∙ parts.1))
