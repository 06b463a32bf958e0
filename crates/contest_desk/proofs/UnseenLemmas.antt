-- What an audience can't notice leaves the contest alike for it: one lemma for each kind of entry.
use Rattle.std.proofs.Common.{◌≡◌, ℕ, Bool, true, false, List, [], ◌∷◌, ◌++◌, map, filter, refl, sym, ◌∙◌, ap, subst, inl, inr, arith, not, append-nil}
use Rattle.std.specs.Prelude.{◌&&◌, ◌||◌, ◌==◌, if◌then◌else◌}
use Rattle.std.specs.List.{list_all}
use Rattle.std.proofs.lemmas.Bool.{eqb-true}
use Rattle.std.proofs.lemmas.Bool.Decides.{nat_tests}
use Rattle.std.proofs.lemmas.List.Elements.{filter-append}
use Rattle.contest_types.specs.Order.{Has}
use Rattle.contest_types.specs.Setup.{Setup}
use Rattle.contest_types.specs.Clock.{is_frozen}
use Rattle.contest_types.specs.TeamPlaces.{is_public}
use Rattle.contest_types.specs.Masks.{owns}
use Rattle.contest_types.specs.State.{ContestState, submissions_of, same_addressee, clarifications_to, add, add_all}
use Rattle.contest_types.specs.Sight.{hears, judgement_of, judgements_on}
use Rattle.contest_types.specs.Alike.{OwnRecord, OpenRecord, own_record, open_record, open_clarification, Whole, Open, Nothing, Alike}
use Rattle.contest_types.specs.declared.entry.Entry.{Entry}
use Rattle.contest_types.specs.declared.entry.Entry.TheVariants.{NewSubmission, NewProposal, NewRelease, NewClarification, NewRejudging, SetMember, SetRejudging, SetStart, SetThaw, SetFinalized, SetDuration, SetTeamName, SetDigest, NewType, NewLanguage, NewProblem, NewGroup, NewTeam, NewAccount}
use Rattle.contest_types.specs.declared.audience.Audience.{Audience}
use Rattle.contest_types.specs.declared.submission.Submission.{Submission}
use Rattle.contest_types.specs.declared.submission.Release.{Release}
use Rattle.contest_types.specs.declared.clarification.Addressee.{Addressee}
use Rattle.contest_types.specs.declared.clarification.Clarification.{Clarification}
use Rattle.contest_types.proofs.PlaceLemmas.{and_left, and_right}
use Rattle.contest_types.proofs.SightLemmas.{map-filter_same, same_is_one}
use Rattle.contest_desk.specs.Unseen.{IsOnFrozen, IsUnseenSubmission, IsUnseenRelease, IsUnheard, IsUnseen, AreUnseen}

-- one more element that fails the test
filter_more_not : {X : Type 0} (p : X → Bool) (xs : List X) (x : X) → p x ≡ false → filter p (xs ++ x ∷ []) ≡ filter p xs
filter_more_not p xs x e = filter-append p xs (x ∷ []) ∙ rw e (append-nil (filter p xs))

-- functions that agree on the elements at which the test holds
map-filter_had : {X Y : Type 0} (f g : X → Y) (p : X → Bool) (xs : List X) → ((x : X) → Has xs x → p x ≡ true → f x ≡ g x) → map f (filter p xs) ≡ map g (filter p xs)
map-filter_had f g p [] h = refl
map-filter_had f g p (x ∷ xs) h =
    let rest = map-filter_had f g p xs (λ y k. h y (inr k)) in
    let go : (b : Bool) → p x ≡ b → map f (if b then x ∷ filter p xs else filter p xs) ≡ map g (if b then x ∷ filter p xs else filter p xs) =
    elim [ true ↦ λ e. rw (h x (inl refl) e, rest) refl | false ↦ λ e. rest ] in
    go (p x) refl

-- places that a test tells apart
apart : (p : ℕ → Bool) (b : Bool) (m n : ℕ) → p m ≡ false → p n ≡ true → (m == n) ≡ b → b ≡ false
apart p true m n f t e = sym t ∙ (ap p (sym (eqb-true m n e)) ∙ f)
apart p false m n f t e = refl

-- what is learned of a team is the same where it is for its owner and for all others
same_sight : (a : Audience) (s : Setup) (team : ℕ) (own own' : List OwnRecord) (opened opened' : List OpenRecord)
    → (owns a team ≡ true → own ≡ own') → (owns a team ≡ false → is_public s team ≡ true → opened ≡ opened')
    → (if owns a team then Whole own else (if is_public s team then Open opened else Nothing)) ≡ (if owns a team then Whole own' else (if is_public s team then Open opened' else Nothing))
same_sight a s team own own' opened opened' h k =
    let go : (b : Bool) → owns a team ≡ b → (c : Bool) → is_public s team ≡ c
    → (if b then Whole own else (if c then Open opened else Nothing)) ≡ (if b then Whole own' else (if c then Open opened' else Nothing)) =
    elim [
      | true ↦ λ o c p. ap Whole (h o)
      | false ↦ λ o. elim [ true ↦ λ p. ap Open (k o p) | false ↦ λ p. refl ]
    ] in
    go (owns a team) refl (is_public s team) refl

unseen_submission : (a : Audience) (x : ContestState) (s : Submission) → IsUnseenSubmission a x s → Alike a (add x (NewSubmission s)) x
unseen_submission a x s h =
    let without : (team : ℕ) → (s.team == team) ≡ false → submissions_of team (x.submissions ++ s ∷ []) ≡ submissions_of team x.submissions =
    λ team. filter_more_not (λ t. t.team == team) x.submissions s in
    record {
      fixed = refl;
      teams = λ team. same_sight a x.fixed.settings team _ _ _ _
          (λ o. ap (map (own_record x)) (without team (apart (owns a) _ s.team team h.other o refl)))
          (λ o p. ap (map (open_record x)) (without team (apart (is_public x.fixed.settings) _ s.team team h.hidden p refl)));
      told = λ to. refl;
    }

-- a release on another submission
judged_same : (x : ContestState) (v : Release) (s : Submission) → ((v.team == s.team) && (v.number == s.number)) ≡ false → judgements_on (add x (NewRelease v)) s ≡ judgements_on x s
judged_same x v s e = ap (map judgement_of) (filter_more_not (λ w. (w.team == s.team) && (w.number == s.number)) x.releases v e)

-- on a submission of another team
judged_elsewhere : (x : ContestState) (v : Release) (s : Submission) → (v.team == s.team) ≡ false → judgements_on (add x (NewRelease v)) s ≡ judgements_on x s
judged_elsewhere x v s e = judged_same x v s (rw e refl)

-- on this one, which is frozen, or on another
open_same : (x : ContestState) (v : Release) (s : Submission) → Has x.submissions s → IsOnFrozen x v → open_record (add x (NewRelease v)) s ≡ open_record x s
open_same x v s there frozen =
    let elsewhere : ((v.team == s.team) && (v.number == s.number)) ≡ false → open_record (add x (NewRelease v)) s ≡ open_record x s = λ e. rw (judged_same x v s e) refl in
    let here : (v.team == s.team) ≡ true → (v.number == s.number) ≡ true → open_record (add x (NewRelease v)) s ≡ open_record x s =
    λ e k. rw (frozen s there (sym (eqb-true v.team s.team e)) (sym (eqb-true v.number s.number k))) refl in
    let go : (b c : Bool) → (v.team == s.team) ≡ b → (v.number == s.number) ≡ c → open_record (add x (NewRelease v)) s ≡ open_record x s =
    elim [
      | true ↦ elim [ true ↦ here | false ↦ λ e k. elsewhere (rw (e, k) refl) ]
      | false ↦ λ c e k. elsewhere (rw e refl)
    ] in
    go (v.team == s.team) (v.number == s.number) refl refl

unseen_release : (a : Audience) (x : ContestState) (v : Release) → IsUnseenRelease a x v → Alike a (add x (NewRelease v)) x
unseen_release a x v h =
    let y = add x (NewRelease v) in
    let elsewhere : (p : ℕ → Bool) (team : ℕ) (s : Submission) → p v.team ≡ false → p team ≡ true → (s.team == team) ≡ true → judgements_on y s ≡ judgements_on x s =
    λ p team s f t e. judged_elsewhere x v s (apart p _ v.team s.team f (subst (λ n. p n ≡ true) (sym (eqb-true s.team team e)) t) refl) in
    record {
      fixed = refl;
      teams = λ team. same_sight a x.fixed.settings team _ _ _ _
          (λ o. map-filter_same (own_record y) (own_record x) (λ s. s.team == team) (λ s e. rw (elsewhere (owns a) team s h.other o e) refl) x.submissions)
          (λ o p. elim (h.held) [
            | inl hidden ↦ map-filter_same (open_record y) (open_record x) (λ s. s.team == team) (λ s e. rw (elsewhere (is_public x.fixed.settings) team s hidden p e) refl) x.submissions
            | inr frozen ↦ map-filter_had (open_record y) (open_record x) (λ s. s.team == team) x.submissions (λ s there e. open_same x v s there frozen)
          ]);
      told = λ to. refl;
    }

-- what isn't heard goes to no one whose clarifications are heard
not_heard : (a : Audience) (s : Setup) (from to : Addressee) (b : Bool) → hears a s from ≡ false → hears a s to ≡ true → same_addressee from to ≡ b → b ≡ false
not_heard a s from to true f t e = sym t ∙ (ap (hears a s) (sym (same_is_one from to e)) ∙ f)
not_heard a s from to false f t e = refl

unheard_clarification : (a : Audience) (x : ContestState) (c : Clarification) → IsUnheard a x c → Alike a (add x (NewClarification c)) x
unheard_clarification a x c h =
    let s = x.fixed.settings in
    let told : (to : Addressee) (b : Bool) → hears a s to ≡ b
    → (if b then map (open_clarification a s) (clarifications_to to (x.clarifications ++ c ∷ [])) else []) ≡ (if b then map (open_clarification a s) (clarifications_to to x.clarifications) else []) =
    λ to. elim [
      | true ↦ λ t. ap (map (open_clarification a s)) (filter_more_not (λ d. same_addressee d.addressee to) x.clarifications c (not_heard a s c.addressee to _ h t refl))
      | false ↦ λ t. refl
    ] in
    record { fixed = refl; teams = λ team. refl; told = λ to. told to (hears a s to) refl }

pub unseen_entry : (a : Audience) (x : ContestState) (e : Entry) → IsUnseen a x e → Alike a (add x e) x
unseen_entry a x (NewSubmission s) h = unseen_submission a x s h
unseen_entry a x (NewProposal p) h = record { fixed = refl; teams = λ team. refl; told = λ to. refl }
unseen_entry a x (NewRelease v) h = unseen_release a x v h
unseen_entry a x (NewClarification c) h = unheard_clarification a x c h
unseen_entry a x (NewRejudging r) h = record { fixed = refl; teams = λ team. refl; told = λ to. refl }
unseen_entry a x (SetMember n place state) h = record { fixed = refl; teams = λ team. refl; told = λ to. refl }
unseen_entry a x (SetRejudging n state) h = record { fixed = refl; teams = λ team. refl; told = λ to. refl }
unseen_entry a x (SetStart start) h = absurd h
unseen_entry a x (SetThaw thaw) h = absurd h
unseen_entry a x (SetFinalized finalized) h = absurd h
unseen_entry a x (SetDuration duration freeze) h = absurd h
unseen_entry a x (SetTeamName team name) h = absurd h
unseen_entry a x (SetDigest id digest) h = absurd h
unseen_entry a x (NewType t) h = absurd h
unseen_entry a x (NewLanguage l) h = absurd h
unseen_entry a x (NewProblem p) h = absurd h
unseen_entry a x (NewGroup g) h = absurd h
unseen_entry a x (NewTeam t) h = absurd h
unseen_entry a x (NewAccount account) h = absurd h

-- what is alike to a contest that is alike to a third is alike to the third
pub alike_onward : (a : Audience) (x y z : ContestState) → Alike a x y → Alike a y z → Alike a x z
alike_onward a x y z h k = record { fixed = h.fixed ∙ k.fixed; teams = λ team. h.teams team ∙ k.teams team; told = λ to. h.told to ∙ k.told to }

pub unseen_entries : (a : Audience) (x : ContestState) (es : List Entry) → AreUnseen a x es → Alike a (add_all x es) x
unseen_entries a x [] h = record { fixed = refl; teams = λ team. refl; told = λ to. refl }
unseen_entries a x (e ∷ es) h = alike_onward a (add_all (add x e) es) (add x e) x (unseen_entries a (add x e) es h.1) (unseen_entry a x e h.0)

-- what all pass, each passes
each_passes : {X : Type 0} (p : X → Bool) (xs : List X) → list_all p xs ≡ true → (x : X) → Has xs x → p x ≡ true
each_passes p [] all x there = absurd there
each_passes p (y ∷ xs) all x there = elim there [ inl e ↦ ap p e ∙ and_left (p y) _ all | inr k ↦ each_passes p xs (and_right (p y) _ all) x k ]

-- it is enough to look at the submissions that are there
pub frozen_where : (x : ContestState) (v : Release) → list_all (λ (s : Submission). not ((s.team == v.team) && (s.number == v.number)) || is_frozen x.fixed.settings x.fixed.marks s.time) x.submissions ≡ true → IsOnFrozen x v
frozen_where x v all s there t n =
    let passes = each_passes (λ (s : Submission). not ((s.team == v.team) && (s.number == v.number)) || is_frozen x.fixed.settings x.fixed.marks s.time) x.submissions all s there in
    let e : (s.team == v.team) ≡ true = rw t (grind (arith, nat_tests)) in
    let k : (s.number == v.number) ≡ true = rw n (grind (arith, nat_tests)) in
    sym (ap (λ b. not b || is_frozen x.fixed.settings x.fixed.marks s.time) (λ i. e i && k i)) ∙ passes
