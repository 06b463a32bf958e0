-- What an audience sees before the thaw is a function of what alike contests agree on.
use Rattle.std.proofs.Common.{◌≡◌, ◌≢◌, ℕ, List, [], ◌∷◌, map, refl, sym, ◌∙◌, ap, subst, Bool, true, false, Some, None}
use Rattle.std.specs.Prelude.{if◌then◌else◌, filter, ◌==◌, ◌||◌}
use Rattle.std.specs.List.{flat_map, last_or}
use Rattle.std.proofs.lemmas.Simd.{map-map}
use Rattle.std.proofs.lemmas.Bool.{eqb-true}
use Rattle.contest_types.specs.Order.{in_order}
use Rattle.contest_types.specs.Setup.{Setup}
use Rattle.contest_types.specs.TeamPlaces.{team_places, is_public}
use Rattle.contest_types.specs.Clock.{is_frozen, is_thawed}
use Rattle.contest_types.specs.Masks.{is_jury, owns}
use Rattle.contest_types.specs.State.{FixedPart, ContestState, submissions_of, same_addressee, clarifications_to}
use Rattle.contest_types.specs.Sight.{SeenSubmission, judgements_on, program_of, seen_submission, seen_of_team, submission_cmp, seen_submissions, SeenClarification, seen_clarification, heard_of, clarification_cmp, addressees, seen_clarifications, hears}
use Rattle.contest_types.specs.Alike.{OwnRecord, OpenRecord, OpenClarification, own_record, open_record, open_clarification, TeamSight, Whole, Open, Nothing, sight_of, told_of, Alike, MayBeHeld}
use Rattle.contest_types.specs.declared.audience.Audience.{Audience}
use Rattle.contest_types.specs.declared.audience.Audience.TheVariants as audience
use Rattle.contest_types.specs.declared.submission.Submission.{Submission}
use Rattle.contest_types.specs.declared.clarification.Addressee.{Addressee}
use Rattle.contest_types.specs.declared.clarification.Addressee.TheVariants as addressee
use Rattle.contest_types.specs.declared.clarification.Clarification.{Clarification}

-- functions that agree where the test holds
pub map-filter_same : {X Y : Type 0} (f g : X → Y) (p : X → Bool) → ((x : X) → p x ≡ true → f x ≡ g x) → (xs : List X) → map f (filter p xs) ≡ map g (filter p xs)
map-filter_same f g p h [] = refl
map-filter_same f g p h (x ∷ xs) =
    let rest = map-filter_same f g p h xs in
    let go : (b : Bool) → p x ≡ b → map f (if b then x ∷ filter p xs else filter p xs) ≡ map g (if b then x ∷ filter p xs else filter p xs) =
    elim [ true ↦ λ e. rw (h x e, rest) refl | false ↦ λ e. rest ] in
    go (p x) refl

pub flat_map_same : {X Y : Type 0} (f g : X → List Y) → ((x : X) → f x ≡ g x) → (xs : List X) → flat_map f xs ≡ flat_map g xs
flat_map_same f g h [] = refl
flat_map_same f g h (x ∷ xs) = rw (h x, flat_map_same f g h xs) refl

pub not_jury : (a : Audience) → a ≢ audience.Jury → is_jury a ≡ false
not_jury audience.Public h = refl
not_jury (audience.Team number) h = refl
not_jury audience.Jury h = absurd (h refl)

-- what is seen of an own submission, and of another's before the thaw
abbrev from_own : OwnRecord → SeenSubmission
from_own r = record {
  team = r.submission.team;
  number = r.submission.number;
  time = r.submission.time;
  problem = r.submission.problem;
  language = r.submission.language;
  program = Some (program_of r.submission);
  judgement = last_or None r.judgements;
}

abbrev from_open : ℕ → OpenRecord → SeenSubmission
from_open team r = record { team = team; number = r.number; time = r.time; problem = r.problem; language = r.language; program = None; judgement = last_or None r.judgements }

abbrev from_sight : ℕ → TeamSight → List SeenSubmission
from_sight team (Whole rs) = map from_own rs
from_sight team (Open rs) = map (from_open team) rs
from_sight team Nothing = []

shown_own : (a : Audience) (now : ℕ) (x : ContestState) (team : ℕ) (s : Submission) → is_jury a ≡ false → owns a team ≡ true → s.team ≡ team → seen_submission a now x s ≡ from_own (own_record x s)
shown_own a now x team s j o e =
    let o' : owns a s.team ≡ true = subst (λ t. owns a t ≡ true) (sym e) o in
    rw (j, o') refl

shown_open : (a : Audience) (now : ℕ) (x : ContestState) (team : ℕ) (s : Submission) → is_jury a ≡ false → is_thawed x.fixed.marks now ≡ false → owns a team ≡ false → is_public x.fixed.settings team ≡ true → s.team ≡ team → seen_submission a now x s ≡ from_open team (open_record x s)
shown_open a now x team s j th o p e =
    let o' : owns a s.team ≡ false = subst (λ t. owns a t ≡ false) (sym e) o in
    let p' : is_public x.fixed.settings s.team ≡ true = subst (λ t. is_public x.fixed.settings t ≡ true) (sym e) p in
    let go : (b : Bool) → (if b then None else last_or None (judgements_on x s)) ≡ last_or None (if b then [] else judgements_on x s) =
    elim [ true ↦ refl | false ↦ refl ] in
    rw (j, o', p', th) (rw (sym e, go (is_frozen x.fixed.settings x.fixed.marks s.time)) refl)

own_seen : (a : Audience) (now : ℕ) (x : ContestState) (team : ℕ) → is_jury a ≡ false → owns a team ≡ true → map (seen_submission a now x) (submissions_of team x.submissions) ≡ map from_own (map (own_record x) (submissions_of team x.submissions))
own_seen a now x team j o =
    map-filter_same (seen_submission a now x) (λ s. from_own (own_record x s)) (λ s. s.team == team) (λ s e. shown_own a now x team s j o (eqb-true s.team team e)) x.submissions
    ∙ sym (map-map from_own (own_record x) (submissions_of team x.submissions))

open_seen : (a : Audience) (now : ℕ) (x : ContestState) (team : ℕ) → is_jury a ≡ false → is_thawed x.fixed.marks now ≡ false → owns a team ≡ false → is_public x.fixed.settings team ≡ true → map (seen_submission a now x) (submissions_of team x.submissions) ≡ map (from_open team) (map (open_record x) (submissions_of team x.submissions))
open_seen a now x team j th o p =
    map-filter_same (seen_submission a now x) (λ s. from_open team (open_record x s)) (λ s. s.team == team) (λ s e. shown_open a now x team s j th o p (eqb-true s.team team e)) x.submissions
    ∙ sym (map-map (from_open team) (open_record x) (submissions_of team x.submissions))

-- what is seen of a team follows from the sight of it
pub seen_from_sight : (a : Audience) (now : ℕ) (x : ContestState) (team : ℕ) → MayBeHeld a now x → seen_of_team a now x team ≡ from_sight team (sight_of a x team)
seen_from_sight a now x team m =
    let j = not_jury a m.no_jury in
    let subs = submissions_of team x.submissions in
    let go : (b : Bool) → owns a team ≡ b → (c : Bool) → is_public x.fixed.settings team ≡ c
    → (if (b || c) then map (seen_submission a now x) subs else []) ≡ from_sight team (if b then Whole (map (own_record x) subs) else (if c then Open (map (open_record x) subs) else Nothing)) =
    elim [
      | true ↦ λ o c p. own_seen a now x team j o
      | false ↦ λ o. elim [ true ↦ λ p. open_seen a now x team j m.held o p | false ↦ λ p. refl ]
    ] in
    rw j (go (owns a team) refl (is_public x.fixed.settings team) refl)

-- it may be held back in the one where it may be in the other
pub held_too : (a : Audience) (now : ℕ) (x y : ContestState) → MayBeHeld a now x → x.fixed ≡ y.fixed → MayBeHeld a now y
held_too a now x y m f = record { no_jury = m.no_jury; held = subst (λ (g : FixedPart). is_thawed g.marks now ≡ false) f m.held }

pub team_alike : (a : Audience) (now : ℕ) (x y : ContestState) (team : ℕ) → MayBeHeld a now x → Alike a x y → seen_of_team a now x team ≡ seen_of_team a now y team
team_alike a now x y team m h =
    seen_from_sight a now x team m ∙ (ap (from_sight team) (h.teams team) ∙ sym (seen_from_sight a now y team (held_too a now x y m h.fixed)))

pub seen_alike : (a : Audience) (now : ℕ) (x y : ContestState) → MayBeHeld a now x → Alike a x y → seen_submissions a now x ≡ seen_submissions a now y
seen_alike a now x y m h =
    let all : ContestState → FixedPart → List SeenSubmission = λ z f. flat_map (seen_of_team a now z) (team_places f.settings) in
    let same : all x x.fixed ≡ all y x.fixed = flat_map_same (seen_of_team a now x) (seen_of_team a now y) (λ team. team_alike a now x y team m h) (team_places x.fixed.settings) in
    ap (in_order (submission_cmp x.fixed.settings)) same ∙ ap (λ (f : FixedPart). in_order (submission_cmp f.settings) (all y f)) h.fixed

-- a clarification that is heard, without its key
abbrev without_key : Addressee → OpenClarification → SeenClarification
without_key addressee c = record { addressee = addressee; number = c.number; from_jury = c.from_jury; problem = c.problem; reply = c.reply; text = c.text; time = c.time }

pub same_is_one : (addressee other : Addressee) → same_addressee addressee other ≡ true → addressee ≡ other
same_is_one addressee.All addressee.All e = refl
same_is_one addressee.All (addressee.Group g) e = absurd (cc)
same_is_one addressee.All (addressee.Team t) e = absurd (cc)
same_is_one (addressee.Group g) addressee.All e = absurd (cc)
same_is_one (addressee.Group g) (addressee.Group h) e = ap addressee.Group (eqb-true g h e)
same_is_one (addressee.Group g) (addressee.Team t) e = absurd (cc)
same_is_one (addressee.Team t) addressee.All e = absurd (cc)
same_is_one (addressee.Team t) (addressee.Group g) e = absurd (cc)
same_is_one (addressee.Team t) (addressee.Team u) e = ap addressee.Team (eqb-true t u e)

shown_clarification : (a : Audience) (s : Setup) (addressee : Addressee) (c : Clarification) → same_addressee c.addressee addressee ≡ true → seen_clarification a s c ≡ without_key addressee (open_clarification a s c)
shown_clarification a s addressee c e = rw (same_is_one c.addressee addressee e) refl

-- what is heard follows from what is told
pub heard_from_told : (a : Audience) (x : ContestState) (addressee : Addressee) → heard_of a x addressee ≡ map (without_key addressee) (told_of a x addressee)
heard_from_told a x addressee =
    let cs = clarifications_to addressee x.clarifications in
    let s = x.fixed.settings in
    let go : (b : Bool) → (if b then map (seen_clarification a s) cs else []) ≡ map (without_key addressee) (if b then map (open_clarification a s) cs else []) =
    elim [
      | true ↦ map-filter_same (seen_clarification a s) (λ c. without_key addressee (open_clarification a s c)) (λ c. same_addressee c.addressee addressee) (shown_clarification a s addressee) x.clarifications
          ∙ sym (map-map (without_key addressee) (open_clarification a s) cs)
      | false ↦ refl
    ] in
    go (hears a s addressee)

heard_alike_of : (a : Audience) (x y : ContestState) (addressee : Addressee) → Alike a x y → heard_of a x addressee ≡ heard_of a y addressee
heard_alike_of a x y addressee h =
    heard_from_told a x addressee ∙ (ap (map (without_key addressee)) (h.told addressee) ∙ sym (heard_from_told a y addressee))

pub heard_alike : (a : Audience) (x y : ContestState) → Alike a x y → seen_clarifications a x ≡ seen_clarifications a y
heard_alike a x y h =
    let same = flat_map_same (heard_of a x) (heard_of a y) (λ addressee. heard_alike_of a x y addressee h) (addressees x.fixed.settings) in
    ap (in_order clarification_cmp) same ∙ ap (λ (f : FixedPart). in_order clarification_cmp (flat_map (heard_of a y) (addressees f.settings))) h.fixed
