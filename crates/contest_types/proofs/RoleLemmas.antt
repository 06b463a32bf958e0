-- Nobody loses sight by a role.
use Rattle.std.proofs.Common.{◌≡◌, ℕ, Bool, true, false, Some, refl, sym, ◌∙◌, ap, subst, inl, inr}
use Rattle.std.specs.Prelude.{◌||◌}
use Rattle.std.proofs.lemmas.Bool.{false≢true}
use Rattle.contest_types.specs.Setup.{Setup}
use Rattle.contest_types.specs.TeamPlaces.{is_public}
use Rattle.contest_types.specs.Clock.{is_frozen, is_thawed}
use Rattle.contest_types.specs.Masks.{knows_all_of}
use Rattle.contest_types.specs.State.{ContestState}
use Rattle.contest_types.specs.Sight.{Judgement, sees_submission, last_judgement, seen_judgement, hears, sees_clarification}
use Rattle.contest_types.specs.SightLaws.{SeesNoLess}
use Rattle.contest_types.specs.declared.audience.Audience.{Audience}
use Rattle.contest_types.specs.declared.submission.Submission.{Submission}
use Rattle.contest_types.specs.declared.clarification.Clarification.{Clarification}
use Rattle.contest_types.specs.declared.clarification.Addressee.{Addressee}
use Rattle.contest_types.specs.declared.clarification.Addressee.TheVariants as addressee
use Rattle.contest_types.proofs.ShownVerdicts.{is_shown, shown_more}

pub knows_no_less : (a b : Audience) → SeesNoLess a b → (team : ℕ) → knows_all_of a team ≡ true → knows_all_of b team ≡ true
knows_no_less a b r team h = elim r [
  | inl public ↦ absurd (false≢true (sym (ap (λ c. knows_all_of c team) public) ∙ h))
  | inr other ↦ elim other [ inl jury ↦ ap (λ c. knows_all_of c team) jury | inr same ↦ subst (λ c. knows_all_of c team ≡ true) same h ]
]

either_more : (p q r : Bool) → (p ≡ true → q ≡ true) → (p || r) ≡ true → (q || r) ≡ true
either_more true q r w h = rw (w refl) refl
either_more false true r w h = refl
either_more false false r w h = h

pub sees_no_less : (a b : Audience) → SeesNoLess a b → (x : ContestState) (s : Submission) → sees_submission a x s ≡ true → sees_submission b x s ≡ true
sees_no_less a b r x s h = either_more (knows_all_of a s.team) (knows_all_of b s.team) (is_public x.fixed.settings s.team) (knows_no_less a b r s.team) h

hears_of : (a b : Audience) → SeesNoLess a b → (s : Setup) (to : Addressee) → hears a s to ≡ true → hears b s to ≡ true
hears_of a b r s addressee.All h = refl
hears_of a b r s (addressee.Group group) h = elim r [
  | inl public ↦ absurd (false≢true (sym (ap (λ c. hears c s (addressee.Group group)) public) ∙ h))
  | inr other ↦ elim other [ inl jury ↦ ap (λ c. hears c s (addressee.Group group)) jury | inr same ↦ subst (λ c. hears c s (addressee.Group group) ≡ true) same h ]
]
hears_of a b r s (addressee.Team team) h = knows_no_less a b r team h

pub hears_no_less : (a b : Audience) → SeesNoLess a b → (x : ContestState) (c : Clarification) → sees_clarification a x.fixed.settings c ≡ true → sees_clarification b x.fixed.settings c ≡ true
hears_no_less a b r x c h = hears_of a b r x.fixed.settings c.addressee h

pub keeps_verdicts : (a b : Audience) → SeesNoLess a b → (now : ℕ) (x : ContestState) (s : Submission) (j : Judgement) → seen_judgement a now x s ≡ Some j → seen_judgement b now x s ≡ Some j
keeps_verdicts a b r now x s j h =
    is_shown b now x s
    ∙ shown_more (sees_submission a x s) (sees_submission b x s) (knows_all_of a s.team) (knows_all_of b s.team) (is_thawed x.fixed.marks now) (is_frozen x.fixed.settings x.fixed.marks s.time) (last_judgement x s) j
    (sees_no_less a b r x s) (knows_no_less a b r s.team) (sym (is_shown a now x s) ∙ h)
