-- What a change leaves of what is seen and heard.
use Rattle.std.proofs.Common.{◌≡◌, ℕ, Bool, true, false, List, [], ◌∷◌, ◌++◌, length, map, Option, Some, None, refl, sym, ap, ◌∙◌}
use Rattle.std.specs.Prelude.{◌||◌, if◌then◌else◌}
use Rattle.std.specs.List.{list_all, flat_map, range_with_len}
use Rattle.std.specs.Option.{option_and_then}
use Rattle.std.proofs.Math.Path.{fun_ext}
use Rattle.std.proofs.lemmas.Bool.{false≢true}
use Rattle.contest_types.specs.State.{ContestState, Entry, NewSubmission, NewProposal, NewRelease, NewClarification, NewRejudging, SetMember, SetRejudging, SetStart, SetThaw, SetFinalized, SetDuration, SetTeamName, SetDigest, NewType, NewLanguage, NewProblem, NewGroup, NewTeam, NewAccount, submissions_of, clarifications_to, with_team_name, add, add_all}
use Rattle.contest_types.specs.Clock.{is_frozen, is_thawed}
use Rattle.contest_types.specs.Masks.{knows_all_of}
use Rattle.contest_types.specs.Order.{by_number, by_text, by_each, in_order}
use Rattle.contest_types.specs.Setup.{Setup}
use Rattle.contest_types.specs.TeamPlaces.{group_places, team_id_at, is_public}
use Rattle.contest_types.specs.Sight.{Judgement, SeenSubmission, program_for, last_judgement, seen_judgement, seen_submissions, hears, SeenClarification, clarification_cmp, seen_clarifications}
use Rattle.contest_types.specs.SightLaws.{is_before_release, may_show_submissions, may_show_clarifications}
use Rattle.contest_types.specs.declared.audience.Audience.{Audience}
use Rattle.contest_types.specs.declared.clarification.Addressee.{Addressee}
use Rattle.contest_types.specs.declared.clarification.Addressee.TheVariants.{Group as ToGroup, Team as ToTeam, All as ToAll}
use Rattle.contest_types.specs.declared.clarification.Clarification.{Clarification}
use Rattle.contest_types.specs.declared.clarification.Reference.{Reference}
use Rattle.contest_types.specs.declared.submission.Submission.{Submission}
use Rattle.contest_types.proofs.GroupLemmas.{hears_by_teams}
use Rattle.contest_types.proofs.NameLemmas.{as_many_teams, hears_with_name, id_stays, public_stays}
use Rattle.contest_types.proofs.PlaceLemmas.{and_left, and_right}
use Rattle.contest_types.proofs.ShownVerdicts.{shown, is_shown}

-- what is seen, by how many teams there are, their ids, which are open to all, and what is seen of each one's verdicts
abbrev seen_with : Audience → ContestState → ℕ → (ℕ → List ℕ) → (ℕ → Bool) → (Submission → Option Judgement) → List SeenSubmission
seen_with a x teams id public judgement =
    let seen : Submission → SeenSubmission = λ s. record { team = s.team; number = s.number; time = s.time; problem = s.problem; language = s.language; program = program_for a s; judgement = judgement s } in
    in_order (by_each (by_number (λ v. v.time) ∷ by_text (λ v. id v.team) ∷ by_number (λ v. v.number) ∷ []))
    (flat_map (λ team. if knows_all_of a team || public team then map seen (submissions_of team x.submissions) else []) (range_with_len 0 teams))

abbrev as_in : Audience → ContestState → (Submission → Option Judgement) → List SeenSubmission
as_in a x = seen_with a x (length x.fixed.settings.teams) (team_id_at x.fixed.settings) (is_public x.fixed.settings)

by_verdicts : (a : Audience) (x : ContestState) (f g : Submission → Option Judgement) → ((s : Submission) → f s ≡ g s) → as_in a x f ≡ as_in a x g
by_verdicts a x f g h = ap (as_in a x) (fun_ext h)

-- what is heard, by how many teams there are and whom who looks hears
abbrev heard_with : ContestState → ℕ → (Addressee → Bool) → List SeenClarification
heard_with x teams hears =
    let heard : Reference → Option Reference = λ r. if hears r.addressee then Some r else None in
    let seen : Clarification → SeenClarification = λ c. record { addressee = c.addressee; number = c.number; from_jury = c.from_jury; problem = c.problem; reply = option_and_then heard c.reply; text = c.text; time = c.time } in
    in_order clarification_cmp (flat_map (λ to. if hears to then map seen (clarifications_to to x.clarifications) else []) (ToAll ∷ (map ToGroup (group_places x.fixed.settings) ++ map ToTeam (range_with_len 0 teams))))

-- other rows of the settings than teams change nothing of what is heard
by_hearing : (a : Audience) (x : ContestState) (n : Setup) → n.teams ≡ x.fixed.settings.teams → heard_with x (length x.fixed.settings.teams) (hears a n) ≡ heard_with x (length x.fixed.settings.teams) (hears a x.fixed.settings)
by_hearing a x n e = ap (heard_with x (length x.fixed.settings.teams)) (fun_ext (hears_by_teams a n x.fixed.settings e))

-- nothing is seen or heard of a team's name
module _ (a : Audience) (now : ℕ) (x : ContestState) (team : ℕ) (name : List ℕ) where
  abbrev t : Setup
  t = with_team_name x.fixed.settings team name

  abbrev y : ContestState
  y = add x (SetTeamName team name)

  verdict_stays : (s : Submission) → seen_judgement a now y s ≡ seen_judgement a now x s
  verdict_stays s =
      is_shown a now y s
      ∙ (ap (λ b. shown (knows_all_of a s.team || b) (knows_all_of a s.team) (is_thawed x.fixed.marks now) (is_frozen x.fixed.settings x.fixed.marks s.time) (last_judgement x s)) (public_stays x.fixed.settings team name s.team)
      ∙ sym (is_shown a now x s))

  pub name_shows_nothing : seen_submissions a now y ≡ seen_submissions a now x
  name_shows_nothing =
      ap (λ n. seen_with a x n (team_id_at t) (is_public t) (seen_judgement a now y)) (as_many_teams x.fixed.settings team name)
      ∙ (ap (λ id. seen_with a x (length x.fixed.settings.teams) id (is_public t) (seen_judgement a now y)) (fun_ext (id_stays x.fixed.settings team name))
      ∙ (ap (λ public. seen_with a x (length x.fixed.settings.teams) (team_id_at x.fixed.settings) public (seen_judgement a now y)) (fun_ext (public_stays x.fixed.settings team name))
      ∙ by_verdicts a x (seen_judgement a now y) (seen_judgement a now x) verdict_stays))

  pub name_is_unheard : seen_clarifications a y ≡ seen_clarifications a x
  name_is_unheard =
      ap (λ n. heard_with x n (hears a t)) (as_many_teams x.fixed.settings team name)
      ∙ ap (heard_with x (length x.fixed.settings.teams)) (fun_ext (hears_with_name a x.fixed.settings team name))

-- what may show no submission shows none
pub shows_no_submission : (a : Audience) (now : ℕ) (x : ContestState) (e : Entry) → may_show_submissions e ≡ false → seen_submissions a now (add x e) ≡ seen_submissions a now x
shows_no_submission a now x (NewSubmission s) h = absurd (false≢true (sym h))
shows_no_submission a now x (NewProposal p) h = refl
shows_no_submission a now x (NewRelease v) h = absurd (false≢true (sym h))
shows_no_submission a now x (NewClarification c) h = refl
shows_no_submission a now x (NewRejudging r) h = refl
shows_no_submission a now x (SetMember n place state) h = refl
shows_no_submission a now x (SetRejudging n state) h = refl
shows_no_submission a now x (SetStart start) h = absurd (false≢true (sym h))
shows_no_submission a now x (SetThaw thaw) h = absurd (false≢true (sym h))
shows_no_submission a now x (SetFinalized finalized) h = by_verdicts a x (seen_judgement a now (add x (SetFinalized finalized))) (seen_judgement a now x) (λ s. is_shown a now (add x (SetFinalized finalized)) s ∙ sym (is_shown a now x s))
shows_no_submission a now x (SetDuration duration freeze) h = absurd (false≢true (sym h))
shows_no_submission a now x (SetTeamName team name) h = name_shows_nothing a now x team name
shows_no_submission a now x (SetDigest id digest) h = refl
shows_no_submission a now x (NewType t) h = by_verdicts a x (seen_judgement a now (add x (NewType t))) (seen_judgement a now x) (λ s. is_shown a now (add x (NewType t)) s ∙ sym (is_shown a now x s))
shows_no_submission a now x (NewLanguage l) h = by_verdicts a x (seen_judgement a now (add x (NewLanguage l))) (seen_judgement a now x) (λ s. is_shown a now (add x (NewLanguage l)) s ∙ sym (is_shown a now x s))
shows_no_submission a now x (NewProblem p) h = by_verdicts a x (seen_judgement a now (add x (NewProblem p))) (seen_judgement a now x) (λ s. is_shown a now (add x (NewProblem p)) s ∙ sym (is_shown a now x s))
shows_no_submission a now x (NewGroup g) h = by_verdicts a x (seen_judgement a now (add x (NewGroup g))) (seen_judgement a now x) (λ s. is_shown a now (add x (NewGroup g)) s ∙ sym (is_shown a now x s))
shows_no_submission a now x (NewTeam t) h = absurd (false≢true (sym h))
shows_no_submission a now x (NewAccount b) h = refl

pub shows_no_clarification : (a : Audience) (x : ContestState) (e : Entry) → may_show_clarifications e ≡ false → seen_clarifications a (add x e) ≡ seen_clarifications a x
shows_no_clarification a x (NewSubmission s) h = refl
shows_no_clarification a x (NewProposal p) h = refl
shows_no_clarification a x (NewRelease v) h = refl
shows_no_clarification a x (NewClarification c) h = absurd (false≢true (sym h))
shows_no_clarification a x (NewRejudging r) h = refl
shows_no_clarification a x (SetMember n place state) h = refl
shows_no_clarification a x (SetRejudging n state) h = refl
shows_no_clarification a x (SetStart start) h = refl
shows_no_clarification a x (SetThaw thaw) h = refl
shows_no_clarification a x (SetFinalized finalized) h = refl
shows_no_clarification a x (SetDuration duration freeze) h = by_hearing a x (add x (SetDuration duration freeze)).fixed.settings refl
shows_no_clarification a x (SetTeamName team name) h = name_is_unheard a 0 x team name
shows_no_clarification a x (SetDigest id digest) h = refl
shows_no_clarification a x (NewType t) h = by_hearing a x (add x (NewType t)).fixed.settings refl
shows_no_clarification a x (NewLanguage l) h = by_hearing a x (add x (NewLanguage l)).fixed.settings refl
shows_no_clarification a x (NewProblem p) h = by_hearing a x (add x (NewProblem p)).fixed.settings refl
shows_no_clarification a x (NewGroup g) h = absurd (false≢true (sym h))
shows_no_clarification a x (NewTeam t) h = absurd (false≢true (sym h))
shows_no_clarification a x (NewAccount b) h = refl

-- judging before its release is none of those
pub shows_neither : (e : Entry) → is_before_release e ≡ true → (may_show_submissions e ≡ false) × (may_show_clarifications e ≡ false)
shows_neither (NewSubmission s) h = absurd (false≢true h)
shows_neither (NewProposal p) h = (refl, refl)
shows_neither (NewRelease v) h = absurd (false≢true h)
shows_neither (NewClarification c) h = absurd (false≢true h)
shows_neither (NewRejudging r) h = (refl, refl)
shows_neither (SetMember n place state) h = (refl, refl)
shows_neither (SetRejudging n state) h = (refl, refl)
shows_neither (SetStart start) h = absurd (false≢true h)
shows_neither (SetThaw thaw) h = absurd (false≢true h)
shows_neither (SetFinalized finalized) h = absurd (false≢true h)
shows_neither (SetDuration duration freeze) h = absurd (false≢true h)
shows_neither (SetTeamName team name) h = absurd (false≢true h)
shows_neither (SetDigest id digest) h = absurd (false≢true h)
shows_neither (NewType t) h = absurd (false≢true h)
shows_neither (NewLanguage l) h = absurd (false≢true h)
shows_neither (NewProblem p) h = absurd (false≢true h)
shows_neither (NewGroup g) h = absurd (false≢true h)
shows_neither (NewTeam t) h = absurd (false≢true h)
shows_neither (NewAccount b) h = absurd (false≢true h)

pub judging_shows_nothing : (a : Audience) (now : ℕ) (x : ContestState) (es : List Entry) → list_all is_before_release es ≡ true → (seen_submissions a now (add_all x es) ≡ seen_submissions a now x) × (seen_clarifications a (add_all x es) ≡ seen_clarifications a x)
judging_shows_nothing a now x [] h = (refl, refl)
judging_shows_nothing a now x (e ∷ es) h =
    let now_none = shows_neither e (and_left _ _ h) in
    let later = judging_shows_nothing a now (add x e) es (and_right (is_before_release e) _ h) in
    (later.0 ∙ shows_no_submission a now x e now_none.0, later.1 ∙ shows_no_clarification a x e now_none.1)
