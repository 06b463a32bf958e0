-- What a submission that is taken comes from.
use Rattle.std.proofs.Common.{◌≡◌, ◌∙◌, ◌+◌, ℕ, List, [], ◌∷◌, map, refl, sym, ap}
use Rattle.std.proofs.lemmas.Bool.{eq-eqb}
use Rattle.contest_types.specs.State.{FixedPart, ContestState, submissions_of}
use Rattle.contest_types.specs.Alike.{OwnRecord, own_record, TeamSight, Whole, Open, Nothing, Alike, sight_of}
use Rattle.contest_types.specs.Masks.{audience_at}
use Rattle.contest_types.specs.declared.submission.Submission.{Submission}
use Rattle.contest_rules.specs.declared.submitting.WantedSubmission.{WantedSubmission}
use Rattle.contest_rules.specs.Submitting.{so_far, submit}
use Rattle.contest_rules.specs.Laws.{submitted}

-- a team's submissions, read off what it knows of itself
from_sight : TeamSight → List Submission
from_sight (Whole rs) = map (λ (r : OwnRecord). r.submission) rs
from_sight (Open rs) = []
from_sight Nothing = []

known : (x : ContestState) (ss : List Submission) → map (λ (r : OwnRecord). r.submission) (map (own_record x) ss) ≡ ss
known x [] = refl
known x (s ∷ ss) = ap (λ ts. s ∷ ts) (known x ss)

pub own_sight : (x : ContestState) (team : ℕ) → sight_of (audience_at team) x team ≡ Whole (map (own_record x) (submissions_of team x.submissions))
own_sight x team = rw (eq-eqb (team + 1) (team + 1) refl) refl

own_known : (x : ContestState) (team : ℕ) → from_sight (sight_of (audience_at team) x team) ≡ submissions_of team x.submissions
unfolding from_sight
own_known x team = ap from_sight (own_sight x team) ∙ known x (submissions_of team x.submissions)

pub own_alike : (x y : ContestState) (team : ℕ) → Alike (audience_at team) x y → submissions_of team x.submissions ≡ submissions_of team y.submissions
own_alike x y team h = sym (own_known x team) ∙ (ap from_sight (h.teams team) ∙ own_known y team)

pub submit_alike : (x y : ContestState) (now team : ℕ) (w : WantedSubmission) → Alike (audience_at team) x y → submitted x now team w ≡ submitted y now team w
submit_alike x y now team w h =
    ap (λ (f : FixedPart). submit f now team (so_far w.key (submissions_of team x.submissions)) w) h.fixed
    ∙ ap (λ own. submit y.fixed now team (so_far w.key own) w) (own_alike x y team h)
