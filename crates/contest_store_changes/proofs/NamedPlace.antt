-- A submission that is named by its team and its number stands at its number among those of its team.
use Rattle.std.proofs.Common.{◌≡◌, ◌∙◌, ◌+◌, ℕ, zero, suc, Bool, true, false, List, [], ◌∷◌, length, map, filter, slice_get, Some, refl, sym, ap, inl, inr, arith}
use Rattle.std.specs.Prelude.{◌||◌, ◌==◌, if◌then◌else◌}
use Rattle.std.specs.List.{list_any, range_with_len}
use Rattle.std.proofs.lemmas.Bool.{eqb-true, false≢true}
use Rattle.contest_types.specs.Order.{Has}
use Rattle.contest_types.specs.State.{ContestState, submissions_of}
use Rattle.contest_types.specs.Valid.{is_valid}
use Rattle.contest_types.specs.ValidSubmissions.{has_submission}
use Rattle.contest_types.specs.declared.submission.Submission.{Submission}
use Rattle.contest_store_changes.proofs.OwnNumbers.{number_of, own_counts}
use Rattle.contest_types.proofs.Ranges.{first_is, rest_is}
use Rattle.contest_types.proofs.Filters.{any_both}

-- where it stands
pub record StandsAt (own : List Submission) (first number : ℕ) : Type 0 where
  pub submission : Submission
  pub place : ℕ
  pub at : slice_get own place ≡ Some submission
  pub counted : first + place ≡ number
  pub is_its : submission.number ≡ number

stands_at : (own : List Submission) (first number : ℕ) → map number_of own ≡ range_with_len first (length own) → list_any (λ (s : Submission). s.number == number) own ≡ true → StandsAt own first number
stands_at [] first number up h = absurd (false≢true h)
stands_at (s ∷ own) first number up h =
    let go : (b : Bool) → (s.number == number) ≡ b → (b || list_any (λ (t : Submission). t.number == number) own) ≡ true → StandsAt (s ∷ own) first number = elim [
      | true ↦ λ e k.
          (let its = eqb-true s.number number e in
          let first_its : s.number ≡ first = first_is _ first (length own) _ up in
          record { submission = s; place = zero; at = refl; counted = omega (arith, its, first_its); is_its = its })
      | false ↦ λ e k.
          (let later = stands_at own (first + 1) number (rest_is _ first (length own) _ up) k in
          record { submission = later.submission; place = suc later.place; at = later.at; counted = omega (arith, later.counted); is_its = later.is_its })
    ] in
    go (s.number == number) refl h

kept_has : {X : Type 0} (p : X → Bool) (xs : List X) (k : ℕ) (x : X) → slice_get (filter p xs) k ≡ Some x → Has xs x × (p x ≡ true)
kept_has p [] zero x h = absurd (cc h)
kept_has p [] (suc k) x h = absurd (cc h)
kept_has {X} p (y ∷ ys) k x h =
    let go : (b : Bool) (k : ℕ) → p y ≡ b → slice_get (if b then y ∷ filter p ys else filter p ys) k ≡ Some x → Has (y ∷ ys) x × (p x ≡ true) = elim [
      | true ↦ elim [
        | zero ↦ λ e at. (let same : y ≡ x = cc at in (inl (sym same), ap p (sym same) ∙ e))
        | (suc k) ↦ λ e at. (let rest = kept_has p ys k x at in (inr rest.0, rest.1))
      ]
      | false ↦ λ k e at. (let rest = kept_has p ys k x at in (inr rest.0, rest.1))
    ] in
    go (p y) k refl h

-- a team's submission with a number, which stands
pub record Named (x : ContestState) (team number : ℕ) : Type 0 where
  pub submission : Submission
  pub place : ℕ
  pub at : slice_get (submissions_of team x.submissions) place ≡ Some submission
  pub counted : number ≡ place + 1
  pub there : Has x.submissions submission
  pub of_team : submission.team ≡ team
  pub of_number : submission.number ≡ number

pub named_place : (x : ContestState) (team number : ℕ) → is_valid x ≡ true → has_submission x team number ≡ true → Named x team number
named_place x team number valid h =
    let own = submissions_of team x.submissions in
    let any = sym (any_both (λ (s : Submission). s.team == team) (λ (s : Submission). s.number == number) x.submissions) ∙ h in
    let s = stands_at own 1 number (own_counts x team valid).up any in
    let kept = kept_has (λ (t : Submission). t.team == team) x.submissions s.place s.submission s.at in
    record {
      submission = s.submission;
      place = s.place;
      at = s.at;
      counted = omega (arith, s.counted);
      there = kept.0;
      of_team = eqb-true s.submission.team team kept.1;
      of_number = s.is_its;
    }
