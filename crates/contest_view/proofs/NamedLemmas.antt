-- The submission that an id names is the one with its number among those of its team.
use Rattle.std.proofs.Common.{◌≡◌, ◌∙◌, ◌+◌, ◌<◌, ◌≤◌, ◌∷◌, ◌++◌, ℕ, zero, suc, Bool, true, false, List, [], length, map, Option, Some, None, refl, sym, ap, arith, inl, inr}
use Rattle.std.specs.Prelude.{◌==◌, ◌&&◌, ◌^◌, bytes_eq, find, slice_get}
use Rattle.std.specs.Fmt.{decimal}
use Rattle.std.specs.List.{range_with_len}
use Rattle.std.specs.Option.{option_map}
use Rattle.std.proofs.lemmas.Bool.{eq-eqb, eqb-true, false≢true}
use Rattle.std.proofs.lemmas.Bool.Decides.{nat_tests}
use Rattle.std.proofs.lemmas.Option.{slice_get-map}
use Rattle.std.proofs.lemmas.Slice.Eq.{bytes_eq-Decides}
use Rattle.contest_types.specs.Loads.{without_file, loaded_submissions}
use Rattle.contest_types.specs.Order.{Has}
use Rattle.contest_types.specs.State.{ContestState, submissions_of}
use Rattle.contest_types.specs.Valid.{is_valid}
use Rattle.contest_types.specs.VisibleIds.{submission_id}
use Rattle.contest_types.specs.declared.limits.TheConstants.{TEAMS}
use Rattle.contest_types.specs.declared.submission.Submission.{Submission}
use Rattle.contest_types.proofs.SettingsTest.{is_settings}
use Rattle.contest_types.proofs.DashedNumbers.{dashed}
use Rattle.contest_types.proofs.InOrderLemmas.{find_has}
use Rattle.contest_types.proofs.PlaceLemmas.{and_left, and_right, both_true}
use Rattle.contest_types.proofs.Rising.{find_passes}
use Rattle.contest_types.proofs.SeenWhole.{team_there}
use Rattle.contest_types.proofs.ValidParts.{parts}
use Rattle.contest_view.specs.Reads.{named_submission}
use Rattle.contest_objects.proofs.CollectionLemmas.{find_mapped}
use Rattle.contest_view.proofs.SeenApart.{number_small}
use Rattle.contest_view.proofs.OwnNumbers.{number_of, find_both, own_numbers}
use Rattle.contest_types.proofs.Ranges.{first_is, rest_is}
use Rattle.contest_types.proofs.OwnLemmas.{own_loaded}

find_agree : {X : Type 0} (p q : X → Bool) (xs : List X) → ((x : X) → Has xs x → p x ≡ q x) → find p xs ≡ find q xs
find_agree p q [] same = refl
find_agree p q (x ∷ xs) same = rw (same x (inl refl), find_agree p q xs (λ y h. same y (inr h))) refl

differs : (a k i : ℕ) → a ≡ k → (a == k + suc i) ≡ false
differs a k i e = grind (arith, nat_tests, e)

below : (a k m : ℕ) → a ≡ k → m < k → (a == m) ≡ false
below a k m e l = grind (arith, nat_tests, e, l)

-- where rows are numbered one after another, the one with a number stands so far behind the first
pub numbered : (ss : List Submission) (first n k : ℕ) → map number_of ss ≡ range_with_len first n → find (λ t. t.number == first + k) ss ≡ slice_get ss k
numbered [] first n k all = refl
numbered (t ∷ ss) first zero k all = absurd (cc all)
numbered (t ∷ ss) first (suc n) zero all =
    let here : t.number ≡ first + 0 = omega (arith, first_is _ first n _ all) in
    rw (eq-eqb t.number (first + 0) here) refl
numbered (t ∷ ss) first (suc n) (suc k) all =
    let e : (first + 1) + k ≡ first + suc k = omega arith in
    rw (differs t.number first k (first_is _ first n _ all)) (rw e at (numbered ss (first + 1) n k (rest_is _ first n _ all)))

-- and there is none with a number below the first
pub none_below : (ss : List Submission) (first n m : ℕ) → m < first → map number_of ss ≡ range_with_len first n → find (λ t. t.number == m) ss ≡ None
none_below [] first n m l all = refl
none_below (t ∷ ss) first zero m l all = absurd (cc all)
none_below (t ∷ ss) first (suc n) m l all =
    rw (below t.number first m (first_is _ first n _ all) l) (none_below ss (first + 1) n m (omega (arith, l)) (rest_is _ first n _ all))

-- the numbers of a row are small
record IsSmall (s : Submission) : Type 0 where
  team : s.team + 1 < 2 ^ 64
  number : s.number < 2 ^ 64

small : (x : ContestState) → is_valid x ≡ true → (s : Submission) → Has x.submissions s → IsSmall s
small x valid s there =
    let few : length x.fixed.settings.teams ≤ TEAMS = (is_settings x (parts x valid).settings).few_teams in
    record { team = omega (arith, few, team_there x s valid there); number = omega (arith, number_small x valid s there) }

-- an id tells the team and the number
tells : (s : Submission) (team number : ℕ) (id : List ℕ) → IsSmall s → team + 1 < 2 ^ 64 → number < 2 ^ 64 → submission_id team number ≡ id
    → bytes_eq (submission_id s.team s.number) id ≡ ((s.team == team) && (s.number == number))
tells s team number id fits lt ln e =
    let own = submission_id s.team s.number in
    let go : (b c : Bool) → bytes_eq own id ≡ b → ((s.team == team) && (s.number == number)) ≡ c → b ≡ c = elim [
      | true ↦ elim [
        | true ↦ λ f g. refl
        | false ↦ λ f g.
            let same : own ≡ submission_id team number = (bytes_eq-Decides own id).0 f ∙ sym e in
            let tail : decimal (s.team + 1) ++ 45 ∷ decimal s.number ≡ decimal (team + 1) ++ 45 ∷ decimal number = cc same in
            let both = dashed (s.team + 1) s.number (team + 1) number fits.team fits.number lt ln tail in
            let one : s.team ≡ team = omega (arith, both.0) in
            absurd (false≢true (sym g ∙ both_true _ _ (eq-eqb s.team team one) (eq-eqb s.number number both.1)))
      ]
      | false ↦ elim [
        | true ↦ λ f g.
            let one : s.team ≡ team = eqb-true s.team team (and_left _ _ g) in
            let two : s.number ≡ number = eqb-true s.number number (and_right (s.team == team) _ g) in
            let same : own ≡ id = ap (λ t. submission_id t s.number) one ∙ (ap (submission_id team) two ∙ e) in
            absurd (false≢true (sym f ∙ (bytes_eq-Decides own id).1 same))
        | false ↦ λ f g. refl
      ]
    ] in
    go (bytes_eq own id) ((s.team == team) && (s.number == number)) refl refl

named_own : (x : ContestState) → is_valid x ≡ true → (team number : ℕ) (id : List ℕ) → team + 1 < 2 ^ 64 → number < 2 ^ 64 → submission_id team number ≡ id
    → named_submission id x.submissions ≡ find (λ t. t.number == number) (submissions_of team x.submissions)
named_own x valid team number id lt ln e =
    find_agree (λ (s : Submission). bytes_eq (submission_id s.team s.number) id) (λ (s : Submission). (s.team == team) && (s.number == number)) x.submissions
    (λ s there. tells s team number id (small x valid s there) lt ln e)
    ∙ find_both (λ (s : Submission). s.team == team) (λ (s : Submission). s.number == number) x.submissions

-- files don't enter
loaded_named : (x : ContestState) (id : List ℕ) → named_submission id (loaded_submissions x) ≡ option_map without_file (named_submission id x.submissions)
loaded_named x id = find_mapped (λ (s : Submission). bytes_eq (submission_id s.team s.number) id) without_file x.submissions

-- so the one with an id stands at its number among those of its team
pub named_at : (x : ContestState) → is_valid x ≡ true → (team place : ℕ) (id : List ℕ) → team + 1 < 2 ^ 64 → 1 + place < 2 ^ 64 → submission_id team (1 + place) ≡ id
    → named_submission id (loaded_submissions x) ≡ slice_get (submissions_of team (loaded_submissions x)) place
named_at x valid team place id lt ln e =
    let own = submissions_of team x.submissions in
    loaded_named x id ∙ (ap (option_map without_file) (named_own x valid team (1 + place) id lt ln e ∙ numbered own 1 (length (map number_of own)) place (own_numbers x team valid))
    ∙ (sym (slice_get-map without_file own place) ∙ ap (λ rows. slice_get rows place) (sym (own_loaded team x.submissions))))

-- none has the number 0
pub named_zero : (x : ContestState) → is_valid x ≡ true → (team : ℕ) (id : List ℕ) → team + 1 < 2 ^ 64 → submission_id team 0 ≡ id → named_submission id (loaded_submissions x) ≡ None
named_zero x valid team id lt e =
    let own = submissions_of team x.submissions in
    loaded_named x id ∙ ap (option_map without_file) (named_own x valid team 0 id lt (omega arith) e ∙ none_below own 1 (length (map number_of own)) 0 (omega arith) (own_numbers x team valid))

-- nor does one have what is no id
pub named_none : (x : ContestState) → is_valid x ≡ true → (id : List ℕ) (read : Option (ℕ × ℕ)) → ((team number : ℕ) → team + 1 < 2 ^ 64 → number < 2 ^ 64 → submission_id team number ≡ id → read ≡ Some (team, number)) → read ≡ None
    → named_submission id (loaded_submissions x) ≡ None
named_none x valid id read reads none =
    let go : (o : Option Submission) → named_submission id x.submissions ≡ o → o ≡ None = elim [
      | None ↦ λ e. refl
      | (Some s) ↦ λ e.
          let has_id : Submission → Bool = λ t. bytes_eq (submission_id t.team t.number) id in
          let fits = small x valid s (find_has has_id x.submissions s e) in
          let same : submission_id s.team s.number ≡ id = (bytes_eq-Decides (submission_id s.team s.number) id).0 (find_passes has_id x.submissions s e) in
          absurd (cc (sym none ∙ reads s.team s.number fits.team fits.number same))
    ] in
    loaded_named x id ∙ ap (option_map without_file) (go (named_submission id x.submissions) refl)

-- and it alone is as good as all
pub only_named : (id : List ℕ) (rows : List Submission) (s : Submission) → named_submission id rows ≡ Some s → named_submission id (s ∷ []) ≡ named_submission id rows
only_named id rows s e =
    let passes : bytes_eq (submission_id s.team s.number) id ≡ true = find_passes (λ (t : Submission). bytes_eq (submission_id t.team t.number) id) rows s e in
    rw passes (sym e)
