-- One row of the settings or the accounts, added to two contests that are alike, leaves them alike.
use Rattle.std.proofs.Common.{◌≡◌, ◌⊎◌, ◌∙◌, ℕ, zero, suc, ◌+◌, ◌-◌, Bool, true, false, List, [], ◌∷◌, ◌++◌, length, map, Option, Some, None, inl, inr, refl, sym, ap, subst, arith}
use Rattle.std.specs.Prelude.{◌==◌, ◌&&◌, nat_lt, not, slice_get, if◌then◌else◌}
use Rattle.std.specs.List.{list_all, list_any}
use Rattle.std.specs.Option.{option_and_then, option_map_or}
use Rattle.std.proofs.Math.Path.{fun_ext}
use Rattle.std.proofs.lemmas.Bool.{eqb-true}
use Rattle.std.proofs.lemmas.Bool.Decides.{nat_tests}
use Rattle.contest_types.specs.Alike.{Alike, OpenClarification, OwnRecord, OpenRecord, TeamSight, Whole, Open, Nothing, own_record, open_record, sight_of, told_of}
use Rattle.contest_types.specs.Masks.{owns}
use Rattle.contest_types.specs.Setup.{Setup}
use Rattle.contest_types.specs.Sight.{hears}
use Rattle.contest_types.specs.State.{FixedPart, ContestState, add, clarifications_to, submissions_of}
use Rattle.contest_types.specs.TeamPlaces.{is_public}
use Rattle.contest_types.specs.Valid.{is_valid}
use Rattle.contest_types.specs.ValidSubmissions.{is_valid_submission}
use Rattle.contest_types.specs.declared.account.Account.{Account}
use Rattle.contest_types.specs.declared.audience.Audience.{Audience}
use Rattle.contest_types.specs.declared.audience.Audience.TheVariants as audience
use Rattle.contest_types.specs.declared.clarification.Addressee.{Addressee}
use Rattle.contest_types.specs.declared.clarification.Addressee.TheVariants as addressee
use Rattle.contest_types.specs.declared.clarification.Clarification.{Clarification}
use Rattle.contest_types.specs.declared.clarification.Reference.{Reference}
use Rattle.contest_types.specs.declared.entry.Entry.TheVariants.{NewType, NewLanguage, NewProblem, NewGroup, NewTeam, NewAccount}
use Rattle.contest_types.specs.declared.objects.Group.{Group}
use Rattle.contest_types.specs.declared.objects.JudgementType.{JudgementType}
use Rattle.contest_types.specs.declared.objects.Language.{Language}
use Rattle.contest_types.specs.declared.objects.Problem.{Problem}
use Rattle.contest_types.specs.declared.objects.Team.{Team}
use Rattle.contest_types.specs.declared.submission.Submission.{Submission}
use Rattle.contest_types.proofs.GroupLemmas.{hears_by_teams}
use Rattle.contest_types.proofs.PlaceLemmas.{and_left, and_right}
use Rattle.contest_types.proofs.ValidParts.{parts}
use Rattle.contest_import.proofs.RowLemmas.{fixed_after}
use Rattle.contest_desk.specs.Moves.{TellsNothingOlder}

-- what is told, by whom who looks hears
abbrev told_with : ContestState → (Addressee → Bool) → Addressee → List OpenClarification
told_with x hears to =
    let heard : Reference → Option Reference = λ r. if hears r.addressee then Some r else None in
    let opened : Clarification → OpenClarification = λ c. record { number = c.number; from_jury = c.from_jury; problem = c.problem; reply = option_and_then heard c.reply; text = c.text; time = c.time; key = if c.from_jury then None else c.key } in
    if hears to then map opened (clarifications_to to x.clarifications) else []

pub by_hearing : (a : Audience) (x : ContestState) (m n : Setup) → ((to : Addressee) → hears a m to ≡ hears a n to) → (to : Addressee) → told_with x (hears a m) to ≡ told_with x (hears a n) to
by_hearing a x m n same to = ap (λ heard. told_with x heard to) (fun_ext same)

-- what is told where other rows of the settings than teams are added is what was
pub told_still : (a : Audience) (x y : ContestState) (m n : Setup) → m.teams ≡ x.fixed.settings.teams → n.teams ≡ y.fixed.settings.teams → Alike a x y → (to : Addressee) → told_with x (hears a m) to ≡ told_with y (hears a n) to
told_still a x y m n e g h to =
    by_hearing a x m x.fixed.settings (hears_by_teams a m x.fixed.settings e) to ∙ (h.told to ∙ sym (by_hearing a y n y.fixed.settings (hears_by_teams a n y.fixed.settings g) to))

pub type_alike : (a : Audience) (x y : ContestState) (t : JudgementType) → Alike a x y → Alike a (add x (NewType t)) (add y (NewType t))
type_alike a x y t h = record { fixed = fixed_after x y (NewType t) h.fixed; teams = h.teams; told = told_still a x y (add x (NewType t)).fixed.settings (add y (NewType t)).fixed.settings refl refl h }

pub language_alike : (a : Audience) (x y : ContestState) (l : Language) → Alike a x y → Alike a (add x (NewLanguage l)) (add y (NewLanguage l))
language_alike a x y l h = record { fixed = fixed_after x y (NewLanguage l) h.fixed; teams = h.teams; told = told_still a x y (add x (NewLanguage l)).fixed.settings (add y (NewLanguage l)).fixed.settings refl refl h }

pub problem_alike : (a : Audience) (x y : ContestState) (p : Problem) → Alike a x y → Alike a (add x (NewProblem p)) (add y (NewProblem p))
problem_alike a x y p h = record { fixed = fixed_after x y (NewProblem p) h.fixed; teams = h.teams; told = told_still a x y (add x (NewProblem p)).fixed.settings (add y (NewProblem p)).fixed.settings refl refl h }

pub group_alike : (a : Audience) (x y : ContestState) (g : Group) → Alike a x y → Alike a (add x (NewGroup g)) (add y (NewGroup g))
group_alike a x y g h = record { fixed = fixed_after x y (NewGroup g) h.fixed; teams = h.teams; told = told_still a x y (add x (NewGroup g)).fixed.settings (add y (NewGroup g)).fixed.settings refl refl h }

pub account_alike : (a : Audience) (x y : ContestState) (account : Account) → Alike a x y → Alike a (add x (NewAccount account)) (add y (NewAccount account))
account_alike a x y account h = record { fixed = fixed_after x y (NewAccount account) h.fixed; teams = h.teams; told = h.told }

-- where no team stands there are no submissions
none_past : (f : FixedPart) (ss : List Submission) → list_all (is_valid_submission f) ss ≡ true → submissions_of (length f.settings.teams) ss ≡ []
none_past f [] all = refl
none_past f (s ∷ ss) all =
    let valid = and_left (is_valid_submission f s) _ all in
    let within : nat_lt s.team (length f.settings.teams) ≡ true = and_left _ _ (and_left _ _ (and_left _ _ (and_left _ _ (and_left _ _ valid)))) in
    let other : (s.team == length f.settings.teams) ≡ false = grind (arith, nat_tests, within) in
    rw other (none_past f ss (and_right (is_valid_submission f s) _ all))

none_there : (x : ContestState) → is_valid x ≡ true → submissions_of (length x.fixed.settings.teams) x.submissions ≡ []
none_there x valid = none_past x.fixed x.submissions (and_left _ _ (parts x valid).submissions)

-- one more team leaves the others where they are
same_team : (ts : List Team) (t : Team) (u : ℕ) → (u == length ts) ≡ false → slice_get (ts ++ t ∷ []) u ≡ slice_get ts u
same_team [] t zero other = absurd (cc other)
same_team [] t (suc u) other = refl
same_team (z ∷ ts) t zero other = refl
same_team (z ∷ ts) t (suc u) other = same_team ts t u (grind (arith, nat_tests, other))

-- what is learned of a team that stands is what was
standing_sight : (a : Audience) (x : ContestState) (t : Team) (u : ℕ) → (u == length x.fixed.settings.teams) ≡ false → sight_of a (add x (NewTeam t)) u ≡ sight_of a x u
standing_sight a x t u other =
    let own = submissions_of u x.submissions in
    ap (λ o. if owns a u then Whole (map (own_record x) own) else (if option_map_or (λ (r : Team). not r.hidden) o false then Open (map (open_record x) own) else Nothing))
    (same_team x.fixed.settings.teams t u other)

-- a team is in the groups that it was in when one more stands that is in none
none_more : (ts : List Team) (t : Team) (group u : ℕ) → t.groups ≡ [] → option_map_or (λ (v : Team). list_any (λ g. g == group) v.groups) (slice_get (ts ++ t ∷ []) u) false
    ≡ option_map_or (λ (v : Team). list_any (λ g. g == group) v.groups) (slice_get ts u) false
none_more [] t group zero none = ap (list_any (λ g. g == group)) none
none_more [] t group (suc u) none = refl
none_more (v ∷ ts) t group zero none = refl
none_more (v ∷ ts) t group (suc u) none = none_more ts t group u none

before : (number n : ℕ) → nat_lt 0 number ≡ true → (number == n + 1) ≡ false → (number - 1 == n) ≡ false
before number n some other = grind (arith, nat_tests)

-- beside such a team everybody hears what they heard
hears_beside : (a : Audience) (s : Setup) (t : Team) → (owns a (length s.teams) ≡ false) ⊎ (t.groups ≡ []) → (to : Addressee) → hears a (record s { teams = s.teams ++ t ∷ [] }) to ≡ hears a s to
hears_beside a s t new addressee.All = refl
hears_beside audience.Public s t new (addressee.Group group) = refl
hears_beside (audience.Team number) s t (inl other) (addressee.Group group) =
    let is : Option Team → Bool = λ o. option_map_or (λ (v : Team). list_any (λ g. g == group) v.groups) o false in
    let go : (b : Bool) → nat_lt 0 number ≡ b → (b && is (slice_get (s.teams ++ t ∷ []) (number - 1))) ≡ (b && is (slice_get s.teams (number - 1))) = elim [
      | true ↦ λ e. ap is (same_team s.teams t (number - 1) (before number (length s.teams) e other))
      | false ↦ λ e. refl
    ] in
    go (nat_lt 0 number) refl
hears_beside (audience.Team number) s t (inr none) (addressee.Group group) = ap (λ b. nat_lt 0 number && b) (none_more s.teams t group (number - 1) none)
hears_beside audience.Jury s t new (addressee.Group group) = refl
hears_beside a s t new (addressee.Team team) = refl

pub team_alike : (a : Audience) (x y : ContestState) (t : Team) → is_valid x ≡ true → is_valid y ≡ true → Alike a x y → TellsNothingOlder a x t → Alike a (add x (NewTeam t)) (add y (NewTeam t))
team_alike a x y t valid_x valid_y h new_x =
    let more_x = add x (NewTeam t) in
    let more_y = add y (NewTeam t) in
    let n = length x.fixed.settings.teams in
    let as_many : n ≡ length y.fixed.settings.teams = ap (λ (f : FixedPart). length f.settings.teams) h.fixed in
    let fixed : more_x.fixed ≡ more_y.fixed = fixed_after x y (NewTeam t) h.fixed in
    let none_x : submissions_of n x.submissions ≡ [] = none_there x valid_x in
    let none_y : submissions_of n y.submissions ≡ [] = ap (λ m. submissions_of m y.submissions) as_many ∙ none_there y valid_y in
    let shown : FixedPart → List OwnRecord → List OpenRecord → TeamSight = λ f own opened. if owns a n then Whole own else (if is_public f.settings n then Open opened else Nothing) in
    let own : map (own_record more_x) (submissions_of n x.submissions) ≡ map (own_record more_y) (submissions_of n y.submissions) = ap (map (own_record more_x)) none_x ∙ sym (ap (map (own_record more_y)) none_y) in
    let opened : map (open_record more_x) (submissions_of n x.submissions) ≡ map (open_record more_y) (submissions_of n y.submissions) = ap (map (open_record more_x)) none_x ∙ sym (ap (map (open_record more_y)) none_y) in
    let new : sight_of a more_x n ≡ sight_of a more_y n = λ i. shown (fixed i) (own i) (opened i) in
    let each : (u : ℕ) (b : Bool) → (u == n) ≡ b → sight_of a more_x u ≡ sight_of a more_y u = λ u. elim [
      | true ↦ λ e. subst (λ v. sight_of a more_x v ≡ sight_of a more_y v) (sym (eqb-true u n e)) new
      | false ↦ λ e. standing_sight a x t u e ∙ (h.teams u ∙ sym (standing_sight a y t u (ap (λ m. u == m) (sym as_many) ∙ e)))
    ] in
    let new_y : TellsNothingOlder a y t = subst (λ m. (owns a m ≡ false) ⊎ (t.groups ≡ [])) as_many new_x in
    let told : (to : Addressee) → told_of a more_x to ≡ told_of a more_y to = λ to.
    by_hearing a x more_x.fixed.settings x.fixed.settings (hears_beside a x.fixed.settings t new_x) to ∙ (h.told to ∙ sym (by_hearing a y more_y.fixed.settings y.fixed.settings (hears_beside a y.fixed.settings t new_y) to)) in
    record { fixed = fixed; teams = λ u. each u (u == n) refl; told = told }
