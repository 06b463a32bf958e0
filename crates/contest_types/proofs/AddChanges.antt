-- Adding what may be added keeps a contest valid: a duration, a team's name, a token.
use Rattle.std.proofs.Common.{◌≡◌, ◌∙◌, ℕ, ◌≤◌, Bool, true, false, List, [], ◌∷◌, length, map, Option, Some, None, refl, sym, ap, subst, arith}
use Rattle.std.specs.Prelude.{not, nat_le, is_some, if◌then◌else◌}
use Rattle.std.specs.List.{list_all}
use Rattle.std.specs.Option.{option_map_or}
use Rattle.std.specs.Str.{bytes_eq}
use Rattle.std.proofs.lemmas.Bool.{not-true}
use Rattle.std.proofs.lemmas.Bool.Decides.{nat_tests}
use Rattle.contest_types.specs.Places.{is_among, are_different}
use Rattle.contest_types.specs.MomentText.{latest}
use Rattle.contest_types.specs.Clock.{reached, moment_after, end_of}
use Rattle.contest_types.specs.Setup.{Setup, IsValid, is_valid_head, refers}
use Rattle.contest_types.specs.Accounts.{account_named}
use Rattle.contest_types.specs.State.{ContestState, with_duration, with_team_name, with_digest, add, SetDuration, SetTeamName, SetDigest}
use Rattle.contest_types.specs.ValidFixed.{has_valid_settings, has_valid_clock, is_valid_account}
use Rattle.contest_types.specs.ValidSubmissions.{is_valid_submission, has_valid_submissions}
use Rattle.contest_types.specs.Valid.{is_valid}
use Rattle.contest_types.specs.Addable.{is_addable, freezes_the_same}
use Rattle.contest_types.specs.declared.limits.TheConstants.{ACCOUNTS, TEAMS}
use Rattle.contest_types.specs.declared.account.Account.{Account}
use Rattle.contest_types.specs.declared.objects.Team.{Team}
use Rattle.contest_types.specs.declared.submission.Submission.{Submission}
use Rattle.contest_types.proofs.PlaceLemmas.{and_left, and_right, both_true, both_false, or_left, or_right, differs, same_bytes}
use Rattle.contest_types.proofs.SetupLemmas.{all_wider}
use Rattle.contest_types.proofs.ChangeLemmas.{changed_all, map-changed}
use Rattle.contest_types.proofs.NameLemmas.{as_many_teams, hears_with_name}
use Rattle.contest_types.proofs.SettingsTest.{is_settings, has_settings}
use Rattle.contest_types.proofs.ValidParts.{parts, whole, four, all_four}
use Rattle.contest_types.proofs.AddSettings.{Wider, AreNoShorter, IsNamed, no_list_shorter, as_named, widened, account_wider}
use Rattle.contest_types.proofs.GrownSettings.{same_lists}
use Rattle.contest_types.proofs.Tests.{weaker, kept}

-- a time before the end is before a later one
not_reached : (start : Option ℕ) (old new time : ℕ) → nat_le old new ≡ true → not (reached (moment_after start old) time) ≡ true → not (reached (moment_after start new) time) ≡ true
not_reached None old new time l h = refl
not_reached (Some start) old new time l h = grind (arith, nat_tests)

pub adding_duration : (x : ContestState) (duration : ℕ) (freeze : Option ℕ) → is_valid x ≡ true → is_addable x (SetDuration duration freeze) ≡ true → is_valid (add x (SetDuration duration freeze)) ≡ true
adding_duration x duration freeze h a =
    let v = parts x h in
    let y = add x (SetDuration duration freeze) in
    let s = x.fixed.settings in
    let t = with_duration s duration freeze in
    let may = four (is_valid_head t.head) (nat_le s.head.duration duration) (option_map_or (λ end. nat_le end latest) (end_of t x.fixed.marks) true) (freezes_the_same s t x.fixed.marks x.submissions) a in
    let was = is_settings x v.settings in
    let settings : has_valid_settings y ≡ true = has_settings y (record { head = may.first; types = was.types; few_types = was.few_types; languages = was.languages; few_languages = was.few_languages; problems = was.problems; labels = was.labels; few_problems = was.few_problems; groups = was.groups; few_groups = was.few_groups; teams = was.teams; few_teams = was.few_teams; references = was.references }) in
    let clock : has_valid_clock y ≡ true = both_true _ _ may.third (and_right (option_map_or (λ end. nat_le end latest) (end_of s x.fixed.marks) true) _ v.clock) in
    let submission : (u : Submission) → is_valid_submission x.fixed u ≡ true → is_valid_submission y.fixed u ≡ true =
    λ u. weaker (weaker kept (not_reached x.fixed.marks.start s.head.duration duration u.time may.second)) kept in
    let submissions : has_valid_submissions y ≡ true = weaker (all_wider (is_valid_submission x.fixed) (is_valid_submission y.fixed) submission x.submissions) kept v.submissions in
    whole y (record { settings = settings; clock = clock; accounts = v.accounts; submissions = submissions; proposals = v.proposals; releases = v.releases; clarifications = v.clarifications; rejudgings = v.rejudgings })

-- settings with another name are valid
module _ (s : Setup) (team : ℕ) (name : List ℕ) where
  abbrev rename : Team → Team
  rename u = record u { name = name }

  pub named_is_valid : IsValid s → IsValid (with_team_name s team name)
  named_is_valid was = record {
    head = was.head;
    types = was.types;
    few_types = was.few_types;
    languages = was.languages;
    few_languages = was.few_languages;
    problems = was.problems;
    labels = was.labels;
    few_problems = was.few_problems;
    groups = was.groups;
    few_groups = was.few_groups;
    teams = ap are_different (map-changed (λ (u : Team). u.id) rename (λ u. refl) 0 team s.teams) ∙ was.teams;
    few_teams = subst (λ n. n ≤ TEAMS) (sym (as_many_teams s team name)) was.few_teams;
    references = changed_all (refers (length s.groups)) rename (λ u k. k) 0 team s.teams was.references;
  }

pub adding_team_name : (x : ContestState) (team : ℕ) (name : List ℕ) → is_valid x ≡ true → is_valid (add x (SetTeamName team name)) ≡ true
adding_team_name x team name h =
    let v = parts x h in
    let y = add x (SetTeamName team name) in
    let s = x.fixed.settings in
    let t = with_team_name s team name in
    let settings : has_valid_settings y ≡ true = has_settings y (named_is_valid s team name (is_settings x v.settings)) in
    let no_fewer : length s.teams ≤ length t.teams = omega (arith, as_many_teams s team name) in
    let lists : AreNoShorter s t = record { types = omega arith; languages = omega arith; problems = omega arith; groups = omega arith; teams = no_fewer } in
    let w : Wider x.fixed y.fixed = record { lists = lists; named = as_named x.fixed.accounts x.fixed.accounts (λ id a e. e); heard = λ b to k. hears_with_name b s team name to ∙ k } in
    let own = four (list_all (is_valid_account s) x.fixed.accounts) (are_different (map (λ (b : Account). b.id) x.fixed.accounts)) (are_different (map (λ (b : Account). b.digest) x.fixed.accounts)) (nat_le (length x.fixed.accounts) ACCOUNTS) v.accounts in
    let accounts = all_four _ _ _ _ (all_wider (is_valid_account s) (is_valid_account t) (account_wider s t no_fewer) x.fixed.accounts own.first) own.second own.third own.fourth in
    widened x s.types s.languages s.problems s.groups t.teams x.fixed.accounts w h settings accounts

module _ (id digest : List ℕ) where
  -- the account, with the token if it has the id
  abbrev pub given : Account → Account
  given a = if bytes_eq a.id id then record a { digest = digest } else a

  pub same_id : (a : Account) → (given a).id ≡ a.id
  same_id a =
      let go : (b : Bool) → (if b then record a { digest = digest } else a).id ≡ a.id = elim [ true ↦ refl | false ↦ refl ] in
      go (bytes_eq a.id id)

  pub same_role : (a : Account) → (given a).role ≡ a.role
  same_role a =
      let go : (b : Bool) → (if b then record a { digest = digest } else a).role ≡ a.role = elim [ true ↦ refl | false ↦ refl ] in
      go (bytes_eq a.id id)

  pub same_ids : (accounts : List Account) → map (λ (a : Account). a.id) (with_digest accounts id digest) ≡ map (λ (a : Account). a.id) accounts
  same_ids [] = refl
  same_ids (a ∷ accounts) = rw (same_id a, same_ids accounts) refl

  pub as_many : (accounts : List Account) → length (with_digest accounts id digest) ≡ length accounts
  as_many [] = refl
  as_many (a ∷ accounts) = rw (as_many accounts) refl

  -- who was named is named, with the same role
  pub named_alike : (accounts : List Account) (named : List ℕ) (a : Account) → account_named accounts named ≡ Some a → IsNamed (with_digest accounts id digest) named a.role
  named_alike [] named a e = absurd (cc e)
  named_alike (b ∷ accounts) named a e =
      let go : (t : Bool) → bytes_eq b.id named ≡ t → (if t then Some b else account_named accounts named) ≡ Some a → IsNamed (with_digest (b ∷ accounts) id digest) named a.role = elim [
        | true ↦ λ is k. (
            let first : b ≡ a = cc k in
            record { account = given b; is = rw (same_id b, is) refl; role = same_role b ∙ ap (λ (c : Account). c.role) first })
        | false ↦ λ is k. (
            let rest = named_alike accounts named a k in
            record { account = rest.account; is = rw (same_id b, is) rest.is; role = rest.role })
      ] in
      go (bytes_eq b.id named) refl e

  still_accounts : (s : Setup) (accounts : List Account) → list_all (is_valid_account s) accounts ≡ true → list_all (is_valid_account s) (with_digest accounts id digest) ≡ true
  still_accounts s [] h = refl
  still_accounts s (a ∷ accounts) h =
      let first : is_valid_account s (given a) ≡ true = rw (same_id a, same_role a) (and_left (is_valid_account s a) _ h) in
      both_true _ _ first (still_accounts s accounts (and_right (is_valid_account s a) _ h))

  -- a digest that is another account's before is so then
  none_given : (accounts : List Account) (z : List ℕ) → is_among (map (λ (a : Account). a.digest) accounts) z ≡ false → bytes_eq digest z ≡ false → is_among (map (λ (a : Account). a.digest) (with_digest accounts id digest)) z ≡ false
  none_given [] z h n = refl
  none_given (a ∷ accounts) z h n =
      let go : (b : Bool) → bytes_eq (if b then record a { digest = digest } else a).digest z ≡ false = elim [ true ↦ n | false ↦ or_left _ _ h ] in
      both_false _ _ (go (bytes_eq a.id id)) (none_given accounts z (or_right (bytes_eq a.digest z) _ h) n)

  -- where no account has the id, each keeps its token
  none_changed : (accounts : List Account) → is_among (map (λ (a : Account). a.id) accounts) id ≡ false → with_digest accounts id digest ≡ accounts
  none_changed [] n = refl
  none_changed (a ∷ accounts) n = rw (or_left (bytes_eq a.id id) _ n, none_changed accounts (or_right (bytes_eq a.id id) _ n)) refl

  digests_different : (accounts : List Account) → are_different (map (λ (a : Account). a.id) accounts) ≡ true → are_different (map (λ (a : Account). a.digest) accounts) ≡ true
      → is_among (map (λ (a : Account). a.digest) accounts) digest ≡ false → are_different (map (λ (a : Account). a.digest) (with_digest accounts id digest)) ≡ true
  digests_different [] ids apart new = refl
  digests_different (a ∷ accounts) ids apart new =
      let alone : is_among (map (λ (b : Account). b.id) accounts) a.id ≡ false = not-true _ (and_left _ _ ids) in
      let other : is_among (map (λ (b : Account). b.digest) accounts) a.digest ≡ false = not-true _ (and_left _ _ apart) in
      let later = digests_different accounts (and_right (not (is_among (map (λ (b : Account). b.id) accounts) a.id)) _ ids) (and_right (not (is_among (map (λ (b : Account). b.digest) accounts) a.digest)) _ apart) (or_right (bytes_eq a.digest digest) _ new) in
      let go : (b : Bool) → bytes_eq a.id id ≡ b → are_different ((if b then record a { digest = digest } else a).digest ∷ map (λ (c : Account). c.digest) (with_digest accounts id digest)) ≡ true = elim [
        | true ↦ λ is. (
            let same : with_digest accounts id digest ≡ accounts = none_changed accounts (subst (λ z. is_among (map (λ (b : Account). b.id) accounts) z ≡ false) (same_bytes a.id id is) alone) in
            let none : is_among (map (λ (b : Account). b.digest) (with_digest accounts id digest)) digest ≡ false = rw same (or_right (bytes_eq a.digest digest) _ new) in
            both_true _ _ (ap not none) later)
        | false ↦ λ is. both_true _ _ (ap not (none_given accounts a.digest other (differs a.digest digest (or_left _ _ new)))) later
      ] in
      go (bytes_eq a.id id) refl

pub adding_digest : (x : ContestState) (id digest : List ℕ) → is_valid x ≡ true → is_addable x (SetDigest id digest) ≡ true → is_valid (add x (SetDigest id digest)) ≡ true
adding_digest x id digest h a =
    let v = parts x h in
    let s = x.fixed.settings in
    let accounts = x.fixed.accounts in
    let others = with_digest accounts id digest in
    let y = add x (SetDigest id digest) in
    let w : Wider x.fixed y.fixed = record { lists = no_list_shorter s s (same_lists s); named = named_alike id digest accounts; heard = λ b to k. k } in
    let was = four (list_all (is_valid_account s) accounts) (are_different (map (λ (b : Account). b.id) accounts)) (are_different (map (λ (b : Account). b.digest) accounts)) (nat_le (length accounts) ACCOUNTS) v.accounts in
    let new : is_among (map (λ (b : Account). b.digest) accounts) digest ≡ false = not-true _ (and_right (is_some (account_named accounts id)) _ a) in
    let valid = all_four _ _ _ _ (still_accounts id digest s accounts was.first) (ap are_different (same_ids id digest accounts) ∙ was.second)
    (digests_different id digest accounts was.second was.third new) (ap (λ n. nat_le n ACCOUNTS) (as_many id digest accounts) ∙ was.fourth) in
    widened x s.types s.languages s.problems s.groups s.teams others w h v.settings valid
