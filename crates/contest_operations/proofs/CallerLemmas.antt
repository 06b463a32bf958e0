-- A caller who is known speaks for a team that is there.
use Rattle.std.proofs.Common.{◌≡◌, ◌+◌, ◌<◌, ◌≤◌, ◌^◌, ◌∙◌, ℕ, Bool, true, false, List, [], ◌∷◌, length, map, Option, Some, None, refl, sym, ap, subst, arith}
use Rattle.std.specs.Prelude.{◌||◌, not, find, IfSome, is_some, if◌then◌else◌}
use Rattle.std.specs.List.{list_all}
use Rattle.std.specs.Option.{option_map}
use Rattle.std.specs.Str.{bytes_eq}
use Rattle.std.proofs.lemmas.Bool.{false≢true, not-true, ltb-true}
use Rattle.std.proofs.lemmas.Slice.Eq.{bytes_eq-Decides}
use Rattle.sha2.specs.Sha256.{sha256}
use Rattle.contest_types.specs.Places.{are_different, is_among}
use Rattle.contest_types.specs.State.{ContestState, FixedPart}
use Rattle.contest_types.specs.Valid.{is_valid}
use Rattle.contest_types.specs.Setup.{IsValid, Setup}
use Rattle.contest_types.specs.Accounts.{account_named, has_valid_role}
use Rattle.contest_types.specs.ValidFixed.{is_valid_account}
use Rattle.contest_types.specs.declared.account.Account.{Account}
use Rattle.contest_types.specs.declared.account.Role.{Role}
use Rattle.contest_types.specs.declared.account.Role.TheVariants as role
use Rattle.contest_types.proofs.PlaceLemmas.{and_left, and_right, same_bytes}
use Rattle.contest_types.proofs.ValidParts.{parts, four}
use Rattle.contest_rules.specs.Clarifying.{HasAudience}
use Rattle.contest_rules.specs.Laws.{IsWriter}
use Rattle.contest_rules.specs.declared.clarifying.Sender.{Sender}
use Rattle.contest_rules.specs.declared.clarifying.Sender.TheVariants as sender
use Rattle.contest_operations.specs.Callers.{Caller, holder_of, caller_of, judge_of, judging_id, team_for, team_of}
use Rattle.contest_requests.specs.declared.request.Credential.{Credential}
use Rattle.contest_requests.specs.declared.request.Credential.TheVariants.{Absent, Token, Bad}
use Rattle.contest_types.specs.declared.limits.TheConstants.{TEAMS}
use Rattle.contest_types.proofs.SettingsTest.{is_settings}

find_passes : {X : Type 0} (t p : X → Bool) (xs : List X) (x : X) → list_all t xs ≡ true → find p xs ≡ Some x → t x ≡ true
find_passes t p [] x all at = absurd (cc at)
find_passes {X} t p (y ∷ xs) x all at =
    let go : (b : Bool) → (if b then Some y else find p xs) ≡ Some x → t x ≡ true = elim [
      | true ↦ λ e. (let same : y ≡ x = cc e in subst (λ z. t z ≡ true) same (and_left (t y) (list_all t xs) all))
      | false ↦ λ e. find_passes t p xs x (and_right (t y) (list_all t xs) all) e
    ] in
    go (p y) at

-- an account that is valid speaks for a team that is there, if it speaks for one
role_there : (s : Setup) (r : Role) → has_valid_role s r ≡ true → IfSome (team_for r) (λ team. team < length s.teams)
role_there s (role.Team team) h = ltb-true team _ h
role_there s role.Judge h = tt
role_there s role.Admin h = tt
role_there s role.Analyst h = tt

held_there : (f : FixedPart) (who : Caller) (o : Option Account) → ((a : Account) → o ≡ Some a → is_valid_account f.settings a ≡ true)
    → option_map Some o ≡ Some who → IfSome (team_of who) (λ team. team < length f.settings.teams)
held_there f who None valid is = absurd (cc is)
held_there f who (Some a) valid is =
    let e : Some a ≡ who = cc is in
    subst (λ w. IfSome (team_of w) (λ team. team < length f.settings.teams)) e (role_there f.settings a.role (and_left (has_valid_role f.settings a.role) _ (valid a refl)))

known_there : (f : FixedPart) (credential : Credential) (who : Caller) → list_all (is_valid_account f.settings) f.accounts ≡ true
    → caller_of f credential ≡ Some who → IfSome (team_of who) (λ team. team < length f.settings.teams)
known_there f Absent who all is = let e : None ≡ who = cc is in subst (λ w. IfSome (team_of w) (λ team. team < length f.settings.teams)) e tt
known_there f (Token token) who all is =
    held_there f who (holder_of f.accounts token) (λ a e. find_passes (is_valid_account f.settings) (λ (b : Account). bytes_eq b.digest (sha256 token)) f.accounts a all e) is
known_there f Bad who all is = absurd (cc is)

pub caller_there : (x : ContestState) (f : FixedPart) (credential : Credential) (who : Caller) → is_valid x ≡ true → x.fixed ≡ f → caller_of f credential ≡ Some who
    → IfSome (team_of who) (λ team. team < length f.settings.teams)
caller_there x f credential who valid same is =
    let all = (four (list_all (is_valid_account x.fixed.settings) x.fixed.accounts) _ _ _ (parts x valid).accounts).first in
    known_there f credential who (subst (λ (g : FixedPart). list_all (is_valid_account g.settings) g.accounts ≡ true) same all) is

small_enough : (team n most : ℕ) → team < n → n ≤ most → most ≤ 500 → team + 1 < 2 ^ 64
small_enough team n most l m k = omega (arith, l, m, k)

-- a team's number fits
pub number_fits : (x : ContestState) (f : FixedPart) (team : ℕ) → is_valid x ≡ true → x.fixed ≡ f → team < length f.settings.teams → team + 1 < 2 ^ 64
number_fits x f team valid same there =
    let settings : IsValid x.fixed.settings = is_settings x (parts x valid).settings in
    let here : team < length x.fixed.settings.teams = subst (λ (g : FixedPart). team < length g.settings.teams) (sym same) there in
    small_enough team (length x.fixed.settings.teams) TEAMS here settings.few_teams (omega arith)

pub caller_fits : (x : ContestState) (f : FixedPart) (o : Option ℕ) → is_valid x ≡ true → x.fixed ≡ f → IfSome o (λ team. team < length f.settings.teams) → IfSome o (λ team. team + 1 < 2 ^ 64)
caller_fits x f None valid same there = tt
caller_fits x f (Some team) valid same there = number_fits x f team valid same there

-- an account that is found is there by its id
found_named : (p : Account → Bool) (accounts : List Account) (a : Account) → find p accounts ≡ Some a → is_some (account_named accounts a.id) ≡ true
found_named p [] a h = absurd (cc h)
found_named p (b ∷ bs) a h =
    let go : (c : Bool) → (if c then Some b else find p bs) ≡ Some a → (d : Bool) → bytes_eq b.id a.id ≡ d → is_some (if d then Some b else account_named bs a.id) ≡ true = elim [
      | true ↦ λ e. elim [ true ↦ λ same. refl | false ↦ λ other. (let is : b ≡ a = cc e in absurd (false≢true (sym other ∙ (ap (λ (k : Account). bytes_eq k.id a.id) is ∙ (bytes_eq-Decides a.id a.id).1 refl)))) ]
      | false ↦ λ e. elim [ true ↦ λ same. refl | false ↦ λ other. found_named p bs a e ]
    ] in
    go (p b) h (bytes_eq b.id a.id) refl

named_judge : (accounts : List Account) (id : List ℕ) (r : Role) → is_some (account_named accounts id) ≡ true → IfSome (judging_id r id) (λ account. is_some (account_named accounts account) ≡ true)
named_judge accounts id (role.Team team) there = tt
named_judge accounts id role.Judge there = there
named_judge accounts id role.Admin there = there
named_judge accounts id role.Analyst there = tt

held_judge : (accounts : List Account) (p : Account → Bool) (who : Caller) (o : Option Account) → find p accounts ≡ o → option_map Some o ≡ Some who → IfSome (judge_of who) (λ account. is_some (account_named accounts account) ≡ true)
held_judge accounts p who None at is = absurd (cc is)
held_judge accounts p who (Some a) at is =
    let e : Some a ≡ who = cc is in
    subst (λ w. IfSome (judge_of w) (λ account. is_some (account_named accounts account) ≡ true)) e (named_judge accounts a.id a.role (found_named p accounts a at))

-- a caller who judges does so by an account that is there
pub judge_there : (f : FixedPart) (credential : Credential) (who : Caller) → caller_of f credential ≡ Some who → IfSome (judge_of who) (λ account. is_some (account_named f.accounts account) ≡ true)
judge_there f Absent who is = let e : None ≡ who = cc is in subst (λ w. IfSome (judge_of w) (λ account. is_some (account_named f.accounts account) ≡ true)) e tt
judge_there f (Token token) who is = held_judge f.accounts (λ (b : Account). bytes_eq b.digest (sha256 token)) who (holder_of f.accounts token) refl is
judge_there f Bad who is = absurd (cc is)

-- the account that a caller holds is the one with its id
found_among : (p : Account → Bool) (accounts : List Account) (a : Account) → find p accounts ≡ Some a → is_among (map (λ (b : Account). b.id) accounts) a.id ≡ true
found_among p [] a h = absurd (cc h)
found_among p (b ∷ bs) a h =
    let go : (c : Bool) → (if c then Some b else find p bs) ≡ Some a → (d : Bool) → bytes_eq b.id a.id ≡ d → (d || is_among (map (λ (c : Account). c.id) bs) a.id) ≡ true = elim [
      | true ↦ λ e. elim [ true ↦ λ same. refl | false ↦ λ other. (let is : b ≡ a = cc e in absurd (false≢true (sym other ∙ (ap (λ (k : Account). bytes_eq k.id a.id) is ∙ (bytes_eq-Decides a.id a.id).1 refl)))) ]
      | false ↦ λ e. elim [ true ↦ λ same. refl | false ↦ λ other. found_among p bs a e ]
    ] in
    go (p b) h (bytes_eq b.id a.id) refl

named_once : (p : Account → Bool) (accounts : List Account) (a : Account) → are_different (map (λ (b : Account). b.id) accounts) ≡ true → find p accounts ≡ Some a → account_named accounts a.id ≡ Some a
named_once p [] a once h = absurd (cc h)
named_once p (b ∷ bs) a once h =
    let new : is_among (map (λ (c : Account). c.id) bs) b.id ≡ false = not-true _ (and_left (not (is_among (map (λ (c : Account). c.id) bs) b.id)) _ once) in
    let go : (c : Bool) → (if c then Some b else find p bs) ≡ Some a → (d : Bool) → bytes_eq b.id a.id ≡ d → (if d then Some b else account_named bs a.id) ≡ Some a = elim [
      | true ↦ λ e. elim [ true ↦ λ same. e | false ↦ λ other. (let is : b ≡ a = cc e in absurd (false≢true (sym other ∙ (ap (λ (k : Account). bytes_eq k.id a.id) is ∙ (bytes_eq-Decides a.id a.id).1 refl)))) ]
      | false ↦ λ e. elim [
        | true ↦ λ same. absurd (false≢true (sym new ∙ (ap (is_among (map (λ (c : Account). c.id) bs)) (same_bytes b.id a.id same) ∙ found_among p bs a e)))
        | false ↦ λ other. named_once p bs a (and_right (not (is_among (map (λ (c : Account). c.id) bs) b.id)) _ once) e
      ]
    ] in
    go (p b) h (bytes_eq b.id a.id) refl

held_once : (accounts : List Account) (p : Account → Bool) (who : Caller) (o : Option Account) → are_different (map (λ (b : Account). b.id) accounts) ≡ true → find p accounts ≡ o → option_map Some o ≡ Some who
    → IfSome who (λ a. account_named accounts a.id ≡ Some a)
held_once accounts p who None once at is = absurd (cc is)
held_once accounts p who (Some a) once at is =
    let e : Some a ≡ who = cc is in
    subst (λ (w : Caller). IfSome w (λ b. account_named accounts b.id ≡ Some b)) e (named_once p accounts a once at)

pub account_there : (x : ContestState) (credential : Credential) (who : Caller) → is_valid x ≡ true → caller_of x.fixed credential ≡ Some who → IfSome who (λ a. account_named x.fixed.accounts a.id ≡ Some a)
account_there x Absent who valid is = let e : None ≡ who = cc is in subst (λ (w : Caller). IfSome w (λ a. account_named x.fixed.accounts a.id ≡ Some a)) e tt
account_there x (Token token) who valid is =
    held_once x.fixed.accounts (λ (b : Account). bytes_eq b.digest (sha256 token)) who (holder_of x.fixed.accounts token)
    (four (list_all (is_valid_account x.fixed.settings) x.fixed.accounts) (are_different (map (λ (a : Account). a.id) x.fixed.accounts)) _ _ (parts x valid).accounts).second refl is
account_there x Bad who valid is = absurd (cc is)

-- who writes has a number that fits
pub writer_fits : (x : ContestState) (s : Sender) (account : List ℕ) → is_valid x ≡ true → IsWriter x.fixed s account → HasAudience s
writer_fits x (sender.Team team) account valid writer = number_fits x x.fixed team valid refl writer.0
writer_fits x sender.Jury account valid writer = tt
