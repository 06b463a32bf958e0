-- What may be added lets a contest grow.
use Rattle.std.proofs.Common.{◌≡◌, ◌∙◌, ℕ, Bool, true, List, [], ◌∷◌, ◌++◌, length, map, Option, Some, Err, false, refl, sym, ap, subst, inl, inr, arith}
use Rattle.std.specs.Prelude.{◌⊎◌, ◌<◌, ◌==◌, ◌&&◌, if◌then◌else◌}
use Rattle.std.proofs.lemmas.Bool.{eqb-true}
use Rattle.std.proofs.lemmas.List.{append_assoc, map-append}
use Rattle.contest_types.specs.Accounts.{account_named, has_valid_role, same_account, with_account}
use Rattle.contest_types.specs.Addable.{are_addable, is_addable, is_added}
use Rattle.contest_types.specs.Additions.{id_match_of, keyed_addition}
use Rattle.contest_types.specs.Places.{is_among}
use Rattle.contest_types.specs.Setup.{Setup}
use Rattle.contest_types.specs.State.{ContestState, add, add_all, lasting, with_digest, with_settings, with_team_name}
use Rattle.contest_types.specs.ValidFixed.{is_valid_account}
use Rattle.contest_types.specs.declared.account.Account.{Account}
use Rattle.contest_types.specs.declared.account.Role.{Role}
use Rattle.contest_types.specs.declared.id_list.IdMatch.{IdMatch}
use Rattle.contest_types.specs.declared.id_list.IdMatch.TheVariants.{New, Same, Other}
use Rattle.contest_types.specs.declared.refusal.Cause.{Cause}
use Rattle.contest_types.specs.declared.entry.Entry.{Entry}
use Rattle.contest_types.specs.declared.entry.Entry.TheVariants.{NewSubmission, NewProposal, NewRelease, NewClarification, NewRejudging, SetMember, SetRejudging, SetStart, SetThaw, SetFinalized, SetDuration, SetTeamName, SetDigest, NewType, NewLanguage, NewProblem, NewGroup, NewTeam, NewAccount}
use Rattle.contest_types.specs.declared.contest.ContestHead.{ContestHead}
use Rattle.contest_types.specs.declared.objects.Team.{Team}
use Rattle.contest_types.proofs.AccountLemmas.{named_still}
use Rattle.contest_types.proofs.AddChanges.{named_alike}
use Rattle.contest_types.proofs.AdditionLemmas.{place_of_new}
use Rattle.contest_types.proofs.ChangeLemmas.{map-changed}
use Rattle.contest_types.proofs.PlaceLemmas.{and_left, and_right, not_among}
use Rattle.contest_operations.specs.Growing.{Grows, HasAccount, HasRows, IsFront, unnamed}
use Rattle.contest_types.proofs.GrownSettings.{front_same, front_more, HasFronts, one_type, one_language, one_problem, one_group, one_team}

pub front_onward : {X : Type 0} (xs ys zs : List X) → IsFront xs ys → IsFront ys zs → IsFront xs zs
front_onward xs ys zs (more, e) (rest, f) = (more ++ rest, f ∙ (ap (λ l. l ++ rest) e ∙ append_assoc xs more rest))

some_left : {X : Type 0} (xs ys : List X) → IsFront xs ys → 0 < length xs → 0 < length ys
some_left [] ys front some = absurd (omega (arith, some))
some_left (x ∷ xs) ys (more, e) some = subst (λ l. 0 < length l) (sym e) (omega arith)

still_some : (x y : ContestState) → Grows x y → HasRows x → HasRows y
still_some x y h (inl some) = inl (some_left x.submissions y.submissions h.submissions some)
still_some x y h (inr some) = inr (some_left x.clarifications y.clarifications h.clarifications some)

-- what is made of the front of a list is the front of what is made of the list
front_mapped : {X Y : Type 0} (f : X → Y) (xs ys : List X) → IsFront xs ys → IsFront (map f xs) (map f ys)
front_mapped f xs ys (more, e) = (map f more, ap (map f) e ∙ map-append f xs more)

head_onward : (f g h : ContestHead) → g ≡ lasting f g.duration g.freeze → h ≡ lasting g h.duration h.freeze → h ≡ lasting f h.duration h.freeze
head_onward f g h e k = k ∙ ap (λ (was : ContestHead). lasting was h.duration h.freeze) e

-- whoever is named so in the first is in the second, with the same role
abbrev StayNamed : List Account → List Account → Type 0
StayNamed before after = (id : List ℕ) (a : Account) → account_named before id ≡ Some a → HasAccount after id a.role

still_named : (accounts : List Account) → StayNamed accounts accounts
still_named accounts id a named = record { account = a; named = named; role = refl }

named_onward : (after : List Account) (id : List ℕ) (r : Role) {mid : List Account} → HasAccount mid id r → StayNamed mid after → HasAccount after id r
named_onward after id r there stay =
    let last = stay id there.account there.named in
    record { account = last.account; named = last.named; role = last.role ∙ there.role }

digest_named : (accounts : List Account) (id digest : List ℕ) → StayNamed accounts (with_digest accounts id digest)
digest_named accounts id digest named a is =
    let there = named_alike id digest accounts named a is in
    record { account = there.account; named = there.is; role = there.role }

-- of an account that may be added no other has the id
new_found : (b : Bool) (found : IdMatch) (held full : Bool) (cause : Cause) → is_added (if b then keyed_addition found held full else Err cause) ≡ true → found ≡ New
new_found true New held full cause added = refl
new_found true Same held full cause added = absurd (cc added)
new_found true Other held full cause added = absurd (cc added)
new_found false found held full cause added = absurd (cc added)

pub new_apart : (x : ContestState) (a : Account) → is_addable x (NewAccount a) ≡ true → is_among (map (λ (c : Account). c.id) x.fixed.accounts) a.id ≡ false
new_apart x a may =
    let accounts = x.fixed.accounts in
    let ids = λ (c : Account). c.id in
    let new = new_found (has_valid_role x.fixed.settings a.role) (id_match_of ids same_account accounts a) _ _ _ (and_right (is_valid_account x.fixed.settings a) _ may) in
    not_among a.id 0 (map ids accounts) (place_of_new ids same_account accounts a new)

new_named : (x : ContestState) (a : Account) → is_addable x (NewAccount a) ≡ true → StayNamed x.fixed.accounts (with_account x.fixed.accounts a)
new_named x a may id b named = record { account = b; named = named_still x.fixed.accounts a (new_apart x a may) id b named; role = refl }

-- changes that leave the settings
rows_grow : (x y : ContestState) → y.fixed.settings ≡ x.fixed.settings → (HasRows x → y.fixed.marks.start ≡ x.fixed.marks.start)
    → IsFront x.submissions y.submissions → IsFront x.proposals y.proposals → IsFront x.releases y.releases → IsFront x.clarifications y.clarifications → StayNamed x.fixed.accounts y.fixed.accounts → Grows x y
rows_grow x y same start submissions proposals releases clarifications accounts =
    let s = x.fixed.settings in
    record {
      head = subst (λ (t : Setup). t.head ≡ lasting s.head t.head.duration t.head.freeze) (sym same) refl;
      types = subst (λ (t : Setup). IsFront s.types t.types) (sym same) (front_same s.types);
      languages = subst (λ (t : Setup). IsFront s.languages t.languages) (sym same) (front_same s.languages);
      problems = subst (λ (t : Setup). IsFront s.problems t.problems) (sym same) (front_same s.problems);
      groups = subst (λ (t : Setup). IsFront s.groups t.groups) (sym same) (front_same s.groups);
      teams = subst (λ (t : Setup). IsFront (map unnamed s.teams) (map unnamed t.teams)) (sym same) (front_same (map unnamed s.teams));
      accounts = accounts;
      start = start;
      submissions = submissions;
      proposals = proposals;
      releases = releases;
      clarifications = clarifications;
    }

-- changes of the settings alone
settings_grow : (x : ContestState) (t : Setup) → t.head ≡ x.fixed.settings.head → HasFronts x.fixed.settings t → Grows x (with_settings x t)
settings_grow x t head lists = record {
  head = subst (λ (h : ContestHead). h ≡ lasting x.fixed.settings.head h.duration h.freeze) (sym head) refl;
  types = lists.types;
  languages = lists.languages;
  problems = lists.problems;
  groups = lists.groups;
  teams = front_mapped unnamed x.fixed.settings.teams t.teams lists.teams;
  accounts = still_named x.fixed.accounts;
  start = λ some. refl;
  submissions = front_same x.submissions;
  proposals = front_same x.proposals;
  releases = front_same x.releases;
  clarifications = front_same x.clarifications;
}

-- settings of which no list changes but the teams' names
module _ (x : ContestState) (duration : ℕ) (freeze : Option ℕ) (teams : List Team) (same : map unnamed x.fixed.settings.teams ≡ map unnamed teams) where
  abbrev s : Setup
  s = x.fixed.settings

  pub settings_last : Grows x (with_settings x (record { head = lasting s.head duration freeze; types = s.types; languages = s.languages; problems = s.problems; groups = s.groups; teams = teams }))
  settings_last = record {
    head = refl;
    types = front_same s.types;
    languages = front_same s.languages;
    problems = front_same s.problems;
    groups = front_same s.groups;
    teams = subst (λ ts. IsFront (map unnamed s.teams) ts) same (front_same (map unnamed s.teams));
    accounts = still_named x.fixed.accounts;
    start = λ some. refl;
    submissions = front_same x.submissions;
    proposals = front_same x.proposals;
    releases = front_same x.releases;
    clarifications = front_same x.clarifications;
  }

pub itself : (x : ContestState) → Grows x x
itself x = rows_grow x x refl (λ some. refl) (front_same x.submissions) (front_same x.proposals) (front_same x.releases) (front_same x.clarifications) (still_named x.fixed.accounts)

pub onward : (x y z : ContestState) → Grows x y → Grows y z → Grows x z
onward x y z h g =
    let s = x.fixed.settings in
    let t = y.fixed.settings in
    let u = z.fixed.settings in
    record {
      head = head_onward s.head t.head u.head h.head g.head;
      types = front_onward s.types t.types u.types h.types g.types;
      languages = front_onward s.languages t.languages u.languages h.languages g.languages;
      problems = front_onward s.problems t.problems u.problems h.problems g.problems;
      groups = front_onward s.groups t.groups u.groups h.groups g.groups;
      teams = front_onward (map unnamed s.teams) (map unnamed t.teams) (map unnamed u.teams) h.teams g.teams;
      accounts = λ id a named. named_onward z.fixed.accounts id a.role (h.accounts id a named) g.accounts;
      start = λ some. g.start (still_some x y h some) ∙ h.start some;
      submissions = front_onward x.submissions y.submissions z.submissions h.submissions g.submissions;
      proposals = front_onward x.proposals y.proposals z.proposals h.proposals g.proposals;
      releases = front_onward x.releases y.releases z.releases h.releases g.releases;
      clarifications = front_onward x.clarifications y.clarifications z.clarifications h.clarifications g.clarifications;
    }

-- a start is set where nothing stands
no_rows : (n m : ℕ) (b : Bool) → ((n == 0) && (m == 0) && b) ≡ true → (0 < n) ⊎ (0 < m) → ⊥
no_rows n m b h some =
    let none = and_left ((n == 0) && (m == 0)) b h in
    let first : n ≡ 0 = eqb-true n 0 (and_left (n == 0) (m == 0) none) in
    let second : m ≡ 0 = eqb-true m 0 (and_right (n == 0) (m == 0) none) in
    elim some [ inl l ↦ omega (arith, l, first) | inr l ↦ omega (arith, l, second) ]

entry_grows : (x : ContestState) (e : Entry) → is_addable x e ≡ true → Grows x (add x e)
entry_grows x (NewSubmission s) h = rows_grow x _ refl (λ some. refl) (front_more x.submissions s) (front_same x.proposals) (front_same x.releases) (front_same x.clarifications) (still_named x.fixed.accounts)
entry_grows x (NewProposal p) h = rows_grow x _ refl (λ some. refl) (front_same x.submissions) (front_more x.proposals p) (front_same x.releases) (front_same x.clarifications) (still_named x.fixed.accounts)
entry_grows x (NewRelease v) h = rows_grow x _ refl (λ some. refl) (front_same x.submissions) (front_same x.proposals) (front_more x.releases v) (front_same x.clarifications) (still_named x.fixed.accounts)
entry_grows x (NewClarification c) h = rows_grow x _ refl (λ some. refl) (front_same x.submissions) (front_same x.proposals) (front_same x.releases) (front_more x.clarifications c) (still_named x.fixed.accounts)
entry_grows x (NewRejudging r) h = rows_grow x _ refl (λ some. refl) (front_same x.submissions) (front_same x.proposals) (front_same x.releases) (front_same x.clarifications) (still_named x.fixed.accounts)
entry_grows x (SetMember n place state) h = rows_grow x _ refl (λ some. refl) (front_same x.submissions) (front_same x.proposals) (front_same x.releases) (front_same x.clarifications) (still_named x.fixed.accounts)
entry_grows x (SetRejudging n state) h = rows_grow x _ refl (λ some. refl) (front_same x.submissions) (front_same x.proposals) (front_same x.releases) (front_same x.clarifications) (still_named x.fixed.accounts)
entry_grows x (SetStart start) h = rows_grow x _ refl (λ some. absurd (no_rows _ _ _ h some)) (front_same x.submissions) (front_same x.proposals) (front_same x.releases) (front_same x.clarifications) (still_named x.fixed.accounts)
entry_grows x (SetThaw thaw) h = rows_grow x _ refl (λ some. refl) (front_same x.submissions) (front_same x.proposals) (front_same x.releases) (front_same x.clarifications) (still_named x.fixed.accounts)
entry_grows x (SetFinalized finalized) h = rows_grow x _ refl (λ some. refl) (front_same x.submissions) (front_same x.proposals) (front_same x.releases) (front_same x.clarifications) (still_named x.fixed.accounts)
entry_grows x (SetDuration duration freeze) h = settings_last x duration freeze x.fixed.settings.teams refl
entry_grows x (SetTeamName team name) h =
    let s = x.fixed.settings in
    settings_last x s.head.duration s.head.freeze (with_team_name s team name).teams (sym (map-changed unnamed (λ (t : Team). record t { name = name }) (λ t. refl) 0 team s.teams))
entry_grows x (SetDigest id digest) h = rows_grow x _ refl (λ some. refl) (front_same x.submissions) (front_same x.proposals) (front_same x.releases) (front_same x.clarifications) (digest_named x.fixed.accounts id digest)
entry_grows x (NewType t) h = settings_grow x _ refl (one_type x.fixed.settings t)
entry_grows x (NewLanguage l) h = settings_grow x _ refl (one_language x.fixed.settings l)
entry_grows x (NewProblem p) h = settings_grow x _ refl (one_problem x.fixed.settings p)
entry_grows x (NewGroup g) h = settings_grow x _ refl (one_group x.fixed.settings g)
entry_grows x (NewTeam t) h = settings_grow x _ refl (one_team x.fixed.settings t)
entry_grows x (NewAccount a) h = rows_grow x _ refl (λ some. refl) (front_same x.submissions) (front_same x.proposals) (front_same x.releases) (front_same x.clarifications) (new_named x a h)

pub entries_grow : (x : ContestState) (es : List Entry) → are_addable x es ≡ true → Grows x (add_all x es)
entries_grow x [] h = itself x
entries_grow x (e ∷ es) h =
    onward x (add x e) (add_all (add x e) es) (entry_grows x e (and_left (is_addable x e) _ h)) (entries_grow (add x e) es (and_right (is_addable x e) _ h))
