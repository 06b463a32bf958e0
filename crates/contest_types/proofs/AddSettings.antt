-- Adding what may be added keeps a contest valid: rows of the settings, and accounts.
use Rattle.std.proofs.Common.{◌≡◌, ℕ, ◌≤◌, Bool, true, false, List, [], ◌∷◌, ◌++◌, length, map, Option, Some, None, refl, arith}
use Rattle.std.specs.Prelude.{◌||◌, nat_le, nat_lt, is_some}
use Rattle.std.specs.List.{list_all}
use Rattle.std.specs.Option.{option_map_or}
use Rattle.std.proofs.lemmas.Bool.{false≢true, leb-false}
use Rattle.std.proofs.lemmas.List.{map-append, length_push}
use Rattle.contest_types.specs.Places.{are_different}
use Rattle.contest_types.specs.Accounts.{account_named, has_valid_role}
use Rattle.contest_types.specs.Masks.{audience_at}
use Rattle.contest_types.specs.Sight.{hears}
use Rattle.contest_types.specs.Setup.{Setup}
use Rattle.contest_types.specs.Additions.{id_match_of, addition_by}
use Rattle.contest_types.specs.State.{FixedPart, ContestState}
use Rattle.contest_types.specs.ValidFixed.{has_valid_settings, has_valid_accounts, is_valid_account}
use Rattle.contest_types.specs.ValidSubmissions.{is_valid_submission, is_valid_release, is_valid_proposal, is_there}
use Rattle.contest_types.specs.ValidClarifications.{is_an_addressee, is_well_sent, may_send, is_valid_clarification}
use Rattle.contest_types.specs.ValidRejudgings.{is_valid_rejudging, is_valid_member, is_valid_state}
use Rattle.contest_types.specs.Valid.{is_valid}
use Rattle.contest_types.specs.Addable.{is_added}
use Rattle.contest_types.specs.declared.id_list.IdMatch.{IdMatch}
use Rattle.contest_types.specs.declared.id_list.IdMatch.TheVariants.{New, Same, Other}
use Rattle.contest_types.specs.declared.account.Account.{Account}
use Rattle.contest_types.specs.declared.audience.Audience.{Audience}
use Rattle.contest_types.specs.declared.account.Role.{Role}
use Rattle.contest_types.specs.declared.account.Role.TheVariants as role
use Rattle.contest_types.specs.declared.objects.JudgementType.{JudgementType}
use Rattle.contest_types.specs.declared.objects.Language.{Language}
use Rattle.contest_types.specs.declared.objects.Problem.{Problem}
use Rattle.contest_types.specs.declared.objects.Group.{Group}
use Rattle.contest_types.specs.declared.objects.Team.{Team}
use Rattle.contest_types.specs.declared.submission.Submission.{Submission}
use Rattle.contest_types.specs.declared.submission.Release.{Release}
use Rattle.contest_types.specs.declared.proposal.Proposal.{Proposal}
use Rattle.contest_types.specs.declared.proposal.Proposer.{Proposer}
use Rattle.contest_types.specs.declared.proposal.Proposer.TheVariants as proposer
use Rattle.contest_types.specs.declared.clarification.Clarification.{Clarification}
use Rattle.contest_types.specs.declared.clarification.Addressee.{Addressee}
use Rattle.contest_types.specs.declared.clarification.Addressee.TheVariants as addressee
use Rattle.contest_types.specs.declared.clarification.Reference.{Reference}
use Rattle.contest_types.specs.declared.rejudging.Rejudging.{Rejudging}
use Rattle.contest_types.specs.declared.rejudging.Member.{Member}
use Rattle.contest_types.specs.declared.rejudging.MemberState.{MemberState}
use Rattle.contest_types.specs.declared.rejudging.MemberState.TheVariants as member
use Rattle.contest_types.proofs.PlaceLemmas.{and_left, and_right, both_true, different_push, not_among}
use Rattle.contest_types.proofs.AdditionLemmas.{place_of_new}
use Rattle.contest_types.proofs.SetupLemmas.{all_wider, below_wider}
use Rattle.contest_types.proofs.GrownSettings.{HasFronts, no_shorter}
use Rattle.contest_types.proofs.ValidParts.{Parts, parts, whole}
use Rattle.contest_types.proofs.Tests.{weaker, kept}

-- the contest with other lists of settings, and other accounts
abbrev pub with_lists : ContestState → List JudgementType → List Language → List Problem → List Group → List Team → List Account → ContestState
with_lists x types languages problems groups teams accounts =
    record x { fixed = record { settings = record { head = x.fixed.settings.head; types = types; languages = languages; problems = problems; groups = groups; teams = teams }; accounts = accounts; marks = x.fixed.marks } }

-- no list is shorter
pub record AreNoShorter (s t : Setup) : Type 0 where
  pub types : length s.types ≤ length t.types
  pub languages : length s.languages ≤ length t.languages
  pub problems : length s.problems ≤ length t.problems
  pub groups : length s.groups ≤ length t.groups
  pub teams : length s.teams ≤ length t.teams

pub no_list_shorter : (s t : Setup) → HasFronts s t → AreNoShorter s t
no_list_shorter s t fronts = record {
  types = no_shorter _ _ fronts.types;
  languages = no_shorter _ _ fronts.languages;
  problems = no_shorter _ _ fronts.problems;
  groups = no_shorter _ _ fronts.groups;
  teams = no_shorter _ _ fronts.teams;
}

-- an account with this role is named so
pub record IsNamed (accounts : List Account) (id : List ℕ) (r : Role) : Type 0 where
  pub account : Account
  pub is : account_named accounts id ≡ Some account
  pub role : account.role ≡ r

-- no list is shorter, each account that was named is, with its role, and nobody hears less
pub record Wider (f g : FixedPart) : Type 0 where
  pub lists : AreNoShorter f.settings g.settings
  pub named : (id : List ℕ) (a : Account) → account_named f.accounts id ≡ Some a → IsNamed g.accounts id a.role
  pub heard : (a : Audience) (to : Addressee) → hears a f.settings to ≡ true → hears a g.settings to ≡ true

-- the accounts that were named are, as they were
pub as_named : (accounts others : List Account) → ((id : List ℕ) (a : Account) → account_named accounts id ≡ Some a → account_named others id ≡ Some a)
    → (id : List ℕ) (a : Account) → account_named accounts id ≡ Some a → IsNamed others id a.role
as_named accounts others same id a e = record { account = a; is = same id a e; role = refl }

some_wider : (g : FixedPart) (id : List ℕ) (o : Option Account) → ((a : Account) → o ≡ Some a → IsNamed g.accounts id a.role) → is_some o ≡ true → is_some (account_named g.accounts id) ≡ true
some_wider g id None same h = absurd (false≢true h)
some_wider g id (Some a) same h = rw (same a refl).is refl

named_wider : (f g : FixedPart) → Wider f g → (id : List ℕ) → is_some (account_named f.accounts id) ≡ true → is_some (account_named g.accounts id) ≡ true
named_wider f g w id h = some_wider g id (account_named f.accounts id) (w.named id) h

there_wider : (f g : FixedPart) → Wider f g → (p : Proposer) → is_there f p ≡ true → is_there g p ≡ true
there_wider f g w (proposer.Account id) h = named_wider f g w id h
there_wider f g w proposer.Import h = refl

addressee_wider : (f g : FixedPart) → Wider f g → (to : Addressee) → is_an_addressee f to ≡ true → is_an_addressee g to ≡ true
addressee_wider f g w addressee.All h = refl
addressee_wider f g w (addressee.Group group) h = below_wider _ _ group w.lists.groups h
addressee_wider f g w (addressee.Team team) h = below_wider _ _ team w.lists.teams h

problem_wider : (xs ys : List Problem) → length xs ≤ length ys → (p : Option ℕ) → option_map_or (λ problem. nat_lt problem (length xs)) p true ≡ true → option_map_or (λ problem. nat_lt problem (length ys)) p true ≡ true
problem_wider xs ys l None h = refl
problem_wider xs ys l (Some problem) h = below_wider _ _ problem l h

state_wider : (f g : FixedPart) → Wider f g → (s : MemberState) → is_valid_state f s ≡ true → is_valid_state g s ≡ true
state_wider f g w member.Empty h = refl
state_wider f g w (member.Proposed verdict account) h = both_true _ _ (below_wider _ _ verdict w.lists.types (and_left _ _ h)) (named_wider f g w account (and_right (nat_lt verdict (length f.settings.types)) _ h))
state_wider f g w (member.Ready verdict) h = below_wider _ _ verdict w.lists.types h

role_wider : (m n : Setup) → length m.teams ≤ length n.teams → (r : Role) → has_valid_role m r ≡ true → has_valid_role n r ≡ true
role_wider m n l (role.Team team) h = below_wider _ _ team l h
role_wider m n l role.Judge h = refl
role_wider m n l role.Admin h = refl
role_wider m n l role.Analyst h = refl

pub account_wider : (m n : Setup) → length m.teams ≤ length n.teams → (a : Account) → is_valid_account m a ≡ true → is_valid_account n a ≡ true
account_wider m n l a h = weaker (role_wider m n l a.role) kept h

replies_wider : (a : Audience) (m n : Setup) → ((to : Addressee) → hears a m to ≡ true → hears a n to ≡ true) → (reply : Option Reference)
    → option_map_or (λ (r : Reference). hears a m r.addressee) reply true ≡ true → option_map_or (λ (r : Reference). hears a n r.addressee) reply true ≡ true
replies_wider a m n heard None h = refl
replies_wider a m n heard (Some r) h = heard r.addressee h

-- who may send still does
sends_wider : (f g : FixedPart) → Wider f g → (r : Role) (c : Clarification) → may_send f.settings r c ≡ true → may_send g.settings r c ≡ true
sends_wider f g w (role.Team team) c h = weaker kept (replies_wider (audience_at team) f.settings g.settings (w.heard (audience_at team)) c.reply) h
sends_wider f g w role.Judge c h = h
sends_wider f g w role.Admin c h = h
sends_wider f g w role.Analyst c h = h

sender_wider : (f g : FixedPart) → Wider f g → (id : List ℕ) (found : Option Account) (c : Clarification) → ((a : Account) → found ≡ Some a → IsNamed g.accounts id a.role)
    → option_map_or (λ a. may_send f.settings a.role c) found false ≡ true → option_map_or (λ a. may_send g.settings a.role c) (account_named g.accounts id) false ≡ true
sender_wider f g w id None c same h = absurd (false≢true h)
sender_wider f g w id (Some a) c same h =
    let there = same a refl in
    rw (there.is, there.role) (sends_wider f g w a.role c h)

sent_wider : (f g : FixedPart) → Wider f g → (c : Clarification) → is_well_sent f c ≡ true → is_well_sent g c ≡ true
sent_wider f g w c h =
    let go : (b : Bool) → (b || option_map_or (λ a. may_send f.settings a.role c) (account_named f.accounts c.account) false) ≡ true → (b || option_map_or (λ a. may_send g.settings a.role c) (account_named g.accounts c.account) false) ≡ true =
    elim [
      | true ↦ λ k. refl
      | false ↦ λ k. sender_wider f g w c.account (account_named f.accounts c.account) c (w.named c.account) k
    ] in
    go c.from_jury h

-- a contest no list of which is shorter, and whose settings and accounts are valid, is valid
pub widened : (x : ContestState) (types : List JudgementType) (languages : List Language) (problems : List Problem) (groups : List Group) (teams : List Team) (accounts : List Account)
    → Wider x.fixed (with_lists x types languages problems groups teams accounts).fixed → is_valid x ≡ true
    → has_valid_settings (with_lists x types languages problems groups teams accounts) ≡ true → has_valid_accounts (with_lists x types languages problems groups teams accounts) ≡ true
    → is_valid (with_lists x types languages problems groups teams accounts) ≡ true
widened x types languages problems groups teams accounts w h s a =
    let v = parts x h in
    let y = with_lists x types languages problems groups teams accounts in
    let submission : (t : Submission) → is_valid_submission x.fixed t ≡ true → is_valid_submission y.fixed t ≡ true =
    λ t. weaker (weaker (weaker (weaker (weaker (below_wider _ _ t.team w.lists.teams) (below_wider _ _ t.problem w.lists.problems)) (below_wider _ _ t.language w.lists.languages)) kept) kept) kept in
    let release : (r : Release) → is_valid_release x r ≡ true → is_valid_release y r ≡ true =
    λ r. weaker kept (below_wider _ _ r.verdict w.lists.types) in
    let proposal : (p : Proposal) → is_valid_proposal x p ≡ true → is_valid_proposal y p ≡ true =
    λ p. weaker (weaker kept (below_wider _ _ p.verdict w.lists.types)) (there_wider x.fixed y.fixed w p.proposer) in
    let clarification : (c : Clarification) → is_valid_clarification x c ≡ true → is_valid_clarification y c ≡ true =
    λ c. weaker (weaker (weaker (weaker (addressee_wider x.fixed y.fixed w c.addressee) (named_wider x.fixed y.fixed w c.account)) (problem_wider _ _ w.lists.problems c.problem)) kept) (sent_wider x.fixed y.fixed w c) in
    let members : (ms : List Member) → list_all (is_valid_member x) ms ≡ true → list_all (is_valid_member y) ms ≡ true =
    all_wider (is_valid_member x) (is_valid_member y) (λ m. weaker kept (state_wider x.fixed y.fixed w m.state)) in
    let result : Parts y = record {
      settings = s;
      clock = v.clock;
      accounts = a;
      submissions = weaker (all_wider (is_valid_submission x.fixed) (is_valid_submission y.fixed) submission x.submissions) kept v.submissions;
      proposals = weaker (all_wider (is_valid_proposal x) (is_valid_proposal y) proposal x.proposals) kept v.proposals;
      releases = weaker (all_wider (is_valid_release x) (is_valid_release y) release x.releases) kept v.releases;
      clarifications = weaker (weaker (all_wider (is_valid_clarification x) (is_valid_clarification y) clarification x.clarifications) kept) kept v.clarifications;
      rejudgings = weaker (weaker (all_wider (is_valid_rejudging x) (is_valid_rejudging y) (λ (j : Rejudging). weaker (weaker (members j.members) kept) kept) x.rejudgings) kept) kept v.rejudgings;
    } in
    whole y result

pub longer : {X : Type 0} (xs : List X) (x : X) → length xs ≤ length (xs ++ x ∷ [])
longer xs x = omega (arith, length_push xs x)

-- a row that is added is new, and there is room for it
pub record IsNewRow (found : IdMatch) (full : Bool) : Type 0 where
  pub new : found ≡ New
  pub room : full ≡ false

pub new_row : (found : IdMatch) (full : Bool) → is_added (addition_by found full) ≡ true → IsNewRow found full
new_row New true h = absurd (false≢true h)
new_row New false h = record { new = refl; room = refl }
new_row Same full h = absurd (false≢true h)
new_row Other full h = absurd (false≢true h)

-- the new list has no id twice, and is within its limit
pub record TakesRow {T : Type 0} (id : T → List ℕ) (rows : List T) (row : T) (most : ℕ) : Type 0 where
  pub different : are_different (map id (rows ++ row ∷ [])) ≡ true
  pub few : length (rows ++ row ∷ []) ≤ most

pub takes : {T : Type 0} (id : T → List ℕ) (same : T → T → Bool) (rows : List T) (row : T) (most : ℕ) → are_different (map id rows) ≡ true → IsNewRow (id_match_of id same rows row) (nat_le most (length rows)) → TakesRow id rows row most
takes id same rows row most d n = record {
  different = rw map-append (different_push (map id rows) (id row) d (not_among (id row) 0 (map id rows) (place_of_new id same rows row n.new)));
  few = omega (arith, length_push rows row, leb-false most (length rows) n.room);
}
