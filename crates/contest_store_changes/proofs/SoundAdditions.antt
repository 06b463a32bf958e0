-- What may be added to a sound contest leaves a sound one.
use Rattle.std.proofs.Common.{◌≡◌, ◌+◌, ℕ, Bool, true, false, List, [], ◌∷◌, ◌++◌, filter, length, Some}
use Rattle.std.specs.Prelude.{◌==◌, IsTrue, if◌then◌else◌}
use Rattle.std.specs.List.{AllByRecursion}
use Rattle.std.specs.Str.{bytes_eq}
use Rattle.std.proofs.ByRecursion.{All-push}
use Rattle.sqlite_keyed.proofs.ListLemmas.{all-append, all-filter}
use Rattle.sqlite_trees.specs.Tree.{IsAscending}
use Rattle.contest_types.specs.Accounts.{comes_before}
use Rattle.contest_types.specs.Setup.{Setup}
use Rattle.contest_types.specs.State.{ContestState, add, changed_at, with_digest, with_duration, with_marks, with_member_state, with_settings, with_team_name}
use Rattle.contest_types.specs.declared.account.Account.{Account}
use Rattle.contest_types.specs.declared.clarification.Clarification.{Clarification}
use Rattle.contest_types.specs.declared.entry.Entry.{Entry}
use Rattle.contest_types.specs.declared.entry.Entry.TheVariants.{NewSubmission, NewProposal, NewRelease, NewClarification, NewRejudging, SetMember, SetRejudging, SetStart, SetThaw, SetFinalized, SetDuration, SetTeamName, SetDigest, NewType, NewLanguage, NewProblem, NewGroup, NewTeam, NewAccount}
use Rattle.contest_types.specs.declared.marks.Marks.{Marks}
use Rattle.contest_types.specs.declared.objects.Team.{Team}
use Rattle.contest_types.specs.declared.proposal.Proposal.{Proposal}
use Rattle.contest_types.specs.declared.rejudging.Member.{Member}
use Rattle.contest_types.specs.declared.rejudging.Rejudging.{Rejudging}
use Rattle.contest_types.specs.declared.submission.Release.{Release}
use Rattle.contest_types.specs.declared.submission.Submission.{Submission}
use Rattle.contest_types.proofs.AddEntry.{adding}
use Rattle.contest_store_reading.specs.Laws.{IsWritableMarks, IsWritableSetup}
use Rattle.contest_store_changes.specs.Kinds.{AreOfKinds, IsMoment, IsOfKinds, IsOfKindsAccount, IsOfKindsClarification, IsOfKindsProposal, IsOfKindsRejudging, IsOfKindsSubmission}
use Rattle.contest_store_changes.specs.Laws.{AdditionsStaySound}
use Rattle.contest_store_changes.proofs.AscendingAccounts.{account_ascends, digest_ascends}

-- what holds of each holds where one is changed so that it keeps it
changed_each : {X : Type 0} (P : X → Type 0) (f : X → X) → ((x : X) → P x → P (f x)) → (first n : ℕ) (xs : List X) → AllByRecursion P xs → AllByRecursion P (changed_at first n f xs)
changed_each P f keeps first n [] all = tt
changed_each P f keeps first n (x ∷ xs) all =
    let go : (b : Bool) → P (if b then f x else x) = elim [ true ↦ keeps x all.0 | false ↦ all.0 ] in
    (go (first == n), changed_each P f keeps (first + 1) n xs all.1)

-- and of each account where one gets another token
given_of_kinds : (id digest : List ℕ) → length digest ≡ 32 → (accounts : List Account) → AllByRecursion IsOfKindsAccount accounts → AllByRecursion IsOfKindsAccount (with_digest accounts id digest)
given_of_kinds id digest is [] all = tt
given_of_kinds id digest is (a ∷ accounts) all =
    let go : (b : Bool) → IsOfKindsAccount (if b then record a { digest = digest } else a) = elim [ true ↦ record { id = all.0.id; digest = is } | false ↦ all.0 ] in
    (go (bytes_eq a.id id), given_of_kinds id digest is accounts all.1)

-- rows of their kinds, with others of their kinds
module _ (x : ContestState) (h : AreOfKinds x) where
  abbrev s : Setup
  s = x.fixed.settings

  abbrev w : IsWritableSetup s
  w = h.settings

  lists : (ss : List Submission) (ps : List Proposal) (vs : List Release) (cs : List Clarification) (rs : List Rejudging) →
      AllByRecursion IsOfKindsSubmission ss → AllByRecursion IsOfKindsProposal ps → AllByRecursion (λ (v : Release). IsMoment v.time) vs → AllByRecursion IsOfKindsClarification cs → AllByRecursion IsOfKindsRejudging rs →
      AreOfKinds (record { fixed = x.fixed; submissions = ss; proposals = ps; releases = vs; clarifications = cs; rejudgings = rs })
  lists ss ps vs cs rs all_ss all_ps all_vs all_cs all_rs =
      record { settings = w; accounts = h.accounts; marks = h.marks; submissions = all_ss; proposals = all_ps; releases = all_vs; clarifications = all_cs; rejudgings = all_rs }

  fixed : (t : Setup) (accounts : List Account) (m : Marks) → IsWritableSetup t → AllByRecursion IsOfKindsAccount accounts → IsWritableMarks m → AreOfKinds (record x { fixed = record { settings = t; accounts = accounts; marks = m } })
  fixed t accounts m all_t all_a all_m =
      record { settings = all_t; accounts = all_a; marks = all_m; submissions = h.submissions; proposals = h.proposals; releases = h.releases; clarifications = h.clarifications; rejudgings = h.rejudgings }

  setup : (t : Setup) → IsWritableSetup t → AreOfKinds (with_settings x t)
  setup t all = fixed t x.fixed.accounts x.fixed.marks all h.accounts h.marks

  marks : (m : Marks) → IsWritableMarks m → AreOfKinds (with_marks x m)
  marks m all = fixed s x.fixed.accounts m w h.accounts all

  rejudgings : (rs : List Rejudging) → AllByRecursion IsOfKindsRejudging rs → AreOfKinds (record x { rejudgings = rs })
  rejudgings rs all = lists x.submissions x.proposals x.releases x.clarifications rs h.submissions h.proposals h.releases h.clarifications all

  -- each change
  stay_of_kinds : (e : Entry) → IsOfKinds e → AreOfKinds (add x e)
  stay_of_kinds (NewSubmission r) k = lists (x.submissions ++ r ∷ []) x.proposals x.releases x.clarifications x.rejudgings (All-push _ x.submissions r h.submissions k) h.proposals h.releases h.clarifications h.rejudgings
  stay_of_kinds (NewProposal r) k = lists x.submissions (x.proposals ++ r ∷ []) x.releases x.clarifications x.rejudgings h.submissions (All-push _ x.proposals r h.proposals k) h.releases h.clarifications h.rejudgings
  stay_of_kinds (NewRelease r) k = lists x.submissions x.proposals (x.releases ++ r ∷ []) x.clarifications x.rejudgings h.submissions h.proposals (All-push _ x.releases r h.releases k) h.clarifications h.rejudgings
  stay_of_kinds (NewClarification r) k = lists x.submissions x.proposals x.releases (x.clarifications ++ r ∷ []) x.rejudgings h.submissions h.proposals h.releases (All-push _ x.clarifications r h.clarifications k) h.rejudgings
  stay_of_kinds (NewRejudging r) k = rejudgings (x.rejudgings ++ r ∷ []) (All-push _ x.rejudgings r h.rejudgings k)
  stay_of_kinds (SetMember n place state) k =
      rejudgings (changed_at 1 n (with_member_state place state) x.rejudgings)
      (changed_each _ (with_member_state place state) (λ r old. record { reason = old.reason; members = changed_each _ (λ (m : Member). record m { state = state }) (λ m was. k) 0 place r.members old.members }) 1 n x.rejudgings h.rejudgings)
  stay_of_kinds (SetRejudging n state) k =
      rejudgings (changed_at 1 n (λ (r : Rejudging). record r { state = state }) x.rejudgings)
      (changed_each _ (λ (r : Rejudging). record r { state = state }) (λ r old. record { reason = old.reason; members = old.members }) 1 n x.rejudgings h.rejudgings)
  stay_of_kinds (SetStart start) k = marks (record x.fixed.marks { start = start }) (record { start = k; thaw = h.marks.thaw; finalized = h.marks.finalized })
  stay_of_kinds (SetThaw thaw) k = marks (record x.fixed.marks { thaw = Some thaw }) (record { start = h.marks.start; thaw = k; finalized = h.marks.finalized })
  stay_of_kinds (SetFinalized finalized) k = marks (record x.fixed.marks { finalized = Some finalized }) (record { start = h.marks.start; thaw = h.marks.thaw; finalized = k })
  stay_of_kinds (SetDuration duration freeze) k =
      setup (with_duration s duration freeze) (record { head = record { id = w.head.id; name = w.head.name }; types = w.types; languages = w.languages; groups = w.groups; problems = w.problems; teams = w.teams })
  stay_of_kinds (SetTeamName team name) k =
      setup (with_team_name s team name) (record {
        head = w.head;
        types = w.types;
        languages = w.languages;
        groups = w.groups;
        problems = w.problems;
        teams = changed_each _ (λ (t : Team). record t { name = name }) (λ t was. record { id = was.id; name = k }) 0 team s.teams w.teams;
      })
  stay_of_kinds (SetDigest id digest) k = fixed s (with_digest x.fixed.accounts id digest) x.fixed.marks w (given_of_kinds id digest k.1 x.fixed.accounts h.accounts) h.marks
  stay_of_kinds (NewType r) k =
      setup (record s { types = s.types ++ r ∷ [] }) (record { head = w.head; types = All-push _ s.types r w.types k; languages = w.languages; groups = w.groups; problems = w.problems; teams = w.teams })
  stay_of_kinds (NewLanguage r) k =
      setup (record s { languages = s.languages ++ r ∷ [] }) (record { head = w.head; types = w.types; languages = All-push _ s.languages r w.languages k; groups = w.groups; problems = w.problems; teams = w.teams })
  stay_of_kinds (NewProblem r) k =
      setup (record s { problems = s.problems ++ r ∷ [] }) (record { head = w.head; types = w.types; languages = w.languages; groups = w.groups; problems = All-push _ s.problems r w.problems k; teams = w.teams })
  stay_of_kinds (NewGroup r) k =
      setup (record s { groups = s.groups ++ r ∷ [] }) (record { head = w.head; types = w.types; languages = w.languages; groups = All-push _ s.groups r w.groups k; problems = w.problems; teams = w.teams })
  stay_of_kinds (NewTeam r) k =
      setup (record s { teams = s.teams ++ r ∷ [] }) (record { head = w.head; types = w.types; languages = w.languages; groups = w.groups; problems = w.problems; teams = All-push _ s.teams r w.teams k })
  stay_of_kinds (NewAccount r) k =
      let low = filter (λ b. comes_before b r) x.fixed.accounts in
      let high = filter (λ b. comes_before r b) x.fixed.accounts in
      fixed s (low ++ r ∷ high) x.fixed.marks w
      (all-append _ low (r ∷ high) (all-filter _ (λ b. comes_before b r) x.fixed.accounts h.accounts) (k, all-filter _ (λ b. comes_before r b) x.fixed.accounts h.accounts)) h.marks

stay_by_id : (x : ContestState) (e : Entry) → IsAscending (λ a b. IsTrue (comes_before a b)) x.fixed.accounts → IsAscending (λ a b. IsTrue (comes_before a b)) (add x e).fixed.accounts
stay_by_id x (NewAccount a) up = account_ascends x.fixed.accounts a up
stay_by_id x (SetDigest id digest) up = digest_ascends x.fixed.accounts id digest up
stay_by_id x _ up = up

pub additions_stay_sound : AdditionsStaySound
additions_stay_sound x e h may k = record { valid = adding x e h.valid may; kinds = stay_of_kinds x h.kinds e k; by_id = stay_by_id x e h.by_id }
