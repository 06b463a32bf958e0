-- What names settings by their places names the same ones once the settings have grown.
use Rattle.std.proofs.Common.{◌≡◌, ◌<◌, ℕ, ◌+◌, true, List, [], ◌∷◌, ◌++◌, length, map, Option, None, Some, IfSome, refl, ap, ap₂}
use Rattle.std.specs.Prelude.{false, nat_lt}
use Rattle.std.specs.List.{AllByRecursion, enumerate_from, flat_map, join_with_byte, list_all, slice_get}
use Rattle.std.specs.Option.{option_map, option_map_or}
use Rattle.std.proofs.lemmas.Bool.{and_parts, ltb-true}
use Rattle.sqlite.specs.Values.{or_null}
use Rattle.sqlite_value.specs.declared.value.Value.TheVariants.{Text, Blob}
use Rattle.sqlite_value.specs.Order.{Row}
use Rattle.contest_types.specs.Accounts.{has_valid_role}
use Rattle.contest_types.specs.Growing.{IsFront}
use Rattle.contest_types.specs.ProblemPlaces.{problem_id_at}
use Rattle.contest_types.specs.SettingsNames.{group_id_at, language_id_at, type_id_at}
use Rattle.contest_types.specs.Setup.{Setup, refers}
use Rattle.contest_types.specs.State.{ContestState, with_settings}
use Rattle.contest_types.specs.declared.account.Account.{Account}
use Rattle.contest_types.specs.declared.account.Role.{Role}
use Rattle.contest_types.specs.declared.account.Role.TheVariants as role
use Rattle.contest_types.specs.declared.clarification.Clarification.{Clarification}
use Rattle.contest_types.specs.declared.objects.Group.{Group}
use Rattle.contest_types.specs.declared.objects.JudgementType.{JudgementType}
use Rattle.contest_types.specs.declared.objects.Language.{Language}
use Rattle.contest_types.specs.declared.objects.Problem.{Problem}
use Rattle.contest_types.specs.declared.objects.Team.{Team}
use Rattle.contest_types.specs.declared.proposal.Proposal.{Proposal}
use Rattle.contest_types.specs.declared.rejudging.Member.{Member}
use Rattle.contest_types.specs.declared.rejudging.MemberState.{MemberState}
use Rattle.contest_types.specs.declared.rejudging.MemberState.TheVariants as member
use Rattle.contest_types.specs.declared.rejudging.Rejudging.{Rejudging}
use Rattle.contest_types.specs.declared.submission.Release.{Release}
use Rattle.contest_types.specs.declared.submission.Submission.{Submission}
use Rattle.contest_store_rows.specs.Cells.{number, flag}
use Rattle.contest_store_rows.specs.FixedRows.{account_row, items_rows, role_number, role_team, team_row}
use Rattle.contest_store_rows.specs.Laws.{IsWritableClarification, IsWritableProposal, IsWritableRejudging, IsWritableRelease, IsWritableState, IsWritableSubmission}
use Rattle.contest_store_rows.specs.ListRows.{audience_kind, audience_number, clarification_row, is_ready, member_account, member_row, member_type, proposal_row, reference_id, release_row, submission_row}
use Rattle.contest_store_rows.specs.Tables.{rows_of}
use Rattle.contest_types.proofs.GrownSettings.{HasFronts, at_front}
use Rattle.contest_store_rows.proofs.ListLaws.{rows_from}
use Rattle.contest_store_reading.specs.Laws.{IsWritableAccount}
use Rattle.contest_store_reading.specs.SpellingLaws.{IsWritable}

-- what stands at a place stands there still
kept : {X : Type 0} (id : X → List ℕ) (xs ys : List X) (i : ℕ) → IsFront xs ys → i < length xs → option_map_or id (slice_get ys i) [] ≡ option_map_or id (slice_get xs i) []
kept id xs ys i front within = ap (λ o. option_map_or id o []) (at_front xs ys i front within)

-- rows that are the same one by one
pub same_rows : {X : Type 0} (P : X → Type 0) (row next : ℕ → X → Row) → ((n : ℕ) (x : X) → P x → next n x ≡ row n x) → (n : ℕ) (xs : List X) → AllByRecursion P xs → rows_from next n xs ≡ rows_from row n xs
same_rows P row next same n [] all = refl
same_rows P row next same n (x ∷ xs) all = ap₂ ◌∷◌ (same n x all.0) (same_rows P row next same (n + 1) xs all.1)

module _ (s t : Setup) (fronts : HasFronts s t) where
  type_kept : (i : ℕ) → i < length s.types → type_id_at t i ≡ type_id_at s i
  type_kept i within = kept (λ (u : JudgementType). u.id) s.types t.types i fronts.types within

  language_kept : (i : ℕ) → i < length s.languages → language_id_at t i ≡ language_id_at s i
  language_kept i within = kept (λ (k : Language). k.id) s.languages t.languages i fronts.languages within

  problem_kept : (i : ℕ) → i < length s.problems → problem_id_at t.problems i ≡ problem_id_at s.problems i
  problem_kept i within = kept (λ (q : Problem). q.id) s.problems t.problems i fronts.problems within

  submissions_kept : (n : ℕ) (xs : List Submission) → AllByRecursion (IsWritableSubmission s) xs → rows_from (submission_row t) n xs ≡ rows_from (submission_row s) n xs
  submissions_kept = same_rows (IsWritableSubmission s) (submission_row s) (submission_row t) (λ n x w. rw (problem_kept x.problem w.problem, language_kept x.language w.language) refl)

  proposals_kept : (n : ℕ) (ps : List Proposal) → AllByRecursion (IsWritableProposal s) ps → rows_from (proposal_row t) n ps ≡ rows_from (proposal_row s) n ps
  proposals_kept = same_rows (IsWritableProposal s) (proposal_row s) (proposal_row t) (λ n p w. rw (type_kept p.verdict w.verdict) refl)

  releases_kept : (n : ℕ) (vs : List Release) → AllByRecursion (IsWritableRelease s) vs → rows_from (release_row t) n vs ≡ rows_from (release_row s) n vs
  releases_kept = same_rows (IsWritableRelease s) (release_row s) (release_row t) (λ n v w. rw (type_kept v.verdict w.verdict) refl)

  state_kept : (state : MemberState) → IsWritableState s state → option_map (type_id_at t) (member_type state) ≡ option_map (type_id_at s) (member_type state)
  state_kept member.Empty w = refl
  state_kept (member.Proposed verdict account) w = ap Some (type_kept verdict w.0)
  state_kept (member.Ready verdict) w = ap Some (type_kept verdict w)

  own_members : (n place : ℕ) (ms : List Member) → AllByRecursion (λ (m : Member). IsWritableState s m.state) ms → rows_from (member_row t n) place ms ≡ rows_from (member_row s n) place ms
  own_members n = same_rows (λ m. IsWritableState s m.state) (member_row s n) (member_row t n)
      (λ place m w. ap (λ (o : Option (List ℕ)). number n ∷ number place ∷ number (m.team + 1) ∷ number m.number ∷ or_null Text o ∷ or_null Text (member_account m.state) ∷ flag (is_ready m.state) ∷ []) (state_kept m.state w))

  members_kept : (n : ℕ) (rs : List Rejudging) → AllByRecursion (IsWritableRejudging s) rs →
      flat_map (λ r. rows_from (member_row t r.0) 1 (r.1).members) (enumerate_from n rs) ≡ flat_map (λ r. rows_from (member_row s r.0) 1 (r.1).members) (enumerate_from n rs)
  members_kept n [] all = refl
  members_kept n (r ∷ rs) all = ap₂ ◌++◌ (own_members n 1 r.members all.0.members) (members_kept (n + 1) rs all.1)

  if_any : (o : Option ℕ) → IfSome o (λ i. i < length s.problems) → option_map (problem_id_at t.problems) o ≡ option_map (problem_id_at s.problems) o
  if_any None within = refl
  if_any (Some i) within = ap Some (problem_kept i within)

  clarifications_kept : (n : ℕ) (cs : List Clarification) → AllByRecursion (IsWritableClarification s) cs → rows_from (clarification_row t) n cs ≡ rows_from (clarification_row s) n cs
  clarifications_kept = same_rows (IsWritableClarification s) (clarification_row s) (clarification_row t)
      (λ n c w. ap (λ (o : Option (List ℕ)). number n ∷ number (audience_kind c.addressee) ∷ number (audience_number c.addressee) ∷ number c.number ∷ flag c.from_jury ∷ Text c.account
      ∷ or_null Text o ∷ or_null Text (option_map reference_id c.reply) ∷ Text c.text ∷ number c.time ∷ or_null Text c.key ∷ []) (if_any c.problem w.problem))

  ids_kept : (gs : List ℕ) → list_all (λ i. nat_lt i (length s.groups)) gs ≡ true → map (group_id_at t) gs ≡ map (group_id_at s) gs
  ids_kept [] h = refl
  ids_kept (i ∷ gs) h =
      let b = and_parts _ _ h in
      ap₂ ◌∷◌ (kept (λ (k : Group). k.id) s.groups t.groups i fronts.groups (ltb-true i _ b.0)) (ids_kept gs b.1)

  pub teams_kept : (n : ℕ) (ts : List Team) → list_all (refers (length s.groups)) ts ≡ true → rows_from (team_row t) n ts ≡ rows_from (team_row s) n ts
  teams_kept n [] h = refl
  teams_kept n (u ∷ ts) h =
      let b = and_parts _ _ h in
      ap₂ ◌∷◌ (ap (λ ids. number 4 ∷ number n ∷ Text u.id ∷ Text u.name ∷ Text [] ∷ number 0 ∷ flag u.hidden ∷ flag false ∷ Text (join_with_byte 32 ids) ∷ []) (ids_kept u.groups b.0)) (teams_kept (n + 1) ts b.1)

  role_kept : (r : Role) → has_valid_role s r ≡ true → role_team t r ≡ role_team s r
  role_kept (role.Team team) h = ap Some (kept (λ (u : Team). u.id) s.teams t.teams team fronts.teams (ltb-true team _ h))
  role_kept role.Judge h = refl
  role_kept role.Admin h = refl
  role_kept role.Analyst h = refl

  accounts_kept : (accounts : List Account) → AllByRecursion (IsWritableAccount s) accounts → map (account_row t) accounts ≡ map (account_row s) accounts
  accounts_kept [] all = refl
  accounts_kept (a ∷ accounts) all = ap₂ ◌∷◌ (ap (λ (o : Option (List ℕ)). Text a.id ∷ number (role_number a.role) ∷ or_null Text o ∷ Blob a.digest ∷ []) (role_kept a.role all.0.role)) (accounts_kept accounts all.1)

-- all rows but the settings' own
pub others_kept : (x : ContestState) (t : Setup) → HasFronts x.fixed.settings t → t.head ≡ x.fixed.settings.head → IsWritable x → rows_of (with_settings x t) ≡ record (rows_of x) { items = items_rows t }
others_kept x t fronts head w =
    let s = x.fixed.settings in
    rw (
      head,
      accounts_kept s t fronts x.fixed.accounts w.fixed.accounts,
      submissions_kept s t fronts 1 x.submissions w.submissions,
      proposals_kept s t fronts 1 x.proposals w.proposals,
      releases_kept s t fronts 1 x.releases w.releases,
      members_kept s t fronts 1 x.rejudgings w.rejudgings,
      clarifications_kept s t fronts 1 x.clarifications w.clarifications,
    ) refl
