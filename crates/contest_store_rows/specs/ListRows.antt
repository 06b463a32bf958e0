-- The lists of a contest as rows of its tables, counted from 1 in the order in which they were accepted. Problems,
-- languages, judgement types and accounts go by their ids, teams and groups by their numbers, which count from 1.
use Rattle.std.specs.Prelude.{ℕ, ◌+◌, Bool, true, false, List, [], ◌∷◌, map, Option, None, Some, codes}
use Rattle.std.specs.List.{enumerate_from, flat_map}
use Rattle.std.specs.Option.{option_map}
use Rattle.sqlite.specs.Values.{or_null}
use Rattle.sqlite_value.specs.declared.value.Value.TheVariants.{Text, Blob}
use Rattle.sqlite_value.specs.Order.{Row}
use Rattle.contest_types.specs.ProblemPlaces.{problem_id_at}
use Rattle.contest_types.specs.SettingsNames.{type_id_at, language_id_at}
use Rattle.contest_types.specs.Setup.{Setup}
use Rattle.contest_types.specs.VisibleIds.{clarification_id}
use Rattle.contest_types.specs.declared.clarification.Addressee.{Addressee}
use Rattle.contest_types.specs.declared.clarification.Addressee.TheVariants.{All as ToAll, Group as ToGroup, Team as ToTeam}
use Rattle.contest_types.specs.declared.clarification.Clarification.{Clarification}
use Rattle.contest_types.specs.declared.clarification.Reference.{Reference}
use Rattle.contest_types.specs.declared.proposal.Proposal.{Proposal}
use Rattle.contest_types.specs.declared.proposal.Proposer.{Proposer}
use Rattle.contest_types.specs.declared.proposal.Proposer.TheVariants as proposer
use Rattle.contest_types.specs.declared.rejudging.Member.{Member}
use Rattle.contest_types.specs.declared.rejudging.MemberState.{MemberState}
use Rattle.contest_types.specs.declared.rejudging.MemberState.TheVariants as member
use Rattle.contest_types.specs.declared.rejudging.Rejudging.{Rejudging}
use Rattle.contest_types.specs.declared.rejudging.RejudgingState.{RejudgingState}
use Rattle.contest_types.specs.declared.rejudging.RejudgingState.TheVariants as state
use Rattle.contest_types.specs.declared.submission.Release.{Release}
use Rattle.contest_types.specs.declared.submission.Submission.{Submission}
use Rattle.contest_store_rows.specs.Cells.{number, flag}

abbrev pub submission_row : Setup → ℕ → Submission → Row
submission_row s n x =
    number n ∷ number (x.team + 1) ∷ number x.number ∷ number x.time ∷ Text (problem_id_at s.problems x.problem) ∷ Text (language_id_at s x.language)
    ∷ or_null Text x.entry_point ∷ Blob x.file ∷ or_null Text x.key ∷ []

-- what a load shows of it: of the file, which has this size, its type and its length alone
abbrev pub loaded_submission_row : Setup → ℕ → (size : ℕ) → Submission → Row
loaded_submission_row s n size x =
    number n ∷ number (x.team + 1) ∷ number x.number ∷ number x.time ∷ Text (problem_id_at s.problems x.problem) ∷ Text (language_id_at s x.language)
    ∷ or_null Text x.entry_point ∷ Text (codes "blob") ∷ number size ∷ or_null Text x.key ∷ []

-- nobody's account has the id `import`
abbrev pub proposer_id : Proposer → List ℕ
proposer_id (proposer.Account id) = id
proposer_id proposer.Import = codes "import"

abbrev pub proposal_row : Setup → ℕ → Proposal → Row
proposal_row s n p =
    number n ∷ number (p.team + 1) ∷ number p.number ∷ Text (type_id_at s p.verdict) ∷ Text (proposer_id p.proposer) ∷ number p.time ∷ []

abbrev pub release_row : Setup → ℕ → Release → Row
release_row s n v = number n ∷ number (v.team + 1) ∷ number v.number ∷ number v.round ∷ Text (type_id_at s v.verdict) ∷ number v.time ∷ []

abbrev pub state_number : RejudgingState → ℕ
state_number state.Open = 0
state_number state.Applied = 1
state_number state.Cancelled = 2

abbrev pub rejudging_row : ℕ → Rejudging → Row
rejudging_row n r = number n ∷ Text r.reason ∷ number (state_number r.state) ∷ []

abbrev pub member_type : MemberState → Option ℕ
member_type member.Empty = None
member_type (member.Proposed verdict account) = Some verdict
member_type (member.Ready verdict) = Some verdict

abbrev pub member_account : MemberState → Option (List ℕ)
member_account (member.Proposed verdict account) = Some account
member_account _ = None

abbrev pub is_ready : MemberState → Bool
is_ready (member.Ready verdict) = true
is_ready _ = false

-- a member of the rejudging with this number, at a place in it
abbrev pub member_row : Setup → (rejudging place : ℕ) → Member → Row
member_row s rejudging place m =
    number rejudging ∷ number place ∷ number (m.team + 1) ∷ number m.number
    ∷ or_null Text (option_map (type_id_at s) (member_type m.state)) ∷ or_null Text (member_account m.state) ∷ flag (is_ready m.state) ∷ []

-- rejudging by rejudging, each one's members as they were named
abbrev pub members_rows : Setup → List Rejudging → List Row
members_rows s rejudgings =
    flat_map (λ r. map (λ m. member_row s r.0 m.0 m.1) (enumerate_from 1 (r.1).members)) (enumerate_from 1 rejudgings)

-- 0 for all, 1 for a team, 2 for a group
abbrev pub audience_kind : Addressee → ℕ
audience_kind ToAll = 0
audience_kind (ToTeam team) = 1
audience_kind (ToGroup group) = 2

-- 0 for all
abbrev pub audience_number : Addressee → ℕ
audience_number ToAll = 0
audience_number (ToTeam team) = team + 1
audience_number (ToGroup group) = group + 1

abbrev pub reference_id : Reference → List ℕ
reference_id r = clarification_id r.addressee r.number

abbrev pub clarification_row : Setup → ℕ → Clarification → Row
clarification_row s n c =
    number n ∷ number (audience_kind c.addressee) ∷ number (audience_number c.addressee) ∷ number c.number ∷ flag c.from_jury ∷ Text c.account
    ∷ or_null Text (option_map (problem_id_at s.problems) c.problem) ∷ or_null Text (option_map reference_id c.reply)
    ∷ Text c.text ∷ number c.time ∷ or_null Text c.key ∷ []

-- the same in the table of the first schema, which has no groups
abbrev pub first_clarification_row : Setup → ℕ → Clarification → Row
first_clarification_row s n c =
    number n ∷ number (audience_number c.addressee) ∷ number c.number ∷ flag c.from_jury ∷ Text c.account
    ∷ or_null Text (option_map (problem_id_at s.problems) c.problem) ∷ or_null Text (option_map reference_id c.reply)
    ∷ Text c.text ∷ number c.time ∷ or_null Text c.key ∷ []
