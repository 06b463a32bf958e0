-- When the rejudgings of a contest are valid (own).
use Rattle.std.specs.Prelude.{ℕ, Bool, true, false, not, ◌&&◌, nat_le, nat_lt, List, [], ◌∷◌, length, filter, is_some}
use Rattle.std.specs.List.{list_any, list_all, flat_map}
use Rattle.contest_types.specs.Accounts.{account_named}
use Rattle.contest_types.specs.State.{FixedPart, ContestState, names, of_release, of_member}
use Rattle.contest_types.specs.declared.limits.TheConstants.{REJUDGINGS, REJUDGING_MEMBERS}
use Rattle.contest_types.specs.declared.submission.Release.{Release}
use Rattle.contest_types.specs.declared.rejudging.Rejudging.{Rejudging}
use Rattle.contest_types.specs.declared.rejudging.RejudgingState.{RejudgingState}
use Rattle.contest_types.specs.declared.rejudging.RejudgingState.TheVariants as state
use Rattle.contest_types.specs.declared.rejudging.Member.{Member}
use Rattle.contest_types.specs.declared.rejudging.MemberState.{MemberState}
use Rattle.contest_types.specs.declared.rejudging.MemberState.TheVariants as member

-- a release stands on a team's submission with this number
abbrev pub is_released : (team number : ℕ) → List Release → Bool
is_released team number vs = list_any (λ (v : Release). names team number (of_release v)) vs

abbrev pub has_release : ContestState → (team number : ℕ) → Bool
has_release x team number = is_released team number x.releases

-- the judgement type and the account of a member's state are there
abbrev pub is_valid_state : FixedPart → MemberState → Bool
is_valid_state f member.Empty = true
is_valid_state f (member.Proposed verdict account) = nat_lt verdict (length f.settings.types) && is_some (account_named f.accounts account)
is_valid_state f (member.Ready verdict) = nat_lt verdict (length f.settings.types)

-- a member has a release
abbrev pub is_valid_member : ContestState → Member → Bool
is_valid_member x m = has_release x m.team m.number && is_valid_state x.fixed m.state

abbrev pub is_same_member : Member → Member → Bool
is_same_member m n = names n.team n.number (of_member m)

-- no submission is a member twice
abbrev pub are_different_members : List Member → Bool
are_different_members [] = true
are_different_members (m ∷ ms) = not (list_any (is_same_member m) ms) && are_different_members ms

abbrev pub is_valid_rejudging : ContestState → Rejudging → Bool
is_valid_rejudging x r =
    list_all (is_valid_member x) r.members && are_different_members r.members && nat_le (length r.members) REJUDGING_MEMBERS

abbrev pub is_open_by : RejudgingState → Bool
is_open_by state.Open = true
is_open_by state.Applied = false
is_open_by state.Cancelled = false

abbrev pub is_open : Rejudging → Bool
is_open r = is_open_by r.state

-- the members of all open rejudgings
abbrev pub open_members : List Rejudging → List Member
open_members rs = flat_map (λ (r : Rejudging). r.members) (filter is_open rs)

-- no submission is a member of two open rejudgings
abbrev pub has_valid_rejudgings : ContestState → Bool
has_valid_rejudgings x =
    list_all (is_valid_rejudging x) x.rejudgings
    && are_different_members (open_members x.rejudgings)
    && nat_le (length x.rejudgings) REJUDGINGS
