-- When the clarifications of a contest are valid (own).
use Rattle.std.specs.Prelude.{ℕ, Bool, true, false, not, ◌&&◌, ◌||◌, ◌==◌, nat_le, nat_lt, List, length, map, count_by, is_some, if◌then◌else◌}
use Rattle.std.specs.List.{list_any, list_all}
use Rattle.std.specs.Option.{option_map_or}
use Rattle.std.specs.Str.{bytes_eq}
use Rattle.contest_types.specs.Setup.{Setup}
use Rattle.contest_types.specs.Accounts.{account_named}
use Rattle.contest_types.specs.Masks.{audience_at}
use Rattle.contest_types.specs.Sight.{hears}
use Rattle.contest_types.specs.Series.{in_each, count_up, have_own_keys}
use Rattle.contest_types.specs.State.{FixedPart, ContestState, same_addressee}
use Rattle.contest_types.specs.declared.limits.TheConstants.{TEAM_REQUESTS, JURY_CLARIFICATIONS}
use Rattle.contest_types.specs.declared.account.Role.{Role}
use Rattle.contest_types.specs.declared.account.Role.TheVariants as role
use Rattle.contest_types.specs.declared.clarification.Clarification.{Clarification}
use Rattle.contest_types.specs.declared.clarification.Addressee.{Addressee}
use Rattle.contest_types.specs.declared.clarification.Addressee.TheVariants as addressee
use Rattle.contest_types.specs.declared.clarification.Reference.{Reference}

abbrev pub is_an_addressee : FixedPart → Addressee → Bool
is_an_addressee f addressee.All = true
is_an_addressee f (addressee.Group group) = nat_lt group (length f.settings.groups)
is_an_addressee f (addressee.Team team) = nat_lt team (length f.settings.teams)

abbrev pub has_clarification : ContestState → Reference → Bool
has_clarification x r = list_any (λ c. same_addressee c.addressee r.addressee && (c.number == r.number)) x.clarifications

-- what a team's account writes belongs to that team, and answers nothing that the team doesn't hear
abbrev pub may_send : Setup → Role → Clarification → Bool
may_send s (role.Team team) c =
    same_addressee (addressee.Team team) c.addressee && option_map_or (λ (r : Reference). hears (audience_at team) s r.addressee) c.reply true
may_send s _ c = false

abbrev pub is_well_sent : FixedPart → Clarification → Bool
is_well_sent f c = c.from_jury || option_map_or (λ a. may_send f.settings a.role c) (account_named f.accounts c.account) false

-- a clarification names what is there
abbrev pub is_valid_clarification : ContestState → Clarification → Bool
is_valid_clarification x c =
    is_an_addressee x.fixed c.addressee && is_some (account_named x.fixed.accounts c.account)
    && option_map_or (λ problem. nat_lt problem (length x.fixed.settings.problems)) c.problem true
    && option_map_or (has_clarification x) c.reply true && is_well_sent x.fixed c

abbrev pub to_one_addressee : Clarification → Clarification → Bool
to_one_addressee c d = same_addressee d.addressee c.addressee

abbrev pub is_request : Clarification → Bool
is_request c = not c.from_jury

-- an addressee's clarifications count up over both directions, and neither direction has too many
abbrev pub are_valid_clarifications : List Clarification → Bool
are_valid_clarifications cs =
    count_up (map (λ (c : Clarification). c.number) cs)
    && nat_le (count_by is_request cs) TEAM_REQUESTS && nat_le (count_by (λ (c : Clarification). c.from_jury) cs) JURY_CLARIFICATIONS

-- whose idempotency keys are told apart: a team's, which are its addressee's, or a jury account's
pub data Scope : Type 0 where
  OfTeam : Addressee → Scope
  OfAccount : List ℕ → Scope

abbrev pub same_scope : Scope → Scope → Bool
same_scope (OfTeam to) (OfTeam other) = same_addressee other to
same_scope (OfAccount id) (OfAccount other) = bytes_eq other id
same_scope _ _ = false

abbrev pub scope_of : Clarification → Scope
scope_of c = if c.from_jury then OfAccount c.account else OfTeam c.addressee

abbrev pub in_one_scope : Clarification → Clarification → Bool
in_one_scope c d = same_scope (scope_of c) (scope_of d)

abbrev pub keys_are_own : List Clarification → Bool
keys_are_own cs = have_own_keys (map (λ (c : Clarification). c.key) cs)

abbrev pub has_valid_clarifications : ContestState → Bool
has_valid_clarifications x =
    list_all (is_valid_clarification x) x.clarifications
    && in_each to_one_addressee are_valid_clarifications x.clarifications && in_each in_one_scope keys_are_own x.clarifications
