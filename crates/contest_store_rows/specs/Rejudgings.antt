-- The rejudgings that the rows of two tables are: their own, and those of their members.
use Rattle.std.specs.Prelude.{ℕ, ◌+◌, ◌-◌, ◌==◌, List, [], ◌∷◌, length, drop, map, Option, Some, None, if◌then◌else◌}
use Rattle.std.specs.List.{take_while}
use Rattle.std.specs.Option.{option_and_then, option_map}
use Rattle.sqlite_value.specs.Order.{Row, column}
use Rattle.contest_types.specs.NameText.{name_from}
use Rattle.contest_types.specs.Setup.{Setup}
use Rattle.contest_types.specs.declared.objects.JudgementType.{JudgementType}
use Rattle.contest_types.specs.declared.rejudging.Member.{Member}
use Rattle.contest_types.specs.declared.rejudging.MemberState.{MemberState}
use Rattle.contest_types.specs.declared.rejudging.MemberState.TheVariants as member
use Rattle.contest_types.specs.declared.rejudging.Rejudging.{Rejudging}
use Rattle.contest_types.specs.declared.rejudging.RejudgingState.{RejudgingState}
use Rattle.contest_types.specs.declared.rejudging.RejudgingState.TheVariants as state
use Rattle.contest_store_rows.specs.Cells.{number_of, text_of}
use Rattle.contest_store_rows.specs.Lists.{list_in}
use Rattle.contest_store_rows.specs.ListRows.{rejudging_row, member_row}
use Rattle.contest_store_rows.specs.Readings.{id_if_any, if_its_row, place_if_any}

abbrev pub state_of : ℕ → RejudgingState
state_of n = if n == 0 then state.Open else if n == 1 then state.Applied else state.Cancelled

-- what the cells say, with no members, if the reason is a name
abbrev pub rejudging_said : Row → Option Rejudging
rejudging_said r =
    option_map (λ reason. record { reason = reason; state = state_of (number_of (column r 2)); members = [] }) (name_from (text_of (column r 1)))

-- the rejudging, with no members, that the row with this number is
abbrev pub head_in : ℕ → Row → Option Rejudging
head_in n r = option_and_then (if_its_row (rejudging_row n) r) (rejudging_said r)

-- a verdict waits for another judge while the account that proposed it stands beside it
abbrev pub member_state_by : Option ℕ → Option (List ℕ) → MemberState
member_state_by None account = member.Empty
member_state_by (Some verdict) None = member.Ready verdict
member_state_by (Some verdict) (Some account) = member.Proposed verdict account

-- what the cells say, if the account is an id
abbrev pub member_said : Setup → Row → Option Member
member_said s r = option_map (λ account. record {
  team = number_of (column r 2) - 1;
  number = number_of (column r 3);
  state = member_state_by (place_if_any (map (λ (t : JudgementType). t.id) s.types) (column r 4)) account;
}) (id_if_any (column r 5))

-- the member of a rejudging at a place in it that a row is
abbrev pub member_in : Setup → (rejudging place : ℕ) → Row → Option Member
member_in s rejudging place r = option_and_then (if_its_row (member_row s rejudging place) r) (member_said s r)

-- the rejudging with this number, with the members that the rows of its members are
abbrev pub rejudging_in : Setup → ℕ → Row → (members : List Row) → Option Rejudging
rejudging_in s n r rows = option_and_then (λ (j : Rejudging). option_map (λ members. record j { members = members }) (list_in (member_in s n) rows)) (head_in n r)

-- the rows in front that name this rejudging
abbrev pub own_rows : ℕ → List Row → List Row
own_rows n rows = take_while (λ r. number_of (column r 0) == n) rows

-- the rejudgings, counted from a number, each with its members, whose rows come rejudging by rejudging; none where a
-- row is left over
abbrev pub rejudgings_from : Setup → ℕ → List Row → (members : List Row) → Option (List Rejudging)
rejudgings_from s n [] [] = Some []
rejudgings_from s n [] (row ∷ rows) = None
rejudgings_from s n (r ∷ rs) rows =
    option_and_then (λ j. option_map (λ js. j ∷ js) (rejudgings_from s (n + 1) rs (drop (length (own_rows n rows)) rows)))
    (rejudging_in s n r (own_rows n rows))

abbrev pub rejudgings_in : Setup → List Row → (members : List Row) → Option (List Rejudging)
rejudgings_in s rows members = rejudgings_from s 1 rows members
