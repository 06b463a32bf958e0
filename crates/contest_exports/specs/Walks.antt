-- A walk over the submissions of a contest (own).
use Rattle.std.specs.Prelude.{◌≡◌, ℕ, ◌+◌, Bool, List, length, map, nat_lt, if◌then◌else◌}
use Rattle.contest_types.specs.Order.{in_order}
use Rattle.contest_types.specs.State.{ContestState, names, of_submission}
use Rattle.contest_types.specs.declared.submission.Submission.{Submission}
use Rattle.contest_view.specs.Rows.{row_cmp}
use Rattle.contest_exports.specs.declared.walk.Walk.{Walk}

-- all submissions, with their files, by time, team id and number (Contest API 2023-06, submissions)
abbrev pub all_in_order : ContestState → List Submission
all_in_order x = in_order (row_cmp x.fixed.settings) x.submissions

-- which submission it is: the place of its team, and its number
abbrev pub numbers_of : Submission → ℕ × ℕ
numbers_of s = (s.team, s.number)

abbrev pub has_numbers : ℕ × ℕ → Submission → Bool
has_numbers numbers s = names numbers.0 numbers.1 (of_submission s)

-- which submissions a walk gives, in their order, and how many it gave
abbrev pub order_in : Walk → List (ℕ × ℕ)
order_in walk = walk.order.items

abbrev pub given_by : Walk → ℕ
given_by walk = walk.given

-- it gives those of this contest, each in its turn
abbrev pub IsOver : Walk → ContestState → Type 0
IsOver walk x = order_in walk ≡ map numbers_of (all_in_order x)

-- how many it gave after one more step; at the end there is none
abbrev pub stepped : (length given : ℕ) → ℕ
stepped length given = if nat_lt given length then given + 1 else given
