-- The head and the marks of the contest that a row is.
use Rattle.std.specs.Prelude.{ℕ, ◌^◌, nat_le, nat_lt, [], ◌∷◌, Option, Some, None, if◌then◌else◌}
use Rattle.sqlite.specs.Values.{or_null}
use Rattle.std.specs.Option.{option_map, option_and_then}
use Rattle.sqlite_value.specs.Order.{Row, column}
use Rattle.sqlite_value.specs.declared.value.Value.{Value}
use Rattle.contest_types.specs.declared.contest.ContestHead.{ContestHead}
use Rattle.contest_types.specs.declared.contest.Medals.{Medals}
use Rattle.contest_types.specs.declared.limits.TheConstants.{LAST_MOMENT}
use Rattle.contest_types.specs.declared.marks.Marks.{Marks}
use Rattle.contest_store_rows.specs.Cells.{number, number_of}
use Rattle.contest_store_rows.specs.Readings.{id_in, is_set, name_in, number_if_any}

-- a number of 32 bits
abbrev pub small_in : Value → Option ℕ
small_in v = if nat_lt (number_of v) (2 ^ 32) then Some (number_of v) else None

-- milliseconds: a moment or a length of time
abbrev pub within_time : ℕ → Option ℕ
within_time n = if nat_le n LAST_MOMENT then Some n else None

-- milliseconds or NULL
abbrev pub time_if_any : Value → Option (Option ℕ)
time_if_any v = elim (number_if_any v) [ None ↦ Some None | (Some n) ↦ option_map Some (within_time n) ]

abbrev pub medals_in : Row → Option Medals
medals_in r =
    option_and_then (λ gold. option_and_then (λ silver. option_map (λ bronze. record { gold = gold; silver = silver; bronze = bronze }) (small_in (column r 9)))
    (small_in (column r 8))) (small_in (column r 7))

abbrev pub head_in : Row → Option ContestHead
head_in r =
    option_and_then (λ medals. option_and_then (λ penalty. option_and_then (λ duration. option_and_then (λ freeze. option_and_then (λ id. option_map (λ name. record {
      id = id;
      name = name;
      duration = duration;
      freeze = freeze;
      penalty_time = penalty;
      verification = is_set (column r 6);
      medals = medals;
    }) (name_in (column r 2))) (id_in (column r 1))) (time_if_any (column r 4))) (within_time (number_of (column r 3)))) (small_in (column r 5))) (medals_in r)

abbrev pub marks_in : Row → Option Marks
marks_in r =
    option_and_then (λ start. option_and_then (λ thaw. option_map (λ finalized. record { start = start; thaw = thaw; finalized = finalized })
    (time_if_any (column r 12))) (time_if_any (column r 11))) (time_if_any (column r 10))

-- the duration and the freeze duration after the number of the only row
abbrev pub duration_row : (duration : ℕ) → (freeze : Option ℕ) → Row
duration_row duration freeze = number 1 ∷ number duration ∷ or_null number freeze ∷ []

-- the marks after it
abbrev pub marks_row : Marks → Row
marks_row m = number 1 ∷ or_null number m.start ∷ or_null number m.thaw ∷ or_null number m.finalized ∷ []
