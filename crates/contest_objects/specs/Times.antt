-- How times are served, also where there may be none (Contest API 2023-06, TIME and RELTIME).
use Rattle.std.specs.Prelude.{ℕ, ◌-ℤ◌, pos, Option}
use Rattle.std.specs.Option.{option_map_or}
use Rattle.serde_json.specs.Data.{Data, null, string}
use Rattle.contest_types.specs.MomentText.{moment_text}
use Rattle.contest_types.specs.RelTimeText.{rel_time_text}

-- a moment, or null
abbrev pub moment_or_null : Option ℕ → Data
moment_or_null moment = option_map_or (λ m. string (moment_text m)) moment null

-- a length of time
abbrev pub span_data : ℕ → Data
span_data span = string (rel_time_text (pos span))

-- a length of time, or null
abbrev pub span_or_null : Option ℕ → Data
span_or_null span = option_map_or span_data span null

-- the time since the start, where that is set
abbrev pub contest_time_data : Option ℕ → ℕ → Data
contest_time_data start time = option_map_or (λ s. string (rel_time_text (pos time -ℤ pos s))) start null
