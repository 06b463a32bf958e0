-- The body that asks for an extension (own; its members are those of a contest object, Contest API 2023-06).
use Rattle.std.specs.Prelude.{ℕ, Bool, ◌&&◌, nat_le, nat_lt, List, Option, Some, None, codes, if◌then◌else◌}
use Rattle.std.specs.Option.{option_map, option_and_then}
use Rattle.serde_json.specs.Data.{Data}
use Rattle.serde_json.specs.Find.{get, as_str}
use Rattle.contest_types.specs.Setup.{has_valid_freeze}
use Rattle.contest_types.specs.declared.limits.TheConstants.{LONGEST_CONTEST}
use Rattle.contest_files.specs.FieldTexts.{span_of}
use Rattle.contest_files.specs.JsonMembers.{data_of, optional}
use Rattle.contest_rules.specs.declared.extensions.WantedExtension.{WantedExtension}

-- a relative time that isn't below zero
abbrev pub span_in : Data → Option ℕ
span_in d = option_and_then span_of (as_str d)

-- a freeze duration that need not be there
abbrev pub freeze_said : Option Data → Option (Option ℕ)
freeze_said member = optional (λ d. option_map Some (span_in d)) member

-- it is within the limits of a contest
abbrev pub has_limits : WantedExtension → Bool
has_limits w = nat_lt 0 w.duration && nat_le w.duration LONGEST_CONTEST && has_valid_freeze w.freeze w.duration

abbrev pub within_limits : WantedExtension → Option WantedExtension
within_limits w = if has_limits w then Some w else None

-- the duration, and the freeze duration if it is there
abbrev pub extension_said : Data → Option WantedExtension
extension_said d =
    option_and_then (λ duration. option_map (λ freeze. record { duration = duration; freeze = freeze }) (freeze_said (get (codes "scoreboard_freeze_duration") d)))
    (option_and_then span_in (get (codes "duration") d))

-- the extension that a body asks for
abbrev pub extension_in : (body : List ℕ) → Option WantedExtension
extension_in body = option_and_then within_limits (option_and_then extension_said (data_of body))
