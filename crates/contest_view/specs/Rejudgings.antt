-- Rejudgings as the jury reads them (own; DOMjudge manual, "Rejudging"). Nobody else sees any.
use Rattle.std.specs.Prelude.{ℕ, List, [], map, Option, None, find, if◌then◌else◌}
use Rattle.std.specs.Fmt.{decimal}
use Rattle.std.specs.List.{enumerate_from}
use Rattle.std.specs.Option.{option_map}
use Rattle.std.specs.Str.{bytes_eq}
use Rattle.serde_json.specs.Data.{Data, array}
use Rattle.serde_json.specs.View.{items_of}
use Rattle.contest_types.specs.Masks.{is_jury}
use Rattle.contest_types.specs.Setup.{Setup}
use Rattle.contest_types.specs.State.{ContestState}
use Rattle.contest_types.specs.declared.audience.Audience.{Audience}
use Rattle.contest_types.specs.declared.rejudging.Rejudging.{Rejudging}
use Rattle.contest_objects.specs.RejudgingObjects.{rejudging_data}

-- the rejudging whose number, from 1, is this text, byte for byte
abbrev pub named_rejudging : (id : List ℕ) → List Rejudging → Option (ℕ × Rejudging)
named_rejudging id rs = find (λ p. bytes_eq (decimal p.0) id) (enumerate_from 1 rs)

abbrev pub numbered_data : Setup → ℕ × Rejudging → Data
numbered_data s p = rejudging_data s p.0 p.1

-- all of them, by number
abbrev pub rejudgings_data : Audience → ContestState → Data
rejudgings_data a x = array (items_of (if is_jury a then map (numbered_data x.fixed.settings) (enumerate_from 1 x.rejudgings) else []))

-- the one with this number
abbrev pub rejudging_found : Audience → ContestState → (id : List ℕ) → Option Data
rejudging_found a x id = if is_jury a then option_map (numbered_data x.fixed.settings) (named_rejudging id x.rejudgings) else None
