-- What an index has of a team's submissions.
-- Words of private functions: nothing public is said with them.
use Rattle.std.specs.Prelude.{ℕ, ◌≡◌, nat_eq, List, []}
use Rattle.std.specs.Global.{Vec}
use Rattle.std.specs.HashMap.{HashMap, get}
use Rattle.std.specs.Option.{option_map_or}
use Rattle.contest_types.specs.declared.submission.Submission.{Submission}
use Rattle.contest_lists.specs.Lists.{places_of}

-- what a map has for a team
abbrev pub places_in : {H : Type 0} → HashMap ℕ (Vec ℕ) H → (team : ℕ) → List ℕ
places_in places team = option_map_or (λ v. v.items) (get nat_eq places team) []

-- a map has the places of each team's submissions
abbrev pub IsByTeam : {H : Type 0} → HashMap ℕ (Vec ℕ) H → List Submission → Type 0
IsByTeam places rows = (team : ℕ) → places_in places team ≡ places_of team rows
