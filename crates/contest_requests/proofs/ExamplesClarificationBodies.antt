-- Worked examples of bodies that ask for a clarification: to whom it goes.
use Rattle.std.proofs.Common.{◌≡◌, ℕ, List, Option, Some, None, refl}
use Rattle.std.specs.Prelude.{codes}
use Rattle.std.specs.Option.{option_map, option_and_then}
use Rattle.std.specs.Str.{chars}
use Rattle.serde_json.specs.Data.{Data, Members, null, string, object, no_members, member}
use Rattle.contest_rules.specs.declared.clarifying.WantedAddressee.{WantedAddressee}
use Rattle.contest_rules.specs.declared.clarifying.WantedAddressee.TheVariants.{All, Group, Team}
use Rattle.contest_rules.specs.declared.clarifying.WantedClarification.{WantedClarification}
use Rattle.contest_requests.specs.ClarificationBodies.{asked_of, clarification_of, receivers_in}

-- an object with a text, and these members behind it
abbrev with_members : Members → Data
with_members ms = object (member (codes "text") (string (codes "Room change.")) ms)

abbrev to_group : Data → Members → Members
to_group = member (codes "to_group_id")

abbrev to_team : Members
to_team = member (codes "to_team_id") (string (codes "t1")) no_members

abbrev north : Data
north = string (codes "north")

-- to whom it goes that somebody asks for without a key, the jury without a team
abbrev goes_to : (team : Option (List ℕ)) → Data → Option WantedAddressee
goes_to team d = option_map (λ (w : WantedClarification). w.to) (option_and_then (asked_of team None) (clarification_of d))

to_the_group : goes_to None (with_members (to_group north no_members)) ≡ Some (Group (codes "north"))
unfolding clarification_of receivers_in chars
to_the_group = refl

to_the_team : goes_to None (with_members (to_group null to_team)) ≡ Some (Team (codes "t1"))
unfolding clarification_of receivers_in chars
to_the_team = refl

to_all : goes_to None (with_members (to_group null no_members)) ≡ Some All
unfolding clarification_of receivers_in chars
to_all = refl

to_both : goes_to None (with_members (to_group north to_team)) ≡ None
unfolding clarification_of receivers_in chars
to_both = refl

to_no_id : goes_to None (with_members (to_group (string (codes "no id")) no_members)) ≡ None
unfolding clarification_of receivers_in chars
to_no_id = refl

by_a_team : goes_to (Some (codes "t1")) (with_members (to_group north no_members)) ≡ None
unfolding clarification_of receivers_in chars
by_a_team = refl

asked_by_a_team : goes_to (Some (codes "t1")) (with_members (to_group null no_members)) ≡ Some All
unfolding clarification_of receivers_in chars
asked_by_a_team = refl
