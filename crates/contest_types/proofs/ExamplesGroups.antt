-- Worked examples: clarifications to one group. The first and the third team are in the group `north`, the second in
-- `south`.
use Rattle.std.proofs.Common.{◌≡◌, ℕ, List, [], ◌∷◌, refl, Some, None, true, false, map}
use Rattle.std.specs.Prelude.{codes}
use Rattle.std.specs.Fmt.{digits}
use Rattle.std.specs.List.{list_any}
use Rattle.contest_types.specs.PlainRows.{plain_group}
use Rattle.contest_types.specs.Setup.{Setup}
use Rattle.contest_types.specs.State.{ContestState, NewClarification}
use Rattle.contest_types.specs.Alike.{OpenClarification, Alike}
use Rattle.contest_types.specs.VisibleIds.{clarification_id}
use Rattle.contest_types.specs.Sight.{SeenClarification, addressees, hears, seen_clarifications}
use Rattle.contest_types.specs.Valid.{is_valid}
use Rattle.contest_types.specs.Addable.{are_addable, is_addable}
use Rattle.contest_types.specs.declared.audience.Audience.{Audience}
use Rattle.contest_types.specs.declared.audience.Audience.TheVariants as audience
use Rattle.contest_types.specs.declared.clarification.Clarification.{Clarification}
use Rattle.contest_types.specs.declared.clarification.Addressee.TheVariants as addressee
use Rattle.contest_types.specs.declared.objects.Team.{Team}
use Rattle.contest_types.proofs.AlikeLemmas.{alike_within, unlike_talk}
use Rattle.contest_types.proofs.ExampleContest.{minutes, settings, empty, team_named, asked, announced}

abbrev in_group : (group : ℕ) → Team → Team
in_group group t = record t { groups = group ∷ [] }

abbrev grouped : Setup
grouped = record settings {
  groups = plain_group (codes "north") (codes "North") ∷ plain_group (codes "south") (codes "South") ∷ [];
  teams =
      in_group 0 (team_named (codes "t1") (codes "Alpha") false) ∷ in_group 1 (team_named (codes "t2") (codes "Beta") false)
      ∷ in_group 0 (team_named (codes "t3") (codes "Gamma") false) ∷ team_named (codes "t9") (codes "Staff") true ∷ [];
}

-- the jury tells a group
abbrev told : (group number time : ℕ) → Clarification
told group number time = record (announced number time None) { addressee = addressee.Group group; text = codes "Room change." }

abbrev with_talk : List Clarification → ContestState
with_talk clarifications = record empty { fixed = record empty.fixed { settings = grouped }; clarifications = clarifications }

abbrev everyone : List Audience
everyone = audience.Team 1 ∷ audience.Team 2 ∷ audience.Team 3 ∷ audience.Team 4 ∷ audience.Public ∷ audience.Jury ∷ []

north_is_heard : map (λ a. hears a grouped (addressee.Group 0)) everyone ≡ true ∷ false ∷ true ∷ false ∷ false ∷ true ∷ []
north_is_heard = refl

south_is_heard : map (λ a. hears a grouped (addressee.Group 1)) everyone ≡ false ∷ true ∷ false ∷ false ∷ false ∷ true ∷ []
south_is_heard = refl

-- a number that no team has, and a group that isn't there
nobody_hears : map (λ a. hears a grouped (addressee.Group 0)) (audience.Team 0 ∷ audience.Team 5 ∷ []) ≡ false ∷ false ∷ []
nobody_hears = refl

no_group_is_heard : map (λ a. hears a grouped (addressee.Group 2)) everyone ≡ false ∷ false ∷ false ∷ false ∷ false ∷ true ∷ []
no_group_is_heard = refl

all_addressees : addressees grouped ≡ addressee.All ∷ addressee.Group 0 ∷ addressee.Group 1 ∷ addressee.Team 0 ∷ addressee.Team 1 ∷ addressee.Team 2 ∷ addressee.Team 3 ∷ []
all_addressees = refl

group_id : clarification_id (addressee.Group 0) 1 ≡ codes "g1-1"
unfolding digits
group_id = refl

-- all and each group have a count of their own
abbrev talk : ContestState
talk = with_talk (told 0 1 (minutes 20) ∷ announced 1 (minutes 21) None ∷ told 1 1 (minutes 22) ∷ told 0 2 (minutes 23) ∷ [])

abbrev ids_heard : Audience → List (List ℕ)
ids_heard a = map (λ (c : SeenClarification). clarification_id c.addressee c.number) (seen_clarifications a talk)

north_hears : ids_heard (audience.Team 3) ≡ codes "g1-1" ∷ codes "g-1" ∷ codes "g1-2" ∷ []
unfolding digits
north_hears = refl

south_hears : ids_heard (audience.Team 2) ≡ codes "g-1" ∷ codes "g2-1" ∷ []
unfolding digits
south_hears = refl

public_hears : ids_heard audience.Public ≡ codes "g-1" ∷ []
unfolding digits
public_hears = refl

jury_hears : ids_heard audience.Jury ≡ codes "g1-1" ∷ codes "g-1" ∷ codes "g2-1" ∷ codes "g1-2" ∷ []
unfolding digits
jury_hears = refl

-- a team may answer what its group is told, and nothing that only another group is
abbrev replying : (team group : ℕ) → Clarification
replying team group = record (asked team 1 (minutes 30)) { reply = Some (record { addressee = addressee.Group group; number = 1 }) }

talk_is_valid : is_valid talk ≡ true
talk_is_valid = refl

answers_may_be_added : are_addable talk (NewClarification (replying 0 0) ∷ NewClarification (replying 2 0) ∷ NewClarification (replying 1 1) ∷ []) ≡ true
answers_may_be_added = refl

-- an answer to another group's, a gap in a group's numbers, a team that writes to its group, a group that isn't there
abbrev bad_talk : List Clarification
bad_talk = replying 1 0 ∷ replying 3 0 ∷ told 0 2 (minutes 30) ∷ told 0 4 (minutes 30) ∷ record (told 0 3 (minutes 30)) { from_jury = false; account = codes "a1" } ∷ told 2 1 (minutes 30) ∷ []

none_may_be_added : list_any (λ c. is_addable talk (NewClarification c)) bad_talk ≡ false
none_may_be_added = refl

-- what another group is told is untold
abbrev without_south : ContestState
without_south = with_talk (told 0 1 (minutes 20) ∷ announced 1 (minutes 21) None ∷ told 0 2 (minutes 23) ∷ [])

other_groups_untold : Alike (audience.Team 1) talk without_south
other_groups_untold = alike_within (audience.Team 1) talk without_south refl refl refl (refl, (refl, (refl, (refl, tt)))) refl (refl, (refl, tt)) (refl, (refl, (refl, (refl, tt))))

groups_untold_to_public : Alike audience.Public talk (with_talk (announced 1 (minutes 21) None ∷ []))
groups_untold_to_public = alike_within audience.Public talk (with_talk (announced 1 (minutes 21) None ∷ [])) refl refl refl (refl, (refl, (refl, (refl, tt)))) refl (refl, (refl, tt)) (refl, (refl, (refl, (refl, tt))))

-- what the own group is told is compared
own_group_told : Alike (audience.Team 2) talk without_south → ⊥
own_group_told = unlike_talk (audience.Team 2) talk without_south (addressee.Group 1) (λ (c : OpenClarification). true) refl refl
