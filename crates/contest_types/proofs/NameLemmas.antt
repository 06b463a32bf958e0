-- A team's name is neither its id, nor its groups, nor whether it is hidden.
use Rattle.std.proofs.Common.{◌≡◌, ℕ, ◌-◌, false, List, [], length, refl, ap}
use Rattle.std.specs.Prelude.{◌&&◌, ◌==◌, not, nat_lt}
use Rattle.std.specs.List.{list_any}
use Rattle.contest_types.specs.Setup.{Setup}
use Rattle.contest_types.specs.Sight.{hears}
use Rattle.contest_types.specs.State.{with_team_name}
use Rattle.contest_types.specs.TeamPlaces.{team_id_at, is_public}
use Rattle.contest_types.specs.declared.audience.Audience.{Audience}
use Rattle.contest_types.specs.declared.audience.Audience.TheVariants as audience
use Rattle.contest_types.specs.declared.clarification.Addressee.{Addressee}
use Rattle.contest_types.specs.declared.clarification.Addressee.TheVariants as addressee
use Rattle.contest_types.specs.declared.objects.Team.{Team}
use Rattle.contest_types.proofs.ChangeLemmas.{length-changed, same_there}

module _ (s : Setup) (team : ℕ) (name : List ℕ) where
  abbrev rename : Team → Team
  rename t = record t { name = name }

  pub as_many_teams : length (with_team_name s team name).teams ≡ length s.teams
  as_many_teams = length-changed rename 0 team s.teams

  pub id_stays : (u : ℕ) → team_id_at (with_team_name s team name) u ≡ team_id_at s u
  id_stays = same_there (λ (t : Team). t.id) [] rename (λ t. refl) 0 team s.teams

  pub public_stays : (u : ℕ) → is_public (with_team_name s team name) u ≡ is_public s u
  public_stays = same_there (λ (t : Team). not t.hidden) false rename (λ t. refl) 0 team s.teams

-- who is in a group is in it whatever the team is called
pub hears_with_name : (a : Audience) (s : Setup) (team : ℕ) (name : List ℕ) (to : Addressee) → hears a (with_team_name s team name) to ≡ hears a s to
hears_with_name a s team name addressee.All = refl
hears_with_name audience.Public s team name (addressee.Group group) = refl
hears_with_name (audience.Team number) s team name (addressee.Group group) =
    ap (λ b. nat_lt 0 number && b) (same_there (λ (t : Team). list_any (λ g. g == group) t.groups) false (λ (t : Team). record t { name = name }) (λ t. refl) 0 team s.teams (number - 1))
hears_with_name audience.Jury s team name (addressee.Group group) = refl
hears_with_name a s team name (addressee.Team other) = refl
