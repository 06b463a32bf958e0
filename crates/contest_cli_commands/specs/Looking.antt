-- Who looks at a text of a contest, and at the board of which group (own).
use Rattle.std.specs.Prelude.{ℕ, Bool, ◌&&◌, ◌++◌, List, Option, Some, None, codes, map}
use Rattle.std.specs.Option.{option_map}
use Rattle.contest_types.specs.Masks.{audience_at, is_audience}
use Rattle.contest_types.specs.Places.{place_of}
use Rattle.contest_types.specs.Setup.{Setup}
use Rattle.contest_types.specs.declared.audience.Audience.{Audience}
use Rattle.contest_types.specs.declared.audience.Audience.TheVariants as audience
use Rattle.contest_view.specs.Scoreboards.{has_group}
use Rattle.contest_cli_words.specs.declared.asked_board.Who.{Who}
use Rattle.contest_cli_words.specs.declared.asked_board.Who.TheVariants.{Public, Jury, Team}
use Rattle.contest_cli_words.specs.declared.asked_text.AskedText.{AskedText}
use Rattle.contest_cli_words.specs.declared.asked_text.AskedText.TheVariants.{Board, Awards}
use Rattle.contest_cli_commands.specs.declared.look.Look.{Look}

-- the audience that looks; none where no team has the id
abbrev pub audience_of : Setup → Who → Option Audience
audience_of s Public = Some audience.Public
audience_of s Jury = Some audience.Jury
audience_of s (Team id) = option_map audience_at (place_of id.now (map (λ t. t.id) s.teams))

-- who looks
abbrev pub who_of : AskedText → Who
who_of (Board asked) = asked.who
who_of (Awards who) = who

-- the id of the group whose board it is, where it is a group's
abbrev pub group_id_of : AskedText → Option (List ℕ)
group_id_of (Board asked) = option_map (λ id. id.now) asked.group
group_id_of (Awards who) = None

-- the place of the group with an id, where one is given; none where no group has it
abbrev pub group_of : Setup → Option (List ℕ) → Option (Option ℕ)
group_of s None = Some None
group_of s (Some id) = option_map Some (place_of id (map (λ g. g.id) s.groups))

abbrev pub look_by : Option Audience → Option (Option ℕ) → Option Look
look_by None group = None
look_by (Some a) group = option_map (λ g. record { audience = a; group = g }) group

-- who looks, and at which group's board, where it is a group's; none where no team or no group has the id
abbrev pub look_of : Setup → AskedText → Option Look
look_of s asked = look_by (audience_of s (who_of asked)) (group_of s (group_id_of asked))

-- what is said of an id that no team, or no group, has
abbrev pub no_team : (id : List ℕ) → List ℕ
no_team id = codes "error: '" ++ id ++ codes "' of '--audience' is no team's id\n"

abbrev pub no_group : (id : List ℕ) → List ℕ
no_group id = codes "error: '" ++ id ++ codes "' of '--group' is no group's id\n"

-- they are there
abbrev pub is_there : Setup → Look → Bool
is_there s l = is_audience s l.audience && has_group s l.group
