-- Whose verdicts a caller sees: all of them, or those on submissions from before the freeze
-- (DOMjudge manual, "Scoreboard": the freeze goes by submission time).
use Rattle.std.specs.Prelude.{ℕ, ◌+◌, Bool, true, false, ◌&&◌, ◌||◌, ◌==◌, nat_lt, nat_le, length, Option, None, if◌then◌else◌}
use Rattle.contest_types.specs.Setup.{Setup}
use Rattle.contest_types.specs.Clock.{is_frozen, is_thawed}
use Rattle.contest_types.specs.declared.marks.Marks.{Marks}
use Rattle.contest_types.specs.declared.sight.Mask.{Mask}
use Rattle.contest_types.specs.declared.sight.Mask.TheVariants.{Full, Held}
use Rattle.contest_types.specs.declared.audience.Audience.{Audience}
use Rattle.contest_types.specs.declared.audience.Audience.TheVariants as audience

abbrev pub is_jury : Audience → Bool
is_jury audience.Public = false
is_jury (audience.Team number) = false
is_jury audience.Jury = true

-- the caller is the team at this place, which has the number after it
abbrev pub owns : Audience → ℕ → Bool
owns audience.Public team = false
owns (audience.Team number) team = number == team + 1
owns audience.Jury team = false

-- the audience that the team at this place is
abbrev pub audience_at : ℕ → Audience
audience_at team = audience.Team (team + 1)

-- a team as an audience is one that is there: its number is that of a team
abbrev pub is_audience : Setup → Audience → Bool
is_audience s audience.Public = true
is_audience s (audience.Team number) = nat_lt 0 number && nat_le number (length s.teams)
is_audience s audience.Jury = true

-- the jury and the team itself
abbrev pub knows_all_of : Audience → ℕ → Bool
knows_all_of who team = is_jury who || owns who team

-- all of a team's verdicts are seen by the jury, by the team itself and, once it is thawed, by anyone
abbrev pub mask_for : Audience → Marks → ℕ → ℕ → Mask
mask_for who marks now team = if knows_all_of who team || is_thawed marks now then Full else Held

-- what is seen of a verdict on a submission of this time
abbrev pub verdict_under : {V : Type 0} → Mask → Setup → Marks → ℕ → Option V → Option V
verdict_under Full s marks time verdict = verdict
verdict_under Held s marks time verdict = if is_frozen s marks time then None else verdict
