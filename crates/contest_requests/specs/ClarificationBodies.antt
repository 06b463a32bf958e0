-- The body of a posted clarification (Contest API 2023-06, clarifications; which members are read is own).
use Rattle.std.specs.Prelude.{ℕ, Bool, ◌&&◌, ◌||◌, List, Option, Some, None, is_none, codes, if◌then◌else◌}
use Rattle.std.specs.Option.{option_map, option_and_then}
use Rattle.serde_json.specs.Data.{Data}
use Rattle.contest_types.specs.ClarificationText.{text_of}
use Rattle.contest_rules.specs.declared.clarifying.WantedAddressee.{WantedAddressee}
use Rattle.contest_rules.specs.declared.clarifying.WantedAddressee.TheVariants.{All as WantsAll, Group as WantsGroup, Team as WantsTeam}
use Rattle.contest_rules.specs.declared.clarifying.WantedClarification.{WantedClarification}
use Rattle.contest_files.specs.JsonMembers.{data_of, optional_id_in, text_in}
use Rattle.contest_requests.specs.SubmissionBodies.{is_own, key_in}
use Rattle.contest_requests.specs.declared.clarification_body.ClarificationBody.{ClarificationBody}
use Rattle.contest_requests.specs.declared.clarification_body.Receivers.{Receivers}
use Rattle.contest_requests.specs.declared.request.KeyField.{KeyField}

-- what it says, if a clarification can say that
abbrev pub message_in : Data → Option (List ℕ)
message_in d = option_and_then text_of (text_in (codes "text") d)

-- to whom it goes
unfoldable pub receivers_in : Data → Option Receivers
receivers_in d = option_and_then (λ team. option_map (λ group. record { team = team; group = group }) (optional_id_in (codes "to_group_id") d)) (optional_id_in (codes "to_team_id") d)

-- what a posted object says
unfoldable pub clarification_of : Data → Option ClarificationBody
clarification_of d =
    option_and_then (λ text. option_and_then (λ problem. option_and_then (λ reply. option_and_then (λ from. option_map (λ to.
    record { text = text; problem = problem; reply = reply; from_team = from; to = to })
    (receivers_in d)) (optional_id_in (codes "from_team_id") d)) (optional_id_in (codes "reply_to_id") d)) (optional_id_in (codes "problem_id") d)) (message_in d)

-- what a body says
abbrev pub clarification_in : List ℕ → Option ClarificationBody
clarification_in body = option_and_then clarification_of (data_of body)

-- neither a team nor a group is named; not both are
abbrev pub are_all : Receivers → Bool
are_all to = is_none to.team && is_none to.group

abbrev pub are_one : Receivers → Bool
are_one to = is_none to.team || is_none to.group

-- a team asks for itself and the jury alone; the jury writes for no team, and to a team or a group
abbrev pub is_from : (team : Option (List ℕ)) → ClarificationBody → Bool
is_from (Some team) b = is_own team b.from_team && are_all b.to
is_from None b = is_none b.from_team && are_one b.to

-- to whom the jury writes: to the team, else to the group, else to all
abbrev pub wanted_of : (team group : Option (List ℕ)) → WantedAddressee
wanted_of (Some team) group = WantsTeam team
wanted_of None (Some group) = WantsGroup group
wanted_of None None = WantsAll

abbrev pub addressee_of : Receivers → WantedAddressee
addressee_of to = wanted_of to.team to.group

-- what the team with this id asks for, or the jury where there is none
abbrev pub asked_of : (team : Option (List ℕ)) → (key : Option (List ℕ)) → ClarificationBody → Option WantedClarification
asked_of team key b = if is_from team b then Some (record { text = b.text; problem = b.problem; to = addressee_of b.to; reply = b.reply; key = key }) else None

-- the same by a key and a body, unless one is off its form
abbrev pub asked_in : (team : Option (List ℕ)) → KeyField → List ℕ → Option WantedClarification
asked_in team key body = option_and_then (λ k. option_and_then (asked_of team k) (clarification_in body)) (key_in key)
