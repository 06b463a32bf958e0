-- An administrator changes the settings or the accounts while the contest goes on: adds an account or a team, gives an account
-- another token or a team another name, and gives the contest more time (own; the objects are those of the Contest API 2023-06).
use Rattle.std.specs.Prelude.{ℕ, Bool, true, false, not, ◌&&◌, ◌||◌, List, [], ◌∷◌, map, slice_get, Option, Some, None, is_some, Result, Ok, Err, codes, if◌then◌else◌, ◌≡◌}
use Rattle.std.specs.Option.{option_map, option_and_then}
use Rattle.std.specs.Str.{bytes_eq}
use Rattle.serde_json.specs.Data.{Data}
use Rattle.contest_types.specs.Accounts.{account_addition, account_named}
use Rattle.contest_types.specs.Clock.{phase_at}
use Rattle.contest_types.specs.Places.{is_among, place_of}
use Rattle.contest_types.specs.Setup.{Setup}
use Rattle.contest_types.specs.SetupAdditions.{team_addition}
use Rattle.contest_types.specs.State.{ContestState, FixedPart, lasting}
use Rattle.contest_types.specs.declared.account.Account.{Account}
use Rattle.contest_types.specs.declared.entry.Entry.{Entry}
use Rattle.contest_types.specs.declared.entry.Entry.TheVariants.{NewAccount, NewTeam, SetDigest, SetDuration, SetTeamName}
use Rattle.contest_types.specs.declared.objects.Team.{Team}
use Rattle.contest_types.specs.declared.submission.Submission.{Submission}
use Rattle.contest_types.specs.declared.refusal.Cause.{Cause}
use Rattle.contest_types.specs.declared.refusal.Cause.TheVariants as cause
use Rattle.contest_objects.specs.AccountObjects.{account_data}
use Rattle.contest_objects.specs.ContestObjects.{contest_data}
use Rattle.contest_objects.specs.SettingsObjects.{team_item}
use Rattle.contest_import.specs.CsvFiles.{account_of}
use Rattle.contest_import.specs.Teams.{named_team}
use Rattle.contest_import.specs.declared.posted_changes.TokenRow.{TokenRow}
use Rattle.contest_requests.specs.ExtensionBodies.{has_limits}
use Rattle.contest_rules.specs.Extensions.{extension}
use Rattle.contest_rules.specs.declared.extensions.WantedExtension.{WantedExtension}
use Rattle.contest_rules.specs.ClockChanges.{has_ended}
use Rattle.contest_rules.specs.declared.rule_refusal.RuleRefusal.{RuleRefusal}
use Rattle.contest_rules.specs.declared.rule_refusal.RuleRefusal.TheVariants.{AlreadyReleased, KeyReused, Malformed, NotOpen, TeamLimit, UnknownReference}
use Rattle.contest_postings.specs.DoneThings.{Done, done_as, ruled_with}
use Rattle.contest_postings.specs.declared.changes.MadeChange.{MadeChange}
use Rattle.contest_postings.specs.declared.changes.FixedChange.{FixedChange}
use Rattle.contest_postings.specs.declared.changes.FixedChange.TheVariants.{Account as OfAccount, Team as OfTeam, Token as OfToken, Name as OfName, Extension as OfExtension}
use Rattle.contest_postings.specs.declared.changes.WantedChange.{WantedChange}
use Rattle.contest_postings.specs.declared.changes.WantedChange.TheVariants as wanted

-- the contest has ended, or a moment of final results is set
abbrev pub is_over : FixedPart → (now : ℕ) → Bool
is_over f now = has_ended (phase_at f.settings f.marks now) || is_some f.marks.finalized

-- the refusal of a command for what refuses a row
abbrev pub refusal_for : Cause → RuleRefusal
refusal_for cause.Malformed = Malformed
refusal_for cause.UnknownReference = UnknownReference
refusal_for cause.KeyReused = KeyReused
refusal_for cause.TableFull = TeamLimit
refusal_for cause.AlreadyReleased = AlreadyReleased
refusal_for cause.NotOpen = NotOpen

-- what adding a row comes to: after the end none is added; an equal one that stands adds nothing, at any time
abbrev pub ruled_row : (over : Bool) → Result Bool Cause → Result Bool RuleRefusal
ruled_row over (Ok is_new) = if is_new && over then Err NotOpen else Ok is_new
ruled_row over (Err cause.TableFull) = if over then Err NotOpen else Err TeamLimit
ruled_row over (Err c) = Err (refusal_for c)

abbrev pub made_as : FixedChange → Result Bool RuleRefusal → Result MadeChange RuleRefusal
made_as change r = ruled_with (λ is_new. record { change = change; is_new = is_new }) r

-- accounts are added at any time
abbrev pub account_added : FixedPart → Option Account → Result MadeChange RuleRefusal
account_added f None = Err UnknownReference
account_added f (Some a) = made_as (OfAccount a) (ruled_row false (account_addition f.settings f.accounts a))

abbrev pub team_added : FixedPart → (now : ℕ) → Option Team → Result MadeChange RuleRefusal
team_added f now None = Err UnknownReference
team_added f now (Some t) = made_as (OfTeam t) (ruled_row (is_over f now) (team_addition f.settings t))

-- the token that an account has is no change, and another account's is refused
abbrev pub token_ruled : List Account → Account → (digest : List ℕ) → Result Bool RuleRefusal
token_ruled accounts a digest =
    if bytes_eq a.digest digest then Ok false
    else (if is_among (map (λ (b : Account). b.digest) accounts) digest then Err KeyReused else Ok true)

abbrev pub token_set : FixedPart → TokenRow → Option Account → Result MadeChange RuleRefusal
token_set f t None = Err UnknownReference
token_set f t (Some a) = made_as (OfToken a t.digest) (token_ruled f.accounts a t.digest)

-- the team with this id, and its place
abbrev pub team_named : Setup → (id : List ℕ) → Option (ℕ × Team)
team_named s id = option_and_then (λ place. option_map (λ t. (place, t)) (slice_get s.teams place)) (place_of id (map (λ (t : Team). t.id) s.teams))

abbrev pub name_set : (name : List ℕ) → Option (ℕ × Team) → Result MadeChange RuleRefusal
name_set name None = Err UnknownReference
name_set name (Some p) = Ok (record { change = OfName p.0 (record p.1 { name = name }); is_new = not (bytes_eq p.1.name name) })

abbrev pub extension_made : FixedPart → List Submission → (now : ℕ) → WantedExtension → Result MadeChange RuleRefusal
extension_made f ss now w = ruled_with (λ e. record { change = OfExtension e.duration e.freeze; is_new = e.is_new }) (extension f ss now w)

abbrev pub change_made : (now : ℕ) → WantedChange → ContestState → Result MadeChange RuleRefusal
change_made now (wanted.Account a) x = account_added x.fixed (account_of x.fixed.settings a)
change_made now (wanted.Team t) x = team_added x.fixed now (named_team x.fixed.settings t)
change_made now (wanted.Token t) x = token_set x.fixed t (account_named x.fixed.accounts t.id)
change_made now (wanted.Name n) x = name_set n.name (team_named x.fixed.settings n.team)
change_made now (wanted.Extension w) x = extension_made x.fixed x.submissions now w

-- it is answered by what is changed, as it is then
abbrev pub made_data : FixedPart → FixedChange → Data
made_data f (OfAccount a) = account_data f.settings a
made_data f (OfTeam t) = (team_item f.settings t).object
made_data f (OfToken a digest) = account_data f.settings a
made_data f (OfName place t) = (team_item f.settings t).object
made_data f (OfExtension duration freeze) = contest_data (lasting f.settings.head duration freeze) f.marks

abbrev pub made_object : FixedPart → MadeChange → Data
made_object f d = made_data f d.change

abbrev pub made_entry : FixedChange → Entry
made_entry (OfAccount a) = NewAccount a
made_entry (OfTeam t) = NewTeam t
made_entry (OfToken a digest) = SetDigest a.id digest
made_entry (OfName place t) = SetTeamName place t.name
made_entry (OfExtension duration freeze) = SetDuration duration freeze

abbrev pub made_entries : MadeChange → List Entry
made_entries d = if d.is_new then made_entry d.change ∷ [] else []

-- what becomes of a change that is asked for
abbrev pub change_done : (now : ℕ) → WantedChange → ContestState → Result Done RuleRefusal
change_done now w x = done_as (made_object x.fixed) made_entries (change_made now w x)

-- the id `import` is no account's, and a contest lasts within its limits
abbrev pub IsSoundChange : WantedChange → Type 0
IsSoundChange (wanted.Account a) = bytes_eq a.id (codes "import") ≡ false
IsSoundChange (wanted.Team t) = Unit {0}
IsSoundChange (wanted.Token t) = Unit {0}
IsSoundChange (wanted.Name n) = Unit {0}
IsSoundChange (wanted.Extension w) = has_limits w ≡ true
