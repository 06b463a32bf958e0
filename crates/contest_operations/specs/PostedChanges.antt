-- An administrator posts a change of the settings or the accounts (own): who may, and what its body says.
use Rattle.std.specs.Prelude.{ℕ, Bool, List, Option, Result, Err, if◌then◌else◌}
use Rattle.std.specs.Option.{ok_or, option_map}
use Rattle.contest_types.specs.declared.refusal.Refusal.{Refusal}
use Rattle.contest_types.specs.declared.refusal.Refusal.TheVariants.{Malformed, RoleForbids}
use Rattle.contest_import.specs.PostedRows.{account_posted, name_posted, team_posted, token_posted}
use Rattle.contest_requests.specs.ExtensionBodies.{extension_in}
use Rattle.contest_postings.specs.declared.changes.WantedChange.{WantedChange}
use Rattle.contest_postings.specs.declared.changes.WantedChange.TheVariants as wanted
use Rattle.contest_operations.specs.declared.post_change.ChangeKind.{ChangeKind}
use Rattle.contest_operations.specs.declared.post_change.ChangeKind.TheVariants as kind

-- the change that a body says
abbrev pub change_in : ChangeKind → (body : List ℕ) → Option WantedChange
change_in kind.Account body = option_map wanted.Account (account_posted body)
change_in kind.Team body = option_map wanted.Team (team_posted body)
change_in kind.Token body = option_map wanted.Token (token_posted body)
change_in kind.Name body = option_map wanted.Name (name_posted body)
change_in kind.Extension body = option_map wanted.Extension (extension_in body)

-- if an administrator posts it
abbrev pub posted_change : (is_admin : Bool) → Option WantedChange → Result WantedChange Refusal
posted_change is_admin said = if is_admin then ok_or said Malformed else Err RoleForbids
