-- A verdict that a judge posts, to propose it or to verify it (DOMjudge manual, "Judging": verification; the object that is
-- posted is own).
use Rattle.std.specs.Prelude.{◌≡◌, ℕ, true, List, Option, Some, None, Result, Ok, Err, codes, is_some}
use Rattle.std.specs.Option.{option_map, option_and_then}
use Rattle.serde_json.specs.Data.{Data}
use Rattle.contest_types.specs.Accounts.{account_named}
use Rattle.contest_types.specs.State.{FixedPart}
use Rattle.contest_types.specs.declared.refusal.Refusal.{Refusal}
use Rattle.contest_types.specs.declared.refusal.Refusal.TheVariants.{Malformed, RoleForbids}
use Rattle.contest_rules.specs.declared.verdicts.WantedVerdict.{WantedVerdict}
use Rattle.contest_files.specs.JsonMembers.{data_of, id_in}
use Rattle.contest_requests.specs.declared.jury_verdict.JuryVerdict.{JuryVerdict}

-- what a posted object says
unfoldable pub verdict_of : Data → Option WantedVerdict
verdict_of d =
    option_and_then (λ submission. option_map (λ judgement_type. record { submission = submission; judgement_type = judgement_type })
    (id_in (codes "judgement_type_id") d)) (id_in (codes "submission_id") d)

-- what a body says
abbrev pub verdict_in : List ℕ → Option WantedVerdict
verdict_in body = option_and_then verdict_of (data_of body)

abbrev pub judged_by : (account : List ℕ) → Option WantedVerdict → Result JuryVerdict Refusal
judged_by account None = Err Malformed
judged_by account (Some wanted) = Ok (record { account = account; wanted = wanted })

-- only the jury judges, each by an account of its own
abbrev pub posted_verdict : (judge : Option (List ℕ)) → (body : List ℕ) → Result JuryVerdict Refusal
posted_verdict None body = Err RoleForbids
posted_verdict (Some account) body = judged_by account (verdict_in body)

-- what is known of it once it is read: the account is there
abbrev pub IsSoundVerdict : FixedPart → JuryVerdict → Type 0
IsSoundVerdict f v = is_some (account_named f.accounts v.account) ≡ true
