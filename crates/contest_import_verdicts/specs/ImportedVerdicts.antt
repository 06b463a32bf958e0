-- The verdicts that were imported, as they are kept by submission. Words of private functions: nothing public is said with them.
use Rattle.std.specs.Prelude.{◌≡◌, ℕ, ◌&&◌, ◌==◌, false, not, Bool, List, Option, Some, None, is_some, Result, Ok, Err, find, if◌then◌else◌}
use Rattle.std.specs.HashMap.{HashMap, get}
use Rattle.std.specs.Option.{option_map}
use Rattle.contest_types.specs.State.{ContestState, proposals_for}
use Rattle.contest_types.specs.ValidSubmissions.{is_imported}
use Rattle.contest_types.specs.VerdictAdditions.{first_addition}
use Rattle.contest_types.specs.declared.proposal.Proposal.{Proposal}
use Rattle.contest_types.specs.declared.refusal.Cause.{Cause}
use Rattle.contest_types.specs.declared.refusal.Cause.TheVariants.{KeyReused}

-- what a map has for a team and a number
abbrev pub value_at : {H : Type 0} → HashMap (ℕ × ℕ) ℕ H → (team number : ℕ) → Option ℕ
value_at map team number = get (λ p q. (p.0 == q.0) && (p.1 == q.1)) map (team, number)

-- a proposal is the first that is imported for its submission
abbrev pub is_first : (earlier : Option ℕ) → Proposal → Bool
is_first earlier p = is_imported p && not (is_some earlier)

abbrev pub verdict_of : Option Proposal → Option ℕ
verdict_of o = option_map (λ (p : Proposal). p.verdict) o

-- what is kept is what these proposals say
abbrev pub AreImported : {H : Type 0} → HashMap (ℕ × ℕ) ℕ H → List Proposal → Type 0
AreImported imported ps = (team number : ℕ) → value_at imported team number ≡ verdict_of (find is_imported (proposals_for team number ps))

-- what becomes of a verdict after the one that was imported before; where none was the contest decides
abbrev pub addition_by : (earlier : Option ℕ) → ContestState → Proposal → Result Bool Cause
addition_by (Some verdict) x p = if verdict == p.verdict then Ok false else Err KeyReused
addition_by None x p = first_addition x p
