-- What an administrator posts of the clock, and that what is added may be added.
use Rattle.std.proofs.Common.{◌≡◌, ℕ, Bool, true, false, List, Option, Some, None, Result, Ok, Err, refl, sym, subst}
use Rattle.std.specs.Option.{ok_or}
use Rattle.contest_types.specs.Addable.{are_addable}
use Rattle.contest_types.specs.State.{ContestState, FixedPart}
use Rattle.contest_types.specs.declared.refusal.Refusal.TheVariants.{Malformed}
use Rattle.contest_types.proofs.PlaceLemmas.{both_true}
use Rattle.contest_rules.specs.ClockChanges.{finalize}
use Rattle.contest_rules.specs.declared.clock_changes.ClockChange.{ClockChange}
use Rattle.contest_rules.specs.declared.clock_changes.WantedClock.{WantedClock}
use Rattle.contest_rules.specs.declared.rule_refusal.RuleRefusal.{RuleRefusal}
use Rattle.contest_rules.proofs.ClockLemmas.{final_is_addable}
use Rattle.contest_requests.specs.ClockBodies.{clock_in, posted_clock}
use Rattle.contest_postings.specs.DoneThings.{ruled_with}
use Rattle.contest_postings.specs.PostClock.{final_entries, final_results}
use Rattle.contest_postings.specs.declared.clock.FinalResults.{FinalResults}
use Rattle.contest_operations.specs.Callers.{Caller, is_admin}
use Rattle.contest_operations.specs.Commands.{if_admin, posted_as}
use Rattle.contest_operations.specs.declared.command.Posted.TheVariants.{Clock, Final}
use Rattle.contest_operations.proofs.PostedFacts.{IfKnownPost, OrdinaryRefusal, admin_sight}

clock_by : (f : FixedPart) (who : Caller) (o : Option WantedClock) → is_admin who ≡ true → IfKnownPost f who (posted_as Clock (ok_or o Malformed))
clock_by f who None is = tt
clock_by f who (Some w) is = record { sound = tt; speaks = sym (admin_sight who is) }

pub clock_known : (f : FixedPart) (who : Caller) (admin : Bool) (contest body : List ℕ) → is_admin who ≡ admin → IfKnownPost f who (posted_as Clock (posted_clock admin contest body))
clock_known f who false contest body is = tt
clock_known f who true contest body is = clock_by f who (clock_in contest body) is

pub final_known : (f : FixedPart) (who : Caller) (admin : Bool) → is_admin who ≡ admin → IfKnownPost f who (if_admin admin Final)
final_known f who false is = tt
final_known f who true is = record { sound = tt; speaks = sym (admin_sight who is) }

clock_ordinary : (o : Option WantedClock) → OrdinaryRefusal (posted_as Clock (ok_or o Malformed))
clock_ordinary None = refl
clock_ordinary (Some w) = tt

pub clock_refusal_ordinary : (admin : Bool) (contest body : List ℕ) → OrdinaryRefusal (posted_as Clock (posted_clock admin contest body))
clock_refusal_ordinary false contest body = refl
clock_refusal_ordinary true contest body = clock_ordinary (clock_in contest body)

pub final_refusal_ordinary : (admin : Bool) → OrdinaryRefusal (if_admin admin Final)
final_refusal_ordinary false = refl
final_refusal_ordinary true = tt

abbrev results : (now : ℕ) → ClockChange → FinalResults
results now c = record { now = now; change = c }

final_by : (x : ContestState) (now : ℕ) (d : FinalResults) (r : Result ClockChange RuleRefusal) → finalize x.fixed x.submissions x.releases x.rejudgings now ≡ r
    → ruled_with (results now) r ≡ Ok d → are_addable x (final_entries d) ≡ true
final_by x now d (Err refusal) is h = absurd (cc h)
final_by x now d (Ok c) is h =
    let same : results now c ≡ d = cc h in
    subst (λ (e : FinalResults). are_addable x (final_entries e) ≡ true) same (both_true _ _ (final_is_addable x now c is).0 refl)

pub final_addable : (x : ContestState) (now : ℕ) (d : FinalResults) → final_results now x ≡ Ok d → are_addable x (final_entries d) ≡ true
final_addable x now d h = final_by x now d (finalize x.fixed x.submissions x.releases x.rejudgings now) refl h
