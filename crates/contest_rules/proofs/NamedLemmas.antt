-- What a verdict names is the same of submissions without their files.
use Rattle.std.proofs.Common.{◌≡◌, ◌∙◌, Bool, true, false, ℕ, List, [], ◌∷◌, map, Option, Some, refl, sym, ap}
use Rattle.std.specs.Prelude.{find, if◌then◌else◌}
use Rattle.std.specs.Option.{option_map}
use Rattle.std.specs.Str.{bytes_eq}
use Rattle.contest_types.specs.Loads.{without_file}
use Rattle.contest_types.specs.State.{ContestState, FixedPart, of_submission}
use Rattle.contest_types.specs.VisibleIds.{submission_id}
use Rattle.contest_types.specs.declared.submission.Submission.{Submission}
use Rattle.contest_rules.specs.Verdicts.{named_verdict, submission_named, verdict_on}
use Rattle.contest_rules.specs.declared.verdicts.WantedVerdict.{WantedVerdict}

pub named_loaded : (id : List ℕ) (ss : List Submission) → submission_named id (map without_file ss) ≡ submission_named id ss
named_loaded id [] = refl
named_loaded id (s ∷ ss) =
    let go : (b : Bool) → option_map of_submission (if b then Some (without_file s) else find (λ (t : Submission). bytes_eq (submission_id t.team t.number) id) (map without_file ss))
    ≡ option_map of_submission (if b then Some s else find (λ (t : Submission). bytes_eq (submission_id t.team t.number) id) ss) = elim [ true ↦ refl | false ↦ named_loaded id ss ] in
    go (bytes_eq (submission_id s.team s.number) id)

pub named_is : (x : ContestState) (w : WantedVerdict) (o : Option Submission) {f : FixedPart} → f ≡ x.fixed → find (λ (s : Submission). bytes_eq (submission_id s.team s.number) w.submission) (map without_file x.submissions) ≡ o
    → verdict_on f (option_map of_submission o) w ≡ named_verdict x.fixed x.submissions w
named_is x w o fixed found =
    (λ i. verdict_on (fixed i) (option_map of_submission o) w) ∙ ap (λ q. verdict_on x.fixed q w) (ap (option_map of_submission) (sym found) ∙ named_loaded w.submission x.submissions)
