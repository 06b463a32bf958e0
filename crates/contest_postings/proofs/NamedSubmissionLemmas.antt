-- What a rejudging names is the same of the lists as they are loaded.
use Rattle.std.proofs.Common.{◌≡◌, ◌∙◌, ◌<◌, ◌+◌, ℕ, List, [], ◌∷◌, ◌++◌, length, map, drop, get_or, Option, Some, None, refl, sym, ap}
use Rattle.std.specs.Option.{option_and_then, option_map}
use Rattle.std.proofs.lemmas.List.{append_assoc, drop_more}
use Rattle.contest_types.specs.Loads.{without_file}
use Rattle.contest_types.specs.State.{SubmissionRef, of_submission}
use Rattle.contest_types.specs.declared.submission.Submission.{Submission}
use Rattle.contest_rules.specs.Opening.{submissions_named}
use Rattle.contest_rules.specs.Verdicts.{submission_named}
use Rattle.contest_rules.proofs.NamedLemmas.{named_loaded}
use Rattle.contest_view.specs.Reads.{named_submission}

-- no file is looked at
pub named_ref : (id : List ℕ) (ss : List Submission) (o : Option Submission) → named_submission id (map without_file ss) ≡ o → submission_named id ss ≡ option_map of_submission o
named_ref id ss o is = sym (named_loaded id ss) ∙ ap (option_map of_submission) is

-- where one of those that are left isn't there, not all are
pub none_left : (ss : List Submission) (ids : List (List ℕ)) (i : ℕ) (id : List ℕ) (f : List SubmissionRef → List SubmissionRef) → i < length ids → id ≡ get_or ids i id
    → submissions_named ids ss ≡ option_map f (submissions_named (drop i ids) ss) → submission_named id ss ≡ None → None ≡ submissions_named ids ss
none_left ss ids i id f l at whole missed =
    let left : drop i ids ≡ id ∷ drop (i + 1) ids = drop_more ids i id l ∙ ap (λ (j : List ℕ). j ∷ drop (i + 1) ids) (sym at) in
    let rest = submissions_named (drop (i + 1) ids) ss in
    sym (whole ∙ (ap (λ is. option_map f (submissions_named is ss)) left ∙ ap (λ (o : Option SubmissionRef). option_map f (option_and_then (λ s. option_map (λ more. s ∷ more) rest) o)) missed))

-- where the first of them is there, it comes after those so far
pub one_more : (ss : List Submission) (ids : List (List ℕ)) (i : ℕ) (id : List ℕ) (s : SubmissionRef) (so_far next : List SubmissionRef) → i < length ids → id ≡ get_or ids i id
    → submissions_named ids ss ≡ option_map (λ more. so_far ++ more) (submissions_named (drop i ids) ss) → submission_named id ss ≡ Some s → next ≡ so_far ++ s ∷ []
    → submissions_named ids ss ≡ option_map (λ more. next ++ more) (submissions_named (drop (i + 1) ids) ss)
one_more ss ids i id s so_far next l at whole found adds =
    let left : drop i ids ≡ id ∷ drop (i + 1) ids = drop_more ids i id l ∙ ap (λ (j : List ℕ). j ∷ drop (i + 1) ids) (sym at) in
    let rest = submissions_named (drop (i + 1) ids) ss in
    let go : (o : Option (List SubmissionRef)) → option_map (λ more. so_far ++ more) (option_map (λ more. s ∷ more) o) ≡ option_map (λ more. next ++ more) o = elim [
      | None ↦ refl
      | (Some more) ↦ ap Some (sym (ap (λ (l : List SubmissionRef). l ++ more) adds ∙ append_assoc so_far (s ∷ []) more))
    ] in
    whole ∙ (ap (λ is. option_map (λ more. so_far ++ more) (submissions_named is ss)) left
    ∙ (ap (λ (o : Option SubmissionRef). option_map (λ more. so_far ++ more) (option_and_then (λ r. option_map (λ more. r ∷ more) rest) o)) found ∙ go rest))
