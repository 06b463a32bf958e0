-- A change made to the lists, and to the submissions with their files.
use Rattle.std.proofs.Common.{◌≡◌, ℕ, List, ◌++◌, map, refl, sym, ap, ◌∙◌, arith}
use Rattle.std.specs.Option.{option_to_list}
use Rattle.std.proofs.lemmas.List.{append-nil, length-append, map-append, take-append-le}
use Rattle.contest_types.specs.Loads.{without_file}
use Rattle.contest_types.specs.State.{ContestState, add}
use Rattle.contest_types.specs.declared.entry.Entry.{Entry}
use Rattle.contest_types.specs.declared.entry.Entry.TheVariants.{NewSubmission}
use Rattle.contest_types.specs.declared.submission.Submission.{Submission}
use Rattle.contest_lists.specs.Lists.{filed, unfiled}
use Rattle.contest_store.specs.InMemory.{AreFiled, submission_in}

filed_add : (x : ContestState) (submissions : List Submission) (e : Entry) → filed (submissions ++ option_to_list (submission_in e)) (add x (unfiled e)) ≡ add (filed submissions x) e
filed_add x submissions (NewSubmission s) = refl
filed_add x submissions e = ap (λ (ss : List Submission). filed ss (add x e)) (append-nil submissions)

pub filed_added : (submissions more : List Submission) (lists next : ContestState) (e : Entry) → more ≡ submissions ++ option_to_list (submission_in e) → next ≡ add lists (unfiled e) → filed more next ≡ add (filed submissions lists) e
filed_added submissions more lists next e grown is = rw (grown, is) (filed_add lists submissions e)

filed_still : (x : ContestState) (submissions : List Submission) (e : Entry) → x.submissions ≡ map without_file submissions → (add x (unfiled e)).submissions ≡ map without_file (submissions ++ option_to_list (submission_in e))
filed_still x submissions (NewSubmission s) h = rw (map-append, h) refl
filed_still x submissions e h = h ∙ ap (map without_file) (sym (append-nil submissions))

-- so what the lists have is still what stands filed
pub still_filed : (submissions more : List Submission) (kept : ℕ) (committed lists next : ContestState) (e : Entry) → AreFiled submissions kept committed lists
    → more ≡ submissions ++ option_to_list (submission_in e) → next ≡ add lists (unfiled e) → AreFiled more kept committed next
still_filed submissions more kept committed lists next e was grown is =
    let new = option_to_list (submission_in e) in
    let within = was.within in
    rw (grown, is) record {
      within = omega (arith, within, length-append submissions new);
      now = filed_still lists submissions e was.now;
      before = was.before ∙ ap (map without_file) (sym (take-append-le kept submissions new within));
    }
