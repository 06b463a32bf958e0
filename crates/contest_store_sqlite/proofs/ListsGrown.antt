-- The lists of a contest with a change are its lists with the change, without its file.
use Rattle.std.proofs.Common.{◌≡◌, ◌∙◌, List, ◌∷◌, [], refl, sym, ap, subst, true}
use Rattle.std.proofs.lemmas.List.{map-append}
use Rattle.sqlite.specs.State.{State}
use Rattle.contest_lists.specs.Lists.{filed, loaded, unfiled}
use Rattle.contest_types.specs.Addable.{is_addable}
use Rattle.contest_types.specs.Loads.{without_file}
use Rattle.contest_types.specs.State.{ContestState, add}
use Rattle.contest_types.specs.declared.entry.Entry.{Entry}
use Rattle.contest_types.specs.declared.entry.Entry.TheVariants.{NewSubmission}
use Rattle.contest_types.specs.declared.submission.Submission.{Submission}
use Rattle.contest_store_tables.specs.Steps.{Content, Within}
use Rattle.contest_store_changes.specs.Additions.{Admits}
use Rattle.contest_store_sqlite.specs.Steps.{MayAdd}

added_to_loaded : (x : ContestState) (e : Entry) → add (loaded x) (unfiled e) ≡ loaded (add x e)
added_to_loaded x (NewSubmission s) = ap (λ (ss : List Submission). filed ss x) (sym (map-append without_file x.submissions (s ∷ [])))
added_to_loaded x e = refl

-- what such lists become where the change may be made
pub lists_grown : (x : ContestState) (e : Entry) (lists next : ContestState) → loaded x ≡ lists → is_addable x e ≡ true
    → ((submissions : List Submission) → is_addable (filed submissions lists) e ≡ true → next ≡ add lists (unfiled e)) → next ≡ loaded (add x e)
lists_grown x e lists next held may grows =
    let still : is_addable (filed x.submissions lists) e ≡ true = subst (λ (l : ContestState). is_addable (filed x.submissions l) e ≡ true) held may in
    grows x.submissions still ∙ ap (λ (l : ContestState). add l (unfiled e)) (sym held) ∙ added_to_loaded x e

-- what may be added to before a transaction is begun may be in it
pub admits_within : (lists : ContestState) (e : Entry) (old mid : State) (now kept : Content) → MayAdd lists e old now kept → Within mid now kept → Admits lists e mid now kept
admits_within lists e old mid now kept h within = record { contest = h.contest; shown = h.shown; sound = h.sound; held = h.held; may = h.may; within = within }
