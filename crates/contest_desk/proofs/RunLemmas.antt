-- A run, item by item.
use Rattle.std.proofs.Common.{ℕ, ◌≡◌, ◌∙◌, List, [], ◌∷◌, ◌++◌, append-nil, length, refl, sym, ap, subst, inl, inr}
use Rattle.std.specs.Prelude.{◌⊎◌, Bool, true, false, IsTrue, IsFalse, Option, Some, All}
use Rattle.std.proofs.lemmas.List.{append_assoc, nil_from_length}
use Rattle.std.proofs.lemmas.List.Elements.{All-pop}
use Rattle.contest_types.specs.State.{ContestState}
use Rattle.contest_streams.specs.Streams.{one_more}
use Rattle.contest_store.specs.Keeping.{Kept, LeavesNoMore, LeavesOr}
use Rattle.contest_desk.specs.Doing.{DoesOrFails}
use Rattle.contest_desk.specs.Items.{IsFaultAnswer, IsStoreAnswer, item_entries, item_step}
use Rattle.contest_desk.specs.Runs.{IsServed, IsRun, LeavesAfter, RunsTo, CountsAnswer, CountsAnswers}
use Rattle.contest_desk.specs.declared.item.Answer.{Answer}
use Rattle.contest_desk.specs.declared.item.Item.{Item}

-- what is left goes on from a contest, which is the desk's while its store is open
pub record GoesOn (first now : Kept) (items rest : List Item) (answers : List Answer) : Type 0 where
  pub here : ContestState
  pub runs : (more : List Answer) (y : ContestState) → IsRun here rest more y → IsRun first.contest items (answers ++ more) y
  pub leaves : (more : List Answer) (c : Option ContestState) → LeavesAfter now.may_leave here rest more c → LeavesAfter first.may_leave first.contest items (answers ++ more) c
  pub same : IsTrue now.is_open → now.contest ≡ here

-- where more could be left before, more can be left after
pub wider : (before other : Option ContestState → Type 0) → ((d : Option ContestState) → before d → other d) → (x : ContestState) (items : List Item) (answers : List Answer) (c : Option ContestState)
    → LeavesAfter before x items answers c → LeavesAfter other x items answers c
wider before other w x [] [] c l = w c l
wider before other w x [] (answer ∷ answers) c l = absurd l
wider before other w x (item ∷ items) [] c l = absurd l
wider before other w x (item ∷ items) (answer ∷ answers) c l =
    let y : ContestState = (item_step x item).1 in
    elim l [
      | (inl (answered, rest)) ↦ inl (answered, rest)
      | (inr (fails, rest)) ↦ inr (fails, wider (λ d. before d ⊎ (d ≡ Some y)) (λ d. other d ⊎ (d ≡ Some y)) (λ d h. elim h [ inl was ↦ inl (w d was) | inr is ↦ inr is ]) x items answers c rest)
    ]

pub begins : (first : Kept) (items rest : List Item) (answers : List Answer) → rest ≡ items → answers ≡ [] → GoesOn first first items rest answers
begins first items rest answers all none = record {
  here = first.contest;
  runs = λ more y run. subst (λ rs. IsRun first.contest items (rs ++ more) y) (sym none) (subst (λ is. IsRun first.contest is more y) all run);
  leaves = λ more c l. subst (λ rs. LeavesAfter first.may_leave first.contest items (rs ++ more) c) (sym none) (subst (λ is. LeavesAfter first.may_leave first.contest is more c) all l);
  same = λ up. refl;
}

-- one more item is served
go_on : (first old new : Kept) (items rest left : List Item) (answers replied : List Answer) (item : Item) (answer : Answer) (n : ContestState) → rest ≡ item ∷ left → replied ≡ answers ++ answer ∷ []
    → (g : GoesOn first old items rest answers) → IsServed g.here item answer n
    → ((more : List Answer) (c : Option ContestState) → LeavesAfter new.may_leave n left more c → LeavesAfter old.may_leave g.here (item ∷ left) (answer ∷ more) c)
    → (IsTrue new.is_open → new.contest ≡ n) → GoesOn first new items left replied
go_on first old new items rest left answers replied item answer n one more g served leaves same =
    let longer : (rs : List Answer) → replied ++ rs ≡ answers ++ answer ∷ rs = λ rs. ap (λ qs. qs ++ rs) more ∙ append_assoc answers (answer ∷ []) rs in
    record {
      here = n;
      runs = λ rs y run. subst (λ qs. IsRun first.contest items qs y) (sym (longer rs)) (g.runs (answer ∷ rs) y (subst (λ is. IsRun g.here is (answer ∷ rs) y) (sym one) (n, served, run)));
      leaves = λ rs c l. subst (λ qs. LeavesAfter first.may_leave first.contest items qs c) (sym (longer rs)) (g.leaves (answer ∷ rs) c (subst (λ is. LeavesAfter old.may_leave g.here is (answer ∷ rs) c) (sym one) (leaves rs c l)));
      same = same;
    }

-- what a crash leaves once an item failed
after_failure : (old new : Kept) (x y : ContestState) → (IsTrue old.is_open → old.contest ≡ x) → (z : ContestState → ContestState) → z x ≡ y → LeavesOr old.may_leave new.may_leave (z old.contest)
    → (IsFalse old.is_open → LeavesNoMore old.may_leave new.may_leave) → (d : Option ContestState) → new.may_leave d → old.may_leave d ⊎ (d ≡ Some y)
after_failure old new x y same z is crash shut d left =
    let go : (b : Bool) → old.is_open ≡ b → old.may_leave d ⊎ (d ≡ Some y) = elim [
      | false ↦ λ was_shut. inl (shut was_shut d left)
      | true ↦ λ opened. elim (crash d left) [ inl was ↦ inl was | inr e ↦ inr (e ∙ (ap (λ w. Some (z w)) (same opened) ∙ ap Some is)) ]
    ] in
    go old.is_open refl

-- an item is answered as the machine's step does, or it failed
pub record Handles (old new : Kept) (item : Item) (answer : Answer) : Type 0 where
  pub clean : new.is_clean
  pub answers : (IsStoreAnswer answer → ⊥) → answer ≡ (item_step old.contest item).0
  pub leaves : DoesOrFails old new (item_step old.contest item).1 (item_entries old.contest item) (IsStoreAnswer answer) (IsFaultAnswer answer)

pub handled : (first old new : Kept) (items rest left : List Item) (answers replied : List Answer) (item : Item) (answer : Answer) → rest ≡ item ∷ left → replied ≡ answers ++ answer ∷ []
    → Handles old new item answer → GoesOn first old items rest answers → GoesOn first new items left replied
handled first old new items rest left answers replied item answer one more h g =
    let next : ContestState → ContestState = λ x. (item_step x item).1 in
    let failed : IsStoreAnswer answer → GoesOn first new items left replied = λ fails.
    go_on first old new items rest left answers replied item answer g.here one more g (inr (fails, refl))
    (λ rs c l. inr (fails, wider new.may_leave (λ d. old.may_leave d ⊎ (d ≡ Some (next g.here))) (after_failure old new g.here (next g.here) g.same next refl (h.leaves.crash h.clean) (h.leaves.shut h.clean)) g.here left rs c l))
    (λ opened. h.leaves.unchanged h.clean opened fails ∙ g.same (h.leaves.up h.clean opened)) in
    let answered : IsTrue new.is_open → (IsStoreAnswer answer → ⊥) → GoesOn first new items left replied = λ opened well.
    (let is : old.contest ≡ g.here = g.same (h.leaves.up h.clean opened) in
    let served : IsServed g.here item answer (next g.here) = inl (h.answers well ∙ ap (λ x. (item_step x item).0) is, refl) in
    go_on first old new items rest left answers replied item answer (next g.here) one more g served
    (λ rs c l. inl (well, wider new.may_leave (λ d. d ≡ Some (next g.here)) (λ d left_now. (h.leaves.kept h.clean well).1 d left_now ∙ ap (λ x. Some (next x)) is) (next g.here) left rs c l))
    (λ o. h.leaves.contest h.clean well ∙ ap next is)) in
    elim (h.leaves.opens h.clean) [ inl fails ↦ failed fails | inr (opened, well) ↦ answered opened well ]

pub ends : (first now : Kept) (items rest : List Item) (answers : List Answer) → length rest ≡ 0 → GoesOn first now items rest answers → RunsTo first now items answers
ends first now items rest answers none g =
    (g.here, subst (λ rs. IsRun first.contest items rs g.here) (append-nil answers) (g.runs [] g.here (subst (λ is. IsRun g.here is [] g.here) (sym (nil_from_length rest none)) refl)), g.same)

pub leaves_at_end : (first now : Kept) (items rest : List Item) (answers : List Answer) → length rest ≡ 0 → GoesOn first now items rest answers
    → (c : Option ContestState) → now.may_leave c → LeavesAfter first.may_leave first.contest items answers c
leaves_at_end first now items rest answers none g c left =
    subst (λ rs. LeavesAfter first.may_leave first.contest items rs c) (append-nil answers) (g.leaves [] c (subst (λ is. LeavesAfter now.may_leave g.here is [] c) (sym (nil_from_length rest none)) left))

-- a store that answered the last item is open
pub open_after : (old new : Kept) (item : Item) (answers replied : List Answer) (answer : Answer) → replied ≡ answers ++ answer ∷ [] → Handles old new item answer → All (λ r. IsStoreAnswer r → ⊥) replied → IsTrue new.is_open
open_after old new item answers replied answer more h all =
    let last = (All-pop (λ r. IsStoreAnswer r → ⊥) replied answers (Some answer) more all).1 in
    elim (h.leaves.opens h.clean) [ inl fails ↦ absurd (last fails) | inr (opened, well) ↦ opened ]

-- one more answer is counted
pub counts_more : (answers : List Answer) (answer : Answer) (old mid new : ℕ) → CountsAnswers answers old mid → CountsAnswer answer mid new → CountsAnswers (answers ++ answer ∷ []) old new
counts_more [] answer old mid new none counts = (new, (λ is. counts.0 is ∙ ap one_more none, λ other. counts.1 other ∙ none), refl)
counts_more (first ∷ answers) answer old mid new (next, told, rest) counts = (next, told, counts_more answers answer next mid new rest counts)
