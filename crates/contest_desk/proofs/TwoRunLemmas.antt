-- Two runs side by side, turn by turn.
use Rattle.std.proofs.Common.{◌≡◌, ◌∙◌, Bool, true, false, [], ◌∷◌, refl, sym, ap, subst, inl, inr}
use Rattle.std.specs.Prelude.{◌==◌}
use Rattle.std.proofs.lemmas.Bool.{false≢true}
use Rattle.contest_types.specs.Alike.{Alike, MayBeHeld}
use Rattle.contest_types.specs.State.{ContestState, add_all}
use Rattle.contest_types.specs.Valid.{is_valid}
use Rattle.contest_types.specs.declared.audience.Audience.{Audience}
use Rattle.contest_desk.specs.Items.{has_failed, item_entries, item_step}
use Rattle.contest_desk.specs.Moves.{first_entries, second_entries}
use Rattle.contest_desk.specs.Runs.{IsServed, IsRun}
use Rattle.contest_operations.specs.Step.{step}
use Rattle.contest_desk.specs.TwoRuns.{FirstAlone, SecondAlone, Mine, Theirs, first_items, first_answers, second_items, second_answers, after_answer, GoesUnnoticed, AreTheirs, RunsAlike}
use Rattle.contest_desk.specs.declared.item.Answer.{Answer}
use Rattle.contest_desk.specs.declared.item.Answer.TheVariants as answer
use Rattle.contest_desk.specs.declared.item.Item.{Item}
use Rattle.contest_desk.specs.declared.item.Item.TheVariants as item
use Rattle.contest_desk.specs.declared.item.RequestItem.{RequestItem}
use Rattle.contest_operations.specs.declared.reply.Reply.{Reply}
use Rattle.contest_desk.proofs.ItemLemmas.{failure_is, item_addable, item_adds, item_ordinary, item_unnoticed, items_keep_valid}
use Rattle.contest_operations.proofs.LawLemmas.{step_alike}
use Rattle.contest_desk.proofs.MovesAlike.{moves_stay_alike, turned}
use Rattle.contest_desk.proofs.ReorderedAlike.{added_alike, added_may}
use Rattle.contest_desk.proofs.UnseenLemmas.{alike_onward}

itself : (a : Audience) (x : ContestState) → Alike a x x
itself a x = record { fixed = refl; teams = λ team. refl; told = λ to. refl }

after_failed : (x : ContestState) (i : Item) (r : Answer) → has_failed r ≡ true → after_answer x i r ≡ x
after_failed x i r e = rw e refl

after_answered : (x : ContestState) (i : Item) (r : Answer) → has_failed r ≡ false → after_answer x i r ≡ (item_step x i).1
after_answered x i r e = rw e refl

-- the contest that an item leaves
mid_is : (x : ContestState) (i : Item) (r : Answer) (mid : ContestState) → IsServed x i r mid → mid ≡ after_answer x i r
mid_is x i r mid (inl (said, is)) = is ∙ sym (after_answered x i r (ap has_failed said ∙ item_ordinary x i))
mid_is x i r mid (inr (fails, is)) = is ∙ sym (after_failed x i r (failure_is r fails))

-- what was answered is the step's answer
answer_is : (x : ContestState) (i : Item) (r : Answer) (mid : ContestState) → IsServed x i r mid → has_failed r ≡ false → r ≡ (item_step x i).0
answer_is x i r mid (inl (said, is)) answered = said
answer_is x i r mid (inr (fails, is)) answered = absurd (false≢true (sym answered ∙ failure_is r fails))

same_reply : (p q : Reply) → ◌≡◌ {A = Answer} (answer.Reply p) (answer.Reply q) → p ≡ q
same_reply p q e = cc e

reply_is : (x : ContestState) (i : RequestItem) (r : Reply) (mid : ContestState) → IsServed x (item.Request i) (answer.Reply r) mid → (r.status == 503) ≡ false → r ≡ (step x i.now i.credential i.request).0
reply_is x i r mid served answered = same_reply r (step x i.now i.credential i.request).0 (answer_is x (item.Request i) (answer.Reply r) mid served answered)

after_valid : (x : ContestState) (i : Item) (r : Answer) → is_valid x ≡ true → is_valid (after_answer x i r) ≡ true
after_valid x i r valid =
    let go : (b : Bool) → has_failed r ≡ b → is_valid (after_answer x i r) ≡ true = elim [
      | true ↦ λ e. ap is_valid (after_failed x i r e) ∙ valid
      | false ↦ λ e. ap is_valid (after_answered x i r e) ∙ items_keep_valid x i valid
    ] in
    go (has_failed r) refl

goes_unnoticed : (a : Audience) (x : ContestState) (i : Item) (r : Answer) → GoesUnnoticed a x i r → Alike a (after_answer x i r) x
goes_unnoticed a x i r (inl e) = subst (λ z. Alike a z x) (sym (after_failed x i r e)) (itself a x)
goes_unnoticed a x i r (inr h) =
    let go : (b : Bool) → has_failed r ≡ b → Alike a (after_answer x i r) x = elim [
      | true ↦ λ e. subst (λ z. Alike a z x) (sym (after_failed x i r e)) (itself a x)
      | false ↦ λ e. subst (λ z. Alike a z x) (sym (after_answered x i r e)) (item_unnoticed a x i h)
    ] in
    go (has_failed r) refl

theirs_alike : (a : Audience) (x y : ContestState) (i j : Item) (r q : Answer) → is_valid x ≡ true → is_valid y ≡ true → Alike a x y → AreTheirs a x y i j r q → Alike a (after_answer x i r) (after_answer y j q)
theirs_alike a x y i j r q valid_x valid_y h t =
    let left : after_answer x i r ≡ add_all x (item_entries x i) = after_answered x i r t.answered ∙ item_adds x i in
    let right : after_answer y j q ≡ add_all y (item_entries y j) = after_answered y j q t.answered_too ∙ item_adds y j in
    let can = added_may a x (item_entries x i) (first_entries t.moves) (item_addable x i valid_x) t.adds in
    let can_too = added_may a y (item_entries y j) (second_entries t.moves) (item_addable y j valid_y) t.adds_too in
    let both = moves_stay_alike a x y t.moves valid_x valid_y h can can_too t.alike in
    let first : Alike a (add_all x (item_entries x i)) (add_all y (second_entries t.moves)) =
    alike_onward a (add_all x (item_entries x i)) (add_all x (first_entries t.moves)) (add_all y (second_entries t.moves)) (added_alike a x (item_entries x i) (first_entries t.moves) t.adds) both in
    let second : Alike a (add_all y (second_entries t.moves)) (add_all y (item_entries y j)) =
    turned a (add_all y (item_entries y j)) (add_all y (second_entries t.moves)) (added_alike a y (item_entries y j) (second_entries t.moves) t.adds_too) in
    let all = alike_onward a (add_all x (item_entries x i)) (add_all y (second_entries t.moves)) (add_all y (item_entries y j)) first second in
    subst (λ z. Alike a z (after_answer y j q)) (sym left) (subst (λ z. Alike a (add_all x (item_entries x i)) z) (sym right) all)

pub runs_alike : RunsAlike
runs_alike a x y [] last final other valid_x valid_y h ends_x ends_y turns =
    (refl, subst (λ z. Alike a z final) (sym ends_x) (subst (λ z. Alike a x z) (sym ends_y) h))
runs_alike a x y (FirstAlone i r ∷ ts) last final other valid_x valid_y h (mid, served, rest) run_y (unseen, more) =
    runs_alike a (after_answer x i r) y ts last final other (after_valid x i r valid_x) valid_y (alike_onward a (after_answer x i r) x y (goes_unnoticed a x i r unseen) h)
    (subst (λ z. IsRun z (first_items ts) (first_answers ts) last) (mid_is x i r mid served) rest) run_y more
runs_alike a x y (SecondAlone j q ∷ ts) last final other valid_x valid_y h run_x (mid, served, rest) (unseen, more) =
    runs_alike a x (after_answer y j q) ts last final other valid_x (after_valid y j q valid_y) (alike_onward a x y (after_answer y j q) h (turned a (after_answer y j q) y (goes_unnoticed a y j q unseen)))
    run_x (subst (λ z. IsRun z (second_items ts) (second_answers ts) final) (mid_is y j q mid served) rest) more
runs_alike a x y (Mine i r q ∷ ts) last final other valid_x valid_y h (mid_x, served_x, rest_x) (mid_y, served_y, rest_y) (mine, more) =
    let held : MayBeHeld a i.now x = record { no_jury = other; held = mine.held } in
    let alike = step_alike a i.now i.credential i.request x y valid_x valid_y mine.sight held h in
    let same : r ≡ q = reply_is x i r mid_x served_x mine.answered ∙ (alike.0 ∙ sym (reply_is y i q mid_y served_y mine.answered_too)) in
    let after : Alike a (after_answer x (item.Request i) (answer.Reply r)) (after_answer y (item.Request i) (answer.Reply q)) =
    subst (λ z. Alike a z (after_answer y (item.Request i) (answer.Reply q))) (sym (after_answered x (item.Request i) (answer.Reply r) mine.answered)) (subst (λ z. Alike a (step x i.now i.credential i.request).1 z) (sym (after_answered y (item.Request i) (answer.Reply q) mine.answered_too)) alike.1) in
    let later = runs_alike a (after_answer x (item.Request i) (answer.Reply r)) (after_answer y (item.Request i) (answer.Reply q)) ts last final other (after_valid x (item.Request i) (answer.Reply r) valid_x) (after_valid y (item.Request i) (answer.Reply q) valid_y) after
    (subst (λ z. IsRun z (first_items ts) (first_answers ts) last) (mid_is x (item.Request i) (answer.Reply r) mid_x served_x) rest_x)
    (subst (λ z. IsRun z (second_items ts) (second_answers ts) final) (mid_is y (item.Request i) (answer.Reply q) mid_y served_y) rest_y) more in
    (λ k. same k ∷ later.0 k, later.1)
runs_alike a x y (Theirs i r j q ∷ ts) last final other valid_x valid_y h (mid_x, served_x, rest_x) (mid_y, served_y, rest_y) (theirs, more) =
    runs_alike a (after_answer x i r) (after_answer y j q) ts last final other (after_valid x i r valid_x) (after_valid y j q valid_y) (theirs_alike a x y i j r q valid_x valid_y h theirs)
    (subst (λ z. IsRun z (first_items ts) (first_answers ts) last) (mid_is x i r mid_x served_x) rest_x)
    (subst (λ z. IsRun z (second_items ts) (second_answers ts) final) (mid_is y j q mid_y served_y) rest_y) more
