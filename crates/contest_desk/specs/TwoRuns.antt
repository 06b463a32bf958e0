-- Two runs side by side (own).
use Rattle.std.specs.Prelude.{◌≡◌, ◌≢◌, ◌⊎◌, ◌==◌, true, false, List, [], ◌∷◌, if◌then◌else◌}
use Rattle.contest_types.specs.Alike.{Alike}
use Rattle.contest_types.specs.Clock.{is_thawed}
use Rattle.contest_types.specs.State.{ContestState}
use Rattle.contest_types.specs.Valid.{is_valid}
use Rattle.contest_types.specs.declared.audience.Audience.{Audience}
use Rattle.contest_types.specs.declared.audience.Audience.TheVariants.{Jury}
use Rattle.contest_desk.specs.Items.{has_failed, item_entries, item_step}
use Rattle.contest_operations.specs.Laws.{HasSight}
use Rattle.contest_desk.specs.Moves.{Move, first_entries, second_entries, AreAlikeMoves}
use Rattle.contest_desk.specs.Reordering.{AreAddedAs}
use Rattle.contest_desk.specs.Runs.{IsRun}
use Rattle.contest_desk.specs.UnseenLaws.{IsUnnoticedItem}
use Rattle.contest_desk.specs.declared.item.Answer.{Answer}
use Rattle.contest_desk.specs.declared.item.Answer.TheVariants as answer
use Rattle.contest_desk.specs.declared.item.Item.{Item}
use Rattle.contest_desk.specs.declared.item.Item.TheVariants as item
use Rattle.contest_desk.specs.declared.item.RequestItem.{RequestItem}
use Rattle.contest_operations.specs.declared.reply.Reply.{Reply}

-- what comes next in two runs: an item in one of them alone, with its answer; a request of the audience's own in
-- both, with both replies; an item of others in each
pub data Turn : Type 0 where
  FirstAlone : Item → Answer → Turn
  SecondAlone : Item → Answer → Turn
  Mine : RequestItem → Reply → Reply → Turn
  Theirs : Item → Answer → Item → Answer → Turn

-- the items of the first run
abbrev pub first_items : List Turn → List Item
first_items [] = []
first_items (FirstAlone i r ∷ ts) = i ∷ first_items ts
first_items (SecondAlone j q ∷ ts) = first_items ts
first_items (Mine i r q ∷ ts) = item.Request i ∷ first_items ts
first_items (Theirs i r j q ∷ ts) = i ∷ first_items ts

abbrev pub first_answers : List Turn → List Answer
first_answers [] = []
first_answers (FirstAlone i r ∷ ts) = r ∷ first_answers ts
first_answers (SecondAlone j q ∷ ts) = first_answers ts
first_answers (Mine i r q ∷ ts) = answer.Reply r ∷ first_answers ts
first_answers (Theirs i r j q ∷ ts) = r ∷ first_answers ts

-- those of the second
abbrev pub second_items : List Turn → List Item
second_items [] = []
second_items (FirstAlone i r ∷ ts) = second_items ts
second_items (SecondAlone j q ∷ ts) = j ∷ second_items ts
second_items (Mine i r q ∷ ts) = item.Request i ∷ second_items ts
second_items (Theirs i r j q ∷ ts) = j ∷ second_items ts

abbrev pub second_answers : List Turn → List Answer
second_answers [] = []
second_answers (FirstAlone i r ∷ ts) = second_answers ts
second_answers (SecondAlone j q ∷ ts) = q ∷ second_answers ts
second_answers (Mine i r q ∷ ts) = answer.Reply q ∷ second_answers ts
second_answers (Theirs i r j q ∷ ts) = q ∷ second_answers ts

-- the replies to the audience itself, in each
abbrev pub first_told : List Turn → List Reply
first_told [] = []
first_told (FirstAlone i r ∷ ts) = first_told ts
first_told (SecondAlone j q ∷ ts) = first_told ts
first_told (Mine i r q ∷ ts) = r ∷ first_told ts
first_told (Theirs i r j q ∷ ts) = first_told ts

abbrev pub second_told : List Turn → List Reply
second_told [] = []
second_told (FirstAlone i r ∷ ts) = second_told ts
second_told (SecondAlone j q ∷ ts) = second_told ts
second_told (Mine i r q ∷ ts) = q ∷ second_told ts
second_told (Theirs i r j q ∷ ts) = second_told ts

-- the contest after an answer; a failure leaves it
abbrev pub after_answer : ContestState → Item → Answer → ContestState
after_answer x i r = if has_failed r then x else (item_step x i).1

-- it failed, was refused, read, or added only what the audience can't notice
abbrev pub GoesUnnoticed : Audience → ContestState → Item → Answer → Type 0
GoesUnnoticed a x i r = (has_failed r ≡ true) ⊎ IsUnnoticedItem a x i

-- a request of the audience before the thaw, that fails in neither run
pub record IsMine (a : Audience) (x : ContestState) (i : RequestItem) (r q : Reply) : Type 0 where
  pub sight : HasSight x.fixed i.credential a
  pub held : is_thawed x.fixed.marks i.now ≡ false
  pub answered : (r.status == 503) ≡ false
  pub answered_too : (q.status == 503) ≡ false

-- items of others that fail in neither run, and add what shows the audience the same, be it in another order
pub record AreTheirs (a : Audience) (x y : ContestState) (i j : Item) (r q : Answer) : Type 0 where
  pub answered : has_failed r ≡ false
  pub answered_too : has_failed q ≡ false
  pub moves : List Move
  pub adds : AreAddedAs x (item_entries x i) (first_entries moves)
  pub adds_too : AreAddedAs y (item_entries y j) (second_entries moves)
  pub alike : AreAlikeMoves a x y moves

abbrev pub AreAlikeTurns : Audience → (x y : ContestState) → List Turn → Type 0
AreAlikeTurns a x y [] = Unit {0}
AreAlikeTurns a x y (FirstAlone i r ∷ ts) = GoesUnnoticed a x i r × AreAlikeTurns a (after_answer x i r) y ts
AreAlikeTurns a x y (SecondAlone j q ∷ ts) = GoesUnnoticed a y j q × AreAlikeTurns a x (after_answer y j q) ts
AreAlikeTurns a x y (Mine i r q ∷ ts) =
    IsMine a x i r q × AreAlikeTurns a (after_answer x (item.Request i) (answer.Reply r)) (after_answer y (item.Request i) (answer.Reply q)) ts
AreAlikeTurns a x y (Theirs i r j q ∷ ts) = AreTheirs a x y i j r q × AreAlikeTurns a (after_answer x i r) (after_answer y j q) ts

-- two contests that agree on what an audience may learn answer it alike for as long as they run, and
-- agree on it at their ends, as long as they are asked by such turns
abbrev pub RunsAlike : Type 0
RunsAlike =
    (a : Audience) (x y : ContestState) (turns : List Turn) (last final : ContestState) → a ≢ Jury → is_valid x ≡ true → is_valid y ≡ true → Alike a x y
    → IsRun x (first_items turns) (first_answers turns) last → IsRun y (second_items turns) (second_answers turns) final → AreAlikeTurns a x y turns
    → (first_told turns ≡ second_told turns) × Alike a last final
