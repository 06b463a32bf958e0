-- A post that is repeated (own; idempotency keys).
use Rattle.std.specs.Prelude.{◌≡◌, ℕ, true, false, List, Ok, is_some}
use Rattle.contest_types.specs.State.{ContestState, add_all}
use Rattle.contest_types.specs.Valid.{is_valid}
use Rattle.contest_types.specs.declared.refusal.Refusal.TheVariants.{KeyReused}
use Rattle.contest_operations.specs.Commands.{IsSoundPost, are_in_one_scope, ask_for_the_same, key_of, post_outcome, reaches_key}
use Rattle.contest_operations.specs.Growing.{Grows}
use Rattle.contest_operations.specs.Outcomes.{refusing, replying}
use Rattle.contest_operations.specs.Replies.{refused}
use Rattle.contest_operations.specs.Step.{step, wish_or_reply}
use Rattle.contest_operations.specs.declared.command.Posted.{Posted}
use Rattle.contest_requests.specs.declared.request.Credential.{Credential}
use Rattle.contest_requests.specs.declared.request.Request.{Request}
use Rattle.contest_operations.specs.declared.wish.Wish.TheVariants.{Do}
use Rattle.contest_desk.specs.Runs.{IsRun}
use Rattle.contest_desk.specs.declared.item.Answer.{Answer}
use Rattle.contest_desk.specs.declared.item.Item.{Item}

-- whatever is asked and imported, a contest grows
abbrev pub RunsGrow : Type 0
RunsGrow = (x : ContestState) (items : List Item) (answers : List Answer) (y : ContestState) → is_valid x ≡ true → IsRun x items answers y → Grows x y

-- once a post under a key is answered as done, then whatever is asked afterwards and whenever: the same post gets the same
-- reply and adds nothing, and so does another of its sender under that key that asks for the same; one that asks for something
-- else is refused
abbrev pub PostsRepeatOnce : Type 0
PostsRepeatOnce =
    (x y : ContestState) (now later : ℕ) (first : Posted) (items : List Item) (answers : List Answer)
    → is_valid x ≡ true → IsSoundPost x.fixed first → is_some (key_of first) ≡ true → (post_outcome now first x).reply.status ≡ 200
    → IsRun (add_all x (post_outcome now first x).entries) items answers y
    → (post_outcome later first y ≡ replying (post_outcome now first x).reply)
    × ((again : Posted) → key_of again ≡ key_of first → are_in_one_scope first again ≡ true → reaches_key y again ≡ true
    → (ask_for_the_same first again ≡ true → post_outcome later again y ≡ replying (post_outcome now first x).reply)
    × (ask_for_the_same first again ≡ false → post_outcome later again y ≡ refusing KeyReused))

-- so it is with requests, whoever of the sender's accounts makes them: one that reaches the key under which another was
-- answered as done gets its reply where it asks for the same, else it is refused; neither changes anything
abbrev pub RepeatsOnce : Type 0
RepeatsOnce =
    (x y : ContestState) (now later : ℕ) (credential other : Credential) (request asked : Request) (first again : Posted) (items : List Item) (answers : List Answer)
    → is_valid x ≡ true → wish_or_reply x.fixed credential request ≡ Ok (Do first) → is_some (key_of first) ≡ true → (step x now credential request).0.status ≡ 200
    → IsRun (step x now credential request).1 items answers y
    → wish_or_reply y.fixed other asked ≡ Ok (Do again) → key_of again ≡ key_of first → are_in_one_scope first again ≡ true → reaches_key y again ≡ true
    → (ask_for_the_same first again ≡ true → step y later other asked ≡ ((step x now credential request).0, y))
    × (ask_for_the_same first again ≡ false → step y later other asked ≡ (refused KeyReused, y))
