-- A contest grows, and a post that is repeated is answered as it was.
use Rattle.std.proofs.Common.{◌≡◌, ◌∙◌, true, [], ◌∷◌, Ok, sym, ap, subst, inl, inr}
use Rattle.contest_types.specs.State.{ContestState, add_all}
use Rattle.contest_types.specs.Valid.{is_valid}
use Rattle.contest_types.proofs.AddEntry.{adding_all}
use Rattle.contest_operations.specs.Callers.{caller_of}
use Rattle.contest_operations.specs.Commands.{post_outcome}
use Rattle.contest_operations.specs.Growing.{Grows}
use Rattle.contest_operations.specs.declared.outcome.Outcome.{Outcome}
use Rattle.contest_operations.specs.Step.{outcome, outcome_of}
use Rattle.contest_operations.specs.declared.reply.Reply.{Reply}
use Rattle.contest_operations.specs.declared.wish.Wish.TheVariants.{Do}
use Rattle.contest_operations.proofs.CommandLemmas.{post_addable, post_repeats}
use Rattle.contest_operations.proofs.GrowLemmas.{entries_grow, itself, onward}
use Rattle.contest_operations.proofs.WishLemmas.{IfKnown, wished_known}
use Rattle.contest_desk.specs.Items.{item_entries, item_step}
use Rattle.contest_desk.specs.Repeats.{PostsRepeatOnce, RepeatsOnce, RunsGrow}
use Rattle.contest_desk.specs.Runs.{IsRun, IsServed}
use Rattle.contest_desk.specs.declared.item.Answer.{Answer}
use Rattle.contest_desk.specs.declared.item.Item.{Item}
use Rattle.contest_desk.proofs.ItemLemmas.{item_addable, item_adds, items_keep_valid}

item_grows : (x : ContestState) (i : Item) → is_valid x ≡ true → Grows x (item_step x i).1
item_grows x i valid = subst (Grows x) (sym (item_adds x i)) (entries_grow x (item_entries x i) (item_addable x i valid))

served_grows : (x : ContestState) (i : Item) (r : Answer) (mid : ContestState) → is_valid x ≡ true → IsServed x i r mid → Grows x mid
served_grows x i r mid valid (inl (said, is)) = subst (Grows x) (sym is) (item_grows x i valid)
served_grows x i r mid valid (inr (fails, is)) = subst (Grows x) (sym is) (itself x)

served_valid : (x : ContestState) (i : Item) (r : Answer) (mid : ContestState) → is_valid x ≡ true → IsServed x i r mid → is_valid mid ≡ true
served_valid x i r mid valid (inl (said, is)) = ap is_valid is ∙ items_keep_valid x i valid
served_valid x i r mid valid (inr (fails, is)) = ap is_valid is ∙ valid

pub runs_grow : RunsGrow
runs_grow x [] [] y valid is = subst (Grows x) (sym is) (itself x)
runs_grow x [] (r ∷ rs) y valid never = absurd never
runs_grow x (i ∷ is) [] y valid never = absurd never
runs_grow x (i ∷ is) (r ∷ rs) y valid (mid, served, rest) =
    onward x mid y (served_grows x i r mid valid served) (runs_grow mid is rs y (served_valid x i r mid valid served) rest)

pub posts_repeat_once : PostsRepeatOnce
posts_repeat_once x y now later first items answers valid sound keyed done run =
    let added = (post_outcome now first x).entries in
    post_repeats x y now later first sound keyed done (runs_grow (add_all x added) items answers y (adding_all x added valid (post_addable now first x valid sound)) run)

abbrev after : ContestState → Outcome → Reply × ContestState
after x o = (o.reply, add_all x o.entries)

pub repeats_once : RepeatsOnce
repeats_once x y now later credential other request asked first again items answers valid wishes keyed done run wants same scope reaches =
    let is : outcome x now credential request ≡ post_outcome now first x = ap (outcome_of x now) wishes in
    let known : IfKnown {E = Reply} x.fixed (caller_of x.fixed credential) (Ok (Do first)) = subst (IfKnown x.fixed (caller_of x.fixed credential)) wishes (wished_known x credential request valid) in
    let r = posts_repeat_once x y now later first items answers valid known.sound keyed (ap (λ (o : Outcome). o.reply.status) (sym is) ∙ done) (subst (λ (o : Outcome). IsRun (add_all x o.entries) items answers y) is run) in
    let both = r.1 again same scope reaches in
    let comes : outcome y later other asked ≡ post_outcome later again y = ap (outcome_of y later) wants in
    (λ e. ap (after y) (comes ∙ both.0 e) ∙ ap (λ (o : Outcome). (o.reply, y)) (sym is), λ e. ap (after y) (comes ∙ both.1 e))
