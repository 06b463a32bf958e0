-- What each item of a run keeps, a run keeps.
use Rattle.std.proofs.Common.{◌≡◌, ◌∙◌, true, List, [], ◌∷◌, inl, inr, refl, sym, ap, subst}
use Rattle.contest_types.specs.Order.{Has}
use Rattle.contest_types.specs.State.{ContestState, add, add_all}
use Rattle.contest_types.specs.Valid.{is_valid}
use Rattle.contest_types.specs.declared.entry.Entry.{Entry}
use Rattle.contest_desk.specs.Items.{item_entries, item_step}
use Rattle.contest_desk.specs.Runs.{IsRun, IsServed}
use Rattle.contest_desk.specs.declared.item.Answer.{Answer}
use Rattle.contest_desk.specs.declared.item.Item.{Item}
use Rattle.contest_desk.proofs.ItemLemmas.{item_adds, items_keep_valid}

-- entries of which each keeps it
pub entries_keep : (P : ContestState → Type 0) (es : List Entry) (x : ContestState) → ((z : ContestState) (e : Entry) → Has es e → P z → P (add z e)) → P x → P (add_all x es)
entries_keep P [] x keeps h = h
entries_keep P (e ∷ es) x keeps h = entries_keep P es (add x e) (λ z f k. keeps z f (inr k)) (keeps x e (inl refl) h)

-- an item of which each entry keeps it
pub item_keeps : (P : ContestState → Type 0) (x : ContestState) (i : Item) → ((z : ContestState) (e : Entry) → Has (item_entries x i) e → P z → P (add z e)) → P x → P (item_step x i).1
item_keeps P x i keeps h = subst P (sym (item_adds x i)) (entries_keep P (item_entries x i) x keeps h)

-- a run of items of which each keeps it in a valid contest
pub run_keeps : (P : ContestState → Type 0) (Q : Item → Type 0) → ((z : ContestState) (i : Item) → is_valid z ≡ true → Q i → P z → P (item_step z i).1)
    → (x : ContestState) (items : List Item) (answers : List Answer) (y : ContestState) → is_valid x ≡ true → ((i : Item) → Has items i → Q i) → P x → IsRun x items answers y → P y
run_keeps P Q keeps x [] [] y valid all h run = subst P (sym run) h
run_keeps P Q keeps x [] (r ∷ rs) y valid all h run = absurd run
run_keeps P Q keeps x (i ∷ is) [] y valid all h run = absurd run
run_keeps P Q keeps x (i ∷ is) (r ∷ rs) y valid all h (mid, served, rest) =
    let next : IsServed x i r mid → (is_valid mid ≡ true) × P mid = λ s. elim s [
      | inl (answered, done) ↦ (ap is_valid done ∙ items_keep_valid x i valid, subst P (sym done) (keeps x i valid (all i (inl refl)) h))
      | inr (fails, same) ↦ (ap is_valid same ∙ valid, subst P (sym same) h)
    ] in
    let both = next served in
    run_keeps P Q keeps mid is rs y both.0 (λ j k. all j (inr k)) both.1 rest
