-- Lists of what is kept of other lists.
use Rattle.std.proofs.Common.{◌≡◌, ◌<◌, ◌+◌, ◌++◌, ◌∷◌, ◌∙◌, ℕ, List, Option, Some, None, length, drop, get_or, refl, sym, ap, append_assoc}
use Rattle.std.specs.List.{cons_option, filter_map}
use Rattle.std.specs.Option.{option_to_list}
use Rattle.std.proofs.lemmas.List.{drop_more}

-- one more item
pub next_kept : {A B : Type 0} (f : A → Option B) (xs : List A) (i : ℕ) (x : A) (done new whole : List B) → i < length xs → x ≡ get_or xs i x → new ≡ done ++ option_to_list (f x)
    → done ++ filter_map f (drop i xs) ≡ whole → new ++ filter_map f (drop (i + 1) xs) ≡ whole
next_kept {A} {B} f xs i x done new whole l is more before =
    let rest = filter_map f (drop (i + 1) xs) in
    let here : drop i xs ≡ x ∷ drop (i + 1) xs = rw (← is) at (drop_more xs i x l) in
    let one : (o : Option B) → cons_option o rest ≡ option_to_list o ++ rest = elim [ None ↦ refl | (Some y) ↦ refl ] in
    ap (λ items. items ++ rest) more
    ∙ (append_assoc done (option_to_list (f x)) rest
    ∙ (ap (λ items. done ++ items) (sym (ap (filter_map f) here ∙ one (f x))) ∙ before))
