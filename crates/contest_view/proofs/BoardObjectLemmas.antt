-- What is written of two lists, side by side, and of a cell.
use Rattle.std.proofs.Common.{◌≡◌, ◌∙◌, ◌⊎◌, ◌++◌, ℕ, List, [], ◌∷◌, Option, Some, None, ap, append-nil, drop, inl, inr, refl, sym}
use Rattle.std.specs.Prelude.{codes}
use Rattle.std.specs.List.{flat_map, zip}
use Rattle.json.specs.Token.{Token, end_object}
use Rattle.json.specs.Tree.{members_tokens}
use Rattle.serde_json.specs.Data.{no_members}
use Rattle.serde_json.specs.Written.{members_outline}
use Rattle.contest_types.specs.declared.minute.Minute.{Minute}
use Rattle.contest_objects.specs.JsonTokens.{data_tokens, member_tokens}
use Rattle.contest_objects.specs.Objects.{member_where}
use Rattle.contest_view.specs.Scoreboards.{minute_data}

-- where one of two lists has ended, nothing is left of both
none_left : {X Y : Type 0} (xs : List X) (ys : List Y) → (xs ≡ []) ⊎ (ys ≡ []) → zip xs ys ≡ []
none_left [] ys e = refl
none_left (x ∷ xs) [] e = refl
none_left (x ∷ xs) (y ∷ ys) (inl e) = absurd (cc e)
none_left (x ∷ xs) (y ∷ ys) (inr e) = absurd (cc e)

-- and all is written
pub all_written : {X Y : Type 0} (g : X × Y → List Token) (xs : List X) (ys : List Y) (n : ℕ) (begun ts : List Token) (left : List X) (right : List Y) → left ≡ drop n xs → right ≡ drop n ys → (left ≡ []) ⊎ (right ≡ [])
    → begun ++ flat_map g (zip xs ys) ≡ ts ++ flat_map g (zip (drop n xs) (drop n ys)) → ts ≡ begun ++ flat_map g (zip xs ys)
all_written g xs ys n begun ts left right is_left is_right none h =
    let gone : zip (drop n xs) (drop n ys) ≡ [] = rw (← is_left, ← is_right) (none_left left right none) in
    sym (h ∙ (ap (λ ps. ts ++ flat_map g ps) gone ∙ append-nil ts))

-- the last member of a cell, where it is there
pub minute_last : (minute : Option Minute) → members_tokens (members_outline (member_where (minute_data minute) (codes "time") no_members)) ≡ member_tokens (codes "time", minute_data minute) ++ end_object ∷ []
unfolding data_tokens
minute_last None = refl
minute_last (Some m) = refl
