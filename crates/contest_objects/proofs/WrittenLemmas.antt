-- The tokens of objects and arrays are those of their members and values, one behind the other.
use Rattle.std.proofs.Common.{◌≡◌, ◌∙◌, ◌++◌, ℕ, List, [], ◌∷◌, Option, Some, None, ap, append_assoc, map, refl, sym}
use Rattle.std.specs.List.{cons_option, filter_map, flat_map}
use Rattle.json.specs.Print.{print}
use Rattle.json.specs.Token.{Token, begin_array, begin_object, end_array, end_object}
use Rattle.json.specs.Tree.{items_tokens, members_tokens}
use Rattle.json.specs.Written.{Written}
use Rattle.serde_json.specs.Data.{Data, Members, array, object}
use Rattle.serde_json.specs.View.{items_of}
use Rattle.serde_json.specs.Written.{compact_text, items_outline, members_outline}
use Rattle.serde_json.proofs.Texts.{print-outline}
use Rattle.contest_objects.specs.Items.{Item, array_of, object_in}
use Rattle.contest_objects.specs.JsonTokens.{Wrote, data_tokens, member_tokens, value_tokens}
use Rattle.contest_objects.specs.Members.{in_order}
use Rattle.contest_objects.specs.Objects.{member_where}

-- what is written behind other tokens
pub behind : {old mid new : Written} {a b : List Token} → Wrote old mid a → Wrote mid new b → Wrote old new (a ++ b)
behind {old} {mid} {new} {a} {b} first next = record { tokens = next.tokens ∙ (rw first.tokens (append_assoc old.tokens a b)); before = next.before ∙ first.before }

-- the same tokens in other words
pub in_words : {old new : Written} {a : List Token} (b : List Token) → a ≡ b → Wrote old new a → Wrote old new b
in_words b same wrote = record { tokens = rw same at wrote.tokens; before = wrote.before }

-- what was begun, what stands in it, and its end
around : {old begun all new : Written} (first last : Token) (ts whole : List Token) → whole ≡ first ∷ (ts ++ last ∷ []) → Wrote old begun (first ∷ []) → Wrote begun all ts → Wrote all new (last ∷ []) → Wrote old new whole
around first last ts whole is began within ended = in_words whole (sym is) (behind began (behind within ended))

-- the tokens of members, with the closing brace
in_order_tokens : (ms : List (List ℕ × Option Data)) → members_tokens (members_outline (in_order ms)) ≡ flat_map member_tokens ms ++ end_object ∷ []
unfolding data_tokens
in_order_tokens [] = refl
in_order_tokens ((name, None) ∷ rest) = in_order_tokens rest
in_order_tokens ((name, Some d) ∷ rest) =
    ap (λ ts. member_tokens (name, Some d) ++ ts) (in_order_tokens rest) ∙ sym (append_assoc (member_tokens (name, Some d)) (flat_map member_tokens rest) (end_object ∷ []))

-- a member that is only there with a value, and those behind it
pub where_tokens : (o : Option Data) (name : List ℕ) (rest : Members) → members_tokens (members_outline (member_where o name rest)) ≡ member_tokens (name, o) ++ members_tokens (members_outline rest)
unfolding data_tokens
where_tokens None name rest = refl
where_tokens (Some d) name rest = refl

pub object_written : {old begun all new : Written} (ms : List (List ℕ × Option Data)) → Wrote old begun (begin_object ∷ []) → Wrote begun all (flat_map member_tokens ms) → Wrote all new (end_object ∷ [])
    → Wrote old new (data_tokens (object (in_order ms)))
unfolding data_tokens
object_written ms = around begin_object end_object (flat_map member_tokens ms) (data_tokens (object (in_order ms))) (ap (λ ts. begin_object ∷ ts) (in_order_tokens ms))

-- the tokens of values, with the closing bracket
values_tokens : {X : Type 0} (f : X → Data) (xs : List X) → items_tokens (items_outline (items_of (map f xs))) ≡ flat_map (λ x. data_tokens (f x)) xs ++ end_array ∷ []
unfolding data_tokens
values_tokens f [] = refl
values_tokens f (x ∷ xs) = ap (λ ts. data_tokens (f x) ++ ts) (values_tokens f xs) ∙ sym (append_assoc (data_tokens (f x)) (flat_map (λ y. data_tokens (f y)) xs) (end_array ∷ []))

pub array_written : {X : Type 0} {old begun all new : Written} (f : X → Data) (xs : List X) → Wrote old begun (begin_array ∷ []) → Wrote begun all (flat_map (λ x. data_tokens (f x)) xs) → Wrote all new (end_array ∷ [])
    → Wrote old new (data_tokens (array (items_of (map f xs))))
unfolding data_tokens
array_written f xs =
    around begin_array end_array (flat_map (λ x. data_tokens (f x)) xs) (data_tokens (array (items_of (map f xs)))) (ap (λ ts. begin_array ∷ ts) (values_tokens f xs))

-- the tokens of what is served of rows
served_tokens : {R X : Type 0} (item : X → Option Item) (now : R → X) (rows : List R)
    → items_tokens (items_outline (items_of (map (λ (i : Item). i.object) (filter_map item (map now rows))))) ≡ flat_map (λ r. value_tokens (object_in (item (now r)))) rows ++ end_array ∷ []
unfolding data_tokens
served_tokens item now [] = refl
served_tokens {R} {X} item now (r ∷ rows) =
    let rest = filter_map item (map now rows) in
    let left = flat_map (λ (s : R). value_tokens (object_in (item (now s)))) rows in
    let one : (o : Option Item) → items_tokens (items_outline (items_of (map (λ (i : Item). i.object) (cons_option o rest)))) ≡ value_tokens (object_in o) ++ items_tokens (items_outline (items_of (map (λ (i : Item). i.object) rest))) =
    elim [ None ↦ refl | (Some i) ↦ refl ] in
    one (item (now r)) ∙ (ap (λ ts. value_tokens (object_in (item (now r))) ++ ts) (served_tokens item now rows) ∙ sym (append_assoc (value_tokens (object_in (item (now r)))) left (end_array ∷ [])))

pub served_written : {R X : Type 0} {old begun all new : Written} (item : X → Option Item) (now : R → X) (rows : List R) → Wrote old begun (begin_array ∷ []) → Wrote begun all (flat_map (λ r. value_tokens (object_in (item (now r)))) rows)
    → Wrote all new (end_array ∷ []) → Wrote old new (data_tokens (array_of (filter_map item (map now rows))))
unfolding data_tokens
served_written {R} item now rows =
    around begin_array end_array (flat_map (λ (r : R). value_tokens (object_in (item (now r)))) rows) (data_tokens (array_of (filter_map item (map now rows)))) (ap (λ ts. begin_array ∷ ts) (served_tokens item now rows))

-- a value that was written into an empty text is its compact text
pub text_written : (d : Data) (begun all : Written) (empty bytes : List ℕ) → empty ≡ [] → begun.before ≡ empty → begun.tokens ≡ [] → Wrote begun all (data_tokens d) → bytes ≡ all.before ++ print all.tokens → bytes ≡ compact_text d
unfolding data_tokens
text_written d begun all empty bytes nothing before none wrote is =
    let tokens : all.tokens ≡ data_tokens d = rw none at wrote.tokens in
    is ∙ (rw (wrote.before, before, nothing, tokens) (print-outline d))
