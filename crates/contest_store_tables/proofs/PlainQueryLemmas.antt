-- What a query over one table gives that asks for no order.
use Rattle.std.proofs.Common.{◌≡◌, ◌∙◌, ◌++◌, ℕ, Bool, true, false, cond, List, [], ◌∷◌, map, filter, flat_map, None, false, refl, sym, ap, subst, subst₂, IsPermutation, pos, negsuc}
use Rattle.std.specs.List.{list_all}
use Rattle.std.proofs.lemmas.List.Sorted.{IsPermutation-map}
use Rattle.sqlite.specs.declared.types.Value.TheVariants.{Int}
use Rattle.sqlite.specs.Order.{Row}
use Rattle.sqlite.specs.Term.{Term, lit, eval_all}
use Rattle.sqlite_sql.specs.Term.{holds}
use Rattle.sqlite.specs.Query.{Query, inner, end, IsAnswer, output, Output}
use Rattle.sqlite.specs.Program.{overlay}
use Rattle.sqlite_trees.specs.Tree.{Trees}
use Rattle.sqlite_keyed.proofs.ListLemmas.{map-map}

one_kept : {A B : Type 0} (b : Bool) (f : A → B) (x : A) (xs : List A) (ys : List B) → ys ≡ map f xs → cond b (f x ∷ []) [] ++ ys ≡ map f (cond b (x ∷ xs) xs)
one_kept true f x xs ys e = ap (λ l. f x ∷ l) e
one_kept false f x xs ys e = e

kept_of_each : {A B : Type 0} (p : A → Bool) (f : A → B) (xs : List A) → flat_map (λ x. cond (p x) (f x ∷ []) []) xs ≡ map f (filter p xs)
kept_of_each p f [] = refl
kept_of_each p f (x ∷ xs) = one_kept (p x) f x (filter p xs) _ (kept_of_each p f xs)

abbrev pub plain_query : ℕ → (filter project : List Term) → Query
plain_query tree terms project = record {
  from = inner tree end;
  filter = terms;
  group = None;
  project = project;
  distinct = false;
  collations = [];
  order = [];
  limit = lit (Int (negsuc 0));
  offset = lit (Int (pos 0));
}

-- each row that passes the terms, in some order
pub plain_answer : (tree : ℕ) (terms project : List Term) (params : Row) (db : Trees) (rows : List Row) → overlay db [] tree ≡ db tree → IsAnswer (plain_query tree terms project) (overlay db []) params rows
    → IsPermutation (map (λ r. eval_all project (params ∷ r ∷ [])) (filter (λ r. list_all (holds (params ∷ r ∷ [])) terms) (db tree))) rows
plain_answer tree terms project params db rows over a =
    let q = plain_query tree terms project in
    let kept_rows = filter (λ r. list_all (holds (params ∷ r ∷ [])) terms) (db tree) in
    let staged : a.staged ≡ map (λ r. params ∷ r ∷ []) kept_rows =
    a.grouped ∙ kept_of_each (λ r. list_all (holds (params ∷ r ∷ [])) terms) (λ r. params ∷ r ∷ []) (overlay db [] tree) ∙ ap (λ l. map (λ r. params ∷ r ∷ []) (filter (λ r. list_all (holds (params ∷ r ∷ [])) terms) l)) over in
    let kept : a.kept ≡ map (λ r. ([], eval_all project (params ∷ r ∷ []))) kept_rows = a.distinct ∙ ap (map (output q)) staged ∙ map-map (output q) _ kept_rows in
    let same = IsPermutation-map (λ (o : Output). o.1) _ _ (subst (λ k. IsPermutation k a.ordered) kept a.same) in
    subst₂ IsPermutation (map-map (λ (o : Output). o.1) _ kept_rows) (sym a.shown) same
