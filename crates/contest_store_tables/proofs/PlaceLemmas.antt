-- Rows that leave a tree and come back changed.
use Rattle.std.proofs.Common.{◌≡◌, ◌∙◌, ◌++◌, ◌||◌, ◌&&◌, ℤ, Bool, true, false, not, cond, List, [], ◌∷◌, map, filter, refl, sym, ap, ap₂, IsTrue, IsPermutation, Ordering, Less, Equal, Greater, is_eq}
use Rattle.std.specs.List.{AllByRecursion, list_any}
use Rattle.std.specs.Ordering.{ordering_reverse}
use Rattle.std.proofs.lemmas.List.Sorted.{IsPermutation-refl, IsPermutation-cons, IsPermutation-trans, IsPermutation-sym, IsPermutation-middle, IsPermutation-append_right, list_any-IsPermutation}
use Rattle.sqlite.specs.Order.{Row}
use Rattle.sqlite.specs.Edit.{put_all, without_all, is_taken, are_fresh}
use Rattle.sqlite_rules.specs.Edit.{id_in, numbered}
use Rattle.sqlite_rules.proofs.TableLemmas.{int_is}
use Rattle.sqlite.specs.Rowids.TheVariants.{Given}
use Rattle.sqlite_value.specs.Order.{value_cmp}
use Rattle.sqlite_value.proofs.OrderLemmas.{value_cmp_total}
use Rattle.sqlite_trees.specs.Tree.{IsTable, rowid, has_rowid, put_row}
use Rattle.sqlite_trees.specs.View.{is_int}
use Rattle.contest_store_tables.proofs.InsertLemmas.{put_permutes}

self_equal : (o : Ordering) → o ≡ ordering_reverse o → o ≡ Equal
self_equal Less h = absurd (cc)
self_equal Equal h = refl
self_equal Greater h = absurd (cc)

-- ---- rows that are put where none has their numbers

fresh_first : (b c : Bool) → (not b && c) ≡ true → (b ≡ false) × (c ≡ true)
fresh_first true c h = cc
fresh_first false c h = (refl, h)

pub put_all_permutes : (rows news : List Row) → are_fresh rows news ≡ true → IsPermutation (news ++ rows) (put_all rows news)
put_all_permutes rows [] h = IsPermutation-refl rows
put_all_permutes rows (r ∷ news) h =
    let both = fresh_first (is_taken rows r) (are_fresh (put_row r rows) news) h in
    let first : IsPermutation (r ∷ (news ++ rows)) (news ++ r ∷ rows) = IsPermutation-sym _ _ (IsPermutation-middle news r rows) in
    let there : IsPermutation (news ++ r ∷ rows) (news ++ put_row r rows) = IsPermutation-append_right news _ _ (put_permutes r rows both.0) in
    IsPermutation-trans _ _ _ first (IsPermutation-trans _ _ _ there (put_all_permutes (put_row r rows) news both.1))

pub given_stay : (f : Row → Row) (rows sources : List Row) → numbered Given rows (map f sources) ≡ map f sources
given_stay f rows [] = refl
given_stay f rows (s ∷ sources) = ap (λ l. f s ∷ l) (given_stay f (put_row (f s) rows) sources)

-- ---- rows that leave by their numbers

filter_twice : {A : Type 0} (p q : A → Bool) (xs : List A) → filter q (filter p xs) ≡ filter (λ x. p x && q x) xs
filter_twice p q [] = refl
filter_twice {A} p q (x ∷ xs) = go (p x) (filter_twice p q xs)
  where
    go : (b : Bool) → filter q (filter p xs) ≡ filter (λ y. p y && q y) xs → filter q (cond b (x ∷ filter p xs) (filter p xs)) ≡ cond (b && q x) (x ∷ filter (λ y. p y && q y) xs) (filter (λ y. p y && q y) xs)
    go true more = ap (λ (l : List A). cond (q x) (x ∷ l) l) more
    go false more = more

filter_alike : {A : Type 0} (p q : A → Bool) (xs : List A) → AllByRecursion (λ x. p x ≡ q x) xs → filter p xs ≡ filter q xs
filter_alike p q [] h = refl
filter_alike p q (x ∷ xs) h = ap₂ (λ b l. cond b (x ∷ l) l) h.0 (filter_alike p q xs h.1)

each : {A : Type 0} (P : A → Type 0) → ((x : A) → P x) → (xs : List A) → AllByRecursion P xs
each P f [] = tt
each P f (x ∷ xs) = (f x, each P f xs)

none_of_two : (a b : Bool) → (not a && not b) ≡ not (a || b)
none_of_two true b = refl
none_of_two false b = refl

filter_all : {A : Type 0} (xs : List A) → filter (λ _. true) xs ≡ xs
filter_all [] = refl
filter_all (x ∷ xs) = ap (λ l. x ∷ l) (filter_all xs)

-- the row has one of these numbers
abbrev has_one : List ℤ → Row → Bool
has_one ids r = list_any (λ id. has_rowid id r) ids

left_by_ids : (rows : List Row) (ids : List ℤ) → without_all rows ids ≡ filter (λ r. not (has_one ids r)) rows
left_by_ids rows [] = sym (filter_all rows)
left_by_ids rows (id ∷ ids) =
    left_by_ids (filter (λ r. not (has_rowid id r)) rows) ids ∙ filter_twice (λ r. not (has_rowid id r)) (λ r. not (has_one ids r)) rows
    ∙ filter_alike _ _ rows (each _ (λ r. none_of_two (has_rowid id r) (has_one ids r)) rows)

abbrev key : Row → ℤ
key r = id_in (rowid r)

apart : (a b : Row) → IsTrue (is_int (rowid b)) → value_cmp (rowid a) (rowid b) ≡ Less → has_rowid (key b) a ≡ false
apart a b keyed lower = ap is_eq (ap (value_cmp (rowid a)) (sym (int_is (rowid b) keyed)) ∙ lower)

apart_above : (a b : Row) → IsTrue (is_int (rowid b)) → value_cmp (rowid b) (rowid a) ≡ Less → has_rowid (key b) a ≡ false
apart_above a b keyed lower = ap is_eq (ap (value_cmp (rowid a)) (sym (int_is (rowid b) keyed)) ∙ (value_cmp_total.antisymm (rowid a) (rowid b) ∙ ap ordering_reverse lower))

here : (r : Row) → IsTrue (is_int (rowid r)) → has_rowid (key r) r ≡ true
here r keyed = ap is_eq (ap (value_cmp (rowid r)) (sym (int_is (rowid r) keyed)) ∙ self_equal _ (value_cmp_total.antisymm (rowid r) (rowid r)))

module _ (p : Row → Bool) where
  abbrev chosen : List Row → List ℤ
  chosen rows = map key (filter p rows)

  none_above : (r : Row) (rows : List Row) → AllByRecursion (λ x. value_cmp (rowid r) (rowid x) ≡ Less) rows → AllByRecursion (λ x. IsTrue (is_int (rowid x))) rows → has_one (chosen rows) r ≡ false
  none_above r [] up keyed = refl
  none_above r (x ∷ rows) up keyed = go (p x) (none_above r rows up.1 keyed.1)
    where
      go : (b : Bool) → has_one (chosen rows) r ≡ false → has_one (map key (cond b (x ∷ filter p rows) (filter p rows))) r ≡ false
      go true more = ap₂ ◌||◌ (apart r x keyed.0 up.0) more
      go false more = more

  -- the numbers of the chosen rows are those of no others
  chosen_by : (rows : List Row) → IsTable rows → AllByRecursion (λ x. IsTrue (is_int (rowid x))) rows → AllByRecursion (λ x. has_one (chosen rows) x ≡ p x) rows
  chosen_by [] up keyed = tt
  chosen_by (r ∷ rows) up keyed = (first (p r) refl, later (p r) rows up.0 (chosen_by rows up.1 keyed.1))
    where
      first : (b : Bool) → p r ≡ b → has_one (map key (cond b (r ∷ filter p rows) (filter p rows))) r ≡ b
      first true e = ap (λ c. c || has_one (chosen rows) r) (here r keyed.0)
      first false e = none_above r rows up.0 keyed.1

      later : (b : Bool) (xs : List Row) → AllByRecursion (λ x. value_cmp (rowid r) (rowid x) ≡ Less) xs → AllByRecursion (λ x. has_one (chosen rows) x ≡ p x) xs
          → AllByRecursion (λ x. has_one (map key (cond b (r ∷ filter p rows) (filter p rows))) x ≡ p x) xs
      later b [] above h = tt
      later true (x ∷ xs) above h = (ap (λ c. c || has_one (chosen rows) x) (apart_above x r keyed.0 above.0) ∙ h.0, later true xs above.1 h.1)
      later false (x ∷ xs) above h = (h.0, later false xs above.1 h.1)

  not_chosen : (rows xs : List Row) (ids : List ℤ) → IsPermutation (chosen rows) ids → AllByRecursion (λ x. has_one (chosen rows) x ≡ p x) xs → AllByRecursion (λ x. not (has_one ids x) ≡ not (p x)) xs
  not_chosen rows [] ids same h = tt
  not_chosen rows (x ∷ xs) ids same h = (ap not (sym (list_any-IsPermutation (λ id. has_rowid id x) _ _ same) ∙ h.0), not_chosen rows xs ids same h.1)

  -- where the numbers of the chosen rows leave, the other rows are left
  pub left_over : (rows : List Row) (ids : List ℤ) → IsTable rows → AllByRecursion (λ x. IsTrue (is_int (rowid x))) rows → IsPermutation (chosen rows) ids → without_all rows ids ≡ filter (λ r. not (p r)) rows
  left_over rows ids up keyed same = left_by_ids rows ids ∙ filter_alike _ _ rows (not_chosen rows rows ids same (chosen_by rows up keyed))

-- ---- rows that come back changed

-- the chosen elements changed, and the others
pub changed_parts : {A B : Type 0} (p : A → Bool) (f g : A → B) (xs : List A) → IsPermutation (map f (filter p xs) ++ map g (filter (λ x. not (p x)) xs)) (map (λ x. cond (p x) (f x) (g x)) xs)
changed_parts p f g [] = IsPermutation-refl []
changed_parts p f g (x ∷ xs) = go (p x) (changed_parts p f g xs)
  where
    go : (b : Bool) → IsPermutation (map f (filter p xs) ++ map g (filter (λ y. not (p y)) xs)) (map (λ y. cond (p y) (f y) (g y)) xs)
        → IsPermutation (map f (cond b (x ∷ filter p xs) (filter p xs)) ++ map g (cond (not b) (x ∷ filter (λ y. not (p y)) xs) (filter (λ y. not (p y)) xs))) (cond b (f x) (g x) ∷ map (λ y. cond (p y) (f y) (g y)) xs)
    go true more = IsPermutation-cons (f x) _ _ more
    go false more = IsPermutation-trans _ _ _ (IsPermutation-middle (map f (filter p xs)) (g x) (map g (filter (λ y. not (p y)) xs))) (IsPermutation-cons (g x) _ _ more)
