-- Rows that are seen, listed and looked up, whatever is served of them.
use Rattle.std.proofs.Common.{◌≡◌, ◌∙◌, ℕ, true, List, map, Option, Some, sym, ap, subst}
use Rattle.std.specs.Prelude.{◌↔◌, bytes_eq}
use Rattle.std.specs.Cmp.{IsTotalOrder}
use Rattle.std.specs.List.{IsDistinct, filter_map}
use Rattle.std.specs.List.Sorted.{IsPermutation, IsSorted}
use Rattle.std.specs.Option.{option_map, option_and_then}
use Rattle.std.specs.Ordering.{eq_by_cmp, is_lt}
use Rattle.std.specs.declared.cmp.Ordering.{Ordering}
use Rattle.std.proofs.lemmas.Cmp.{eq_by_cmp_equiv}
use Rattle.std.proofs.lemmas.List.Sorted.{IsPermutation-sym}
use Rattle.std.proofs.lemmas.Map.Keys.{IsDistinct-IsPermutation}
use Rattle.std.proofs.lemmas.Slice.Eq.{bytes_eq-Decides}
use Rattle.serde_json.specs.Written.{compact_text}
use Rattle.contest_types.specs.Order.{Has, IsInOrder}
use Rattle.contest_types.proofs.InOrderLemmas.{map_has}
use Rattle.contest_objects.specs.Items.{Item, IsListed, IsOrderOf, array_of, found_in}
use Rattle.contest_objects.proofs.ListingLemmas.{ShownOf, find_alike, served_all, shown_in_order, shown_of, sorted_unmap, unmap}
use Rattle.contest_objects.proofs.Sorting.{moved_has, rises}
use Rattle.contest_types.proofs.JudgementLemmas.{some_from}

-- what is seen of rows, in order: no two rows tie, and whoever lists just that in order has the same list
pub record IsSeenOf {X V : Type 0} (rows : List X) (show : X → Option V) (R : X → X → Ordering) (S : V → V → Ordering) (seen : List V) : Type 0 where
  pub total : IsTotalOrder R
  pub apart : IsDistinct (eq_by_cmp R) rows
  pub keeps : (x y : X) (v w : V) → show x ≡ Some v → show y ≡ Some w → R x y ≡ S v w
  pub has : (v : V) → Has seen v ↔ ShownOf show rows v
  pub alone : (vs : List V) → IsInOrder (λ v w. is_lt (S v w)) vs → ((v : V) → Has vs v ↔ ShownOf show rows v) → vs ≡ seen

-- what is shown of the rows in their order is what is seen
in_turn : {X V : Type 0} (rows : List X) (show : X → Option V) (R : X → X → Ordering) (S : V → V → Ordering) (seen : List V) → IsSeenOf rows show R S seen
    → (ys : List X) → IsPermutation rows ys → IsSorted R ys → filter_map show ys ≡ seen
in_turn {X} {V} rows show R S seen s ys p up =
    let e = eq_by_cmp R in
    let apart : IsDistinct e ys = IsDistinct-IsPermutation e (eq_by_cmp_equiv s.total).symm rows ys p s.apart in
    let keeps : (x y : X) (v w : V) → show x ≡ Some v → show y ≡ Some w → is_lt (R x y) ≡ true → is_lt (S v w) ≡ true = λ x y v w f g h. ap is_lt (sym (s.keeps x y v w f g)) ∙ h in
    s.alone (filter_map show ys) (shown_in_order (λ x y. is_lt (R x y)) (λ v w. is_lt (S v w)) show keeps ys (rises s.total ys up apart)) (λ v. (
      (λ h. let f = shown_of show ys v h in record { row = f.row; there = moved_has ys rows f.row (IsPermutation-sym rows ys p) f.there; is = f.is }),
      (λ f. some_from show ys f.row v (moved_has rows ys f.row p f.there) f.is),
    ))

-- what is served of a row as it is loaded is what is served of what is seen of it
abbrev pub Serves : {X Y V : Type 0} → (X → Option V) → (load : X → Y) → (item : Y → Option Item) → (of : V → Option Item) → Type 0
Serves {X} show load item of = (x : X) → item (load x) ≡ option_and_then of (show x)

-- so what is served of the rows in their order is what is served of what is seen
pub items_are : {X Y V : Type 0} (rows : List X) (show : X → Option V) (load : X → Y) (T : Y → Y → Ordering) (S : V → V → Ordering) (seen : List V) → IsSeenOf rows show (λ x y. T (load x) (load y)) S seen
    → (item : Y → Option Item) (of : V → Option Item) → Serves show load item of → (order : List Y) → IsOrderOf T (map load rows) order → filter_map item order ≡ filter_map of seen
items_are rows show load T S seen s item of serves order l =
    let u = unmap load rows order l.moved in
    let up : IsSorted (λ x y. T (load x) (load y)) u.from = sorted_unmap load (λ x y. is_lt (T x y)) u.from (subst (IsSorted T) u.is l.sorted) in
    ap (filter_map item) u.is ∙ (served_all item load show of serves u.from ∙ ap (filter_map of) (in_turn rows show (λ x y. T (load x) (load y)) S seen s u.from u.moved up))

-- the text of an array, by what is served of the rows in any order in which they are listed
pub listed_text : {X : Type 0} (item : X → Option Item) (cmp : X → X → Ordering) (rows : List X) (items : List Item) (text : List ℕ) → IsListed item cmp rows text
    → ((order : List X) → IsOrderOf cmp rows order → filter_map item order ≡ items) → text ≡ compact_text (array_of items)
listed_text item cmp rows items text l are = l.is ∙ ap (λ is. compact_text (array_of is)) (are l.order l.listed)

-- no two rows are served under one id
abbrev pub HaveOwnIds : {X Y : Type 0} → List X → (load : X → Y) → (item : Y → Option Item) → Type 0
HaveOwnIds {X} rows load item = (x y : X) (i j : Item) → Has rows x → Has rows y → item (load x) ≡ Some i → item (load y) ≡ Some j → i.id ≡ j.id → x ≡ y

-- and the object with an id is that of what is seen
pub found_is : {X Y V : Type 0} (rows : List X) (show : X → Option V) (load : X → Y) (T : Y → Y → Ordering) (S : V → V → Ordering) (seen : List V) → IsSeenOf rows show (λ x y. T (load x) (load y)) S seen
    → (item : Y → Option Item) (of : V → Option Item) → Serves show load item of → HaveOwnIds rows load item → (id : List ℕ) → found_in (filter_map item (map load rows)) id ≡ found_in (filter_map of seen) id
found_is {X} {Y} {V} rows show load T S seen s item of serves own id =
    let loaded = filter_map item (map load rows) in
    let same : loaded ≡ filter_map of (filter_map show rows) = served_all item load show of serves rows in
    let to : (i : Item) → Has loaded i → Has (filter_map of seen) i = λ i h.
    (let f = shown_of of (filter_map show rows) i (subst (λ is. Has is i) same h) in
    some_from of seen f.row i ((s.has f.row).1 (shown_of show rows f.row f.there)) f.is) in
    let from : (i : Item) → Has (filter_map of seen) i → Has loaded i = λ i h.
    (let f = shown_of of seen i h in
    let g = (s.has f.row).0 f.there in
    subst (λ is. Has is i) (sym same) (some_from of (filter_map show rows) f.row i (some_from show rows g.row f.row g.there g.is) f.is)) in
    let one : (i j : Item) → Has loaded i → Has loaded j → bytes_eq i.id id ≡ true → bytes_eq j.id id ≡ true → i ≡ j = λ i j hi hj pi pj.
    (let f = shown_of item (map load rows) i hi in
    let g = shown_of item (map load rows) j hj in
    let x = map_has load rows f.row f.there in
    let y = map_has load rows g.row g.there in
    let is : item (load x.item) ≡ Some i = ap item (sym x.is) ∙ f.is in
    let it : item (load y.item) ≡ Some j = ap item (sym y.is) ∙ g.is in
    let both : x.item ≡ y.item = own x.item y.item i j x.there y.there is it ((bytes_eq-Decides i.id id).0 pi ∙ sym ((bytes_eq-Decides j.id id).0 pj)) in
    cc (sym is ∙ (ap (λ r. item (load r)) both ∙ it))) in
    ap (option_map (λ (i : Item). i.object)) (find_alike (λ (i : Item). bytes_eq i.id id) loaded (filter_map of seen) to from one)
