-- Rows in an order, and what is served of them.
use Rattle.std.proofs.Common.{◌≡◌, ◌<◌, ◌+◌, ℕ, Bool, true, false, inl, inr, List, [], ◌∷◌, ◌++◌, append_assoc, map, take, get_or, length, Option, Some, None, refl, sym, ap, subst, ◌∙◌, arith}
use Rattle.std.specs.Prelude.{bytes_eq, find, if◌then◌else◌}
use Rattle.std.specs.List.{cons_option, filter_map, swap}
use Rattle.std.specs.List.Sorted.{IsPermutation, IsSortedBy, SwapsInRange, apply_swaps}
use Rattle.std.specs.Option.{option_map, option_and_then, option_to_list}
use Rattle.std.proofs.Math.ListN.{get_or-map as mapped_at, set}
use Rattle.std.proofs.lemmas.List.{get_or-map, length-map, map-set, take_more}
use Rattle.std.proofs.lemmas.List.Elements.{filter_map-append}
use Rattle.serde_json.specs.Data.{Data}
use Rattle.contest_types.specs.Order.{Has, IsBefore, IsInOrder}
use Rattle.contest_types.proofs.InOrderLemmas.{find_has, found_in as has_found, none_passes, option_has}
use Rattle.contest_types.proofs.Rising.{find_passes}
use Rattle.contest_objects.specs.Items.{Item, found_in, has_this_id, object_in}

-- an exchange in a map is one in the list
swap_map : {X Y : Type 0} (f : X → Y) (xs : List X) (i j : ℕ) → map f (swap xs i j) ≡ swap (map f xs) i j
swap_map f [] i j = refl
swap_map f (d ∷ ys) i j =
    let l = d ∷ ys in
    let a : get_or (map f l) j (f d) ≡ f (get_or l j d) = mapped_at f l j d in
    let b : get_or (map f l) i (f d) ≡ f (get_or l i d) = mapped_at f l i d in
    map-set f (set l i (get_or l j d)) j (get_or l i d) ∙ (ap (λ m. set m j (f (get_or l i d))) (map-set f l i (get_or l j d)) ∙ (rw (a, b) refl))

swaps_map : {X Y : Type 0} (f : X → Y) (xs : List X) (ms : List (ℕ × ℕ)) → map f (apply_swaps xs ms) ≡ apply_swaps (map f xs) ms
swaps_map f xs [] = refl
swaps_map f xs (m ∷ ms) = swap_map f (apply_swaps xs ms) m.0 m.1 ∙ ap (λ l. swap l m.0 m.1) (swaps_map f xs ms)

-- a permutation of a map is the map of one
pub record Unmapped {X Y : Type 0} (f : X → Y) (xs : List X) (ys : List Y) : Type 0 where
  pub from : List X
  pub moved : IsPermutation xs from
  pub is : ys ≡ map f from

pub unmap : {X Y : Type 0} (f : X → Y) (xs : List X) (ys : List Y) → IsPermutation (map f xs) ys → Unmapped f xs ys
unmap f xs ys p = record {
  from = apply_swaps xs p.moves;
  moved = record { moves = p.moves; below = subst (λ n. SwapsInRange n p.moves) (length-map xs f) p.below; is = refl };
  is = p.is ∙ sym (swaps_map f xs p.moves);
}

-- a map is sorted where the list is by what it gives
pub sorted_map : {X Y : Type 0} (f : X → Y) (lt : Y → Y → Bool) (xs : List X) → IsSortedBy (λ a b. lt (f a) (f b)) xs → IsSortedBy lt (map f xs)
sorted_map f lt [] up k d low l = absurd (omega (arith, l))
sorted_map f lt (x ∷ xs) up k d low l =
    let many = length-map (x ∷ xs) f in
    let next : k + 1 < length (x ∷ xs) = omega (arith, l, many) in
    let here : k < length (x ∷ xs) = omega (arith, next) in
    let one : get_or (map f (x ∷ xs)) k d ≡ f (get_or (x ∷ xs) k x) = get_or-map f (x ∷ xs) k x d here in
    let two : get_or (map f (x ∷ xs)) (k + 1) d ≡ f (get_or (x ∷ xs) (k + 1) x) = get_or-map f (x ∷ xs) (k + 1) x d next in
    rw (one, two) (up k x low next)

pub sorted_unmap : {X Y : Type 0} (f : X → Y) (lt : Y → Y → Bool) (xs : List X) → IsSortedBy lt (map f xs) → IsSortedBy (λ a b. lt (f a) (f b)) xs
sorted_unmap f lt xs up k d low l =
    let many = length-map xs f in
    let next : k + 1 < length (map f xs) = omega (arith, l, many) in
    let one : get_or (map f xs) k (f d) ≡ f (get_or xs k d) = mapped_at f xs k d in
    let two : get_or (map f xs) (k + 1) (f d) ≡ f (get_or xs (k + 1) d) = mapped_at f xs (k + 1) d in
    rw (one, two) at (up k (f d) low next)

-- the first row that is served under an id has the object that is found
one_found : (id : List ℕ) (o : Option Item) (items : List Item) (rest : Option Data) → found_in items id ≡ rest
    → found_in (cons_option o items) id ≡ (if has_this_id id o then object_in o else rest)
one_found id None items rest h = h
one_found id (Some i) items rest h =
    let go : (b : Bool) → object_in (if b then Some i else find (λ (j : Item). bytes_eq j.id id) items) ≡ (if b then Some i.object else rest) = elim [ true ↦ refl | false ↦ h ] in
    go (bytes_eq i.id id)

among : {X : Type 0} (item : X → Option Item) (rows : List X) (id : List ℕ) → found_in (filter_map item rows) id ≡ option_and_then (λ r. object_in (item r)) (find (λ r. has_this_id id (item r)) rows)
among item [] id = refl
among {X} item (r ∷ rows) id =
    let rest = option_and_then (λ (s : X). object_in (item s)) (find (λ (s : X). has_this_id id (item s)) rows) in
    let go : (b : Bool) → (if b then object_in (item r) else rest) ≡ option_and_then (λ (s : X). object_in (item s)) (if b then Some r else find (λ (s : X). has_this_id id (item s)) rows) = elim [ true ↦ refl | false ↦ refl ] in
    one_found id (item r) (filter_map item rows) rest (among item rows id) ∙ go (has_this_id id (item r))

pub found_among : {X : Type 0} (item : X → Option Item) (rows : List X) (id : List ℕ) (o : Option X) → find (λ r. has_this_id id (item r)) rows ≡ o
    → option_and_then (λ r. object_in (item r)) o ≡ found_in (filter_map item rows) id
found_among {X} item rows id o e = sym (among item rows id ∙ ap (option_and_then (λ (r : X). object_in (item r))) e)

-- what has an id is served
pub served_under : (id : List ℕ) (o : Option Item) → has_this_id id o ≡ true → (i : Item) × (o ≡ Some i)
served_under id None h = absurd (cc h)
served_under id (Some i) h = (i, refl)

-- of rows that stand in order, what is shown does too
shown_before : {X Y : Type 0} (before : X → X → Bool) (after : Y → Y → Bool) (show : X → Option Y) → ((x y : X) (v w : Y) → show x ≡ Some v → show y ≡ Some w → before x y ≡ true → after v w ≡ true)
    → (x : X) (v : Y) → show x ≡ Some v → (xs : List X) → IsBefore before x xs → IsBefore after v (filter_map show xs)
shown_before before after show keeps x v e [] h = tt
shown_before {X} {Y} before after show keeps x v e (y ∷ ys) h =
    let rest = shown_before before after show keeps x v e ys h.1 in
    let go : (o : Option Y) → show y ≡ o → IsBefore after v (cons_option o (filter_map show ys)) = elim [ None ↦ λ f. rest | (Some w) ↦ λ f. (keeps x y v w e f h.0, rest) ] in
    go (show y) refl

pub shown_in_order : {X Y : Type 0} (before : X → X → Bool) (after : Y → Y → Bool) (show : X → Option Y) → ((x y : X) (v w : Y) → show x ≡ Some v → show y ≡ Some w → before x y ≡ true → after v w ≡ true)
    → (xs : List X) → IsInOrder before xs → IsInOrder after (filter_map show xs)
shown_in_order before after show keeps [] h = tt
shown_in_order {X} {Y} before after show keeps (x ∷ xs) h =
    let rest = shown_in_order before after show keeps xs h.1 in
    let go : (o : Option Y) → show x ≡ o → IsInOrder after (cons_option o (filter_map show xs)) = elim [ None ↦ λ e. rest | (Some v) ↦ λ e. (shown_before before after show keeps x v e xs h.0, rest) ] in
    go (show x) refl

-- what is shown is shown of a row
pub record ShownOf {X Y : Type 0} (show : X → Option Y) (xs : List X) (v : Y) : Type 0 where
  pub row : X
  pub there : Has xs row
  pub is : show row ≡ Some v

pub shown_of : {X Y : Type 0} (show : X → Option Y) (xs : List X) (v : Y) → Has (filter_map show xs) v → ShownOf show xs v
shown_of show [] v h = absurd h
shown_of show (x ∷ xs) v h =
    let later : ShownOf show xs v → ShownOf show (x ∷ xs) v = λ r. record { row = r.row; there = inr r.there; is = r.is } in
    elim (option_has (show x) (filter_map show xs) v h) [ inl e ↦ record { row = x; there = inl refl; is = e } | inr t ↦ later (shown_of show xs v t) ]

pub shown_where : {V : Type 0} (b : Bool) → b ≡ true → (v : V) → (if b then Some v else None) ≡ Some v
shown_where true e v = refl
shown_where false e v = absurd (cc e)

pub where_shown : {V : Type 0} (b : Bool) (v w : V) → (if b then Some v else None) ≡ Some w → (b ≡ true) × (w ≡ v)
where_shown true v w e = (refl, (let same : v ≡ w = cc e in sym same))
where_shown false v w e = absurd (cc e)

-- what is served of rows is what is served of all that is shown of them
pub served_all : {X Y V Z : Type 0} (item : Y → Option Z) (load : X → Y) (show : X → Option V) (of : V → Option Z) → ((x : X) → item (load x) ≡ option_and_then of (show x))
    → (xs : List X) → filter_map item (map load xs) ≡ filter_map of (filter_map show xs)
served_all item load show of served [] = refl
served_all {X} {Y} {V} {Z} item load show of served (x ∷ xs) =
    let rest = served_all item load show of served xs in
    let go : (o : Option V) → cons_option (option_and_then of o) (filter_map item (map load xs)) ≡ filter_map of (cons_option o (filter_map show xs)) = elim [ None ↦ rest | (Some v) ↦ ap (cons_option (of v)) rest ] in
    ap (λ o. cons_option o (filter_map item (map load xs))) (served x) ∙ go (show x)

-- what is shown of one more
pub next_shown : {X Y : Type 0} (show : X → Option Y) (xs : List X) (i : ℕ) (d : X) (before after : List Y) → i < length xs → before ≡ filter_map show (take i xs)
    → after ≡ before ++ option_to_list (show (get_or xs i d)) → after ≡ filter_map show (take (i + 1) xs)
next_shown {X} {Y} show xs i d before after l was is =
    let one : (o : Option Y) → cons_option o [] ≡ option_to_list o = elim [ None ↦ refl | (Some y) ↦ refl ] in
    is ∙ (ap (λ ys. ys ++ option_to_list (show (get_or xs i d))) was
    ∙ sym (ap (filter_map show) (take_more xs i d l) ∙ (filter_map-append show (take i xs) (get_or xs i d ∷ []) ∙ ap (λ ys. filter_map show (take i xs) ++ ys) (one (show (get_or xs i d))))))

pub each_served : {X Z : Type 0} (item : X → Option Z) (f : X → Z) → ((x : X) → item x ≡ Some (f x)) → (xs : List X) → filter_map item xs ≡ map f xs
each_served item f all [] = refl
each_served item f all (x ∷ xs) = rw (all x) (ap (λ zs. f x ∷ zs) (each_served item f all xs))

-- where all are served, each is
pub all_served : {V Z : Type 0} (f : V → Z) (vs : List V) → filter_map (λ v. Some (f v)) vs ≡ map f vs
all_served f [] = refl
all_served f (v ∷ vs) = ap (λ zs. f v ∷ zs) (all_served f vs)

pub mapped_served : {V W Z : Type 0} (f : W → Z) (g : V → Option W) (vs : List V) → filter_map (λ v. option_map f (g v)) vs ≡ map f (filter_map g vs)
mapped_served f g [] = refl
mapped_served {V} {W} {Z} f g (v ∷ vs) =
    let rest = mapped_served f g vs in
    let go : (o : Option W) → cons_option (option_map f o) (filter_map (λ u. option_map f (g u)) vs) ≡ map f (cons_option o (filter_map g vs)) = elim [ None ↦ rest | (Some w) ↦ ap (λ zs. f w ∷ zs) rest ] in
    go (g v)

-- the same of rows that are looked at through a map
pub mapped_through : {R X Z W : Type 0} (f : Z → W) (item : X → Option Z) (now : R → X) (rows : List R) → filter_map (λ r. option_map f (item (now r))) rows ≡ map f (filter_map item (map now rows))
mapped_through f item now [] = refl
mapped_through {R} {X} {Z} {W} f item now (r ∷ rows) =
    let rest = mapped_through f item now rows in
    let go : (o : Option Z) → cons_option (option_map f o) (filter_map (λ s. option_map f (item (now s))) rows) ≡ map f (cons_option o (filter_map item (map now rows))) = elim [ None ↦ rest | (Some z) ↦ ap (λ ws. f z ∷ ws) rest ] in
    go (item (now r))

-- what is shown of one more, behind what was there
pub next_behind : {X Y : Type 0} (show : X → Option Y) (xs : List X) (i : ℕ) (d : X) (old before after : List Y) → i < length xs → before ≡ old ++ filter_map show (take i xs)
    → after ≡ before ++ option_to_list (show (get_or xs i d)) → after ≡ old ++ filter_map show (take (i + 1) xs)
next_behind show xs i d old before after l was is =
    let so_far = filter_map show (take i xs) in
    let one = option_to_list (show (get_or xs i d)) in
    is ∙ (ap (λ ys. ys ++ one) was ∙ (append_assoc old so_far one ∙ ap (λ ys. old ++ ys) (next_shown show xs i d so_far (so_far ++ one) l refl refl)))

-- of lists with the same elements, of which one passes, the same is found
pub find_alike : {X : Type 0} (p : X → Bool) (xs ys : List X) → ((z : X) → Has xs z → Has ys z) → ((z : X) → Has ys z → Has xs z)
    → ((z w : X) → Has xs z → Has xs w → p z ≡ true → p w ≡ true → z ≡ w) → find p xs ≡ find p ys
find_alike {X} p xs ys to from one =
    let none : find p xs ≡ None → (o : Option X) → find p ys ≡ o → o ≡ None = λ e. elim [
      | None ↦ λ f. refl
      | (Some z) ↦ λ f. absurd (none_passes p xs z e (from z (find_has p ys z f)) (find_passes p ys z f))
    ] in
    let go : (o : Option X) → find p xs ≡ o → o ≡ find p ys = elim [
      | None ↦ λ e. sym (none e (find p ys) refl)
      | (Some x) ↦ λ e.
          let there = find_has p xs x e in
          let passes = find_passes p xs x e in
          let f = has_found p ys x (to x there) passes in
          ap Some (one x f.item there (from f.item f.there) passes f.passes) ∙ sym f.found
    ] in
    go (find p xs) refl
