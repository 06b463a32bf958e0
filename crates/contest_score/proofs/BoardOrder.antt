-- The standings of the shown teams follow the order of the board.
use Rattle.std.proofs.Common.{◌≡◌, ℕ, suc, ◌+◌, ◌<◌, ◌≤◌, Bool, false, cond, List, [], ◌∷◌, length, get_or, refl, sym, ap, ◌∙◌, arith, Ordering, map, All, Bor, inl, inr}
use Rattle.std.specs.List.{count_by, range_with_len, Contains}
use Rattle.std.specs.List.Sorted.{IsPermutation, IsSorted, IsSortedByClosure}
use Rattle.std.specs.Fn.{Called}
use Rattle.std.proofs.lemmas.Fn.{always_returns_same}
use denote.Param.Members.{Mut}
use Rattle.std.specs.Cmp.{IsTotalOrder}
use Rattle.std.specs.Ordering.{nat_cmp, is_lt, ordering_reverse, ordering_then}
use Rattle.std.specs.Cmp.Lexicographic.{slice_cmp}
use Rattle.std.specs.declared.cmp.Ordering.TheVariants.{Less, Equal, Greater}
use Rattle.std.proofs.lemmas.List.{length-map}
use Rattle.std.proofs.lemmas.List.Sums.{sum_by-cons, length-filter, count_by-le-length}
use Rattle.std.proofs.lemmas.List.FromFn.{length-range_with_len}
use Rattle.contest_types.proofs.InOrder.{in_tail, place_moved}
use Rattle.std.proofs.lemmas.List.Sorted.{All-permutation, length_permutation, ranks_by}
use Rattle.std.proofs.lemmas.List.Elements.{Contains-get_or}
use Rattle.std.proofs.lemmas.List.Kept.{IsStrictlyIncreasing-filter}
use Rattle.std.proofs.lemmas.Cmp.{nat_cmp_total, nat_list_cmp_total, then_total, on_total, tied_itself}
use Rattle.std.proofs.lemmas.Map.Lookups.{exact_bytes, exact_unsigned}
use Rattle.std.proofs.lemmas.Bool.{false≢true}
use Rattle.std.proofs.lemmas.Bool.Decides.{nat_tests}
use Rattle.contest_score.specs.declared.cell.Cell.{Cell}
use Rattle.contest_types.specs.declared.objects.Team.{Team}
use Rattle.contest_score.specs.declared.standing.Standing.{Standing}
use Rattle.contest_types.specs.declared.limits.TheConstants.{TEAMS}
use Rattle.contest_types.specs.Setup.{Setup, IsValid}
use Rattle.contest_score.specs.Keys.{TellsTeam, by_score, standing_cmp, rank_in, row_in, ranked}
use Rattle.contest_score.specs.Ranking.{in_order, place_in, row_cmp, row_of, rank_of, score_of_team, beats, shown_teams, name_at, team_id_at, board_rows}
use Rattle.contest_types.proofs.KeyOrder.{Follows, sorted_keys, range_rises}
use Rattle.contest_score.proofs.Ranks.{by_score_total, count_agree, ranked_rows}
use Rattle.contest_types.proofs.ProblemOrder.{then_equal}
use Rattle.contest_types.proofs.Different.{one_place}
use Rattle.contest_types.proofs.InOrderLemmas.{place_less}
use Rattle.contest_types.specs.Order.{Has}
use Rattle.contest_types.proofs.Rising.{place_tied}

standing_cmp_total : IsTotalOrder standing_cmp
standing_cmp_total = then_total by_score_total (then_total (on_total (λ (k : Standing). k.name.now) nat_list_cmp_total) (on_total (λ (k : Standing). k.id.now) nat_list_cmp_total))

pub row_cmp_total : (s : Setup) (shown : ℕ → Bool) (cells : ℕ → ℕ → Cell) → IsTotalOrder (row_cmp s shown cells)
row_cmp_total s shown cells = then_total (on_total (rank_of s shown cells) nat_cmp_total) (then_total (on_total (name_at s) nat_list_cmp_total) (on_total (team_id_at s) nat_list_cmp_total))

beats_told : (s : Setup) (cells : ℕ → ℕ → Cell) (a b : Standing) → TellsTeam s cells a → TellsTeam s cells b → beats (score_of_team s cells a.place) (score_of_team s cells b.place) ≡ is_lt (by_score a b)
beats_told s cells a b ta tb = rw (ta.score, tb.score) refl

pub count_by_map : {X Y : Type 0} (p : Y → Bool) (f : X → Y) (xs : List X) → count_by p (map f xs) ≡ count_by (λ x. p (f x)) xs
count_by_map p f [] = refl
count_by_map p f (x ∷ xs) = sum_by-cons (λ y. cond (p y) 1 0) (f x) (map f xs) ∙ (ap (λ n. cond (p (f x)) 1 0 + n) (count_by_map p f xs) ∙ sym (sum_by-cons (λ y. cond (p (f y)) 1 0) x xs))

-- the rank by counting over the shown teams is the rank in the standings
rank_told : (s : Setup) (shown : ℕ → Bool) (cells : ℕ → ℕ → Cell) (keys : List Standing) → map (λ (k : Standing). k.place) keys ≡ shown_teams s shown → All (TellsTeam s cells) keys → (k : Standing) → TellsTeam s cells k → rank_of s shown cells k.place ≡ rank_in keys k
rank_told s shown cells keys places told k t =
    let better : ℕ → Bool = λ w. beats (score_of_team s cells w) (score_of_team s cells k.place) in
    let count : count_by better (shown_teams s shown) ≡ place_in by_score keys k =
    ap (count_by better) (sym places) ∙ (count_by_map better (λ (y : Standing). y.place) keys ∙ count_agree (λ y. better y.place) (λ y. is_lt (by_score y k)) keys (λ i d l. beats_told s cells (get_or keys i d) k (told i d l) t)) in
    ap (λ n. 1 + n) count

-- what the list contains stands in it
contained : {X : Type 0} (xs : List X) (x : X) → Contains xs x → Has xs x
contained [] x (k, l, e) = absurd (omega (arith, l))
contained (y ∷ xs) x c = elim (in_tail y xs x c) [ inl e ↦ inl (sym e) | inr t ↦ inr (contained xs x t) ]

-- a standing of the list, which tells its team
pub record Stands (s : Setup) (cells : ℕ → ℕ → Cell) (keys : List Standing) (k : Standing) : Type 0 where
  pub told : TellsTeam s cells k
  pub listed : Contains keys k

less_nat : (m n : ℕ) → nat_cmp m n ≡ Less → m < n
less_nat m n h = grind (arith, nat_tests)

one_team : (s : Setup) → IsValid s → (u w : ℕ) → u < length s.teams → w < length s.teams → team_id_at s u ≡ team_id_at s w → u ≡ w
one_team s v u w l m e = one_place (λ (t : Team). t.id) s.teams v.teams u w l m e

-- of teams that tie, the rank is one; a better one has a smaller rank
tied_rank : (s : Setup) (shown : ℕ → Bool) (cells : ℕ → ℕ → Cell) (keys : List Standing) → map (λ (k : Standing). k.place) keys ≡ shown_teams s shown → All (TellsTeam s cells) keys → (a b : Standing) → TellsTeam s cells a → TellsTeam s cells b → by_score a b ≡ Equal → rank_of s shown cells a.place ≡ rank_of s shown cells b.place
tied_rank s shown cells keys places told a b ta tb e =
    rank_told s shown cells keys places told a ta ∙ (ap (λ n. 1 + n) (place_tied by_score_total keys a b e) ∙ sym (rank_told s shown cells keys places told b tb))

less_rank : (s : Setup) (shown : ℕ → Bool) (cells : ℕ → ℕ → Cell) (keys : List Standing) → map (λ (k : Standing). k.place) keys ≡ shown_teams s shown → All (TellsTeam s cells) keys → (a b : Standing) → TellsTeam s cells a → Stands s cells keys b → by_score b a ≡ Less → rank_of s shown cells b.place < rank_of s shown cells a.place
less_rank s shown cells keys places told a b ta tb e =
    let fewer : place_in by_score keys b < place_in by_score keys a = place_less by_score_total keys b a (contained keys b tb.listed) e in
    rw (rank_told s shown cells keys places told a ta, rank_told s shown cells keys places told b tb.told) (omega (arith, fewer))

equal_nat : (m n : ℕ) → m ≡ n → nat_cmp m n ≡ Equal
equal_nat m n h = rw (h, tied_itself nat_cmp_total n) refl

less_both : (m n : ℕ) (z o : Ordering) → nat_cmp m n ≡ o → n < m → ordering_then (nat_cmp m n) z ≡ Less → ⊥
less_both m n z Less e l h = omega (arith, less_nat m n e)
less_both m n z Equal e l h = omega (arith, exact_unsigned m n e)
less_both m n z Greater e l h = absurd (false≢true (ap is_lt (rw e at h)))

not_less : (m n : ℕ) (z : Ordering) → n < m → ordering_then (nat_cmp m n) z ≡ Less → ⊥
not_less m n z l h = less_both m n z (nat_cmp m n) refl l h

-- the standings' order follows the rows'
standing_less : (s : Setup) (shown : ℕ → Bool) (cells : ℕ → ℕ → Cell) (keys : List Standing) → map (λ (k : Standing). k.place) keys ≡ shown_teams s shown → All (TellsTeam s cells) keys → (a b : Standing) → Stands s cells keys a → Stands s cells keys b → row_cmp s shown cells a.place b.place ≡ Less → (o : Ordering) → by_score a b ≡ o → standing_cmp a b ≡ Less
standing_less s shown cells keys places told a b sa sb h Less e = rw e refl
standing_less s shown cells keys places told a b sa sb h Equal e =
    let same : nat_cmp (rank_of s shown cells a.place) (rank_of s shown cells b.place) ≡ Equal = equal_nat _ _ (tied_rank s shown cells keys places told a b sa.told sb.told e) in
    let rest : ordering_then (slice_cmp nat_cmp (name_at s a.place) (name_at s b.place)) (slice_cmp nat_cmp (team_id_at s a.place) (team_id_at s b.place)) ≡ Less = rw same at h in
    rw (e, sa.told.name, sb.told.name, sa.told.id, sb.told.id) rest
standing_less s shown cells keys places told a b sa sb h Greater e =
    let back : by_score b a ≡ Less = by_score_total.antisymm b a ∙ ap ordering_reverse e in
    absurd (not_less _ _ _ (less_rank s shown cells keys places told a b sa.told sb back) h)

follows : (s : Setup) → IsValid s → (shown : ℕ → Bool) (cells : ℕ → ℕ → Cell) (keys : List Standing) → map (λ (k : Standing). k.place) keys ≡ shown_teams s shown → All (TellsTeam s cells) keys → Follows standing_cmp (λ k. k.place) (Stands s cells keys) (row_cmp s shown cells)
follows s v shown cells keys places told = record {
  less = λ a b sa sb h. standing_less s shown cells keys places told a b sa sb h _ refl;
  exact = λ a b sa sb h. one_team s v a.place b.place sa.told.within sb.told.within (exact_bytes _ _ (then_equal _ _ (then_equal _ _ h)));
}

-- the places of the sorted standings are the shown teams in order
pub teams_sorted : (s : Setup) → IsValid s → (shown : ℕ → Bool) (cells : ℕ → ℕ → Cell) (keys ks : List Standing) → IsPermutation keys ks → map (λ (k : Standing). k.place) keys ≡ shown_teams s shown → All (TellsTeam s cells) keys → IsSorted standing_cmp ks → map (λ (k : Standing). k.place) ks ≡ in_order (row_cmp s shown cells) (shown_teams s shown)
teams_sorted s v shown cells keys ks p places told up =
    let stand = λ (i : ℕ) (d : Standing) (l : i < length keys). (let r : Stands s cells keys (get_or keys i d) = record { told = told i d l; listed = Contains-get_or keys i d l } in r) in
    let rise = IsStrictlyIncreasing-filter shown (range_with_len 0 (length s.teams)) (range_rises 0 (length s.teams)) in
    rw places at (sorted_keys standing_cmp_total (λ (k : Standing). k.place) (Stands s cells keys) (row_cmp_total s shown cells) (follows s v shown cells keys places told) keys ks p stand up (rw places rise))

then_not_less : (x y : Ordering) → is_lt (ordering_then x y) ≡ false → is_lt x ≡ false
then_not_less Less y h = h
then_not_less Equal y h = refl
then_not_less Greater y h = refl

-- a sort by score, name and id is one by score
score_sorted : (ks : List Standing) → IsSorted standing_cmp ks → IsSorted by_score ks
score_sorted ks up k d l h = then_not_less _ _ (up k d l h)

map_agree : {X Y Z : Type 0} (f : X → Z) (g : Y → Z) (h : X → Y) (xs : List X) → ((i : ℕ) (d : X) → i < length xs → f (get_or xs i d) ≡ g (h (get_or xs i d))) → map f xs ≡ map g (map h xs)
map_agree f g h [] same = refl
map_agree f g h (x ∷ xs) same =
    let rest : map f xs ≡ map g (map h xs) = map_agree f g h xs (λ i d l. same (suc i) d (omega (arith, l))) in
    rw (same 0 x (omega arith), rest) refl

-- what a sort by such comparisons leaves
pub sorted_standings : {F : Type 0} {g : Mut F (Bor Standing × (Bor Standing × Unit {0})) Ordering} {f : F} (ks : List Standing) → IsSortedByClosure g f ks → ((a : Bor Standing × (Bor Standing × Unit {0})) (r : Ordering) (h : F) → Called g f a r h → (r ≡ standing_cmp a.0.now a.1.0.now) × (h ≡ f)) → IsSorted standing_cmp ks
sorted_standings {g = g} {f = f} ks up same =
    up (λ x y. is_lt (standing_cmp x y)) (ranks_by standing_cmp_total (λ k. k))
    (always_returns_same g (λ a r. is_lt r ≡ is_lt (standing_cmp a.0.now a.1.0.now)) f (λ a r h k. (ap is_lt (same a r h k).0, (same a r h k).1)))

-- sorted, the standings of the shown teams make the rows of the board
pub rows_in_order : (s : Setup) → IsValid s → (shown : ℕ → Bool) (cells : ℕ → ℕ → Cell) (keys ks : List Standing) → IsPermutation keys ks → map (λ (k : Standing). k.place) keys ≡ shown_teams s shown → All (TellsTeam s cells) keys → IsSorted standing_cmp ks → ranked [] ks ≡ board_rows s shown cells
rows_in_order s v shown cells keys ks p places told up =
    let told_too = All-permutation (TellsTeam s cells) keys ks p told in
    let same = λ (i : ℕ) (d : Standing) (l : i < length ks). (
    let k : Standing = get_or ks i d in
    let t : TellsTeam s cells k = told_too i d l in
    let rank : rank_in ks k ≡ rank_of s shown cells k.place = sym (rank_told s shown cells keys places told k t ∙ ap (λ n. 1 + n) (place_moved by_score keys ks p k)) in
    let row : row_in ks k ≡ row_of s shown cells k.place = rw (rank, t.score, t.row) refl in
    row) in
    ranked_rows ks (score_sorted ks up) [] ks refl
    ∙ (map_agree (row_in ks) (row_of s shown cells) (λ (k : Standing). k.place) ks same ∙ ap (map (row_of s shown cells)) (teams_sorted s v shown cells keys ks p places told up))

pub few_standings : (s : Setup) → IsValid s → (shown : ℕ → Bool) (keys ks : List Standing) → IsPermutation keys ks → map (λ (k : Standing). k.place) keys ≡ shown_teams s shown → length ks ≤ TEAMS
few_standings s v shown keys ks p places =
    omega (arith, length_permutation keys ks p, ap length places, length-map keys (λ (k : Standing). k.place), length-filter shown (range_with_len 0 (length s.teams)), count_by-le-length shown (range_with_len 0 (length s.teams)), length-range_with_len 0 (length s.teams), v.few_teams)
