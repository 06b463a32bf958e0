-- Lists of awards, and the teams that have one.
use Rattle.std.proofs.Common.{◌≡◌, ℕ, ◌+◌, ◌<◌, Bool, List, [], ◌∷◌, ◌++◌, length, take, get_or, map, filter, sym, ap, subst, ◌∙◌, All, append_assoc}
use Rattle.std.specs.Prelude.{codes, nat_lt}
use Rattle.std.proofs.lemmas.List.{map_more}
use Rattle.std.proofs.lemmas.List.Elements.{filter-append}
use Rattle.contest_types.specs.Setup.{Setup}
use Rattle.contest_types.specs.declared.contest.Medals.{Medals}
use Rattle.contest_score.specs.declared.row.Row.{Row}
use Rattle.contest_score.specs.Awards.{Award, award_to, listed, medals, ranks_after, winners}

-- the teams of the rows that win
abbrev pub teams_of : (Row → Bool) → List Row → List ℕ
teams_of test rows = map (λ (r : Row). r.team) (filter test (winners rows))

-- one more award, after those so far
pub listed_more : {X : Type 0} (f : X → Award) (xs : List X) (i : ℕ) (d : X) (start awards : List Award) (w : Award) → i < length xs → awards ≡ start ++ listed (map f (take i xs)) → w ≡ f (get_or xs i d) → awards ++ listed (w ∷ []) ≡ start ++ listed (map f (take (i + 1) xs))
listed_more f xs i d start awards w l h e =
    let more : listed (map f (take (i + 1) xs)) ≡ listed (map f (take i xs)) ++ listed (f (get_or xs i d) ∷ []) = ap listed (map_more f xs i d l) ∙ filter-append (λ (v : Award). nat_lt 0 (length v.teams)) (map f (take i xs)) (f (get_or xs i d) ∷ []) in
    rw (h, e, more) (append_assoc start (listed (map f (take i xs))) (listed (f (get_or xs i d) ∷ [])))

-- three parts added one after the other
listed_three : (start a b xs ys zs : List Award) → a ≡ start ++ listed xs → b ≡ a ++ listed ys → b ++ listed zs ≡ start ++ listed (xs ++ (ys ++ zs))
listed_three start a b xs ys zs ea eb =
    let has : Award → Bool = λ v. nat_lt 0 (length v.teams) in
    let parts : listed (xs ++ (ys ++ zs)) ≡ listed xs ++ (listed ys ++ listed zs) = filter-append has xs (ys ++ zs) ∙ ap (λ vs. listed xs ++ vs) (filter-append has ys zs) in
    let regroup : (p q r t : List Award) → ((p ++ q) ++ r) ++ t ≡ p ++ (q ++ (r ++ t)) = λ p q r t. append_assoc (p ++ q) r t ∙ append_assoc p q (r ++ t) in
    rw (eb, ea, parts) (regroup start (listed xs) (listed ys) (listed zs))

-- the medals, by the places that each kind has
pub medals_added : (s : Setup) (rows : List Row) (m : Medals) (start a b : List Award) (x y z : Award) → m ≡ s.head.medals
    → x ≡ award_to (codes "gold-medal") (codes "Gold medal") (ranks_after 0 m.gold) rows
    → y ≡ award_to (codes "silver-medal") (codes "Silver medal") (ranks_after m.gold m.silver) rows
    → z ≡ award_to (codes "bronze-medal") (codes "Bronze medal") (ranks_after (m.gold + m.silver) m.bronze) rows
    → a ≡ start ++ listed (x ∷ []) → b ≡ a ++ listed (y ∷ []) → b ++ listed (z ∷ []) ≡ start ++ listed (medals s rows)
medals_added s rows m start a b x y z is_m gold silver bronze ea eb =
    let medal : List ℕ → List ℕ → ℕ → ℕ → Award = λ id citation before count. award_to id citation (ranks_after before count) rows in
    let list : Medals → List Award = λ k.
    medal (codes "gold-medal") (codes "Gold medal") 0 k.gold
    ∷ medal (codes "silver-medal") (codes "Silver medal") k.gold k.silver
    ∷ medal (codes "bronze-medal") (codes "Bronze medal") (k.gold + k.silver) k.bronze
    ∷ [] in
    let three : Award → Award → Award → List Award = λ u v w. start ++ listed (u ∷ v ∷ w ∷ []) in
    listed_three start a b (x ∷ []) (y ∷ []) (z ∷ []) ea eb
    ∙ (ap (λ u. three u y z) gold ∙ (ap (λ v. three (medal (codes "gold-medal") (codes "Gold medal") 0 m.gold) v z) silver ∙ ap (λ w. three (medal (codes "gold-medal") (codes "Gold medal") 0 m.gold) (medal (codes "silver-medal") (codes "Silver medal") m.gold m.silver) w) bronze))
    ∙ ap (λ k. start ++ listed (list k)) is_m

-- a place of those in order is within their bound
pub place_within : (items order : List ℕ) (n i : ℕ) → items ≡ order → All (λ p. p < n) order → i < length items → get_or items i 0 < n
place_within items order n i e h l =
    let P : List ℕ → Type 0 = λ xs. All (λ p. p < n) xs in
    let all : All (λ p. p < n) items = subst P (sym e) h in
    all i 0 l
