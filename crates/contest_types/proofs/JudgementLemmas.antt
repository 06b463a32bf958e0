-- The judgements that an audience sees.
use Rattle.std.proofs.Common.{◌≡◌, ℕ, List, [], ◌∷◌, Option, Some, refl, ap, subst, inl, inr}
use Rattle.std.specs.Prelude.{◌↔◌}
use Rattle.std.specs.List.{filter_map}
use Rattle.contest_types.specs.Order.{Has}
use Rattle.contest_types.specs.State.{ContestState}
use Rattle.contest_types.specs.Sight.{seen_submissions}
use Rattle.contest_types.specs.Judging.{SeenJudgement, judged, seen_judgements}
use Rattle.contest_types.specs.Alike.{Alike, MayBeHeld}
use Rattle.contest_types.specs.SightLaws.{IsJudged}
use Rattle.contest_types.specs.declared.audience.Audience.{Audience}
use Rattle.contest_types.proofs.InOrderLemmas.{has_option, option_has}
use Rattle.contest_types.proofs.SightLemmas.{seen_alike}

-- what comes of a list where there is something comes from one of it
record FromSome {X Y : Type 0} (f : X → Option Y) (xs : List X) (y : Y) : Type 0 where
  item : X
  there : Has xs item
  gives : f item ≡ Some y

from_some : {X Y : Type 0} (f : X → Option Y) (xs : List X) (y : Y) → Has (filter_map f xs) y → FromSome f xs y
from_some f [] y h = absurd h
from_some f (x ∷ xs) y h =
    let later : FromSome f xs y → FromSome f (x ∷ xs) y = λ r. record { item = r.item; there = inr r.there; gives = r.gives } in
    elim (option_has (f x) (filter_map f xs) y h) [ inl e ↦ record { item = x; there = inl refl; gives = e } | inr t ↦ later (from_some f xs y t) ]

pub some_from : {X Y : Type 0} (f : X → Option Y) (xs : List X) (x : X) (y : Y) → Has xs x → f x ≡ Some y → Has (filter_map f xs) y
some_from f [] x y h e = absurd h
some_from f (z ∷ xs) x y h e = has_option (f z) (filter_map f xs) y (elim h [ inl same ↦ inl (subst (λ w. f w ≡ Some y) same e) | inr t ↦ inr (some_from f xs x y t e) ])

pub listed_judgements : (a : Audience) (now : ℕ) (x : ContestState) (v : SeenJudgement) → Has (seen_judgements a now x) v ↔ IsJudged a now x v
listed_judgements a now x v =
    let to : Has (seen_judgements a now x) v → IsJudged a now x v =
    λ h. (let r = from_some judged (seen_submissions a now x) v h in record { submission = r.item; there = r.there; has = r.gives }) in
    (to, λ i. some_from judged (seen_submissions a now x) i.submission v i.there i.has)

pub judgements_alike : (a : Audience) (now : ℕ) (x y : ContestState) → MayBeHeld a now x → Alike a x y → seen_judgements a now x ≡ seen_judgements a now y
judgements_alike a now x y m h = ap (filter_map judged) (seen_alike a now x y m h)
