-- Who hears what goes to a group.
use Rattle.std.proofs.Common.{◌≡◌, ◌⊎◌, ℕ, zero, suc, ◌+◌, ◌-◌, ◌≤◌, Bool, true, false, List, [], ◌∷◌, ◌++◌, length, refl, ◌∙◌, ap, subst, inl, inr, arith}
use Rattle.std.specs.Prelude.{◌↔◌, ◌&&◌, ◌==◌, nat_lt, slice_get}
use Rattle.std.specs.List.{list_any, list_all}
use Rattle.std.specs.Option.{option_map_or}
use Rattle.std.proofs.lemmas.Bool.{false≢true}
use Rattle.std.proofs.lemmas.Bool.Decides.{nat_tests}
use Rattle.contest_types.specs.Setup.{Setup, refers}
use Rattle.contest_types.specs.TeamPlaces.{is_of_group}
use Rattle.contest_types.specs.Masks.{audience_at}
use Rattle.contest_types.specs.Sight.{hears}
use Rattle.contest_types.specs.SightLaws.{IsTeamOf}
use Rattle.contest_types.specs.declared.audience.Audience.{Audience}
use Rattle.contest_types.specs.declared.audience.Audience.TheVariants as audience
use Rattle.contest_types.specs.declared.clarification.Addressee.{Addressee}
use Rattle.contest_types.specs.declared.clarification.Addressee.TheVariants as addressee
use Rattle.contest_types.specs.declared.objects.Team.{Team}
use Rattle.contest_types.proofs.PlaceLemmas.{and_left, and_right, both_false, both_true}

-- the one before a number that isn't 0 has that number after it
before_it : (number : ℕ) → nat_lt 0 number ≡ true → number ≡ number - 1 + 1
before_it number h = grind (arith, nat_tests)

who_hears : (a : Audience) (s : Setup) (group : ℕ) → hears a s (addressee.Group group) ≡ true → (a ≡ audience.Jury) ⊎ IsTeamOf s group a
who_hears audience.Public s group h = absurd (false≢true h)
who_hears (audience.Team number) s group h =
    inr (record { team = number - 1; speaks = ap audience.Team (before_it number (and_left _ _ h)); there = and_right (nat_lt 0 number) _ h })
who_hears audience.Jury s group h = inl refl

-- a number is the one after the one before it
after_it : (team : ℕ) → (nat_lt 0 (team + 1) ≡ true) × (team ≡ team + 1 - 1)
after_it team = (grind (arith, nat_tests), omega arith)

pub team_hears : (s : Setup) (group team : ℕ) → is_of_group s group team ≡ true → hears (audience_at team) s (addressee.Group group) ≡ true
team_hears s group team h =
    let number = after_it team in
    both_true _ _ number.0 (subst (λ u. is_of_group s group u ≡ true) number.1 h)

they_hear : (a : Audience) (s : Setup) (group : ℕ) → (a ≡ audience.Jury) ⊎ IsTeamOf s group a → hears a s (addressee.Group group) ≡ true
they_hear a s group h = elim h [
  | inl jury ↦ ap (λ b. hears b s (addressee.Group group)) jury
  | inr i ↦ ap (λ b. hears b s (addressee.Group group)) i.speaks ∙ team_hears s group i.team i.there
]

pub group_heard : (a : Audience) (s : Setup) (group : ℕ) → (hears a s (addressee.Group group) ≡ true) ↔ ((a ≡ audience.Jury) ⊎ IsTeamOf s group a)
group_heard a s group = (who_hears a s group, they_hear a s group)

pub public_hears_none : (s : Setup) (group : ℕ) → hears audience.Public s (addressee.Group group) ≡ false
public_hears_none s group = refl

-- what is heard goes by the teams of the settings alone
pub hears_by_teams : (a : Audience) (m n : Setup) → m.teams ≡ n.teams → (to : Addressee) → hears a m to ≡ hears a n to
hears_by_teams a m n e addressee.All = refl
hears_by_teams audience.Public m n e (addressee.Group group) = refl
hears_by_teams (audience.Team number) m n e (addressee.Group group) =
    ap (λ (ts : List Team). nat_lt 0 number && option_map_or (λ (v : Team). list_any (λ g. g == group) v.groups) (slice_get ts (number - 1)) false) e
hears_by_teams audience.Jury m n e (addressee.Group group) = refl
hears_by_teams a m n e (addressee.Team team) = refl

-- a team is in each group that it was in when one more team is there
still_of_group : (ts : List Team) (t : Team) (group u : ℕ) → option_map_or (λ (v : Team). list_any (λ g. g == group) v.groups) (slice_get ts u) false ≡ true
    → option_map_or (λ (v : Team). list_any (λ g. g == group) v.groups) (slice_get (ts ++ t ∷ []) u) false ≡ true
still_of_group [] t group u h = absurd (false≢true h)
still_of_group (v ∷ ts) t group zero h = h
still_of_group (v ∷ ts) t group (suc u) h = still_of_group ts t group u h

-- and it hears no less then
pub hears_with_team : (s : Setup) (t : Team) (a : Audience) (to : Addressee) → hears a s to ≡ true → hears a (record s { teams = s.teams ++ t ∷ [] }) to ≡ true
hears_with_team s t a addressee.All h = refl
hears_with_team s t audience.Public (addressee.Group group) h = h
hears_with_team s t (audience.Team number) (addressee.Group group) h = both_true _ _ (and_left _ _ h) (still_of_group s.teams t group (number - 1) (and_right (nat_lt 0 number) _ h))
hears_with_team s t audience.Jury (addressee.Group group) h = refl
hears_with_team s t a (addressee.Team team) h = h

pub not_below : (g n group : ℕ) → nat_lt g n ≡ true → n ≤ group → (g == group) ≡ false
not_below g n group h l = grind (arith, nat_tests)

in_none : (gs : List ℕ) (n group : ℕ) → list_all (λ g. nat_lt g n) gs ≡ true → n ≤ group → list_any (λ g. g == group) gs ≡ false
in_none [] n group h l = refl
in_none (g ∷ gs) n group h l = both_false (g == group) _ (not_below g n group (and_left _ _ h) l) (in_none gs n group (and_right (nat_lt g n) _ h) l)

teams_in_none : (ts : List Team) (n group u : ℕ) → list_all (refers n) ts ≡ true → n ≤ group → option_map_or (λ (v : Team). list_any (λ g. g == group) v.groups) (slice_get ts u) false ≡ false
teams_in_none [] n group u h l = refl
teams_in_none (t ∷ ts) n group zero h l = in_none t.groups n group (and_left _ _ h) l
teams_in_none (t ∷ ts) n group (suc u) h l = teams_in_none ts n group u (and_right (refers n t) _ h) l

and_none : (a b : Bool) → b ≡ false → (a && b) ≡ false
and_none true b h = h
and_none false b h = refl

-- no team is in a group that isn't there, so none hears what goes to it
pub unheard_group : (a : Audience) (s : Setup) (group : ℕ) → list_all (refers (length s.groups)) s.teams ≡ true → length s.groups ≤ group
    → (hears a s (addressee.Group group) ≡ false) ⊎ (a ≡ audience.Jury)
unheard_group audience.Public s group h l = inl refl
unheard_group (audience.Team number) s group h l = inl (and_none (nat_lt 0 number) _ (teams_in_none s.teams (length s.groups) group (number - 1) h l))
unheard_group audience.Jury s group h l = inr refl
