-- Whether contests are alike, shown team by team.
use Rattle.std.proofs.Common.{◌≡◌, ◌⊎◌, ℕ, zero, suc, ◌<◌, ◌≤◌, Bool, true, false, [], length, map, refl, sym, ◌∙◌, ap, subst, inl, inr, arith}
use Rattle.std.specs.Prelude.{nat_le, if◌then◌else◌}
use Rattle.std.specs.List.{list_any, list_all}
use Rattle.std.proofs.lemmas.Bool.{false≢true, cases_lt}
use Rattle.std.proofs.lemmas.Bool.Decides.{nat_tests}
use Rattle.std.proofs.lemmas.Option.{slice_get_past}
use Rattle.contest_types.specs.Setup.{Setup, refers}
use Rattle.contest_types.specs.TeamPlaces.{is_public}
use Rattle.contest_types.specs.Masks.{owns}
use Rattle.contest_types.specs.State.{FixedPart, ContestState, clarifications_to}
use Rattle.contest_types.specs.Alike.{OwnRecord, OpenRecord, OpenClarification, open_clarification, TeamSight, Whole, Open, Nothing, sight_of, told_of, Alike}
use Rattle.contest_types.specs.declared.audience.Audience.{Audience}
use Rattle.contest_types.specs.declared.audience.Audience.TheVariants as audience
use Rattle.contest_types.specs.declared.clarification.Addressee.{Addressee}
use Rattle.contest_types.specs.declared.clarification.Addressee.TheVariants as addressee
use Rattle.contest_types.proofs.GroupLemmas.{unheard_group}

-- at each number below n
abbrev pub AtEach : (ℕ → Type 0) → ℕ → Type 0
AtEach P zero = Unit {0}
AtEach P (suc n) = P n × AtEach P n

last_or_before : (k n : ℕ) → k < suc n → (n ≡ k) ⊎ (k < n)
last_or_before k n h = grind arith

at_each : (P : ℕ → Type 0) (n : ℕ) → AtEach P n → (k : ℕ) → k < n → P k
at_each P zero h k l = absurd (omega (arith, l))
at_each P (suc n) h k l = elim (last_or_before k n l) [ inl e ↦ subst P e h.0 | inr m ↦ at_each P n h.1 k m ]

-- the public, or one of the first n teams
abbrev pub is_within : Audience → ℕ → Bool
is_within audience.Public n = true
is_within (audience.Team number) n = nat_le number n
is_within audience.Jury n = false

owns_none : (number n team : ℕ) → nat_le number n ≡ true → n ≤ team → owns (audience.Team number) team ≡ false
owns_none number n team h l = grind (arith, nat_tests)

past_all : (a : Audience) (n team : ℕ) → is_within a n ≡ true → n ≤ team → owns a team ≡ false
past_all audience.Public n team h l = refl
past_all (audience.Team number) n team h l = owns_none number n team h l
past_all audience.Jury n team h l = absurd (false≢true h)

hears_none : (a : Audience) (x : ContestState) (n team : ℕ) → is_within a n ≡ true → n ≤ team → told_of a x (addressee.Team team) ≡ []
hears_none audience.Public x n team h l = refl
hears_none (audience.Team number) x n team h l = rw (owns_none number n team h l) refl
hears_none audience.Jury x n team h l = absurd (false≢true h)

no_jury : (a : Audience) (n : ℕ) → is_within a n ≡ true → a ≡ audience.Jury → ⊥
no_jury a n h jury = false≢true (sym (ap (λ b. is_within b n) jury) ∙ h)

hears_no_group : (a : Audience) (x : ContestState) (group : ℕ) → is_within a (length x.fixed.settings.teams) ≡ true → list_all (refers (length x.fixed.settings.groups)) x.fixed.settings.teams ≡ true
    → length x.fixed.settings.groups ≤ group → told_of a x (addressee.Group group) ≡ []
hears_no_group a x group w r l = elim (unheard_group a x.fixed.settings group r l) [
  | inl unheard ↦ ap (λ b. if b then map (open_clarification a x.fixed.settings) (clarifications_to (addressee.Group group) x.clarifications) else []) unheard
  | inr jury ↦ absurd (no_jury a _ w jury)
]

no_team : (s : Setup) (team : ℕ) → length s.teams ≤ team → is_public s team ≡ false
no_team s team l = rw (slice_get_past s.teams team l) refl

sees_nothing : (a : Audience) (x : ContestState) (team : ℕ) → is_within a (length x.fixed.settings.teams) ≡ true → length x.fixed.settings.teams ≤ team → sight_of a x team ≡ Nothing
sees_nothing a x team h l = rw (past_all a _ team h l, no_team x.fixed.settings team l) refl

-- it is enough to look at the teams and groups that are there
pub alike_within : (a : Audience) (x y : ContestState) → is_within a (length x.fixed.settings.teams) ≡ true → list_all (refers (length x.fixed.settings.groups)) x.fixed.settings.teams ≡ true → x.fixed ≡ y.fixed
    → AtEach (λ team. sight_of a x team ≡ sight_of a y team) (length x.fixed.settings.teams)
    → told_of a x addressee.All ≡ told_of a y addressee.All
    → AtEach (λ group. told_of a x (addressee.Group group) ≡ told_of a y (addressee.Group group)) (length x.fixed.settings.groups)
    → AtEach (λ team. told_of a x (addressee.Team team) ≡ told_of a y (addressee.Team team)) (length x.fixed.settings.teams)
    → Alike a x y
alike_within a x y w r f sights all groups told =
    let w' : is_within a (length y.fixed.settings.teams) ≡ true = subst (λ (g : FixedPart). is_within a (length g.settings.teams) ≡ true) f w in
    let r' : list_all (refers (length y.fixed.settings.groups)) y.fixed.settings.teams ≡ true = subst (λ (g : FixedPart). list_all (refers (length g.settings.groups)) g.settings.teams ≡ true) f r in
    let past : (group : ℕ) → length x.fixed.settings.groups ≤ group → length y.fixed.settings.groups ≤ group = λ group. subst (λ (g : FixedPart). length g.settings.groups ≤ group) f in
    let too : (team : ℕ) → length x.fixed.settings.teams ≤ team → length y.fixed.settings.teams ≤ team = λ team. subst (λ (g : FixedPart). length g.settings.teams ≤ team) f in
    let heard : (to : Addressee) → told_of a x to ≡ told_of a y to = elim [
      | addressee.All ↦ all
      | (addressee.Group group) ↦ elim (cases_lt group (length x.fixed.settings.groups)) [
        | inl l ↦ at_each (λ g. told_of a x (addressee.Group g) ≡ told_of a y (addressee.Group g)) _ groups group l
        | inr l ↦ hears_no_group a x group w r l ∙ sym (hears_no_group a y group w' r' (past group l))
      ]
      | (addressee.Team team) ↦ elim (cases_lt team (length x.fixed.settings.teams)) [
        | inl l ↦ at_each (λ t. told_of a x (addressee.Team t) ≡ told_of a y (addressee.Team t)) _ told team l
        | inr l ↦ hears_none a x _ team w l ∙ sym (hears_none a y _ team w l)
      ]
    ] in
    record {
      fixed = f;
      teams = λ team. elim (cases_lt team (length x.fixed.settings.teams)) [
        | inl l ↦ at_each (λ t. sight_of a x t ≡ sight_of a y t) _ sights team l
        | inr l ↦ sees_nothing a x team w l ∙ sym (sees_nothing a y team w' (too team l))
      ];
      told = heard;
    }

-- what a test tells apart isn't equal
apart : {X : Type 0} (test : X → Bool) (u v : X) → test u ≡ true → test v ≡ false → u ≡ v → ⊥
apart test u v t f e = false≢true (sym f ∙ (ap test (sym e) ∙ t))

-- some own submission, or some of another team, passes
abbrev pub some_own : (OwnRecord → Bool) → TeamSight → Bool
some_own test (Whole rs) = list_any test rs
some_own test (Open rs) = false
some_own test Nothing = false

abbrev pub some_open : (OpenRecord → Bool) → TeamSight → Bool
some_open test (Whole rs) = false
some_open test (Open rs) = list_any test rs
some_open test Nothing = false

-- contests that a test of what is compared tells apart aren't alike
pub unlike_teams : (a : Audience) (x y : ContestState) (team : ℕ) (test : TeamSight → Bool) → test (sight_of a x team) ≡ true → test (sight_of a y team) ≡ false → Alike a x y → ⊥
unlike_teams a x y team test t f h = apart test _ _ t f (h.teams team)

pub unlike_talk : (a : Audience) (x y : ContestState) (to : Addressee) (test : OpenClarification → Bool) → list_any test (told_of a x to) ≡ true → list_any test (told_of a y to) ≡ false → Alike a x y → ⊥
unlike_talk a x y to test t f h = apart (list_any test) _ _ t f (h.told to)

pub unlike_fixed : (a : Audience) (x y : ContestState) (test : FixedPart → Bool) → test x.fixed ≡ true → test y.fixed ≡ false → Alike a x y → ⊥
unlike_fixed a x y test t f h = apart test _ _ t f h.fixed
