-- Settings whose lists grow at their ends.
use Rattle.std.proofs.Common.{◌≡◌, ◌∙◌, ◌<◌, ◌≤◌, ℕ, zero, suc, true, List, [], ◌∷◌, ◌++◌, length, append-nil, refl, sym, ap, arith}
use Rattle.std.specs.Prelude.{nat_lt, slice_get}
use Rattle.std.proofs.lemmas.List.{length-append}
use Rattle.contest_types.specs.Growing.{IsFront}
use Rattle.contest_types.specs.Setup.{Setup}
use Rattle.contest_types.specs.declared.objects.JudgementType.{JudgementType}
use Rattle.contest_types.specs.declared.objects.Language.{Language}
use Rattle.contest_types.specs.declared.objects.Problem.{Problem}
use Rattle.contest_types.specs.declared.objects.Group.{Group}
use Rattle.contest_types.specs.declared.objects.Team.{Team}
use Rattle.contest_types.proofs.SetupLemmas.{below_wider}

pub front_same : {X : Type 0} (xs : List X) → IsFront xs xs
front_same xs = ([], sym (append-nil xs))

pub front_more : {X : Type 0} (xs : List X) (x : X) → IsFront xs (xs ++ x ∷ [])
front_more xs x = (x ∷ [], refl)

pub no_shorter : {X : Type 0} (xs ys : List X) → IsFront xs ys → length xs ≤ length ys
no_shorter xs ys (more, e) = omega (arith, ap length e, length-append xs more)

pub still_below : {X : Type 0} (xs ys : List X) (i : ℕ) → IsFront xs ys → nat_lt i (length xs) ≡ true → nat_lt i (length ys) ≡ true
still_below xs ys i front h = below_wider (length xs) (length ys) i (no_shorter xs ys front) h

-- what stands in the front of a list stands there in the list
pub at_append : {X : Type 0} (xs more : List X) (i : ℕ) → i < length xs → slice_get (xs ++ more) i ≡ slice_get xs i
at_append [] more i l = absurd (omega (arith, l))
at_append (x ∷ xs) more zero l = refl
at_append (x ∷ xs) more (suc i) l = at_append xs more i (omega (arith, l))

pub at_front : {X : Type 0} (xs ys : List X) (i : ℕ) → IsFront xs ys → i < length xs → slice_get ys i ≡ slice_get xs i
at_front xs ys i (more, e) l = ap (λ zs. slice_get zs i) e ∙ at_append xs more i l

-- the second has the rows of the first in front of its own
pub record HasFronts (s t : Setup) : Type 0 where
  pub types : IsFront s.types t.types
  pub languages : IsFront s.languages t.languages
  pub problems : IsFront s.problems t.problems
  pub groups : IsFront s.groups t.groups
  pub teams : IsFront s.teams t.teams

module _ (s : Setup) where
  pub same_lists : HasFronts s s
  same_lists = record { types = front_same _; languages = front_same _; problems = front_same _; groups = front_same _; teams = front_same _ }

  pub one_type : (t : JudgementType) → HasFronts s (record s { types = s.types ++ t ∷ [] })
  one_type t = record { types = front_more _ t; languages = front_same _; problems = front_same _; groups = front_same _; teams = front_same _ }

  pub one_language : (l : Language) → HasFronts s (record s { languages = s.languages ++ l ∷ [] })
  one_language l = record { types = front_same _; languages = front_more _ l; problems = front_same _; groups = front_same _; teams = front_same _ }

  pub one_problem : (p : Problem) → HasFronts s (record s { problems = s.problems ++ p ∷ [] })
  one_problem p = record { types = front_same _; languages = front_same _; problems = front_more _ p; groups = front_same _; teams = front_same _ }

  pub one_group : (g : Group) → HasFronts s (record s { groups = s.groups ++ g ∷ [] })
  one_group g = record { types = front_same _; languages = front_same _; problems = front_same _; groups = front_more _ g; teams = front_same _ }

  pub one_team : (t : Team) → HasFronts s (record s { teams = s.teams ++ t ∷ [] })
  one_team t = record { types = front_same _; languages = front_same _; problems = front_same _; groups = front_same _; teams = front_more _ t }
