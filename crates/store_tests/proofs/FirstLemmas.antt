-- The first row of each list may be added.
use Rattle.std.proofs.Common.{◌≡◌, [], false, refl}
use Rattle.std.specs.Prelude.{codes}
use Rattle.std.specs.Str.{bytes_eq}
use Rattle.contest_types.specs.declared.account.Account.{Account}
use Rattle.contest_types.specs.declared.account.Role.TheVariants as role
use Rattle.contest_types.specs.declared.entry.Entry.TheVariants.{NewType, NewLanguage, NewProblem, NewGroup, NewTeam, NewAccount, NewRejudging}
use Rattle.contest_types.specs.declared.objects.JudgementType.{JudgementType}
use Rattle.contest_types.specs.declared.objects.Language.{Language}
use Rattle.contest_types.specs.declared.objects.Problem.{Problem}
use Rattle.contest_types.specs.declared.objects.Group.{Group}
use Rattle.contest_types.specs.declared.objects.Team.{Team}
use Rattle.contest_types.specs.declared.rejudging.Rejudging.{Rejudging}
use Rattle.contest_types.specs.declared.rejudging.RejudgingState.TheVariants as state
use Rattle.store_tests.specs.FirstChanges.{MayBeFirst}

pub first_type : (t : JudgementType) → MayBeFirst (NewType t)
first_type t f bare = rw bare.types refl

pub first_language : (l : Language) → MayBeFirst (NewLanguage l)
first_language l f bare = rw bare.languages refl

pub first_problem : (p : Problem) → MayBeFirst (NewProblem p)
first_problem p f bare = rw bare.problems refl

pub first_group : (g : Group) → MayBeFirst (NewGroup g)
first_group g f bare = rw bare.groups refl

pub first_team : (t : Team) → t.groups ≡ [] → MayBeFirst (NewTeam t)
first_team t none f bare = rw (bare.teams, none) refl

pub first_judge : (a : Account) → a.role ≡ role.Judge → bytes_eq a.id (codes "import") ≡ false → MayBeFirst (NewAccount a)
first_judge a judges other f bare = rw (bare.accounts, judges, other) refl

pub first_rejudging : (r : Rejudging) → r.members ≡ [] → r.state ≡ state.Applied → MayBeFirst (NewRejudging r)
first_rejudging r none applied f bare = rw (none, applied) refl
