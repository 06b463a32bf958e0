-- What the sort of the problems goes by.
-- Words of private functions: nothing public is said with them.
use Rattle.std.specs.Prelude.{◌≡◌, ◌<◌, List, length}
use Rattle.contest_types.specs.declared.objects.Problem.{Problem}
use Rattle.contest_types.specs.declared.problem_key.ProblemKey.{ProblemKey}
use Rattle.contest_types.specs.ProblemPlaces.{ordinal_at, problem_id_at}

-- the key is that of the problem at its place
pub record TellsProblem (ps : List Problem) (k : ProblemKey) : Type 0 where
  pub within : k.place < length ps
  pub ordinal : k.ordinal ≡ ordinal_at ps k.place
  pub id : k.id.now ≡ problem_id_at ps k.place
