-- The ids of what teams and judges make, which the Contest API 2023-06 leaves to the server (their forms are
-- own). Teams are numbered from 1. A number counts what its own team made, or what was released on its own
-- submission; that of a clarification to all counts those to all, and that of one to a group those to that group.
-- Groups are numbered from 1 too.
use Rattle.std.specs.Prelude.{ℕ, ◌+◌, List, ◌++◌, codes}
use Rattle.std.specs.Fmt.{decimal}
use Rattle.contest_types.specs.declared.clarification.Addressee.{Addressee}
use Rattle.contest_types.specs.declared.clarification.Addressee.TheVariants.{All as ToAll, Group as ToGroup, Team as ToTeam}

-- `s<team number>-<number>`
abbrev pub submission_id : (team number : ℕ) → List ℕ
submission_id team number = codes "s" ++ (decimal (team + 1) ++ (codes "-" ++ decimal number))

-- `<submission id>.<round>`
abbrev pub judgement_id : (team number round : ℕ) → List ℕ
judgement_id team number round = submission_id team number ++ (codes "." ++ decimal round)

-- `g-<number>` for one to all, `g<group number>-<number>` for one to a group, `c<team number>-<number>` for one of
-- a team
abbrev pub clarification_id : Addressee → ℕ → List ℕ
clarification_id ToAll number = codes "g-" ++ decimal number
clarification_id (ToGroup group) number = codes "g" ++ decimal (group + 1) ++ codes "-" ++ decimal number
clarification_id (ToTeam team) number = codes "c" ++ decimal (team + 1) ++ codes "-" ++ decimal number
