-- When two rows of the settings are equal in content: field by field.
use Rattle.std.specs.Prelude.{◌&&◌, Bool, nat_eq}
use Rattle.std.specs.Str.{bytes_eq}
use Rattle.std.proofs.Math.Bool.{beq}
use Rattle.std.specs.Cmp.Lexicographic.{pointwise}
use Rattle.contest_types.specs.declared.objects.JudgementType.{JudgementType}
use Rattle.contest_types.specs.declared.objects.Language.{Language}
use Rattle.contest_types.specs.declared.objects.Problem.{Problem}
use Rattle.contest_types.specs.declared.objects.Group.{Group}
use Rattle.contest_types.specs.declared.objects.Team.{Team}

abbrev pub same_type : JudgementType → JudgementType → Bool
same_type a b = bytes_eq a.id b.id && bytes_eq a.name b.name && beq a.solved b.solved && beq a.penalty b.penalty

abbrev pub same_language : Language → Language → Bool
same_language a b = bytes_eq a.id b.id && bytes_eq a.name b.name && beq a.entry_point_required b.entry_point_required

abbrev pub same_problem : Problem → Problem → Bool
same_problem a b = bytes_eq a.id b.id && bytes_eq a.label b.label && bytes_eq a.name b.name && nat_eq a.ordinal b.ordinal

abbrev pub same_group : Group → Group → Bool
same_group a b = bytes_eq a.id b.id && bytes_eq a.name b.name

abbrev pub same_team : Team → Team → Bool
same_team a b = bytes_eq a.id b.id && bytes_eq a.name b.name && pointwise nat_eq a.groups b.groups && beq a.hidden b.hidden
