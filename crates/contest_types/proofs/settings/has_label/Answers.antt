use Rattle.std.proofs.Common.{rules, tests, ◌∙◌}
use Rattle.std.specs.Str.{bytes_eq}
use Rattle.std.proofs.lemmas.Iterator.{YieldsList-from_slice}
use Rattle.std.proofs.lemmas.Iterator.Search.{any_from_yields_List}
use Rattle.contest_types.specs.declared.objects.Problem.{Problem}
use Rattle.contest_types.proofs.PlaceLemmas.{any_named}
use Rattle.contest_types.proofs.settings.has_label.Goals as goal

pub returns : goal.returns
returns c =
    any_from_yields_List (λ (p : Problem). bytes_eq p.label c.args.label.now) _ _ c.any.result c.any.ensures.ran (YieldsList-from_slice c.args.problems.now (cc)) (λ x b q k. search (rules, tests))
    ∙ any_named (λ (p : Problem). p.label) c.args.label.now c.args.problems.now
