use Rattle.std.proofs.Common.{rules, tests, ◌∙◌}
use Rattle.std.specs.Str.{bytes_eq}
use Rattle.std.proofs.lemmas.Iterator.{YieldsList-from_slice}
use Rattle.std.proofs.lemmas.Iterator.Search.{any_from_yields_List}
use Rattle.contest_types.specs.declared.account.Account.{Account}
use Rattle.contest_types.proofs.PlaceLemmas.{any_named}
use Rattle.contest_import.proofs.standing_accounts.has_digest.Goals as goal

pub returns : goal.returns
returns c =
    any_from_yields_List (λ (a : Account). bytes_eq a.digest c.args.digest.now) _ _ c.any.result c.any.ensures.ran (YieldsList-from_slice c.args.accounts.now (cc)) (λ x b q k. search (rules, tests))
    ∙ any_named (λ (a : Account). a.digest) c.args.digest.now c.args.accounts.now
