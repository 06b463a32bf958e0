use Rattle.std.proofs.Common.{◌≡◌, rules, filter}
use Rattle.contest_types.specs.Accounts.{comes_before}
use Rattle.contest_lists.proofs.PartLemmas.{around}
use Rattle.contest_lists.proofs.fixed_changes.add_account.Goals as goal

pub returns : goal.returns
returns c =
    let lower : c.part.new.lower.items ≡ filter (λ b. comes_before b c.args.account) c.args.accounts.now = search rules in
    let higher : c.part.new.higher.items ≡ filter (λ b. comes_before c.args.account b) c.args.accounts.now = search rules in
    around c.part.new.lower.items c.part.new.higher.items _ _ c.from_vec.result c.args.account lower higher (search rules)
