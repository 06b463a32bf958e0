use Rattle.contest_desk.proofs.AccountFacts as lemmas
use Rattle.contest_desk.proofs.laws.accounts.only_tokens_are_replaced.Goals as goal

pub returns : goal.returns
returns c = lemmas.only_tokens_are_replaced
