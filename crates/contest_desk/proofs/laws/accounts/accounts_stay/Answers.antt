use Rattle.contest_desk.proofs.AccountFacts as lemmas
use Rattle.contest_desk.proofs.laws.accounts.accounts_stay.Goals as goal

pub returns : goal.returns
returns c = lemmas.accounts_stay
