use Rattle.contest_laws.proofs.AdminLaws as lemmas
use Rattle.contest_laws.proofs.laws.standing.accounts_stay_without_admins.Goals as goal

pub returns : goal.returns
returns c = lemmas.accounts_stay_without_admins
