use Rattle.contest_laws.proofs.AdminLaws as lemmas
use Rattle.contest_laws.proofs.laws.standing.only_admins_replace_tokens.Goals as goal

pub returns : goal.returns
returns c = lemmas.only_admins_replace_tokens
