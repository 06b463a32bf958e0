use Rattle.contest_types.proofs.SettingsTest as lemmas
use Rattle.contest_types.proofs.laws.settings_are_tested.Goals as goal

pub returns : goal.returns
returns c = λ x. (lemmas.is_settings x, lemmas.has_settings x)
