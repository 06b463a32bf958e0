-- Judgement types, languages and groups by their places in the settings, from 0.
use Rattle.std.specs.Prelude.{ℕ, List, [], slice_get}
use Rattle.std.specs.Option.{option_map_or}
use Rattle.contest_types.specs.Setup.{Setup}
use Rattle.contest_types.specs.declared.objects.Group.{Group}
use Rattle.contest_types.specs.declared.objects.JudgementType.{JudgementType}
use Rattle.contest_types.specs.declared.objects.Language.{Language}

abbrev pub type_id_at : Setup → ℕ → List ℕ
type_id_at s place = option_map_or (λ (t : JudgementType). t.id) (slice_get s.types place) []

abbrev pub language_id_at : Setup → ℕ → List ℕ
language_id_at s place = option_map_or (λ (l : Language). l.id) (slice_get s.languages place) []

abbrev pub group_id_at : Setup → ℕ → List ℕ
group_id_at s place = option_map_or (λ (g : Group). g.id) (slice_get s.groups place) []

abbrev pub group_name_at : Setup → ℕ → List ℕ
group_name_at s place = option_map_or (λ (g : Group). g.name) (slice_get s.groups place) []
