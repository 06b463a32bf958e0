use Rattle.std.proofs.Common.{◌≡◌, ◌++◌, take}
use Rattle.std.specs.List.{flat_map}
use Rattle.serde_json.specs.Data.{string}
use Rattle.contest_objects.specs.JsonTokens.{data_tokens}
use Rattle.contest_objects.specs.Members.{id_at}
use Rattle.contest_objects.proofs.members.write_each_id.Given as goal

abbrev pub invariant-loop-place : goal.invariant-loop-place
invariant-loop-place l =
    (l.out.tokens ≡ l.fn.out.tokens ++ flat_map (λ place. data_tokens (string (id_at l.settings l.kind place))) (take l.place-index l.places)) × (l.out.before ≡ l.fn.out.before)
