-- Rejudgings as the jury is served them (own; DOMjudge manual, "Rejudging"; a verdict is a judgement type of the Contest API
-- 2023-06).
use Rattle.std.specs.Prelude.{ℕ, Bool, true, false, List, map, Option, Some, None, codes}
use Rattle.std.specs.Fmt.{decimal}
use Rattle.std.specs.Option.{option_map}
use Rattle.serde_json.specs.Data.{Data, Members, array, boolean, string, object, member, no_members}
use Rattle.serde_json.specs.View.{items_of}
use Rattle.contest_types.specs.SettingsNames.{type_id_at}
use Rattle.contest_types.specs.Setup.{Setup}
use Rattle.contest_types.specs.VisibleIds.{submission_id}
use Rattle.contest_types.specs.declared.rejudging.Member.{Member}
use Rattle.contest_types.specs.declared.rejudging.MemberState.{MemberState}
use Rattle.contest_types.specs.declared.rejudging.MemberState.TheVariants.{Empty, Proposed, Ready}
use Rattle.contest_types.specs.declared.rejudging.Rejudging.{Rejudging}
use Rattle.contest_types.specs.declared.rejudging.RejudgingState.{RejudgingState}
use Rattle.contest_types.specs.declared.rejudging.RejudgingState.TheVariants.{Open, Applied, Cancelled}
use Rattle.contest_objects.specs.Members.{text_or_null}

abbrev pub state_name : RejudgingState → List ℕ
state_name Open = codes "open"
state_name Applied = codes "applied"
state_name Cancelled = codes "cancelled"

-- the judgement type that a member has so far, also one that is only proposed
abbrev pub verdict_so_far : MemberState → Option ℕ
verdict_so_far Empty = None
verdict_so_far (Proposed verdict account) = Some verdict
verdict_so_far (Ready verdict) = Some verdict

abbrev pub is_ready : MemberState → Bool
is_ready Empty = false
is_ready (Proposed verdict account) = false
is_ready (Ready verdict) = true

-- a member, by the values of its members
abbrev pub member_parts : (judgement_type : Option (List ℕ)) → (ready : Bool) → (submission : List ℕ) → Members
member_parts judgement_type ready submission =
    member (codes "judgement_type_id") (text_or_null judgement_type) (member (codes "ready") (boolean ready) (member (codes "submission_id") (string submission) no_members))

abbrev pub member_data : Setup → Member → Data
member_data s m = object (member_parts (option_map (type_id_at s) (verdict_so_far m.state)) (is_ready m.state) (submission_id m.team m.number))

-- a rejudging and its number, with its members as they were named
abbrev pub rejudging_data : Setup → (number : ℕ) → Rejudging → Data
rejudging_data s number r =
    object (member (codes "id") (string (decimal number))
    (member (codes "members") (array (items_of (map (member_data s) r.members)))
    (member (codes "reason") (string r.reason)
    (member (codes "state") (string (state_name r.state)) no_members))))
