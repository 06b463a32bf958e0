-- The members of rejudgings (own).
use Rattle.std.specs.Prelude.{ℕ, Bool, ◌&&◌, nat_le, List, length}
use Rattle.std.specs.List.{flat_map}
use Rattle.contest_types.specs.State.{of_member}
use Rattle.contest_types.specs.ValidRejudgings.{are_different_members}
use Rattle.contest_types.specs.declared.limits.TheConstants.{REJUDGING_MEMBERS}
use Rattle.contest_types.specs.declared.rejudging.Member.{Member}
use Rattle.contest_types.specs.declared.rejudging.Rejudging.{Rejudging}
use Rattle.contest_store_valid.specs.Keys.{pair_of}

abbrev pub pair_of_member : Member → ℕ × ℕ
pair_of_member m = pair_of (of_member m)

abbrev pub all_members : List Rejudging → List Member
all_members rs = flat_map (λ (r : Rejudging). r.members) rs

-- its members are different ones, and no more than they may be
abbrev pub is_whole : Rejudging → Bool
is_whole r = are_different_members r.members && nat_le (length r.members) REJUDGING_MEMBERS
