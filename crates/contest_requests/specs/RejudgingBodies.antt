-- The body of a posted rejudging (DOMjudge manual, "Rejudging"; the object that is posted is own).
use Rattle.std.specs.Prelude.{◌≡◌, ◌≤◌, ℕ, Bool, true, ◌&&◌, nat_lt, nat_le, List, length, map, Option, Some, None, Result, Err, codes, if◌then◌else◌}
use Rattle.std.specs.Option.{ok_or, option_map, option_and_then}
use Rattle.serde_json.specs.Data.{Data}
use Rattle.serde_json.specs.Find.{as_array, as_str, get}
use Rattle.contest_types.specs.Options.{all_some}
use Rattle.contest_types.specs.Places.{are_different}
use Rattle.contest_types.specs.declared.limits.TheConstants.{REJUDGING_MEMBERS}
use Rattle.contest_types.specs.declared.refusal.Refusal.{Refusal}
use Rattle.contest_types.specs.declared.refusal.Refusal.TheVariants.{Malformed, RoleForbids}
use Rattle.contest_rules.specs.declared.opening.WantedRejudging.{WantedRejudging}
use Rattle.contest_files.specs.JsonMembers.{data_of, list_of, name_in}

-- at least one, no more than a rejudging may have members, and none twice
abbrev pub may_be_members : List (List ℕ) → Bool
may_be_members ids = nat_lt 0 (length ids) && nat_le (length ids) REJUDGING_MEMBERS && are_different ids

-- the texts in an array, in its order, if all its items are texts
abbrev pub texts_in : Data → Option (List (List ℕ))
texts_in d = option_and_then (λ items. all_some (map as_str (list_of items))) (as_array d)

-- what is given as the ids of the submissions, if a rejudging can be over as many: a text that is no id is taken, and names none
abbrev pub submissions_in : Data → Option (List (List ℕ))
submissions_in d =
    option_and_then (λ ids. if may_be_members ids then Some ids else None) (option_and_then texts_in (get (codes "submission_ids") d))

-- what a posted object says
unfoldable pub rejudging_of : Data → Option WantedRejudging
rejudging_of d =
    option_and_then (λ reason. option_map (λ submissions. record { reason = reason; submissions = submissions })
    (submissions_in d)) (name_in (codes "reason") d)

-- what a body says
abbrev pub rejudging_in : (body : List ℕ) → Option WantedRejudging
rejudging_in body = option_and_then rejudging_of (data_of body)

-- what is known of it once it is read
abbrev pub IsSoundRejudging : WantedRejudging → Type 0
IsSoundRejudging w = (are_different w.submissions ≡ true) × (length w.submissions ≤ REJUDGING_MEMBERS)

-- only the jury rejudges
abbrev pub posted_rejudging : (judge : Option (List ℕ)) → (body : List ℕ) → Result WantedRejudging Refusal
posted_rejudging None body = Err RoleForbids
posted_rejudging (Some account) body = ok_or (rejudging_in body) Malformed
