-- Worked examples of bodies that ask for a rejudging.
use Rattle.std.proofs.Common.{◌≡◌, ℕ, true, false, List, [], ◌∷◌, map, Option, Some, None, refl}
use Rattle.std.specs.Prelude.{codes}
use Rattle.std.specs.List.{range_with_len}
use Rattle.std.specs.Str.{chars, is_utf8}
use Rattle.serde_json.specs.Data.{Data, Members, null, number, string, array, object, no_members, member, unsigned}
use Rattle.serde_json.specs.View.{items_of}
use Rattle.serde_json.proofs.OnLiterals.{serde_json_on_literals}
use Rattle.contest_rules.specs.declared.opening.WantedRejudging.{WantedRejudging}
use Rattle.contest_files.specs.JsonMembers.{data_of}
use Rattle.contest_requests.specs.RejudgingBodies.{may_be_members, rejudging_in, rejudging_of}

-- for this reason over these submissions
abbrev asked : List (List ℕ) → Option WantedRejudging
asked ids = Some (record { reason = codes "data"; submissions = ids })

-- an object with a reason, and these items as the submissions
abbrev with_items : List Data → Data
with_items items = object (member (codes "reason") (string (codes "data")) (member (codes "submission_ids") (array (items_of items)) no_members))

abbrev id : List ℕ → Data
id text = string text

-- they stand as they were named
two : rejudging_of (with_items (id (codes "s1-2") ∷ id (codes "s1-1") ∷ [])) ≡ asked (codes "s1-2" ∷ codes "s1-1" ∷ [])
unfolding rejudging_of chars
two = refl

none_named : rejudging_of (with_items []) ≡ None
unfolding rejudging_of chars
none_named = refl

twice : rejudging_of (with_items (id (codes "s1-1") ∷ id (codes "s1-2") ∷ id (codes "s1-1") ∷ [])) ≡ None
unfolding rejudging_of chars
twice = refl

no_text : rejudging_of (with_items (id (codes "s1-1") ∷ number (unsigned 1) ∷ [])) ≡ None
unfolding rejudging_of chars
no_text = refl

-- a text that is no id is read, and names no submission
no_id : rejudging_of (with_items (id (codes "s1 2") ∷ id [] ∷ [])) ≡ asked (codes "s1 2" ∷ [] ∷ [])
unfolding rejudging_of chars
no_id = refl

no_id_twice : rejudging_of (with_items (id (codes "s1 2") ∷ id (codes "s1 2") ∷ [])) ≡ None
unfolding rejudging_of chars
no_id_twice = refl

-- one of the two members is missing, null, or of another kind
no_reason : rejudging_of (object (member (codes "submission_ids") (array (items_of (id (codes "s1-1") ∷ []))) no_members)) ≡ None
unfolding rejudging_of chars
no_reason = refl

abbrev with_members : Members → Data
with_members more = object (member (codes "reason") (string (codes "data")) more)

no_submissions : rejudging_of (with_members no_members) ≡ None
unfolding rejudging_of chars
no_submissions = refl

of_null : rejudging_of (with_members (member (codes "submission_ids") null no_members)) ≡ None
unfolding rejudging_of chars
of_null = refl

no_array : rejudging_of (with_members (member (codes "submission_ids") (id (codes "s1-1")) no_members)) ≡ None
unfolding rejudging_of chars
no_array = refl

-- 500 members of a rejudging
abbrev ids : ℕ → List (List ℕ)
ids n = map (λ k. k ∷ []) (range_with_len 1 n)

within : may_be_members (ids 500) ≡ true
within = refl

past : may_be_members (ids 501) ≡ false
past = refl

-- a body: what isn't asked for is ignored, and of two members of one name the last counts
whole : rejudging_in (codes "{\"submission_ids\":[\"s9\"],\"note\":1,\"reason\":\"data\",\"submission_ids\":[\"s1-1\"]}") ≡ asked (codes "s1-1" ∷ [])
unfolding rejudging_of chars data_of is_utf8 serde_json_on_literals
whole = refl

-- a reason is a name
empty_reason : rejudging_in (codes "{\"reason\":\"\",\"submission_ids\":[\"s1-1\"]}") ≡ None
unfolding rejudging_of chars data_of is_utf8 serde_json_on_literals
empty_reason = refl

two_lines : rejudging_in (codes "{\"reason\":\"a\\nb\",\"submission_ids\":[\"s1-1\"]}") ≡ None
unfolding rejudging_of chars data_of is_utf8 serde_json_on_literals
two_lines = refl

-- another value is no such object, and other bytes are no value
no_object : rejudging_in (codes "[\"s1-1\"]") ≡ None
unfolding rejudging_of chars data_of is_utf8 serde_json_on_literals
no_object = refl

no_value : rejudging_in (codes "s1-1") ≡ None
unfolding chars data_of is_utf8 serde_json_on_literals
no_value = refl
