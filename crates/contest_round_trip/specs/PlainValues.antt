-- JSON values whose text is read back as they are (RFC 8259). Words of private functions: nothing public is said with
-- them.
use Rattle.std.specs.Prelude.{◌<◌, ◌^◌, ◌&&◌, ℕ, Bool, true, List, ⊤}
use Rattle.std.specs.Cmp.Lexicographic.{slice_cmp}
use Rattle.std.specs.Ordering.{is_gt, nat_cmp}
use Rattle.std.specs.Str.{IsUtf8}
use Rattle.json.proofs.Printed.Utf8.{are_ascii}
use Rattle.serde_json.specs.Data.{Num, unsigned, negative, float, Data, null, boolean, number, string, array, object, Items, no_items, item, Members, no_members, member}

-- a whole number of 64 bits
abbrev pub FitsNumber : Num → Type 0
FitsNumber (unsigned n) = n < 2 ^ 64
FitsNumber (negative z) = ⊥
FitsNumber (float x) = ⊥

-- its numbers fit, and its texts are UTF-8
abbrev mutual
  pub Fits : Data → Type 0
  Fits null = ⊤
  Fits (boolean b) = ⊤
  Fits (number n) = FitsNumber n
  Fits (string s) = IsUtf8 s
  Fits (array ds) = ItemsFit ds
  Fits (object ms) = MembersFit ms

  pub ItemsFit : Items → Type 0
  ItemsFit no_items = ⊤
  ItemsFit (item d ds) = Fits d × ItemsFit ds

  pub MembersFit : Members → Type 0
  MembersFit no_members = ⊤
  MembersFit (member k d ms) = Fits d × MembersFit ms

-- a key is greater than all of these
abbrev pub is_above : List ℕ → Members → Bool
is_above k no_members = true
is_above k (member l e ms) = is_gt (slice_cmp nat_cmp k l) && is_above k ms

-- members behind others
abbrev pub joined : Members → Members → Members
joined no_members others = others
joined (member k d ms) others = member k d (joined ms others)

-- keys are ASCII and rise
abbrev mutual
  pub is_ordered : Data → Bool
  is_ordered null = true
  is_ordered (boolean b) = true
  is_ordered (number n) = true
  is_ordered (string s) = true
  is_ordered (array ds) = are_ordered ds
  is_ordered (object ms) = rise_above no_members ms

  pub are_ordered : Items → Bool
  are_ordered no_items = true
  are_ordered (item d ds) = is_ordered d && are_ordered ds

  pub rise_above : (before : Members) → Members → Bool
  rise_above before no_members = true
  rise_above before (member k d ms) = are_ascii k && (is_above k before && (is_ordered d && rise_above (joined before (member k d no_members)) ms))
