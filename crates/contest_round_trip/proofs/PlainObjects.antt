-- The objects of a feed are plain values.
use Rattle.std.proofs.Common.{◌≡◌, ◌≤◌, ◌<◌, ◌+◌, ◌^◌, ℕ, zero, suc, Bool, true, List, [], ◌∷◌, Option, Some, None, map, slice_get, length, refl, sym, subst, inl, inr, arith}
use Rattle.std.specs.Prelude.{IfSome, All}
use Rattle.std.specs.Option.{option_map_or}
use Rattle.std.specs.Str.{IsUtf8}
use Rattle.std.proofs.lemmas.Str.{IsUtf8-from_ascii, IsUtf8-nil}
use Rattle.json.proofs.Printed.Utf8.{are_ascii}
use Rattle.serde_json.specs.Data.{Data, null, boolean, number, unsigned, string, object, Items, Members, no_members, member, depth, items_depth, members_depth}
use Rattle.serde_json.specs.View.{items_of}
use Rattle.contest_types.specs.IdText.{IsId}
use Rattle.contest_types.specs.Order.{Has}
use Rattle.contest_types.proofs.IdLemmas.{id_ascii}
use Rattle.contest_objects.specs.Members.{text_or_null}
use Rattle.contest_objects.specs.Objects.{ids_data}
use Rattle.contest_round_trip.specs.PlainValues.{Fits, ItemsFit, MembersFit, are_ordered, is_above, is_ordered, joined, rise_above}

-- a plain value that nests so deep at most
pub record IsPlain (n : ℕ) (d : Data) : Type 0 where
  pub fits : Fits d
  pub ordered : is_ordered d ≡ true
  pub shallow : depth d ≤ n

pub record AreItems (n : ℕ) (ds : Items) : Type 0 where
  pub fits : ItemsFit ds
  pub ordered : are_ordered ds ≡ true
  pub shallow : items_depth ds ≤ n

-- members that may stand behind others
pub record AreMembers (n : ℕ) (before ms : Members) : Type 0 where
  pub fits : MembersFit ms
  pub rise : rise_above before ms ≡ true
  pub shallow : members_depth ms ≤ n

-- ---- values

pub text_plain : (n : ℕ) (s : List ℕ) → IsUtf8 s → IsPlain n (string s)
text_plain n s u = record { fits = u; ordered = refl; shallow = omega arith }

pub flag_plain : (n : ℕ) (b : Bool) → IsPlain n (boolean b)
flag_plain n b = record { fits = tt; ordered = refl; shallow = omega arith }

pub number_plain : (n k : ℕ) → k < 2 ^ 64 → IsPlain n (number (unsigned k))
number_plain n k h = record { fits = h; ordered = refl; shallow = omega arith }

pub null_plain : (n : ℕ) → IsPlain n null
null_plain n = record { fits = tt; ordered = refl; shallow = omega arith }

pub text_or_null_plain : (n : ℕ) (o : Option (List ℕ)) → IfSome o IsUtf8 → IsPlain n (text_or_null o)
text_or_null_plain n None h = null_plain n
text_or_null_plain n (Some s) h = text_plain n s h

-- ---- objects and arrays

pub last_member : (n : ℕ) (before : Members) → AreMembers n before no_members
last_member n before = record { fits = tt; rise = refl; shallow = omega arith }

pub next_member : {n : ℕ} {before ms : Members} {k : List ℕ} {d : Data} → are_ascii k ≡ true → is_above k before ≡ true → IsPlain n d → AreMembers n (joined before (member k d no_members)) ms → AreMembers n before (member k d ms)
next_member {n} {before} {ms} {k} {d} ascii above p more = record {
  fits = (p.fits, more.fits);
  rise = rw (ascii, above, p.ordered) more.rise;
  shallow = omega (arith, p.shallow, more.shallow);
}

pub object_plain : {n : ℕ} {ms : Members} → AreMembers n no_members ms → IsPlain (n + 1) (object ms)
object_plain {n} {ms} h = record { fits = h.fits; ordered = h.rise; shallow = omega (arith, h.shallow) }

ids_fit : (n : ℕ) (id : ℕ → List ℕ) → ((place : ℕ) → IsUtf8 (id place)) → (places : List ℕ) → AreItems n (items_of (map (λ place. string (id place)) places))
ids_fit n id u [] = record { fits = tt; ordered = refl; shallow = omega arith }
ids_fit n id u (p ∷ places) = let rest = ids_fit n id u places in record { fits = (u p, rest.fits); ordered = rest.ordered; shallow = omega (arith, rest.shallow) }

pub ids_plain : (n : ℕ) (id : ℕ → List ℕ) → ((place : ℕ) → IsUtf8 (id place)) → (places : List ℕ) → IsPlain (n + 1) (ids_data id places)
ids_plain n id u places = let items = ids_fit n id u places in record { fits = items.fits; ordered = items.ordered; shallow = omega (arith, items.shallow) }

-- ---- lists

pub of_all : {X : Type 0} (P : X → Type 0) (xs : List X) (x : X) → All P xs → Has xs x → P x
of_all P [] x h k = absurd k
of_all {X} P (y ∷ ys) x h k =
    let first : P y = h 0 y (omega arith) in
    let rest : All P ys = λ i d l. h (suc i) d (omega (arith, l)) in
    elim k [ inl same ↦ subst P (sym same) first | inr later ↦ of_all P ys x rest later ]

-- the text of what stands at a place
pub text_at : {X : Type 0} (text : X → List ℕ) (rows : List X) (place : ℕ) → ((x : X) → Has rows x → IsUtf8 (text x)) → IsUtf8 (option_map_or text (slice_get rows place) [])
text_at text [] place h = IsUtf8-nil
text_at text (x ∷ rows) zero h = h x (inl refl)
text_at text (x ∷ rows) (suc place) h = text_at text rows place (λ y k. h y (inr k))

-- the id of what stands at a place that is there
pub id_at : {X : Type 0} (id : X → List ℕ) (rows : List X) (place : ℕ) → ((x : X) → Has rows x → IsId (id x)) → place < length rows → IsId (option_map_or id (slice_get rows place) [])
id_at id [] place h l = absurd (omega (arith, l))
id_at id (x ∷ rows) zero h l = h x (inl refl)
id_at id (x ∷ rows) (suc place) h l = id_at id rows place (λ y k. h y (inr k)) (omega (arith, l))

pub id_utf8 : (id : List ℕ) → IsId id → IsUtf8 id
id_utf8 id h = IsUtf8-from_ascii id (id_ascii id h)
