-- The keys of the groups follow the order of the awards.
use Rattle.std.proofs.Common.{◌≡◌, ℕ, ◌≤◌, List, length, refl, Ordering, map, All, take}
use Rattle.std.specs.List.{range_with_len}
use Rattle.std.specs.List.Sorted.{IsPermutation, IsSorted}
use Rattle.std.specs.Cmp.{IsTotalOrder}
use Rattle.std.specs.Ordering.{nat_cmp, ordering_then}
use Rattle.std.specs.Cmp.Lexicographic.{slice_cmp}
use Rattle.std.specs.declared.cmp.Ordering.TheVariants.{Less}
use Rattle.std.proofs.lemmas.List.{take_all}
use Rattle.std.proofs.lemmas.Cmp.{nat_cmp_total, nat_list_cmp_total, then_total, on_total}
use Rattle.std.proofs.lemmas.Map.Lookups.{exact_bytes}
use Rattle.contest_types.specs.declared.objects.Group.{Group}
use Rattle.contest_types.specs.Setup.{Setup, IsValid}
use Rattle.contest_types.specs.Order.{by_text}
use Rattle.contest_types.proofs.Different.{one_place}
use Rattle.contest_score.specs.declared.group_awards.GroupKey.{GroupKey}
use Rattle.contest_score.specs.Keys.{TellsGroup}
use Rattle.contest_types.specs.SettingsNames.{group_id_at}
use Rattle.contest_score.specs.Awards.{group_order}
use Rattle.contest_types.proofs.KeyOrder.{Follows, sorted_keys, range_rises}

-- the order that the keys' derived `cmp` computes to
abbrev pub key_cmp : GroupKey → GroupKey → Ordering
key_cmp a b = ordering_then (slice_cmp nat_cmp a.id.now b.id.now) (nat_cmp a.place b.place)

key_cmp_total : IsTotalOrder key_cmp
key_cmp_total = then_total (on_total (λ (k : GroupKey). k.id.now) nat_list_cmp_total) (on_total (λ (k : GroupKey). k.place) nat_cmp_total)

pub group_cmp_total : (s : Setup) → IsTotalOrder (by_text (group_id_at s))
group_cmp_total s = on_total (group_id_at s) nat_list_cmp_total

first_less : (x z : Ordering) → x ≡ Less → ordering_then x z ≡ Less
first_less x z h = rw h refl

follows : (s : Setup) → IsValid s → Follows key_cmp (λ k. k.place) (TellsGroup s.groups) (by_text (group_id_at s))
follows s v = record {
  less = λ a b ta tb h. rw (ta.id, tb.id) (first_less _ (nat_cmp a.place b.place) h);
  exact = λ a b ta tb h. one_place (λ (g : Group). g.id) s.groups v.groups a.place b.place ta.within tb.within (exact_bytes _ _ h);
}

-- the places of the sorted keys are the groups in order
pub groups_sorted : (s : Setup) → IsValid s → (keys ks : List GroupKey) → IsPermutation keys ks → map (λ (k : GroupKey). k.place) keys ≡ range_with_len 0 (length s.groups) → All (TellsGroup s.groups) keys → IsSorted key_cmp ks → (n : ℕ) → length ks ≤ n → map (λ (k : GroupKey). k.place) (take n ks) ≡ group_order s
groups_sorted s v keys ks p places told up n l =
    let sorted = sorted_keys key_cmp_total (λ (k : GroupKey). k.place) (TellsGroup s.groups) (group_cmp_total s) (follows s v) keys ks p told up (rw places (range_rises 0 (length s.groups))) in
    rw (take_all n ks l) (rw places at sorted)
