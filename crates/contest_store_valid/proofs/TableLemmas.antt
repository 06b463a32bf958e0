-- Tables of keys, as a loop fills them.
use Rattle.std.proofs.Common.{◌≡◌, ℕ, ◌+◌, ◌<◌, get_or, take, drop, length, Bool, true, false, List, [], ◌∷◌, ◌++◌, refl, sym, ◌∙◌, ap}
use Rattle.std.specs.Prelude.{◌||◌, count_by, cond}
use Rattle.std.specs.List.{list_any}
use Rattle.std.proofs.lemmas.List.{append_assoc, take_more, drop_more}
use Rattle.std.proofs.lemmas.List.Folds.{list_any-append}
use Rattle.contest_types.proofs.SeriesLemmas.{count_push}
use Rattle.contest_store_valid.specs.Numbering.{numbered_after, numbered}
use Rattle.contest_types.proofs.Tests.{found_last}

-- what a set has once it has one key more
pub set_more : {K : Type 0} (same : K → K → Bool) (keys : List K) (i : ℕ) (key k : K) (had has : Bool) → i < length keys → key ≡ get_or keys i key
    → had ≡ list_any (λ j. same j k) (take i keys) → has ≡ cond (same key k) true had → has ≡ list_any (λ j. same j k) (take (i + 1) keys)
set_more same keys i key k had has l e before put =
    let grown : take (i + 1) keys ≡ take i keys ++ key ∷ [] = rw (← e) at (take_more keys i key l) in
    put
    ∙ (found_last (same key k) had
    ∙ (ap (λ b. b || (same key k || false)) before
    ∙ (sym (list_any-append (λ j. same j k) (take i keys) (key ∷ [])) ∙ ap (list_any (λ j. same j k)) (sym grown))))

-- the numbers of the keys so far, with those of the keys to come; and how many there are of each so far
pub record AreCounted {K : Type 0} (same : K → K → Bool) (keys : List K) (i : ℕ) (numbers : List ℕ) (count : K → ℕ) : Type 0 where
  pub numbers_are : numbers ++ numbered_after same (take i keys) (drop i keys) ≡ numbered same keys
  pub counts_are : (other : K) → count other ≡ count_by (λ j. same j other) (take i keys)

-- one key more
pub count_more : {K : Type 0} (same : K → K → Bool) (keys : List K) (i : ℕ) (key : K) (numbers more : List ℕ) (count next : K → ℕ) (number : ℕ) → i < length keys → key ≡ get_or keys i key
    → AreCounted same keys i numbers count → number ≡ count key + 1 → more ≡ numbers ++ number ∷ [] → ((other : K) → next other ≡ count other + cond (same key other) 1 0) → AreCounted same keys (i + 1) more next
count_more same keys i key numbers more count next number l e known is pushed put =
    let grown : take (i + 1) keys ≡ take i keys ++ key ∷ [] = rw (← e) at (take_more keys i key l) in
    let here : drop i keys ≡ key ∷ drop (i + 1) keys = rw (← e) at (drop_more keys i key l) in
    let own : number ≡ count_by (λ j. same j key) (take i keys) + 1 = is ∙ ap (λ n. n + 1) (known.counts_are key) in
    record {
      numbers_are =
          ap (λ ns. ns ++ numbered_after same (take (i + 1) keys) (drop (i + 1) keys)) pushed
          ∙ (append_assoc numbers (number ∷ []) (numbered_after same (take (i + 1) keys) (drop (i + 1) keys))
          ∙ (ap (λ ns. numbers ++ ns) (ap (λ n. n ∷ numbered_after same (take (i + 1) keys) (drop (i + 1) keys)) own ∙ ap (λ b. (count_by (λ j. same j key) (take i keys) + 1) ∷ numbered_after same b (drop (i + 1) keys)) grown)
          ∙ (ap (λ ks. numbers ++ numbered_after same (take i keys) ks) (sym here) ∙ known.numbers_are)));
      counts_are = λ other.
          put other
          ∙ (ap (λ n. n + cond (same key other) 1 0) (known.counts_are other)
          ∙ (sym (count_push (λ j. same j other) (take i keys) key (same key other) refl) ∙ ap (count_by (λ j. same j other)) (sym grown)));
    }
