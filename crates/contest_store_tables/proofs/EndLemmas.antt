-- A list of these, and then one more.
use Rattle.std.proofs.Common.{◌≡◌, ◌∙◌, ◌+◌, ◌++◌, ℕ, List, [], ◌∷◌, length, take, get_or, sym, ap, ap₂, arith}
use Rattle.std.proofs.Math.Seq.{get_or-append_seam}
use Rattle.std.proofs.lemmas.List.{take_all, take_more}

module _ {A : Type 0} (xs firsts : List A) (last x : A) (n : ℕ) (all : length xs ≡ n + 1) (count : length firsts ≡ n) (is : x ≡ get_or xs n x) where
  pub ends_in : take n xs ≡ firsts → x ≡ last → xs ≡ firsts ++ last ∷ []
  ends_in before end =
      sym (take_all (n + 1) xs (omega (arith, all))) ∙ take_more xs n x (omega (arith, all)) ∙ ap₂ (λ (ys : List A) (y : A). ys ++ y ∷ []) before (sym is ∙ end)

  pub end_is : xs ≡ firsts ++ last ∷ [] → x ≡ last
  end_is same = is ∙ ap (λ (ys : List A). get_or ys n x) same ∙ ap (λ (m : ℕ). get_or (firsts ++ last ∷ []) m x) (sym count) ∙ get_or-append_seam firsts last [] x
