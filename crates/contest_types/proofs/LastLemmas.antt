-- The last of a list.
use Rattle.std.proofs.Common.{◌≡◌, List, [], ◌∷◌, ◌++◌, map, Option, Some, refl}
use Rattle.std.specs.List.{last_or}
use Rattle.std.specs.Option.{option_map}

pub last_more : {X : Type 0} (o : Option X) (xs : List X) (x : X) → last_or o (xs ++ x ∷ []) ≡ Some x
last_more o [] x = refl
last_more o (y ∷ ys) x = last_more (Some y) ys x

pub last_mapped : {X Y : Type 0} (f : X → Y) (o : Option X) (xs : List X) → option_map f (last_or o xs) ≡ last_or (option_map f o) (map f xs)
last_mapped f o [] = refl
last_mapped f o (x ∷ xs) = last_mapped f (Some x) xs
