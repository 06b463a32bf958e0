-- The values of a contest as cells of its tables: whole numbers, texts, bytes, and NULL for what isn't there
-- (SQLite, "Datatypes"; which is which is own).
use Rattle.std.specs.Prelude.{ℕ, pos, Bool, true, false, ◌&&◌, List, [], ◌∷◌, map, if◌then◌else◌}
use Rattle.std.specs.List.{enumerate_from}
use Rattle.std.specs.Ordering.{int_eq}
use Rattle.std.specs.Str.{bytes_eq}
use Rattle.sqlite_value.specs.declared.value.Value.{Value}
use Rattle.sqlite_value.specs.declared.value.Value.TheVariants.{Null, Int, Text, Blob}
use Rattle.sqlite_value.specs.declared.value.ValueRef.{ValueRef}
use Rattle.sqlite_value.specs.Order.{Row}
use Rattle.sqlite_value.specs.Value.{owned}

abbrev pub number : ℕ → Value
number n = Int (pos n)

-- 1 for true
abbrev pub flag : Bool → Value
flag b = Int (if b then pos 1 else pos 0)

-- the rows of a list, counted from 1
abbrev pub numbered : {X : Type 0} → (ℕ → X → Row) → List X → List Row
numbered row xs = map (λ p. row p.0 p.1) (enumerate_from 1 xs)

-- what a cell holds; what is of another kind is taken for nothing
abbrev pub number_of : Value → ℕ
number_of (Int (pos n)) = n
number_of _ = 0

abbrev pub text_of : Value → List ℕ
text_of (Text t) = t
text_of _ = []

abbrev pub is_null : Value → Bool
is_null Null = true
is_null _ = false

abbrev pub lent : List ValueRef → Row
lent = map owned

-- the cells are the same; no cell of a contest is a real number
abbrev pub same_cell : Value → Value → Bool
same_cell Null Null = true
same_cell (Int m) (Int n) = int_eq m n
same_cell (Text s) (Text t) = bytes_eq s t
same_cell (Blob s) (Blob t) = bytes_eq s t
same_cell _ _ = false

abbrev pub same_row : Row → Row → Bool
same_row [] [] = true
same_row (x ∷ xs) (y ∷ ys) = same_cell x y && same_row xs ys
same_row _ _ = false
