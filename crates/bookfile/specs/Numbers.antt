-- What number a figure of a statement is.
use Rattle.std.specs.Prelude.{ℕ, min, List, ℤ, pos, negsuc, Some, None, Option, slice_index_or}

-- a whole number of 64 bits, the nearest one where a number is none; 0 if it is not given
abbrev pub whole_of : Option ℤ → ℕ
whole_of None = 0
whole_of (Some (pos n)) = min n 18446744073709551615
whole_of (Some (negsuc n)) = 0

-- a whole number of 64 bits with its sign, the nearest one where a number is none; 0 if it is not given
abbrev pub change_of : Option ℤ → ℤ
change_of None = pos 0
change_of (Some (pos n)) = pos (min n 9223372036854775807)
change_of (Some (negsuc n)) = negsuc (min n 9223372036854775807)

abbrev pub whole_at : List (Option ℤ) → ℕ → ℕ
whole_at zs i = whole_of (slice_index_or zs i None)

-- one of 8 bits, and 255 where it is more: 255 is beyond every limit that such a figure has
abbrev pub byte_at : List (Option ℤ) → ℕ → ℕ
byte_at zs i = min (whole_at zs i) 255

abbrev pub change_at : List (Option ℤ) → ℕ → ℤ
change_at zs i = change_of (slice_index_or zs i None)
