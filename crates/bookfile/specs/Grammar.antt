-- What a line of a book file says.
use Rattle.std.specs.Prelude.{◌≡◌, ℕ, ◌+◌, ◌<◌, ◌≤◌, Bool, true, false, ◌⊎◌, List, [], ◌∷◌, ◌++◌, map, length, replicate, ℤ, Some, None, Ok, Err, codes, Option, Result, FitsSigned, ◌≢◌, slice_index, slice_index_or, slice_set}
use Rattle.std.specs.Int.{w128}
use Rattle.std.specs.List.{range_with_len, flat_map}
use Rattle.std.specs.Str.Parse.{IsNumeral, without_leading_sign, signed_digits_value}
use Rattle.std.specs.Char.{is_whitespace, is_not_whitespace}
use Rattle.std.specs.Str.{NoCharPasses, EmptyOrStartsWithPassing}
use Rattle.bookfile.specs.declared.malformed.Malformed.{Malformed}
use Rattle.bookfile.specs.declared.malformed.Malformed.TheVariants.{Keyword}
use Rattle.bookfile.specs.declared.statement.Statement.{Statement}
use Rattle.bookfile.specs.declared.statement.Statement.TheVariants.{Tariff, Distribution, Metering, Bracket, Coefficient, Life, Management, Opening, Journal, Register, File, Enrol, Bill, Draw, Cancel, Send, Confirm, Bounce, Close, Reopen, Cost, Component, Served, Revenue, Balance, Account}

abbrev pub keyword_of : Statement → List ℕ
keyword_of Tariff = codes "tariff"
keyword_of Distribution = codes "distribution"
keyword_of Metering = codes "metering"
keyword_of Bracket = codes "bracket"
keyword_of Coefficient = codes "coefficient"
keyword_of Life = codes "life"
keyword_of Management = codes "management"
keyword_of Opening = codes "opening"
keyword_of Journal = codes "journal"
keyword_of Register = codes "register"
keyword_of File = codes "file"
keyword_of Enrol = codes "enrol"
keyword_of Bill = codes "bill"
keyword_of Draw = codes "draw"
keyword_of Cancel = codes "cancel"
keyword_of Send = codes "send"
keyword_of Confirm = codes "confirm"
keyword_of Bounce = codes "bounce"
keyword_of Close = codes "close"
keyword_of Reopen = codes "reopen"
keyword_of Cost = codes "cost"
keyword_of Component = codes "component"
keyword_of Served = codes "served"
keyword_of Revenue = codes "revenue"
keyword_of Balance = codes "balance"
keyword_of Account = codes "account"

-- a word is read as the statement that has it as its keyword, and no other word is read
abbrev pub ReadsKeyword : List ℕ → Result Statement Malformed → Type 0
ReadsKeyword word (Ok s) = word ≡ keyword_of s
ReadsKeyword word (Err e) = (e ≡ Keyword) × ((s : Statement) → word ≢ keyword_of s)

-- the names of the figures of an asset row: each ends with the row's digit
abbrev pub asset_names : ℕ → List (List ℕ)
asset_names row =
    map (λ name. name ++ (48 + row) ∷ []) (codes "gross" ∷ codes "net" ∷ codes "works" ∷ codes "contributions" ∷ codes "remaining" ∷ [])

-- the names of an order's figures
abbrev pub order_names : List (List ℕ)
order_names = codes "book" ∷ codes "company" ∷ codes "instalment" ∷ []

-- the names of a statement's figures
abbrev pub names_of : Statement → List (List ℕ)
names_of Tariff = codes "days" ∷ codes "commercial" ∷ codes "gs" ∷ codes "ug1" ∷ codes "rate" ∷ codes "cou" ∷ codes "coa" ∷ codes "telcon" ∷ codes "avv" ∷ codes "ins" ∷ codes "rac" ∷ []
names_of Distribution = codes "area" ∷ codes "class1" ∷ codes "class2" ∷ codes "class3" ∷ []
names_of Metering = codes "area" ∷ codes "class1" ∷ codes "class2" ∷ codes "class3" ∷ []
names_of Bracket = codes "end" ∷ codes "price" ∷ []
names_of Coefficient = codes "area" ∷ codes "value" ∷ []
names_of Life = codes "row" ∷ codes "years" ∷ []
names_of Management = codes "areawide" ∷ codes "small1" ∷ codes "small2" ∷ codes "small3" ∷ codes "medium1" ∷ codes "medium2" ∷ codes "medium3" ∷ codes "large1" ∷ codes "large2" ∷ codes "large3" ∷ []
names_of Opening = codes "number" ∷ codes "sum" ∷ []
names_of Journal = codes "capacity" ∷ []
names_of Register = codes "company" ∷ codes "advance" ∷ codes "instalments" ∷ codes "verification" ∷ codes "central" ∷ codes "points" ∷ codes "density" ∷ codes "award" ∷ []
names_of File = codes "locality" ∷ codes "company" ∷ codes "state" ∷ codes "area" ∷ codes "expected" ∷ codes "smart" ∷ flat_map asset_names (range_with_len 1 8)
names_of Enrol = codes "point" ∷ codes "locality" ∷ codes "class" ∷ codes "domestic" ∷ []
names_of Bill = codes "point" ∷ codes "volume" ∷ codes "days" ∷ []
names_of Draw = codes "company" ∷ []
names_of Cancel = order_names
names_of Send = order_names
names_of Confirm = order_names
names_of Bounce = order_names
names_of Close = codes "company" ∷ []
names_of Reopen = codes "company" ∷ []
names_of Cost = codes "locality" ∷ codes "service" ∷ []
names_of Component = codes "locality" ∷ codes "service" ∷ []
names_of Served = codes "company" ∷ []
names_of Revenue = codes "company" ∷ []
names_of Balance = codes "company" ∷ []
names_of Account = []

-- a text writes a whole number in plain digits: without a plus, with a minus if it is negative, in 128 bits
abbrev pub Plain : List ℕ → Type 0
Plain bs = (slice_index bs 0 ≢ 43) × IsNumeral 10 (without_leading_sign bs) × FitsSigned w128 (signed_digits_value 10 bs)

-- bs is white space, then the word w, then rest, which is empty or begins with white space
pub record First (bs w rest : List ℕ) : Type 0 where
  pub gap : List ℕ
  pub cut : bs ≡ gap ++ (w ++ rest)
  pub some : 0 < length w
  pub blank : NoCharPasses is_not_whitespace gap
  pub solid : NoCharPasses is_whitespace w
  pub ends : (more : List ℕ) × EmptyOrStartsWithPassing is_whitespace rest more

-- ws are the words of bs
abbrev pub Words : List ℕ → List (List ℕ) → Type 0
Words bs [] = NoCharPasses is_not_whitespace bs
Words bs (w ∷ ws) = (rest : List ℕ) × First bs w rest × Words rest ws

-- a word gives the figure at a place of a statement: its name, an equals sign, and a number
pub record Gives (s : Statement) (w : List ℕ) (i : ℕ) (z : ℤ) : Type 0 where
  pub numeral : List ℕ
  pub place : i < length (names_of s)
  pub cut : w ≡ slice_index_or (names_of s) i [] ++ (61 ∷ numeral)
  pub plain : Plain numeral
  pub value : z ≡ signed_digits_value 10 numeral

-- the figures of words, one by one, beside those that are given before: no figure is given twice
abbrev pub Filled : Statement → List (List ℕ) → List (Option ℤ) → List (Option ℤ) → Type 0
Filled s [] before all = all ≡ before
Filled s (w ∷ ws) before all =
    (i : ℕ) × (z : ℤ) × Gives s w i z × (slice_index_or before i None ≡ None) × Filled s ws (slice_set before i (Some z)) all

-- past the names of a statement nothing is given
abbrev pub NoneBeyond : Statement → List (Option ℤ) → Type 0
NoneBeyond s zs = (i : ℕ) → length (names_of s) ≤ i → slice_index_or zs i None ≡ None

-- the part of a line before its comment, which begins with a number sign
abbrev pub Before : List ℕ → List ℕ → Type 0
Before line text =
    ((i : ℕ) → i < length text → slice_index text i ≢ 35) ×
    ((line ≡ text) ⊎ ((comment : List ℕ) × (line ≡ text ++ (35 ∷ comment))))

-- a line says nothing: before a comment it has no words
abbrev pub Silent : List ℕ → Type 0
Silent line = (text : List ℕ) × Before line text × Words text []

-- a line says a statement with its figures: a keyword, then words that give the figures
abbrev pub Speaks : List ℕ → Statement → List (Option ℤ) → Type 0
Speaks line s figures =
    (text : List ℕ) × (ws : List (List ℕ)) × Before line text × Words text (keyword_of s ∷ ws) × Filled s ws (replicate 46 None) figures

-- a line says a statement with its figures, or nothing
abbrev pub SpeaksIf : List ℕ → Statement → List (Option ℤ) → Bool → Type 0
SpeaksIf line s figures true = Speaks line s figures
SpeaksIf line s figures false = Silent line
