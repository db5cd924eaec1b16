-- What the text of a segment's line or of a filter says. Assumes nothing.
use Rattle.std.specs.Prelude.{◌≡◌, ℕ, ◌<◌, true, ◌⊎◌, List, [], ◌∷◌, ◌++◌, length, take, drop, ℤ, Some, None, Ok, Err, codes, Option, Result, FitsSigned, ◌≢◌, int_le, slice_index, All, MatchResult}
use Rattle.std.specs.Borrow.{Bor}
use Rattle.std.specs.Int.{w64}
use Rattle.std.specs.Option.{unwrap_or}
use Rattle.std.specs.Str.Iter.{LacksByte}
use Rattle.std.specs.Str.Parse.{IsNumeral, without_leading_sign, signed_digits_value}
use Rattle.std.specs.Char.{is_whitespace, is_not_whitespace}
use Rattle.std.specs.Str.{NoCharPasses, EmptyOrStartsWithPassing}
use Rattle.interval_arithmetic.specs.declared.compare.Comparison.{Comparison}
use Rattle.interval_arithmetic.specs.declared.compare.Comparison.TheVariants.{Gt, GtEq, Lt, LtEq, Eq}
use Rattle.interval_arithmetic.specs.Ends.{uncrossed}
use Rattle.kinds.specs.declared.whole.WholeRange.{WholeRange}
use Rattle.kinds.specs.Whole.{range}
use Rattle.segments.specs.declared.filter.Filter.{Filter}
use Rattle.segments.specs.declared.segment.Segment.{Segment}

-- what was read is what the text says; there is an error only if it says nothing
abbrev pub Said : {X E : Type 0} → (X → Type 0) → Result X E → Type 0
Said {X = X} says r = MatchResult r says (λ _. (x : X) → says x → ⊥)

-- a decimal number of 64 bits, after a sign if there is one
abbrev pub Reads : List ℕ → ℤ → Type 0
Reads bs z = IsNumeral 10 (without_leading_sign bs) × FitsSigned w64 (signed_digits_value 10 bs) × (z ≡ signed_digits_value 10 bs)

-- an end: `*` is open
abbrev pub EndIs : List ℕ → Option ℤ → Type 0
EndIs bs None = bs ≡ codes "*"
EndIs bs (Some z) = Reads bs z

-- bounds LOW..HIGH, not crossed
pub record BoundsAre (bs : List ℕ) (r : WholeRange) : Type 0 where
  pub front : List ℕ
  pub back : List ℕ
  pub cut : bs ≡ front ++ (codes ".." ++ back)
  pub lower : EndIs front r.low
  pub upper : EndIs back r.high
  pub fair : uncrossed int_le r.low r.high ≡ true

-- a column NAME=LOW..HIGH
pub record ColumnIs (bs name : List ℕ) (r : WholeRange) : Type 0 where
  pub back : List ℕ
  pub cut : bs ≡ name ++ (codes "=" ++ back)
  pub named : 0 < length name
  pub plain : LacksByte 61 name
  pub bounds : BoundsAre back r

-- a column was read, or the word is none
abbrev pub ColumnRead : {E : Type 0} → List ℕ → Result (Bor (List ℕ) × WholeRange) E → Type 0
ColumnRead bs r = MatchResult r (λ x. ColumnIs bs x.0.now x.1) (λ _. (name : List ℕ) (b : WholeRange) → ColumnIs bs name b → ⊥)

abbrev pub symbol_of : Comparison → List ℕ
symbol_of Gt = codes ">"
symbol_of GtEq = codes ">="
symbol_of Lt = codes "<"
symbol_of LtEq = codes "<="
symbol_of Eq = codes "="

abbrev pub Symbol : List ℕ → Comparison → Type 0
Symbol bs c = bs ≡ symbol_of c

-- bs is white space, the word w, and rest, which is empty or begins with white space
pub record First (bs w rest : List ℕ) : Type 0 where
  pub gap : List ℕ
  pub cut : bs ≡ gap ++ (w ++ rest)
  pub some : 0 < length w
  pub blank : NoCharPasses is_not_whitespace gap
  pub solid : NoCharPasses is_whitespace w
  pub ends : (more : List ℕ) × EmptyOrStartsWithPassing is_whitespace rest more

-- ws are the words of bs
abbrev pub Words : List ℕ → List (List ℕ) → Type 0
Words bs [] = NoCharPasses is_not_whitespace bs
Words bs (w ∷ ws) = (rest : List ℕ) × First bs w rest × Words rest ws

-- the text of a filter: a column, an operator and a number
pub record FilterSays (bs : List ℕ) (f : Filter) : Type 0 where
  pub number : List ℕ
  pub words : Words bs (f.column.now ∷ symbol_of f.comparison ∷ number ∷ [])
  pub plain : LacksByte 61 f.column.now
  pub value : Reads number f.value

-- a column of another name
abbrev pub Other : List ℕ → List ℕ → Type 0
Other name w = (n : List ℕ) × (r : WholeRange) × ColumnIs w n r × (n ≢ name)

-- the words are columns, at most one of them of this name; its bounds, if there is one
abbrev pub Gives : List ℕ → List (List ℕ) → Option WholeRange → Type 0
Gives name [] o = o ≡ None
Gives name (w ∷ ws) o = (Other name w × Gives name ws o) ⊎ ((r : WholeRange) × (o ≡ Some r) × ColumnIs w name r × All (Other name) ws)

-- the bounds that the words of bs give the column were read, if they give some; or the words are not such columns
abbrev pub BoundsRead : {E : Type 0} → List ℕ → List ℕ → Result (Option WholeRange) E → Type 0
BoundsRead bs column = Said (λ o. (ws : List (List ℕ)) × Words bs ws × Gives column ws o)

-- a line of a segment: its name, then columns, which give the bounds of one of them or lack it
pub record SegmentSays (bs column : List ℕ) (s : Segment) : Type 0 where
  pub columns : List (List ℕ)
  pub words : Words bs (s.name.now ∷ columns)
  pub plain : LacksByte 61 s.name.now
  pub gives : Gives column columns s.given

-- the bounds of a column that the line lacks are open
abbrev pub bounds_of : Segment → WholeRange
bounds_of s = unwrap_or s.given (range None None)

-- t is what follows the white space in front of bs
pub record Begins (bs t : List ℕ) : Type 0 where
  pub from : ℕ
  pub is : t ≡ drop from bs
  pub blank : NoCharPasses is_not_whitespace (take from bs)
  pub opens : (rest : List ℕ) × EmptyOrStartsWithPassing is_not_whitespace t rest

-- a line that is blank, or begins with `#`
abbrev pub Comment : List ℕ → Type 0
Comment bs = (t : List ℕ) × Begins bs t × ((length t ≡ 0) ⊎ (slice_index t 0 ≡ 35))

-- a line that begins with something else
abbrev pub Content : List ℕ → Type 0
Content bs = (t : List ℕ) × Begins bs t × (0 < length t) × (slice_index t 0 ≢ 35)

-- nothing is read of a comment; of another line its segment, and there is an error only if it has none
abbrev pub LineRead : {E : Type 0} → List ℕ → List ℕ → Result (Option Segment) E → Type 0
LineRead bs column (Ok None) = Comment bs
LineRead bs column (Ok (Some s)) = Content bs × SegmentSays bs column s
LineRead bs column (Err e) = Content bs × ((s : Segment) → SegmentSays bs column s → ⊥)
