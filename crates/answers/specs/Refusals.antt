-- The grounds for refusal: their numbers, and what is said of each. Assumes nothing.
use Rattle.std.specs.Prelude.{◌≡◌, ℕ, List, ◌++◌, Ok, Err, codes, decimal, Result}
use Rattle.answers.specs.declared.refusal.Refusal.{Refusal}
use Rattle.answers.specs.declared.refusal.Ground.{Ground}
use Rattle.answers.specs.declared.refusal.Ground.TheVariants.{CrossedEnds, RecordCount, RecordPlace, BoundaryCount, BoundaryColumn, DistinctCount, NoRange, NoOperator, ColumnSort, LiteralRefused, SortsUnfit, ListTooShort, NoSuchNode, OtherSort, TrueDisjunction}

-- the number by which a ground is known
abbrev pub number : Ground → ℕ
number CrossedEnds = 1
number RecordCount = 2
number RecordPlace = 3
number BoundaryCount = 4
number BoundaryColumn = 5
number DistinctCount = 6
number NoRange = 7
number NoOperator = 8
number ColumnSort = 9
number LiteralRefused = 10
number SortsUnfit = 11
number ListTooShort = 12
number NoSuchNode = 13
number OtherSort = 14
number TrueDisjunction = 15

abbrev pub refusal : (ground : Ground) → (position : ℕ) → Refusal
refusal g p = record { ground = g; position = p }

-- a refusal, if there is one, is number n at position p
abbrev pub Refuses : {X : Type 0} → ℕ → ℕ → Result X Refusal → Type 0
Refuses n p (Ok x) = Unit {0}
Refuses n p (Err e) = (number e.ground ≡ n) × (e.position ≡ p)

abbrev pub message : Ground → List ℕ
message CrossedEnds = codes "the range's ends differ in sort or the lower is above the upper"
message RecordCount = codes "the filter needs 1 to 256 records"
message RecordPlace = codes "a child must stand before its parent and a literal in the list"
message BoundaryCount = codes "the context needs 1 to 64 boundaries"
message BoundaryColumn = codes "the boundary's column is not in the schema or has one already"
message DistinctCount = codes "the distinct count is above 2^53"
message NoRange = codes "the boundary has no range"
message NoOperator = codes "no operator is made of this record"
message ColumnSort = codes "the column is not in the schema or its sort fits no column"
message LiteralRefused = codes "the kind does not admit this literal"
message SortsUnfit = codes "the operands' sorts do not fit the operator"
message ListTooShort = codes "a list that was lent is too short"
message NoSuchNode = codes "no node present has this number"
message OtherSort = codes "the range has another sort than its node"
message TrueDisjunction = codes "a disjunction is TRUE: neither side can be narrowed alone"

-- what is printed of a refusal
abbrev pub refusal_text : Refusal → List ℕ
refusal_text r = codes "refusal " ++ (decimal (number r.ground) ++ (codes " at " ++ (decimal r.position ++ (codes ": " ++ message r.ground))))
