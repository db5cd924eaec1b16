-- What is said of a text that is not as expected. Assumes nothing.
use Rattle.std.specs.Prelude.{ℕ, List, ◌++◌, codes}
use Rattle.segments.specs.declared.fault.Expected.{Expected}
use Rattle.segments.specs.declared.fault.Expected.TheVariants.{SegmentName, Column, ColumnName, Bounds, End, Uncrossed, Once, Filter, Operator, Number}

abbrev pub sentence_of : Expected → List ℕ
sentence_of SegmentName = codes "a segment's name, with no `=`, before its columns"
sentence_of Column = codes "a column NAME=LOW..HIGH"
sentence_of ColumnName = codes "a column's name, with no `=`"
sentence_of Bounds = codes "bounds LOW..HIGH, an end being a whole number or *"
sentence_of End = codes "ends that are whole numbers of 64 bits or *"
sentence_of Uncrossed = codes "a lower end at or below the upper one"
sentence_of Once = codes "the filter's column once"
sentence_of Filter = codes "a filter COLUMN OPERATOR NUMBER, with blanks between"
sentence_of Operator = codes "an operator, one of > >= < <= ="
sentence_of Number = codes "a whole number of 64 bits"

-- what is printed of the part bs
abbrev pub fault_text : Expected → List ℕ → List ℕ
fault_text e bs = codes "expected " ++ (sentence_of e ++ (codes ", in `" ++ (bs ++ codes "`")))
