use Rattle.std.specs.Str.Iter.{split_whitespace_rest}
use Rattle.segments.proofs.Reading.{Sofar}
use Rattle.segments.proofs.segment.bounds_in.Given as goal

abbrev pub invariant-loop-word : goal.invariant-loop-word
invariant-loop-word l = Sofar (split_whitespace_rest l.words) (split_whitespace_rest l.word-iterator) l.column l.found
