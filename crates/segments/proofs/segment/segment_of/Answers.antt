use Rattle.std.proofs.Common.{subst, arith, rules}
use Rattle.std.specs.Str.Iter.{LacksByte, split_whitespace_rest}
use Rattle.std.proofs.lemmas.Result.{MatchResult-from_err}
use Rattle.std.proofs.lemmas.Str.Pattern.{contains_char}
use Rattle.segments.specs.Texts.{First}
use Rattle.segments.proofs.Reading.{first_of, first_item, segment_words}
use Rattle.segments.proofs.segment.segment_of.Goals as goal
use Rattle.segments.proofs.segment.segment_of.Goals.{In_ok-name}

first_in : (c : In_ok-name) → First c.args.line.now c.in_ok-name.name.now (split_whitespace_rest c.next.new.self)
first_in c = first_of c.args.line.now _ c.in_ok-name.name.now (split_whitespace_rest c.next.new.self) c.split_whitespace-words.ensures.rest (rw c.in_ok-name.ensures.ok_part at c.next.ensures.steps)

pub returns-in_err-name : goal.returns-in_err-name
returns-in_err-name c = MatchResult-from_err _ _ _ c.from_residual.ensures.0 (λ _ s k.
    rw c.in_err-name.ensures.ok_part at (first_item c.split_whitespace-words.result c.next.new.self c.next.result s.name.now k.columns c.split_whitespace-words.ensures.rest c.next.ensures.steps k.words).0)

pub returns-then-contains : goal.returns-then-contains
returns-then-contains c = λ s k.
    let found = (contains_char 61 c.in_ok-name.name.now _ c.contains.ensures.cases (omega arith)).0 c.if-contains.true in
    let same = segment_words (first_in (goal.at.returns-then-contains c).In_ok-name) k in
    subst (LacksByte 61) same.0 k.plain found.0 found.1 found.2

pub returns-in_err-given : goal.returns-in_err-given
returns-in_err-given c = MatchResult-from_err _ _ _ c.from_residual-in_err-given.ensures.0 (λ _ s k.
    c.in_err-given.ensures s.given (k.columns, (segment_words (first_in (goal.at.returns-in_err-given c).In_ok-name) k).1, k.gives))

pub returns : goal.returns
returns c =
    let has = contains_char 61 c.in_ok-name.name.now _ c.contains.ensures.cases (omega arith) in
    let given = c.in_ok-given.ensures in
    record {
      columns = given.0;
      words = (split_whitespace_rest c.next.new.self, first_in (goal.at.returns c).In_ok-name, given.1);
      plain = search (rules, has);
      gives = given.2;
    }
