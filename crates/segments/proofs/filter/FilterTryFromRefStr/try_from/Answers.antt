use Rattle.std.proofs.Common.{◌∷◌, [], sym, subst, arith, rules}
use Rattle.std.specs.Str.Iter.{LacksByte}
use Rattle.std.proofs.lemmas.Result.{MatchResult-from_err}
use Rattle.std.proofs.lemmas.Str.Pattern.{contains_char}
use Rattle.segments.specs.Texts.{Reads, Words, symbol_of}
use Rattle.segments.proofs.Reading.{filter_words}
use Rattle.segments.proofs.filter.FilterTryFromRefStr.try_from.Goals as goal
use Rattle.segments.proofs.filter.FilterTryFromRefStr.try_from.Goals.{In_ok-column, After-contains}

words_of : (c : In_ok-column) → Words c.args.text.now (c.in_ok-column.column.now ∷ c.in_ok-column.operator.now ∷ c.in_ok-column.number.now ∷ [])
words_of c = rw c.in_ok-column.ensures.ok_part at c.three_words.ensures

pub returns-in_err-column : goal.returns-in_err-column
returns-in_err-column c =
    let none = rw c.in_err-column.ensures.ok_part at c.three_words.ensures in
    MatchResult-from_err _ _ _ c.from_residual.ensures.0 (λ _ f k. none f.column.now (symbol_of f.comparison) k.number k.words)

pub returns-then-contains : goal.returns-then-contains
returns-then-contains c = λ f k.
    let same = filter_words k (words_of (goal.at.returns-then-contains c).In_ok-column) in
    let found = (contains_char 61 c.in_ok-column.column.now _ c.contains.ensures.cases (omega arith)).0 c.if-contains.true in
    subst (LacksByte 61) same.0 k.plain found.0 found.1 found.2

pub returns-in_err-parse_operator : goal.returns-in_err-parse_operator
returns-in_err-parse_operator c = MatchResult-from_err _ _ _ c.from_residual-in_err-parse_operator.ensures.0 (λ _ f k.
    let same = filter_words k (words_of (goal.at.returns-in_err-parse_operator c).In_ok-column) in
    c.in_err-parse_operator.ensures.said f.comparison (sym same.1))

pub returns-in_err-parse_number : goal.returns-in_err-parse_number
returns-in_err-parse_number c = MatchResult-from_err _ _ _ c.from_residual-in_err-parse_number.ensures.0 (λ _ f k.
    let same = filter_words k (words_of (goal.at.returns-in_err-parse_number c).In_ok-column) in
    c.in_err-parse_number.ensures.said f.value (subst (λ x. Reads x f.value) same.2 k.value))

pub returns : goal.returns
returns c =
    let has = contains_char 61 c.in_ok-column.column.now _ c.contains.ensures.cases (omega arith) in
    record {
      number = c.in_ok-column.number.now;
      words = rw c.in_ok-parse_operator.ensures.said at (words_of (goal.at.returns c).In_ok-column);
      plain = search (rules, has);
      value = search rules;
    }
