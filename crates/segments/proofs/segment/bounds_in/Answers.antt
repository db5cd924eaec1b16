use Rattle.std.proofs.Common.{◌≡◌, true, is_some, sym, refl, ap, ◌∙◌, subst}
use Rattle.std.specs.Str.Iter.{split_whitespace_rest}
use Rattle.std.proofs.lemmas.Bool.{both_ways}
use Rattle.std.proofs.lemmas.Result.{MatchResult-from_err}
use Rattle.std.proofs.lemmas.Slice.Eq.{bytes_eq-Decides}
use Rattle.segments.specs.Texts.{ColumnIs, First}
use Rattle.segments.proofs.Reading.{all_seen, first_of, one_other, one_this, no_column, no_second}
use Rattle.segments.proofs.segment.bounds_in.Goals as goal
use Rattle.segments.proofs.segment.bounds_in.Goals.{In-Some, After-eq, else-eq-via-then-eq+else-is_some, else-eq-via-else-eq}

first_in : (c : In-Some) → First (split_whitespace_rest c.loop-word.word-iterator) c.in-Some.word.now (split_whitespace_rest c.next.new.self)
first_in c = first_of _ _ c.in-Some.word.now (split_whitespace_rest c.next.new.self) refl c.in-Some.ensures.steps

this_column : (c : After-eq) → c.eq.result ≡ true → ColumnIs c.in-Some.word.now c.args.column.now c.in_ok-name.bounds
this_column c e =
    let same = (bytes_eq-Decides c.in_ok-name.name.now c.args.column.now).0 (sym c.eq.ensures ∙ e) in
    subst (λ n. ColumnIs c.in-Some.word.now n c.in_ok-name.bounds) same c.in_ok-name.ensures

pub loop-word-preserved : goal.loop-word-preserved
loop-word-preserved c =
    let first = first_in (goal.at.loop-word-preserved c).In-Some in
    let old = c.loop-word.invariant in
    let name = c.in_ok-name.name.now in
    elim c.else-eq.branch [
      | else-eq-via-then-eq+else-is_some w ↦
          rw (w.found-is, w.replace.ensures.after) (one_this old first c.in_ok-name.bounds (ap is_some (sym w.replace.ensures.value) ∙ (sym w.is_some.ensures ∙ w.if-is_some.false)) (this_column (goal.at.loop-word-preserved c).After-eq w.if-eq.true))
      | else-eq-via-else-eq w ↦
          rw w.found-is (one_other old first (name, c.in_ok-name.bounds, c.in_ok-name.ensures, λ e. both_ways _ w.if-eq.false (c.eq.ensures ∙ (bytes_eq-Decides name c.args.column.now).1 e)))
    ]

pub returns : goal.returns
returns c =
    let old = c.loop-word.invariant in
    (old.seen, all_seen old.words c.in-None.ensures.steps.1, old.gives)

pub returns-in_err-name : goal.returns-in_err-name
returns-in_err-name c =
    MatchResult-from_err _ _ _ c.from_residual.ensures.0 (λ _. no_column c.loop-word.invariant (first_in (goal.at.returns-in_err-name c).In-Some) c.in_err-name.ensures)

pub returns-then-is_some : goal.returns-then-is_some
returns-then-is_some c =
    no_second c.loop-word.invariant (first_in (goal.at.returns-then-is_some c).In-Some) c.in_ok-name.bounds
    (ap is_some (sym c.replace.ensures.value) ∙ (sym c.is_some.ensures ∙ c.if-is_some.true)) (this_column (goal.at.returns-then-is_some c).After-eq c.if-eq.true)
