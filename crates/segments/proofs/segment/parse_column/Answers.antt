use Rattle.std.proofs.Common.{◌≡◌, ℕ, List, sym, subst, arith, rules}
use Rattle.std.proofs.lemmas.Result.{MatchResult-from_err}
use Rattle.std.proofs.lemmas.Str.Pattern.{split_parts, split_after}
use Rattle.kinds.specs.declared.whole.WholeRange.{WholeRange}
use Rattle.segments.specs.Texts.{BoundsAre, ColumnIs}
use Rattle.segments.proofs.Reading.{said_mapped}
use Rattle.segments.proofs.segment.parse_column.Goals as goal
use Rattle.segments.proofs.segment.parse_column.Goals.{In_ok-name}

parts_of : (c : In_ok-name) {name : List ℕ} {r : WholeRange} (k : ColumnIs c.args.word.now name r) → (c.in_ok-name.name.now ≡ name) × (c.in_ok-name.text.now ≡ k.back)
parts_of c {name} k = rw c.in_ok-name.ensures.ok_part at (split_after 61 c.args.word.now name k.back c.split_once.result c.split_once.ensures.cases (omega arith) k.cut k.plain)

pub returns-in_err-name : goal.returns-in_err-name
returns-in_err-name c = MatchResult-from_err _ _ _ c.from_residual.ensures.0 (λ _ name r k.
    rw c.in_err-name.ensures.ok_part at (split_after 61 c.args.word.now name k.back c.split_once.result c.split_once.ensures.cases (omega arith) k.cut k.plain))

pub returns-in_err-bounds : goal.returns-in_err-bounds
returns-in_err-bounds c = MatchResult-from_err _ _ _ c.from_residual-in_err-bounds.ensures.0 (λ _ name r k.
    let same = parts_of (goal.at.returns-in_err-bounds c).In_ok-name k in
    said_mapped (BoundsAre c.in_ok-name.text.now) _ _ _ c.in_err-bounds.ensures.cases c.in_err-bounds.ensures.variant c.parse_bounds.ensures r (subst (λ x. BoundsAre x r) (sym same.1) k.bounds))

pub returns : goal.returns
returns c =
    let parts = rw c.in_ok-name.ensures.ok_part at (split_parts 61 c.args.word.now c.split_once.result c.split_once.ensures.cases (omega arith)) in
    record {
      back = c.in_ok-name.text.now;
      cut = parts.0;
      named = search rules;
      plain = parts.1;
      bounds = said_mapped (BoundsAre c.in_ok-name.text.now) _ _ _ c.in_ok-bounds.ensures.cases c.in_ok-bounds.ensures.variant c.parse_bounds.ensures;
    }
