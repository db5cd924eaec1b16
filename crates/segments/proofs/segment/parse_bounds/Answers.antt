use Rattle.std.proofs.Common.{◌≡◌, ◌++◌, codes}
use Rattle.std.proofs.lemmas.Result.{MatchResult-from_err}
use Rattle.std.proofs.lemmas.Str.Pattern.{split_text_parts}
use Rattle.segments.proofs.Reading.{said_mapped, ends_of, try_new_says}
use Rattle.segments.proofs.segment.parse_bounds.Goals as goal
use Rattle.segments.proofs.segment.parse_bounds.Goals.{In_ok-low}

cut_of : (c : In_ok-low) → c.args.text.now ≡ c.in_ok-low.low.now ++ (codes ".." ++ c.in_ok-low.high.now)
cut_of c = rw c.in_ok-low.ensures.ok_part at (split_text_parts (codes "..") c.args.text.now c.split_once.result c.split_once.ensures.cases)

pub returns-in_err-low : goal.returns-in_err-low
returns-in_err-low c =
    let none = rw c.in_err-low.ensures.ok_part at (split_text_parts (codes "..") c.args.text.now c.split_once.result c.split_once.ensures.cases) in
    MatchResult-from_err _ _ _ c.from_residual.ensures.0 (λ _ r b. none b.front b.back b.cut)

pub returns-in_err-parse_end : goal.returns-in_err-parse_end
returns-in_err-parse_end c = MatchResult-from_err _ _ _ c.from_residual-in_err-parse_end.ensures.0 (λ _ r b.
    c.in_err-parse_end.ensures.said r.low (ends_of c.in_ok-low.low.now c.in_ok-low.high.now (cut_of (goal.at.returns-in_err-parse_end c).In_ok-low) b).0)

pub returns-in_err-parse_end-2 : goal.returns-in_err-parse_end-2
returns-in_err-parse_end-2 c = MatchResult-from_err _ _ _ c.from_residual-in_err-parse_end-2.ensures.0 (λ _ r b.
    c.in_err-parse_end-2.ensures.said r.high (ends_of c.in_ok-low.low.now c.in_ok-low.high.now (cut_of (goal.at.returns-in_err-parse_end-2 c).In_ok-low) b).1)

pub returns : goal.returns
returns c =
    let says = try_new_says c.in_ok-low.low.now c.in_ok-low.high.now (cut_of (goal.at.returns c).In_ok-low) c.in_ok-parse_end.field-0 c.in_ok-parse_end-2.field-0 c.in_ok-parse_end.ensures.said c.in_ok-parse_end-2.ensures.said in
    said_mapped _ _ c.try_new.result c.map_err.result c.map_err.ensures.cases c.map_err.ensures.variant (rw c.try_new.ensures.value says)
