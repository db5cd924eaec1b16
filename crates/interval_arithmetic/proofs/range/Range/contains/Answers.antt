use Rattle.std.proofs.Common.{rules}
use Rattle.interval_arithmetic.proofs.Lifts.{range_contains_rule}
use Rattle.interval_arithmetic.proofs.range.Range.contains.Goals as goal

pub returns-in-Boolean-Boolean-clause-rule : goal.returns-in-Boolean-Boolean-clause-rule
returns-in-Boolean-Boolean-clause-rule g c = range_contains_rule g.met.K.Ranges.orderly c.args.self c.args.other c.contains.result (search rules)

pub returns-in-Number-Number-clause-rule : goal.returns-in-Number-Number-clause-rule
returns-in-Number-Number-clause-rule g c = range_contains_rule g.met.K.Ranges.orderly c.args.self c.args.other c.contains-in-Number-Number.result (search rules)
