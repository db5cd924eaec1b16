use Rattle.std.proofs.Common.{rules}
use Rattle.answers.specs.declared.truth.Truth.TheVariants.{True}
use Rattle.interval_arithmetic.proofs.Meets.{contains_rule}
use Rattle.interval_arithmetic.proofs.ends.contains.Goals as goal

pub returns-in-Some-clause-rule : goal.returns-in-Some-clause-rule
returns-in-Some-clause-rule g c = contains_rule g.met.K.Ranges.orderly c.args.a c.args.b True (search rules)
