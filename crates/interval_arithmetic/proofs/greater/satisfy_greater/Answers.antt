use Rattle.std.proofs.Common.{rules}
use Rattle.interval_arithmetic.proofs.Greaters.{greater_narrows_all}
use Rattle.interval_arithmetic.proofs.greater.satisfy_greater.Goals as goal

pub returns-in-Some-Some-clause-narrows : goal.returns-in-Some-Some-clause-narrows
returns-in-Some-Some-clause-narrows g c = greater_narrows_all g.met.K.Ranges.orderly g.met.K.Kind.laws c.args.strict c.args.left c.args.right c.touch.result (search rules)

pub returns-in_default-clause-narrows : goal.returns-in_default-clause-narrows
returns-in_default-clause-narrows g c = greater_narrows_all g.met.K.Ranges.orderly g.met.K.Kind.laws c.args.strict c.args.left c.args.right c.cut.result (search rules)
