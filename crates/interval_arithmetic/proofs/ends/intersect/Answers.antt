use Rattle.std.proofs.Common.{rules}
use Rattle.interval_arithmetic.specs.Ends.{meet}
use Rattle.interval_arithmetic.proofs.Meets.{meet_shares}
use Rattle.interval_arithmetic.proofs.ends.intersect.Goals as goal

pub returns-clause-shares : goal.returns-clause-shares
unfolding meet
returns-clause-shares g c = meet_shares g.met.K.Ranges.orderly _ _ _ (search rules)
