use Rattle.std.proofs.Common.{arith, to_z-of_z}
use Rattle.decisions.proofs.Meaning.{decides}
use Rattle.decisions.proofs.decide.Goals as goal

pub returns-clause-holds : goal.returns-clause-holds
returns-clause-holds c = grind (arith, to_z-of_z, decides)
