use Rattle.std.proofs.Common.{arith}
use Rattle.escapes.proofs.Reading.{second}
use Rattle.escapes.proofs.Within.step.Goals as goal

pub returns-in_ok-low-in-Second : goal.returns-in_ok-low-in-Second
returns-in_ok-low-in-Second c = second _ _ c.in_ok-low-in-Second.low _ c.in-Second.is (grind arith) (grind arith)
