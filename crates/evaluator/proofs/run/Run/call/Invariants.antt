use Rattle.std.proofs.Common.{◌≡◌, drop}
use Rattle.evaluator.specs.Runs.{slots, OnlyValues}
use Rattle.evaluator.proofs.Acting.{Filled}
use Rattle.evaluator.proofs.run.Run.call.Given as goal

abbrev pub invariant-loop-i : goal.invariant-loop-i
invariant-loop-i l = record {
  values : OnlyValues l.fn.self l.self;
  left : slots l.self ≡ drop l.i (slots l.fn.self);
  filled : Filled (slots l.fn.self) l.count l.i l.arguments;
}
