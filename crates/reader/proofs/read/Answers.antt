use Rattle.std.proofs.Common.{List, ℕ, subst}
use Rattle.grammar.proofs.Closed
use Rattle.reader.specs.Outside.{Read}
use Rattle.reader.proofs.Answered.{answered}
use Rattle.reader.proofs.read.Goals as goal

pub returns-then-text-gt-LONGEST-clause-one_reading : goal.returns-then-text-gt-LONGEST-clause-one_reading
returns-then-text-gt-LONGEST-clause-one_reading c = Closed.one_reading

pub returns-then-text-gt-LONGEST-clause-in_steps : goal.returns-then-text-gt-LONGEST-clause-in_steps
returns-then-text-gt-LONGEST-clause-in_steps c = Closed.arrives_in_steps

pub returns : goal.returns
returns c = record {
  answered = answered _ _ c.if-text-gt-LONGEST.false (subst (λ (w : List ℕ). Read w c.read_whole.result) c.new.ensures.text c.read_whole.ensures);
  one_reading = Closed.one_reading;
  in_steps = Closed.arrives_in_steps;
}
