use Rattle.std.proofs.Common.{ℕ, ◌-◌, ◌<◌, ◌≤◌, true, length, slice_index}
use Rattle.reader.specs.States.{MovedTo}
use Rattle.reader.proofs.cursor.Cursor.skip.Given as goal

abbrev pub invariant-loop-b : goal.invariant-loop-b
invariant-loop-b g l = record {
  same : MovedTo l.initial.self l.self.pos l.self;
  onwards : l.initial.self.pos ≤ l.self.pos;
  all : (q : ℕ) → l.initial.self.pos ≤ q → q < l.self.pos → goal.F-post g l.test (slice_index l.initial.self.text.now q) true;
}

abbrev pub decreases-loop-b : goal.decreases-loop-b
decreases-loop-b g l = length l.initial.self.text.now - l.self.pos
