use Rattle.evaluator.proofs.run.Run.work.Goals as goal

pub returns-in-Short-clause-works : goal.returns-in-Short-clause-works
returns-in-Short-clause-works g c lawful = rw (c.in-Short.is, ← c.from-in-Short.ensures) c.decide.ensures.decides
