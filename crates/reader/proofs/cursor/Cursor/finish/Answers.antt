use Rattle.std.proofs.Common.{sym}
use Rattle.reader.proofs.Places.{finished}
use Rattle.reader.proofs.cursor.Cursor.finish.Goals as goal

pub returns : goal.returns
returns c = finished c.args.self.now _ _ c.requires.inward (sym c.in-Dollar.ensures) c.take.ensures
