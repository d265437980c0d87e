use Rattle.std.proofs.Common.{sym}
use Rattle.reader.proofs.Places.{start_passed}
use Rattle.reader.proofs.cursor.Cursor.dot.Goals as goal

pub pass-requires : goal.pass-requires
pass-requires c = start_passed c.args.self.now c.requires (sym c.in-Dot.ensures) (λ q. cc) (λ o. cc)
