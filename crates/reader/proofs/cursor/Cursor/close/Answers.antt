use Rattle.std.proofs.Common.{rules}
use Rattle.tokens.specs.declared.byte.After.TheVariants as past
use Rattle.reader.proofs.Places.{after_passed}
use Rattle.reader.proofs.cursor.Cursor.close.Goals as goal

pub pass-requires : goal.pass-requires
pass-requires c = after_passed c.args.self.now {x = past.End c.args.shape} c.requires.inward (search rules) (λ d. cc) (λ q. cc) (λ o. cc)
