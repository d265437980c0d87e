use Rattle.tokens.specs.declared.byte.After.TheVariants as past
use Rattle.tokens.specs.declared.byte.Separator.TheVariants.{Semicolon}
use Rattle.tokens.specs.declared.byte.Shape.TheVariants.{Curly}
use Rattle.reader.proofs.Places.{after_passed}
use Rattle.reader.proofs.cursor.Cursor.group_end.Goals as goal
use Rattle.reader.proofs.cursor.Cursor.group_end.Goals.{in-Separator-Semicolon, in-End-Curly}

pub pass-requires : goal.pass-requires
pass-requires c =
    elim c.match-after.branch [
      | in-Separator-Semicolon w ↦ after_passed c.args.self.now {x = past.Separator Semicolon} c.requires (cc w.in-Separator-Semicolon.field-0-is) (λ d. cc) (λ q. cc) (λ o. cc)
      | in-End-Curly w ↦ after_passed c.args.self.now {x = past.End Curly} c.requires (cc w.in-End-Curly.field-0-is) (λ d. cc) (λ q. cc) (λ o. cc)
    ]
