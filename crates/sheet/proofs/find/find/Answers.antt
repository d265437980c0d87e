use Rattle.std.proofs.Common.{◌≡◌, true, false, rules}
use Rattle.std.proofs.lemmas.Iterator.{IsFirst-from_position, YieldsList-from_slice}
use Rattle.keys.specs.KeyMeans.{key_means}
use Rattle.keys.proofs.Same.{same_key}
use Rattle.sheet.proofs.Finding.{at_key, first_at}
use Rattle.sheet.proofs.find.find.Goals as goal

pub returns : goal.returns
returns c =
    let key = c.args.key.now in
    let k = key_means key in
    first_at k c.args.rows.now _
    (IsFirst-from_position _ _ _ (λ row. true ≡ at_key k row) (λ row. false ≡ at_key k row) c.position.ensures.ran (YieldsList-from_slice c.args.rows.now cc) (λ x q h. search (rules, same_key x.now.key key)) (λ x q h. (search rules, search (rules, same_key x.now.key key))))
