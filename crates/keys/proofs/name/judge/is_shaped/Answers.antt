use Rattle.std.proofs.Common.{◌≡◌, ◌&&◌, sym, ap, ◌∙◌, rules, tests}
use Rattle.std.specs.List.{list_all}
use Rattle.std.proofs.lemmas.Iterator.{YieldsList-from_slice}
use Rattle.std.proofs.lemmas.Iterator.Search.{all_from_yields_List}
use Rattle.keys.specs.NameBytes.{name_byte, shaped}
use Rattle.keys.proofs.WordBytes.{word_is}
use Rattle.keys.proofs.name.judge.is_shaped.Goals as goal

pub returns-then-is_name_start : goal.returns-then-is_name_start
returns-then-is_name_start c =
    let rest = c.in-Some.rest.now in
    let others : c.all.result ≡ list_all name_byte rest =
    all_from_yields_List name_byte _ _ _ c.all.ensures.ran (YieldsList-from_slice rest c.iter.ensures.rest) (λ x b q k. let e = word_is x.now in search (rules, tests)) in
    others ∙ sym (ap shaped c.in-Some.ensures.cases.0 ∙ ap (λ b. b && list_all name_byte rest) (sym c.if-is_name_start.ensures))
