-- The laws of reading, from completeness and soundness of the machine and from the order of the broken rules. Assumes nothing.
use Rattle.std.proofs.Common.{◌≡◌, ℕ, ◌+◌, true, false, List, [], ◌∷◌, length, sym, ap, ◌∙◌, arith}
use Rattle.trees.specs.Tree.{Items}
use Rattle.grammar.specs.Rules.{Broken, broken_items, broken_rules}
use Rattle.grammar.specs.Machine.{Config, accepted, judged, reading}
use Rattle.grammar.specs.Grammar.{Template}
use Rattle.grammar.specs.Laws.{Exact, OneReading, NamesTheByte, Sooner, Among, NamesTheRule, RefusedByTheFirst}
use Rattle.grammar.proofs.Dues.{strict, accepts, accepts_all}
use Rattle.grammar.proofs.Refused

same_items : {ts ts' : Items} → accepted ts ≡ accepted ts' → ts ≡ ts'
same_items e = cc

whole : (ts : Items) (text : List ℕ) → broken_rules ts (0 + length text) ≡ broken_rules ts (length text)
whole ts text = let e : 0 + length text ≡ length text = omega arith in ap (broken_rules ts) e

-- the reading with the rules held, of a text that is read without them: the first broken rule is the refusal
pub held : (text : List ℕ) (ts : Items) → reading false text ≡ accepted ts → reading true text ≡ judged true (broken_rules ts (length text)) (accepted ts)
unfolding broken_items
held text ts e =
    let l = strict text (Config.line Items.none) 0 ts e in
    l.reads ∙ ap (λ d. judged true d (accepted ts)) (sym l.all ∙ whole ts text)

pub lawful : (text : List ℕ) (ts : Items) → reading true text ≡ accepted ts → broken_rules ts (length text) ≡ []
unfolding broken_items
lawful text ts e = sym (whole ts text) ∙ accepts_all text (Config.line Items.none) 0 ts e

module _ (complete : (text : List ℕ) (ts : Items) → Template text ts → reading false text ≡ accepted ts)
    (sound : (text : List ℕ) (ts : Items) → reading false text ≡ accepted ts → Template text ts) where
  pub exact : Exact
  exact text ts = (
    λ f. held text ts (complete text ts f.template) ∙ ap (λ d. judged true d (accepted ts)) f.lawful,
    λ e. record { template = sound text ts (accepts text (Config.line Items.none) 0 ts e); lawful = lawful text ts e },
  )

  pub one_reading : OneReading
  one_reading text ts ts' h h' = same_items (sym (complete text ts h) ∙ complete text ts' h')

  pub refused_by_the_first : RefusedByTheFirst
  refused_by_the_first text ts f fs t e = held text ts (complete text ts t) ∙ ap (λ d. judged true d (accepted ts)) e

  pub names_the_byte : NamesTheByte
  names_the_byte = Refused.names_the_byte complete sound

  module _ (first_least : (text : List ℕ) (ts : Items) (f : Broken) (fs : List Broken) → Template text ts → broken_rules ts (length text) ≡ f ∷ fs → (g : Broken) → Among g (f ∷ fs) → Sooner f g) where
    pub names_the_rule : NamesTheRule
    names_the_rule = Refused.names_the_rule complete sound first_least
