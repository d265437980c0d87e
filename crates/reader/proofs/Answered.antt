-- From the words of the machine to what is promised: the one tree of a template, or why it is refused. Assumes nothing.
use Rattle.std.proofs.Common.{◌≡◌, ℕ, ◌+◌, ◌≤◌, true, ◌⊎◌, List, [], ◌∷◌, length, Some, None, Ok, Err, Option, Result, ◌≢◌, inl, inr, sym, refl, ap, ◌∙◌, subst}
use Rattle.refusals.specs.declared.Refusal.{Refusal}
use Rattle.refusals.specs.declared.Refusal.TheVariants.{UnexpectedByte}
use Rattle.trees.specs.Tree.{Items, Block, written}
use Rattle.trees.specs.Flat.{flatten_block}
use Rattle.trees.specs.Counts.{need_block}
use Rattle.trees.specs.Laid.{Laid, laid}
use Rattle.trees.proofs.Laying.{table_fits, nodes_counted, laid_in_order}
use Rattle.grammar.specs.Rules.{Rule, four, refusal_of, Broken, broken_rules, open_blocks, Opened, unclosed}
use Rattle.grammar.specs.Machine.{stop, go, Config, Out, step, finish, finished, judged, run, reading, line, accepted, refused}
use Rattle.grammar.specs.Grammar.{Template}
use Rattle.grammar.specs.Laws.{Faultless}
use Rattle.grammar.proofs.Closed.{exact, names_the_byte, names_the_rule, block_of, only_block}
use Rattle.reader.specs.declared.Reading.{Reading}
use Rattle.refusals.specs.declared.fault.Fault.{Fault}
use Rattle.reader.specs.Tables.{Holds}
use Rattle.reader.specs.Answers.{ReadAs, RefusedAs, unexpected, breaks, Refuses, Answered}
use Rattle.reader.specs.Outside.{Reads, Read}

-- the number of a refusal is 3, or that of a rule
abbrev Numbered : Refusal → Type 0
Numbered n = (n ≡ UnexpectedByte) ⊎ ((r : Rule) × (n ≡ refusal_of r))

abbrev NumberedIn : Out → Type 0
NumberedIn (accepted ts) = Unit {0}
NumberedIn (refused n p) = Numbered n

numbered_judged : (d : List Broken) (o : Out) → NumberedIn o → NumberedIn (judged true d o)
numbered_judged [] o h = h
numbered_judged (f ∷ d) o h = inr (f.rule, refl)

numbered_unclosed : (os : List Opened) (ts : Items) (p : ℕ) → NumberedIn (judged true (unclosed os p) (accepted ts))
numbered_unclosed [] ts p = tt
numbered_unclosed (o ∷ os) ts p = inr (four, refl)

numbered_finished : (o : Option Items) (p : ℕ) → NumberedIn (finished true o p)
numbered_finished (Some ts) p = numbered_unclosed (open_blocks ts) ts p
numbered_finished None p = inl refl

numbered_run : (bs : List ℕ) (c : Config) (p : ℕ) → NumberedIn (run bs true c p)
unfolding run
numbered_run [] c p = numbered_finished (finish c p) p
numbered_run (b ∷ bs) c p = elim (step c p b) as (λ v. NumberedIn (elim v [ stop ↦ refused UnexpectedByte p | go d c' ↦ judged true d (run bs true c' (p + 1)) ])) [ stop ↦ inl refl | go d c' ↦ numbered_judged d (run bs true c' (p + 1)) (numbered_run bs c' (p + 1)) ]

numbered : (text : List ℕ) (n : Refusal) (p : ℕ) → reading true text ≡ refused n p → Numbered n
numbered text n p e = subst NumberedIn e (numbered_run text (line Items.none) 0)

-- a template is read
read_as : (text : List ℕ) (o : Reading) → length text ≤ 4096 → Reads text o → ReadAs text o
read_as text o short h =
    let b : (b : Block) × (written b Items.none ≡ h.items) = block_of text h.items h.accepts in
    let f : Faultless text (written b.0 Items.none) = subst (Faultless text) (sym b.1) ((exact text h.items).1 h.accepts) in
    let l : laid h.items ≡ record { nodes = flatten_block b.0; marks = []; need = need_block 0 b.0 } = ap laid (sym b.1) ∙ laid_in_order b.0 in
    let n : (laid h.items).nodes ≡ flatten_block b.0 = ap (λ (l : Laid). l.nodes) l in
    let t : Holds o.table (flatten_block b.0) = subst (Holds o.table) n h.holds in
    record {
      tree = b.0;
      short = short;
      template = f.template;
      lawful = f.lawful;
      only = λ b' t'. only_block text b' b.0 t' f.template;
      kept = t.kept;
      length_is = t.many;
      fits = table_fits b.0;
      nodes_are = t.counted ∙ nodes_counted b.0;
      stack_is = h.needs ∙ ap (λ (l : Laid). l.need) l;
    }

-- a text is refused
why : (text : List ℕ) (f : Fault) → length text ≤ 4096 → reading true text ≡ refused f.refusal f.place → Numbered f.refusal → RefusedAs text f
why text f short e (inl is) =
    let h = names_the_byte text f.place (e ∙ ap (λ n. refused n f.place) is) in
    unexpected short is (record { inside = h.0; viable = h.1; dead = h.2; nothing_due = h.3 })
why text f short e (inr (r, is)) =
    let h = names_the_rule text r f.place (e ∙ ap (λ n. refused n f.place) is) in
    breaks short r is (record { due = h.0; inside = h.1; viable = h.2; earliest = h.3 })

unread : (text : List ℕ) (n : Refusal) (p : ℕ) (ts : Items) → reading true text ≡ refused n p → Template text ts → broken_rules ts (length text) ≢ []
unread text n p ts e t lawful =
    let a : reading true text ≡ accepted ts = (exact text ts).0 (record { template = t; lawful = lawful }) in
    differ (sym e ∙ a)
  where
    differ : refused n p ≡ accepted ts → ⊥
    differ d = cc

refuses : (text : List ℕ) (f : Fault) → length text ≤ 4096 → reading true text ≡ refused f.refusal f.place → Refuses text f
refuses text f short e = record {
  why = why text f short e (numbered text f.refusal f.place e);
  none = λ le ts t. unread text f.refusal f.place ts e t;
}

-- what is promised of a text that is short enough
pub answered : (text : List ℕ) (o : Result Reading Fault) → length text ≤ 4096 → Read text o → Answered text o
answered text (Ok o) short h = read_as text o short h
answered text (Err f) short h = refuses text f short h
