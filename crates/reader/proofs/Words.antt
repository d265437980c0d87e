-- Words, byte by byte: names, and what stands right behind them. Assumes nothing.
use Rattle.std.proofs.Common.{◌≡◌, ℕ, zero, suc, ◌+◌, ◌-◌, ◌<◌, ◌≤◌, Bool, true, false, List, [], ◌∷◌, ◌++◌, length, get_or, take, drop, None, sym, refl, ap, ◌∙◌, ⊎_elim, arith}
use Rattle.std.proofs.lemmas.List.{get_or-drop, take_more, length-drop}
use Rattle.std.proofs.lemmas.Bool.{cond-true, cond-false, cases_lt}
use Rattle.std.proofs.lemmas.Bool.Decides.{nat_tests}
use Rattle.tokens.specs.declared.byte.Start.TheVariants as at
use Rattle.tokens.specs.declared.byte.After.{After}
use Rattle.tokens.specs.declared.byte.After.TheVariants as past
use Rattle.tokens.specs.Bytes.{start, after, word}
use Rattle.trees.specs.Tree.{Key, Expr}
use Rattle.grammar.specs.Rules.{six, long}
use Rattle.grammar.specs.Grammar.{Every, part}
use Rattle.grammar.specs.Machine.{Stack, Config, Move, go, late, onward, want, in_name, named, aft, step, worded, nameds, afters, wants}
use Rattle.grammar.specs.Words.{keyword_of}
use Rattle.grammar.proofs.Moves.{moves, alike, late_none}
use Rattle.reader.specs.declared.cursor.Cursor.{Cursor}
use Rattle.reader.specs.Scans.{Worded, start_at, after_at}
use Rattle.reader.specs.Reads.{Solid}
use Rattle.reader.proofs.Places.{start_is, after_here, blank_after}

-- a part of the text, byte by byte
part_none : (text : List ℕ) (p : ℕ) → part text p p ≡ []
part_none text p = let none : p - p ≡ 0 = omega arith in ap (λ n. take n (drop p text)) none

part_more : (text : List ℕ) (i p : ℕ) → i ≤ p → p < length text → part text i p ++ get_or text p 0 ∷ [] ≡ part text i (p + 1)
part_more text i p le lt =
    let e : p + 1 - i ≡ p - i + 1 = omega arith in
    let e' : i + (p - i) ≡ p = omega arith in
    let in_rest : p - i < length (drop i text) = omega (arith, length-drop i text) in
    sym (ap (λ n. take n (drop i text)) e ∙ take_more (drop i text) (p - i) 0 in_rest ∙ ap (λ x. part text i p ++ x ∷ []) (get_or-drop i text (p - i) 0 ∙ ap (λ q. get_or text q 0) e'))

part_one : (text : List ℕ) (p : ℕ) → p < length text → get_or text p 0 ∷ [] ≡ part text p (p + 1)
part_one text p lt = ap (λ w. w ++ get_or text p 0 ∷ []) (sym (part_none text p)) ∙ part_more text p p (omega arith) lt

pub letter_word : (b : ℕ) → start b ≡ at.Letter → word b ≡ true
letter_word b e = grind (arith, nat_tests)

-- the cursor has passed a word that begins with a letter: it has gone on
pub word_some : (r r' : Cursor) → start_at r.text.now r.pos ≡ at.Letter → Worded r r' → r.pos < r'.pos
word_some r r' here w =
    let h = start_is r.text.now r.pos at.Letter (λ o. cc) here in
    ⊎_elim
    (λ lt. lt)
    (λ ge.
    let e : r'.pos ≡ r.pos = omega (arith, w.all.onwards) in
    absurd (cc (w.last (omega (arith, h.0)), ap (λ p. word (get_or r.text.now p 0)) e ∙ letter_word (get_or r.text.now r.pos 0) h.1)))
    (cases_lt r.pos r'.pos)

module _ (m : Bool) (text : List ℕ) where
  module _ (c : List ℕ → Config) (takes : (w : List ℕ) (p b : ℕ) → word b ≡ true → step (c w) p b ≡ go [] (c (w ++ b ∷ []))) where
    word_by : (n i p p' : ℕ) → p' ≡ p + n → i ≤ p → Every word text p p' → onward m text (c (part text i p)) p ≡ onward m text (c (part text i p')) p'
    word_by zero i p p' e le s = let e' : p ≡ p' = omega arith in ap (λ p. onward m text (c (part text i p)) p) e'
    word_by (suc n) i p p' e le s =
        let lt : p < length text = omega (arith, s.inside) in
        moves m text (c (part text i p)) p _ lt (takes (part text i p) p (get_or text p 0) (s.all p (omega arith) (omega arith)))
        ∙ ap (λ w. onward m text (c w) (p + 1)) (part_more text i p le lt)
        ∙ word_by n i (p + 1) p' (omega arith) (omega arith) (record { onwards = omega arith; inside = s.inside; all = λ q a b. s.all q (omega arith) b })

    -- a configuration that takes the bytes of a word has taken the first one
    pub word_from : (i p : ℕ) → i < p → Every word text i p → onward m text (c (get_or text i 0 ∷ [])) (i + 1) ≡ onward m text (c (part text i p)) p
    word_from i p some s =
        ap (λ w. onward m text (c w) (i + 1)) (part_one text i (omega (arith, s.inside)))
        ∙ word_by (p - (i + 1)) i (i + 1) p (omega arith) (omega arith) (record { onwards = omega arith; inside = s.inside; all = λ q a b. s.all q (omega arith) b })

  -- a word that begins with a letter, where an operand is expected
  pub word_run : (i p : ℕ) (k : Stack) → i < p → start_at text i ≡ at.Letter → Every word text i p → onward m text (want k) i ≡ onward m text (in_name i (part text i p) k) p
  word_run i p k some e s =
      let h = start_is text i at.Letter (λ o. cc) e in
      moves m text (want k) i _ h.0 (ap (λ s. wants s (get_or text i 0) k i) h.1)
      ∙ word_from (λ w. in_name i w k) (λ w p b h. cond-true _ _ _ h) i p some s

-- a name that is not too long, and one that is
pub long_none : (i p : ℕ) → p ≤ i + 24 → long i p ≡ []
long_none i p h = grind (arith, nat_tests)

pub long_due : (i p : ℕ) → i + 24 < p → long i p ≡ record { rule = six; place = i; due = p } ∷ []
long_due i p h = grind (arith, nat_tests)

module _ (text : List ℕ) where
  -- right behind a name that is no keyword and not too long
  pub name_ends : (i p : ℕ) (w : List ℕ) (k : Stack) → (p < length text → word (get_or text p 0) ≡ false) → keyword_of w ≡ None → p ≤ i + 24 → onward true text (in_name i w k) p ≡ onward true text (named i p w k) p
  name_ends i p w k last free small =
      alike true text (in_name i w k) (named i p w k) p
      (λ lt.
      let v : Move = nameds (after (get_or text p 0)) i p w k p in
      cond-false _ _ _ (last lt) ∙ ap (λ o. worded o i w k p (get_or text p 0)) free ∙ ap (λ d. late d v) (long_none i p small) ∙ late_none v)
      refl

  -- a name that neither `(` nor `[` follows
  alone_by : (a : After) (i j : ℕ) (w : List ℕ) (k : Stack) (p : ℕ) → (a ≡ past.Blank → ⊥) → (a ≡ past.Round → ⊥) → (a ≡ past.Square → ⊥) → nameds a i j w k p ≡ afters a (Expr.key (Key.name i j)) k p
  alone_by a i j w k p b r s = grind arith

  pub name_alone : (i j : ℕ) (w : List ℕ) (k : Stack) (p : ℕ) → Solid text p → (after_at text p ≡ past.Round → ⊥) → (after_at text p ≡ past.Square → ⊥) → onward true text (named i j w k) p ≡ onward true text (aft (Expr.key (Key.name i j)) k) p
  name_alone i j w k p solid nr ns =
      alike true text (named i j w k) (aft (Expr.key (Key.name i j)) k) p
      (λ lt. alone_by (after (get_or text p 0)) i j w k p (λ e. cc (solid lt, blank_after (get_or text p 0) e)) (λ e. nr (after_here text p lt ∙ e)) (λ e. ns (after_here text p lt ∙ e)))
      refl
