-- Keys and values, by where the bytes are cut. Assumes nothing.
use Rattle.std.proofs.Common.{◌≡◌, ℕ, Bool, true, false, cond, ◌&&◌, ltb, List, [], ◌∷◌, ◌++◌, length, eqb, Some, None, Ok, Err, Result, sym, refl, ap, ◌∙◌}
use Rattle.std.specs.Result.{MatchResult}
use Rattle.std.proofs.lemmas.List.Splits.{slice_split_first, slice_split_none}
use Rattle.std.proofs.lemmas.List.Folds.{list_any_at}
use Rattle.std.proofs.lemmas.Bool.{both_ways, cond-true, cond-false, false_from_ne_true, ltb-true}
use Rattle.refusals.specs.Refusals.{answered, Guarded}
use Rattle.refusals.specs.declared.Refusal.{Refusal}
use Rattle.refusals.proofs.Answered.{answered_ok, answered_err}
use Rattle.refusals.specs.declared.Refusal.TheVariants.{BadName, BadValue}
use Rattle.keys.specs.NameBytes.{lawful_name}
use Rattle.values.specs.Forms.{Elem}
use Rattle.cards.specs.Cuts.{before, NotThere, Parts}
use Rattle.cards.proofs.Cutting.{has_position}
use Rattle.cards.specs.Lines.{is_empty, number, subscripts, key_in, lawful_piece, element, pieces, elements_in, value_in}

-- ---- keys

-- an answer that is there exactly where a test holds, and is not there
pub none_cond : {X : Type 0} (b : Bool) (y : X) → None ≡ cond b (Some y) None → b ≡ false
none_cond true y e = absurd cc
none_cond false y e = refl

pub key_plain : (bs : List ℕ) → NotThere 91 bs → key_in bs ≡ answered (lawful_name bs) (bs, None) BadName
key_plain bs c = cond-false _ _ _ c.none

pub key_numbered : (bs x y : List ℕ) → Parts 91 bs x y → key_in bs ≡ answered (lawful_name x && subscripts y) (x, Some (number (before 93 y))) BadName
key_numbered bs x y c = cond-true _ _ _ c.some ∙ (λ j. answered (lawful_name (sym c.front j) && subscripts (sym c.back j)) (sym c.front j, Some (number (before 93 (sym c.back j)))) BadName)

-- ---- values

-- a change that is refused with another refusal
pub refused_as : {X : Type 0} (b : Bool) (before next after : X) (f g : Refusal) (r out : Result (Unit {0}) Refusal) → Guarded b before next after f r → MatchResult r (λ x. out ≡ Ok x) (λ _. out ≡ Err g) → Guarded b before next after g out
refused_as b before next after f g (Ok x) out h m = record { answer = m ∙ sym (ap (λ t. answered t tt g) (answered_ok b tt x f (sym h.answer))); left = h.left }
refused_as b before next after f g (Err e) out h m = record { answer = m ∙ sym (ap (λ t. answered t tt g) (answered_err b tt f e (sym h.answer)).0); left = h.left }

-- one piece more, or the first that is refused
module _ (es after : List Elem) (p : List ℕ) (ps : List (List ℕ)) (r : Result (Unit {0}) Refusal) (g : Guarded (lawful_piece p && ltb (length es) 16) es (es ++ element p ∷ []) after BadValue r) where
  pub piece_added : r ≡ Ok tt → elements_in es (p ∷ ps) ≡ elements_in after ps
  piece_added e =
      let t = answered_ok _ tt tt BadValue (sym g.answer ∙ e) in
      cond-true _ _ _ t ∙ ap (λ v. elements_in v ps) (sym (g.left ∙ cond-true _ _ _ t))

  pub piece_refused : (f : Refusal) → r ≡ Err f → Err f ≡ elements_in es (p ∷ ps)
  piece_refused f e =
      let t = answered_err _ tt BadValue f (sym g.answer ∙ e) in
      ap Err t.1 ∙ sym (cond-false _ _ _ t.0)

pub value_some : (bs : List ℕ) → is_empty bs ≡ false → value_in bs ≡ elements_in [] (pieces bs)
value_some bs h = cond-false _ _ _ h

-- the bytes up to the first comma, and those behind it
pub pieces_first : (bs x y : List ℕ) → Parts 44 bs x y → pieces bs ≡ x ∷ pieces y
pieces_first bs x y c =
    slice_split_first (λ b. eqb b 44) bs 0 (ltb-true _ _ (sym (has_position _ bs) ∙ c.some)) ∙ (λ j. sym c.front j ∷ pieces (sym c.back j))

-- with no comma the bytes are the one piece
pub pieces_last : (bs : List ℕ) → NotThere 44 bs → pieces bs ≡ bs ∷ []
pieces_last bs c = slice_split_none (λ b. eqb b 44) bs (λ i d l. false_from_ne_true _ (λ e. both_ways _ c.none (list_any_at (λ b. eqb b 44) bs i d l e)))
