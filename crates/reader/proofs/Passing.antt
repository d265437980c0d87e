-- What the cursor has passed, and what has come to the table on the way. Assumes nothing.
use Rattle.std.proofs.Common.{◌≡◌, ℕ, ◌+◌, ◌-◌, ◌<◌, ◌≤◌, min, List, [], ◌∷◌, ◌++◌, length, Bor, None, Option, sym, refl, ap, ◌∙◌, subst, ⊎_elim, arith}
use Rattle.std.proofs.lemmas.Bool.{cases_lt}
use Rattle.trees.specs.declared.Constant.{Constant}
use Rattle.trees.specs.declared.Node.{Node}
use Rattle.trees.specs.declared.Span.{Span}
use Rattle.trees.specs.Tree.{from_to}
use Rattle.trees.specs.Laid.{weight}
use Rattle.grammar.specs.Grammar.{Blanks}
use Rattle.reader.specs.declared.cursor.Cursor.{Cursor}
use Rattle.reader.specs.declared.cursor.State.TheVariants.{Instruction}
use Rattle.reader.specs.declared.expression.Operand.{Operand}
use Rattle.reader.specs.Tables.{Table, pushed, Grew}
use Rattle.reader.specs.States.{MovedTo, Tabled}
use Rattle.reader.specs.Scans.{Spaced, Ready}
use Rattle.reader.specs.Reads.{Went, Placed, Solid}
use Rattle.reader.proofs.Tabling.{grew_none, grew_append, grew_push}

-- the same of another reference to the same text
pub there : (P : List ℕ → Type 0) {t t' : Bor (List ℕ)} → t' ≡ t → P t'.now → P t.now
there P e h = subst (λ (t : Bor (List ℕ)). P t.now) e h

pub now_text : {t t' : Bor (List ℕ)} → t' ≡ t → t'.now ≡ t.now
now_text e = ap (λ (t : Bor (List ℕ)). t.now) e

-- the cursor has come here
pub moved_here : {r r' : Cursor} {p : ℕ} → MovedTo r p r' → MovedTo r r'.pos r'
moved_here m = record { text = m.text; state = m.state; pos = refl; table = m.table }

pub moved_on : {r r₁ r₂ : Cursor} {p q : ℕ} → MovedTo r p r₁ → MovedTo r₁ q r₂ → MovedTo r r₂.pos r₂
moved_on a b = record { text = b.text ∙ a.text; state = b.state ∙ a.state; pos = refl; table = b.table ∙ a.table }

pub moved_more : {r r₁ r₂ : Cursor} {p : ℕ} → MovedTo r p r₁ → MovedTo r₁ (r₁.pos + 1) r₂ → MovedTo r (p + 1) r₂
moved_more a b = record { text = b.text ∙ a.text; state = b.state ∙ a.state; pos = b.pos ∙ ap (λ q. q + 1) a.pos; table = b.table ∙ a.table }

-- less of the text is left
pub falls_on : (r₀ r : Cursor) (p : ℕ) → r.text ≡ r₀.text → p < r.pos → length r₀.text.now - r.pos < length r₀.text.now - p
falls_on r₀ r p e lt = omega (arith, r.within, ap (λ (t : Bor (List ℕ)). length t.now) e)

-- blanks that have been passed, told in the text of an earlier cursor
pub blanks_in : {t : Bor (List ℕ)} {r₁ r₂ : Cursor} → r₁.text ≡ t → Spaced r₁ r₂ → Blanks t.now r₁.pos r₂.pos
blanks_in {r₁ = r₁} {r₂ = r₂} e s = there (λ t. Blanks t r₁.pos r₂.pos) e s.all

pub solid_in : {t : Bor (List ℕ)} {r₁ r₂ : Cursor} → r₁.text ≡ t → Spaced r₁ r₂ → Solid t.now r₂.pos
solid_in {r₂ = r₂} e s = there (λ t. Solid t r₂.pos) e s.last

-- behind blanks stands none
pub spaced_solid : {r r' : Cursor} → Spaced r r' → Solid r'.text.now r'.pos
spaced_solid {r} {r'} s = there (λ t. Solid t r'.pos) (sym s.same.text) s.last

-- none is behind blanks where none stands
pub blanks_here : (text : List ℕ) (p : ℕ) → p ≤ length text → Blanks text p p
blanks_here text p le = record { onwards = omega arith; inside = le; all = λ q lo hi. absurd (omega arith) }

pub blanks_none : (text : List ℕ) (p q : ℕ) → Solid text p → Blanks text p q → q ≡ p
blanks_none text p q solid b = ⊎_elim (λ lt. absurd (cc (b.all p (omega arith) lt, solid (omega (arith, b.inside))))) (λ ge. omega (arith, b.onwards)) (cases_lt p q)

-- and blanks behind blanks are blanks
pub blanks_on : {text : List ℕ} {p q z : ℕ} → Blanks text p q → Blanks text q z → Blanks text p z
blanks_on {q = q} a b = record { onwards = omega (arith, a.onwards, b.onwards); inside = b.inside; all = λ i lo hi. ⊎_elim (λ lt. a.all i lo lt) (λ ge. b.all i ge hi) (cases_lt i q) }

-- what has come to the table, from one cursor to the next
pub went_append : {r r₁ r₂ : Cursor} (ns ms : List Node) → Went r ns r₁ → Went r₁ ms r₂ → Went r (ns ++ ms) r₂
went_append ns ms a b =
    record {
      text = b.text ∙ a.text;
      inward = b.inward;
      onwards = omega (arith, a.onwards, b.onwards);
      few = omega (arith, a.few, b.few);
      fewer = omega (arith, a.fewer, b.fewer);
      grew = grew_append ns ms a.grew b.grew;
    }

pub went_none : (r : Cursor) → r.state ≡ Instruction → Went r [] r
went_none r inward = record { text = refl; inward = inward; onwards = omega arith; few = omega arith; fewer = omega arith; grew = grew_none r.table }

-- nothing, where the cursor has only moved, before that or behind it
pub went_over : {r r₁ r₂ : Cursor} {p : ℕ} (ns : List Node) → Went r ns r₁ → r₁.pos ≤ p → MovedTo r₁ p r₂ → Went r ns r₂
went_over {r} {r₁} {r₂} ns w le m =
    let len : r₂.table.len ≡ r₁.table.len = ap (λ (t : Table). t.len) m.table in
    let nodes : r₂.table.nodes ≡ r₁.table.nodes = ap (λ (t : Table). t.nodes) m.table in
    record {
      text = m.text ∙ w.text;
      inward = m.state ∙ w.inward;
      onwards = omega (arith, w.onwards, m.pos);
      few = omega (arith, w.few, m.pos);
      fewer = omega (arith, w.fewer);
      grew = subst (Grew r.table ns) (sym m.table) w.grew;
    }

pub went_from : {r r₁ r₂ : Cursor} {p : ℕ} (ns : List Node) → r.pos ≤ p → MovedTo r p r₁ → Went r₁ ns r₂ → Went r ns r₂
went_from {r} {r₁} {r₂} ns le m w =
    let len : r₁.table.len ≡ r.table.len = ap (λ (t : Table). t.len) m.table in
    let nodes : r₁.table.nodes ≡ r.table.nodes = ap (λ (t : Table). t.nodes) m.table in
    record {
      text = w.text ∙ m.text;
      inward = w.inward;
      onwards = omega (arith, w.onwards, m.pos);
      few = omega (arith, w.few, m.pos);
      fewer = omega (arith, w.fewer);
      grew = subst (λ t. Grew t ns r₂.table) m.table w.grew;
    }

pub went_moved : {r r' : Cursor} {p : ℕ} → r.state ≡ Instruction → r.pos ≤ p → MovedTo r p r' → Went r [] r'
went_moved {r} inward le m = went_over [] (went_none r inward) le m

-- a node more, for which a byte has been passed
pub went_push : {r r₁ r₂ : Cursor} (ns : List Node) (n : Node) → weight n ≤ 1 → r₁.table.len + r.pos + 1 ≤ r.table.len + r₁.pos → Went r ns r₁ → Tabled r₁ (pushed r₁.table n) r₂ → Went r (ns ++ n ∷ []) r₂
went_push {r} {r₁} {r₂} ns n light more a t =
    let len : r₂.table.len ≡ r₁.table.len + 1 = ap (λ (t : Table). t.len) t.table in
    let nodes : r₂.table.nodes ≡ r₁.table.nodes + weight n = ap (λ (t : Table). t.nodes) t.table in
    record {
      text = t.text ∙ a.text;
      inward = t.state ∙ a.inward;
      onwards = omega (arith, a.onwards, t.pos);
      few = omega (arith, t.pos);
      fewer = omega (arith, a.fewer, t.pos);
      grew = subst (Grew r.table (ns ++ n ∷ [])) (sym t.table) (grew_push ns n a.grew);
    }

-- where an instruction goes on
pub ready_on : {r r' : Cursor} {p : ℕ} → Ready r → MovedTo r p r' → r.pos ≤ p → Ready r'
ready_on ready m on =
    record {
      inward = m.state ∙ ready.inward;
      few = omega (arith, ready.few, m.pos, ap (λ (t : Table). t.len) m.table);
      fewer = omega (arith, ready.fewer, ap (λ (t : Table). t.len) m.table, ap (λ (t : Table). t.nodes) m.table);
    }

pub ready_went : {r r' : Cursor} (ns : List Node) → Ready r → Went r ns r' → Ready r'
ready_went ns ready w = record { inward = w.inward; few = omega (arith, ready.few, w.few); fewer = omega (arith, ready.fewer, w.fewer) }

pub ready_pushed : {r r' : Cursor} (n : Node) → weight n ≡ 1 → Ready r → r.table.len + 1 ≤ r.pos → Tabled r (pushed r.table n) r' → Ready r'
ready_pushed n one ready few tb =
    record {
      inward = tb.state ∙ ready.inward;
      few = omega (arith, few, tb.pos, ap (λ (t : Table). t.len) tb.table);
      fewer = omega (arith, one, ready.fewer, ap (λ (t : Table). t.len) tb.table, ap (λ (t : Table). t.nodes) tb.table);
    }

-- a constant that begins no later than p begins no later than a place behind p
pub placed_on : (c : Option Constant) (p p' : ℕ) → p ≤ p' → Placed c p → Placed c p'
placed_on c p p' le h = grind arith

-- an operand that is no constant
pub placed_none : (o : Operand) {n : ℕ} (p : ℕ) → o ≡ record { need = n; constant = None } → Placed o.constant p
placed_none o p e = subst (λ (o : Operand). Placed o.constant p) (sym e) tt

-- a span of the text stays as it is in 16 bits
pub narrowed : (x y : ℕ) (n : Span ℕ) → n ≡ from_to (min x 65535) (min y 65535) → x ≤ 65535 → y ≤ 65535 → n ≡ from_to x y
narrowed x y n e a b =
    let first : min x 65535 ≡ x = omega arith in
    let last : min y 65535 ≡ y = omega arith in
    e ∙ λ i. from_to (first i) (last i)
