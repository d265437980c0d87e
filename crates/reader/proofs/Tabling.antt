-- What comes to the table of nodes. Assumes nothing.
use Rattle.std.proofs.Common.{◌≡◌, ℕ, ◌+◌, ◌<◌, ◌≤◌, List, [], ◌∷◌, ◌++◌, length, take, set, sym, refl, ap, ◌∙◌, subst, ⊎_elim, append_assoc, length-append, arith}
use Rattle.std.proofs.Math.Seq.{take-set-lt, set-append_seam, take-append_seam}
use Rattle.std.proofs.lemmas.List.{take-take, length-set, length-replicate, take-append-le, take-set-le, take_all, take_more_set, append-nil, length-take}
use Rattle.std.proofs.lemmas.Bool.{cond-true, cond-false, lt-ltb, le-ltb, cases_lt}
use Rattle.trees.specs.declared.Node.{Node}
use Rattle.trees.specs.declared.Node.TheVariants.{End}
use Rattle.trees.specs.Laid.{weight}
use Rattle.trees.proofs.Laying.{total-append}
use Rattle.reader.specs.Tables.{Table}
use Rattle.reader.specs.Tables.{blank, put, pushed, patched, restored, Holds, Grew}

-- a node that is put
pub put_length : (ns : List Node) (i : ℕ) (n : Node) → length (put ns i n) ≡ length ns
put_length ns i n = ⊎_elim (λ h. ap length (cond-true _ _ _ (lt-ltb i 2048 h)) ∙ length-set ns i n) (λ h. ap length (cond-false _ _ _ (le-ltb i 2048 h))) (cases_lt i 2048)

pub put_kept : (slots ns : List Node) (i : ℕ) (n : Node) → i < length ns → take (length ns) slots ≡ take 2048 ns → take (length ns) (put slots i n) ≡ take 2048 (set ns i n)
put_kept slots ns i n lt e =
    ⊎_elim
    (λ h. ap (take (length ns)) (cond-true _ _ _ (lt-ltb i 2048 h)) ∙ take-set-lt (length ns) slots i n lt ∙ ap (λ (l : List Node). set l i n) e ∙ sym (take-set-lt 2048 ns i n h))
    (λ h. ap (take (length ns)) (cond-false _ _ _ (le-ltb i 2048 h)) ∙ e ∙ sym (take-set-le 2048 ns i n h))
    (cases_lt i 2048)

put_next : (slots ns : List Node) (n : Node) → length slots ≡ 2048 → take (length ns) slots ≡ take 2048 ns → take (length ns + 1) (put slots (length ns) n) ≡ take 2048 (ns ++ n ∷ [])
put_next slots ns n room e =
    ⊎_elim
    (λ h.
    let all : length (ns ++ n ∷ []) ≤ 2048 = omega (arith, length-append ns (n ∷ [])) in
    ap (take (length ns + 1)) (cond-true _ _ _ (lt-ltb (length ns) 2048 h)) ∙ take_more_set slots (length ns) n (omega arith) ∙ ap (λ (l : List Node). l ++ n ∷ []) (e ∙ take_all 2048 ns (omega arith)) ∙ sym (take_all 2048 (ns ++ n ∷ []) all))
    (λ h.
    ap (take (length ns + 1)) (cond-false _ _ _ (le-ltb (length ns) 2048 h)) ∙ take_all (length ns + 1) slots (omega arith) ∙ sym (take_all (length ns) slots (omega arith)) ∙ e ∙ sym (take-append-le 2048 ns (n ∷ []) h))
    (cases_lt (length ns) 2048)

pub holds_blank : Holds blank []
holds_blank = record { room = length-replicate 2048 End; many = refl; counted = refl; kept = refl }

-- another node of the same weight in the place of one
pub holds_patch : (t : Table) (a b : List Node) (x y : Node) → weight x ≡ weight y → Holds t (a ++ x ∷ b) → Holds (patched t (length a) y) (a ++ y ∷ b)
holds_patch t a b x y w h =
    let seam : set (a ++ x ∷ b) (length a) y ≡ a ++ y ∷ b = set-append_seam a x b y in
    let same : length (a ++ y ∷ b) ≡ length (a ++ x ∷ b) = ap length (sym seam) ∙ length-set (a ++ x ∷ b) (length a) y in
    record {
      room = put_length t.slots (length a) y ∙ h.room;
      many = h.many ∙ sym same;
      counted = omega (arith, h.counted, w, total-append a (x ∷ b), total-append a (y ∷ b));
      kept = ap (λ n. take n (put t.slots (length a) y)) same ∙ put_kept t.slots (a ++ x ∷ b) (length a) y (omega (arith, length-append a (x ∷ b))) h.kept ∙ ap (take 2048) seam;
    }

pub grew_none : (t : Table) → Grew t [] t
grew_none t = record { longer = omega arith; holds = λ old h. subst (Holds t) (sym (append-nil old)) h }

pub grew_append : {t t' t'' : Table} (ns ms : List Node) → Grew t ns t' → Grew t' ms t'' → Grew t (ns ++ ms) t''
grew_append {t'' = t''} ns ms a b = record { longer = omega (arith, a.longer, b.longer, length-append ns ms); holds = λ old h. subst (Holds t'') (append_assoc old ns ms) (b.holds (old ++ ns) (a.holds old h)) }

pub grew_one : (t : Table) (n : Node) → Grew t (n ∷ []) (pushed t n)
grew_one t n = record { longer = omega arith; holds = λ old h. holds_push old h }
  where
    holds_push : (old : List Node) → Holds t old → Holds (pushed t n) (old ++ n ∷ [])
    holds_push old h =
        let more : length (old ++ n ∷ []) ≡ length old + 1 = length-append old (n ∷ []) in
        record {
          room = put_length t.slots t.len n ∙ h.room;
          many = omega (arith, h.many, more);
          counted = omega (arith, h.counted, total-append old (n ∷ []));
          kept = ap (λ m. take m (put t.slots t.len n)) more ∙ ap (λ i. take (length old + 1) (put t.slots i n)) h.many ∙ put_next t.slots old n h.room h.kept;
        }

pub grew_push : {t t' : Table} (ns : List Node) (n : Node) → Grew t ns t' → Grew t (ns ++ n ∷ []) (pushed t' n)
grew_push {t' = t'} ns n a = grew_append ns (n ∷ []) a (grew_one t' n)

-- the node that came first is replaced
pub grew_patch : {t t' : Table} (x y : Node) (ns : List Node) → weight x ≡ weight y → Grew t (x ∷ ns) t' → Grew t (y ∷ ns) (patched t' t.len y)
grew_patch {t' = t'} x y ns w a = record { longer = a.longer; holds = λ old h. subst (λ i. Holds (patched t' i y) (old ++ y ∷ ns)) (sym h.many) (holds_patch t' old ns x y w (a.holds old h)) }

-- what has come is forgotten
pub grew_restore : {t t' : Table} (ns : List Node) → Grew t ns t' → Grew t [] (restored t' t.len t.nodes)
grew_restore {t} {t'} ns a = record { longer = omega arith; holds = λ old h. holds_restore old h }
  where
    holds_restore : (old : List Node) → Holds t old → Holds (restored t' t.len t.nodes) (old ++ [])
    holds_restore old h =
        let all = a.holds old h in
        let few : length old ≤ length (old ++ ns) = omega (arith, length-append old ns) in
        let kept : take (length old) t'.slots ≡ take 2048 old =
        sym (take-take (length old) (length (old ++ ns)) t'.slots few)
        ∙ ap (take (length old)) all.kept
        ∙ ⊎_elim
        (λ lt. take-take (length old) 2048 (old ++ ns) (omega arith) ∙ take-append_seam old ns ∙ sym (take_all 2048 old (omega arith)))
        (λ ge. ap (take (length old)) (take-append-le 2048 old ns ge) ∙ take_all (length old) (take 2048 old) (omega (arith, length-take 2048 old)))
        (cases_lt (length old) 2048)
        in
        let forgotten : Holds (restored t' t.len t.nodes) old = record { room = all.room; many = h.many; counted = h.counted; kept = kept } in
        subst (Holds (restored t' t.len t.nodes)) (sym (append-nil old)) forgotten

-- nodes only come to it
pub grew_more : {t t' : Table} (ns : List Node) → Grew t ns t' → t.len ≤ t'.len
grew_more ns g = omega (arith, g.longer)
