-- The nodes of an expression, one after another, do what the expression means. Assumes nothing.
use Rattle.std.proofs.Common.{◌≡◌, ℕ, zero, suc, ◌+◌, ◌<◌, ◌≤◌, max, Bool, true, false, cond, List, [], ◌∷◌, ◌++◌, map, reverse, length, drop, ℤ, Some, None, Option, Ok, Err, Result, sym, refl, ap, ◌∙◌, subst, append_assoc, arith, length-append, nat_le}
use Rattle.std.proofs.lemmas.Bool.{lt-ltb, lt-leb, leb-false, cond-true, cond-false, cond_both}
use Rattle.std.proofs.lemmas.List.{map-append, reverse-append, reverse-reverse, length-map, length-reverse, take_at, drop_at}
use Rattle.effects.specs.Effects.{Program, return, fail, visit, byte, put, ask, ◌>>=◌, or_fail, Limits, State, Outcome, refused, exec}
use Rattle.effects.proofs.Programs.{bind_assoc}
use Rattle.evaluator.specs.Turns.{Slot, or_empty, top_value, joined, checked, pushed, arguments_of, Turn, gives, gives_if, worked, acted, walked}
use Rattle.functions.specs.declared.Signature.{Signature}
use Rattle.grammar.specs.Grammar.{part}
use Rattle.keys.specs.KeyOrder.{KeyName}
use Rattle.meaning.specs.Constants.{part_of, number_constant, text_constant}
use Rattle.meaning.specs.Lawful.{Lawful, AllLawful}
use Rattle.meaning.specs.Meaning.{Value, known, holds, binary_value, both_sides, one_side, signed_value, expression, key_value, arguments, items}
use Rattle.operations.specs.Functions.{and_then, at_most_16, call, sequence}
use Rattle.operations.specs.Operators.{decides, operand}
use Rattle.refusals.specs.Errors.{Error, refusal_of}
use Rattle.stacks.specs.Stacked.{rest}
use Rattle.store.specs.Names.{read_at}
use Rattle.tokens.specs.declared.operator.Op.{Op}
use Rattle.tokens.specs.declared.operator.Sign.{Sign}
use Rattle.tokens.specs.Operators.{is_short}
use Rattle.trees.specs.declared.Node.{Node}
use Rattle.trees.specs.declared.Node.TheVariants as node
use Rattle.trees.specs.Counts.{need, need_key, need_args, need_list}
use Rattle.trees.specs.Flat.{joint, closing, called, flatten, flatten_key, flatten_args, flatten_seq}
use Rattle.trees.specs.Laid.{place_of}
use Rattle.trees.specs.Tree.{Key, Expr, Args, Seq, from_to, count_args}

-- ---- a node under limits

-- what comes of a node's result at p
abbrev pub outcome_of : {B : Type 0} → Limits → ℕ → (Turn → Program B) → State → Result Turn Error → Outcome B
outcome_of L p f s (Ok t) = exec L (f t) s
outcome_of L p f s (Err e) = refused (refusal_of e) p s

or_fails : {B : Type 0} (L : Limits) (p : ℕ) (f : Turn → Program B) (s : State) (r : Result Turn Error) → exec L (or_fail p r >>= f) s ≡ outcome_of L p f s r
or_fails L p f s (Ok t) = refl
or_fails L p f s (Err e) = refl

-- a key with a subscript asks once its operand is judged
index_asks : {B : Type 0} (L : Limits) (p : ℕ) (f : Turn → Program B) (s : State) (k : ℤ → KeyName) (g : Value → Turn) (r : Result ℤ Error)
    → exec L (or_fail p r >>= (λ n. ask (k n) (λ v. return (g v))) >>= f) s ≡ outcome_of L p f s (and_then r (λ n. Ok (g (read_at (k n) s.names))))
index_asks L p f s k g (Ok n) = refl
index_asks L p f s k g (Err e) = refl

-- a node under limits gives what it makes of the names that stand then
pub acts : {B : Type 0} (L : Limits) (cap : ℕ) (text : List ℕ) (n : Node) (vs : List Slot) (f : Turn → Program B) (s : State) → exec L (acted cap text n vs >>= f) s ≡ outcome_of L (place_of n) f s (worked cap text s.names n vs)
acts L cap text (node.Name k) vs f s = refl
acts L cap text (node.Index k) vs f s = index_asks L k.«from» f s (λ n. (part_of text k, Some n)) (λ v. (pushed cap (Some v) (rest vs), 0)) (operand (top_value vs))
acts L cap text n vs f s = or_fails L (place_of n) f s (worked cap text [] n vs)

-- ---- programs put together

-- the same goes on after a program, whatever that gives
then_same : {A B : Type 0} (m : Program A) {f g : A → Program B} → ((a : A) → f a ≡ g a) → m >>= f ≡ m >>= g
then_same m h = λ i. m >>= (λ a. h a i)

-- a program in two parts: what comes after them goes on after the second
then_on : {A B C : Type 0} (m : Program A) (f : A → Program B) (g : B → Program C) {h : A → Program C} → ((a : A) → h a ≡ f a >>= g) → m >>= h ≡ m >>= f >>= g
then_on m f g e = then_same m e ∙ sym (bind_assoc m f g)

-- a fact of all that a program may give
abbrev Gives : {A : Type 0} → (A → Type 0) → Program A → Type 0
Gives P (return a) = P a
Gives P (fail e p) = Unit {0}
Gives P (visit p m) = Gives P m
Gives P (byte b p m) = Gives P m
Gives P (put k v p m) = Gives P m
Gives P (ask k g) = (v : Value) → Gives P (g v)

-- the same of two programs, one after another: where the second gives it whatever the first gives, and by a fact of what the first gives
gives_after : {A B : Type 0} (Q : B → Type 0) (m : Program A) (f : A → Program B) → ((a : A) → Gives Q (f a)) → Gives Q (m >>= f)
gives_after Q (return a) f next = next a
gives_after Q (fail e p) f next = tt
gives_after Q (visit p m) f next = gives_after Q m f next
gives_after Q (byte b p m) f next = gives_after Q m f next
gives_after Q (put k v p m) f next = gives_after Q m f next
gives_after Q (ask k g) f next = λ v. gives_after Q (g v) f next

gives_then : {A B : Type 0} (P : A → Type 0) (Q : B → Type 0) (m : Program A) (f : A → Program B) → Gives P m → ((a : A) → P a → Gives Q (f a)) → Gives Q (m >>= f)
gives_then P Q (return a) f h next = next a h
gives_then P Q (fail e p) f h next = tt
gives_then P Q (visit p m) f h next = gives_then P Q m f h next
gives_then P Q (byte b p m) f h next = gives_then P Q m f h next
gives_then P Q (put k v p m) f h next = gives_then P Q m f h next
gives_then P Q (ask k g) f h next = λ v. gives_then P Q (g v) f (h v) next

-- where two programs agree on all that another may give, they agree after it
agree_after : {A B : Type 0} (P : A → Type 0) (m : Program A) {f g : A → Program B} → Gives P m → ((a : A) → P a → f a ≡ g a) → m >>= f ≡ m >>= g
agree_after P (return a) h e = e a h
agree_after P (fail x p) h e = refl
agree_after P (visit p m) h e = λ i. visit p (agree_after P m h e i)
agree_after P (byte b p m) h e = λ i. byte b p (agree_after P m h e i)
agree_after P (put k v p m) h e = λ i. put k v p (agree_after P m h e i)
agree_after P (ask k g) h e = λ i. ask k (λ v. agree_after P (g v) (h v) e i)

-- ---- values that wait

-- the values us on top of the slots vs, the first one deepest
abbrev waiting : List Value → List Slot → List Slot
waiting us vs = reverse (map Some us) ++ vs

waiting_more : (us : List Value) (v : Value) (vs : List Slot) → waiting (us ++ v ∷ []) vs ≡ Some v ∷ waiting us vs
waiting_more us v vs = ap (λ ws. reverse ws ++ vs) (map-append Some us (v ∷ [])) ∙ ap (λ ws. ws ++ vs) (reverse-append (map Some us) (Some v ∷ []))

length_waiting : (us : List Value) → length (reverse (map Some us)) ≡ length us
length_waiting us = length-reverse (map Some us) ∙ length-map us Some

values_of : (us : List Value) → map or_empty (map Some us) ≡ us
values_of [] = refl
values_of (u ∷ us) = ap (λ ws. u ∷ ws) (values_of us)

map-reverse : {A B : Type 0} (f : A → B) (xs : List A) → map f (reverse xs) ≡ reverse (map f xs)
map-reverse f [] = refl
map-reverse f (x ∷ xs) =
    ap (map f) (reverse-append (x ∷ []) xs) ∙ map-append f (reverse xs) (x ∷ []) ∙ ap (λ ys. ys ++ f x ∷ []) (map-reverse f xs)
    ∙ sym (reverse-append (f x ∷ []) (map f xs))

-- the node of a call takes them from there
taken_waiting : (us : List Value) (vs : List Slot) (n : ℕ) → length us ≡ n → arguments_of n (waiting us vs) ≡ us
taken_waiting us vs n h =
    ap (λ ws. reverse (map or_empty ws)) (take_at (reverse (map Some us)) vs n (length_waiting us ∙ h))
    ∙ ap reverse (map-reverse or_empty (map Some us)) ∙ reverse-reverse (map or_empty (map Some us)) ∙ values_of us

left_waiting : (us : List Value) (vs : List Slot) (n : ℕ) → length us ≡ n → drop n (waiting us vs) ≡ vs
left_waiting us vs n h = drop_at (reverse (map Some us)) vs n (length_waiting us ∙ h)

-- what waits behind the items of a list: nothing behind none, else their slot
abbrev settled : Seq → Slot → List Slot → List Slot
settled Seq.empty u vs = vs
settled (Seq.item s e) u vs = u ∷ vs
settled (Seq.steps s a b c) u vs = u ∷ vs

length_settled : (s : Seq) (u : Slot) (vs : List Slot) → length (settled s u vs) ≤ 1 + length vs
length_settled Seq.empty u vs = omega arith
length_settled (Seq.item s e) u vs = omega arith
length_settled (Seq.steps s a b c) u vs = omega arith

-- the slot for some elements: they are its value, or it is None and they are too many
abbrev Slotted : Slot → Value → Type 0
Slotted (Some u) v = u ≡ v
Slotted None v = 16 < length v

-- the slot for the elements of items; behind none there is none
abbrev ItemsSlotted : Seq → Slot → Value → Type 0
ItemsSlotted Seq.empty u v = v ≡ []
ItemsSlotted (Seq.item s e) u v = Slotted u v
ItemsSlotted (Seq.steps s a b c) u v = Slotted u v

slotted_by : (b : Bool) (v : Value) → nat_le (length v) 16 ≡ b → Slotted (cond b (Some v) None) v
slotted_by true v e = refl
slotted_by false v e = omega (arith, leb-false (length v) 16 e)

-- with one more item
slotted_more : (u : Slot) (v w : Value) → Slotted u v → Slotted (joined u w) (v ++ w)
slotted_more (Some u) v w h = subst (λ x. Slotted (joined (Some u) w) (x ++ w)) h (slotted_by (nat_le (length (u ++ w)) 16) (u ++ w) refl)
slotted_more None v w h = omega (arith, length-append v w)

-- the node of a list judges the slot as the meaning judges the elements
slotted_checked : (u : Slot) (v : Value) → Slotted u v → checked u ≡ at_most_16 v
slotted_checked (Some u) v h = ap at_most_16 h
slotted_checked None v h = sym (cond-false _ _ _ (lt-leb (length v) 16 h))

-- ---- calls

-- Every call has an argument: so it is in each template that is read, since there is no function without. A call without any would push
-- a value, and its need is 0.
abbrev HasArguments : Node → Type 0
HasArguments (node.Call p f n) = 1 ≤ n
HasArguments n = Unit {0}

abbrev CallsHaveArguments : List Node → Type 0
CallsHaveArguments [] = Unit {0}
CallsHaveArguments (n ∷ ns) = HasArguments n × CallsHaveArguments ns

has_arguments : (text : List ℕ) (n : Node) → Lawful text n → HasArguments n
has_arguments text (node.Call p f n) h = h.0
has_arguments text n h = tt

-- the calls of lawful nodes have
pub lawful_calls : (text : List ℕ) (ns : List Node) → AllLawful text ns → CallsHaveArguments ns
lawful_calls text [] h = tt
lawful_calls text (n ∷ ns) h = (has_arguments text n h.0, lawful_calls text ns h.1)

calls_before : (xs ys : List Node) → CallsHaveArguments (xs ++ ys) → CallsHaveArguments xs
calls_before [] ys h = tt
calls_before (x ∷ xs) ys h = (h.0, calls_before xs ys h.1)

calls_behind : (xs ys : List Node) → CallsHaveArguments (xs ++ ys) → CallsHaveArguments ys
calls_behind [] ys h = h
calls_behind (x ∷ xs) ys h = calls_behind xs ys h.1

called_has : (i : ℕ) (f : Option Signature) (n : ℕ) → HasArguments (called i f n) → 1 ≤ n
called_has i (Some f) n h = h
called_has i None n h = h

calls_right : (b : Bool) (q : ℕ) (o : Op) (ys : List Node) → CallsHaveArguments (cond b (node.Short q o (length ys + 1) ∷ ys ++ node.Judged q ∷ []) (ys ++ node.Binary q o ∷ [])) → CallsHaveArguments ys
calls_right true q o ys h = calls_before ys _ h.1
calls_right false q o ys h = calls_before ys _ h

mutual
  unfolding flatten flatten_key flatten_args flatten_seq need need_key need_args need_list

  -- every expression needs room for its value
  pub needs : (e : Expr) → CallsHaveArguments (flatten e) → 1 ≤ need e
  needs (Expr.number c) h = omega arith
  needs (Expr.text t) h = omega arith
  needs (Expr.key k) h = needs_key k h
  needs (Expr.call i j q f s z) h = needs_args s (calls_before (flatten_args s) _ h) (called_has i f (count_args s) (calls_behind (flatten_args s) _ h).0)
  needs (Expr.list q s) h = needs_list s
  needs (Expr.round q e) h = needs e h
  needs (Expr.signed q s e) h = needs e (calls_before (flatten e) _ h)
  needs (Expr.binary q o l r) h = cond_both (is_short o) _ _ (λ (n : ℕ). 1 ≤ n) (λ e. omega (arith, needs l (calls_before (flatten l) _ h))) (λ e. omega (arith, needs l (calls_before (flatten l) _ h)))

  needs_key : (k : Key) → CallsHaveArguments (flatten_key k) → 1 ≤ need_key k
  needs_key (Key.name i j) h = omega arith
  needs_key (Key.index i j q e) h = needs e (calls_before (flatten e) _ h)

  needs_args : (s : Args) → CallsHaveArguments (flatten_args s) → 1 ≤ count_args s → 1 ≤ need_args s
  needs_args Args.nullary h n = n
  needs_args (Args.argument s e) h n = omega (arith, needs e (calls_behind (flatten_args s) (flatten e) h))

  needs_list : (s : Seq) → 1 ≤ need_list s
  needs_list Seq.empty = omega arith
  needs_list (Seq.item s e) = omega arith
  needs_list (Seq.steps s a b c) = omega arith

-- ---- nodes and what they mean

-- nodes are skipped one by one
pub skips : (cap : ℕ) (text : List ℕ) (k : ℕ) (ns : List Node) (vs : List Slot) → walked cap text k ns vs ≡ walked cap text 0 (drop k ns) vs
skips cap text zero ns vs = refl
skips cap text (suc k) [] vs = refl
skips cap text (suc k) (n ∷ ns) vs = skips cap text k ns vs

module _ (cap : ℕ) (text : List ℕ) where
  -- the nodes xs do what m means, where there is room for n slots more
  record Does (xs : List Node) (m : Program Value) (n : ℕ) : Type 0 where
    pub does : (ns : List Node) (vs : List Slot) → length vs + n ≤ cap → walked cap text 0 (xs ++ ns) vs ≡ m >>= (λ v. walked cap text 0 ns (Some v ∷ vs))

  -- the nodes of arguments
  record DoesArguments (xs : List Node) (m : Program (List Value)) (n : ℕ) : Type 0 where
    pub does : (ns : List Node) (vs : List Slot) → length vs + n ≤ cap → walked cap text 0 (xs ++ ns) vs ≡ m >>= (λ us. walked cap text 0 ns (waiting us vs))

  -- the nodes of the items of a list, where with any slot for their elements v what comes after them does what k v means
  record DoesItems (s : Seq) (xs : List Node) (m : Program Value) (n : ℕ) : Type 0 where
    pub does : (ns : List Node) (vs : List Slot) (k : Value → Program (List Slot)) → ((u : Slot) (v : Value) → ItemsSlotted s u v → walked cap text 0 ns (settled s u vs) ≡ k v) → length vs + n ≤ cap
        → walked cap text 0 (xs ++ ns) vs ≡ m >>= k

  -- what comes after a value, and after a node
  abbrev onward : List Node → List Slot → Value → Program (List Slot)
  onward ns vs v = walked cap text 0 ns (Some v ∷ vs)

  abbrev next : List Node → Turn → Program (List Slot)
  next ns t = walked cap text t.1 ns t.0

  regrouped : (xs ys ns : List Node) (vs : List Slot) → walked cap text 0 (xs ++ ys ++ ns) vs ≡ walked cap text 0 (xs ++ (ys ++ ns)) vs
  regrouped xs ys ns vs = ap (λ zs. walked cap text 0 zs vs) (append_assoc xs ys ns)

  -- nodes that are all skipped
  skipped : (xs ns : List Node) (vs : List Slot) → walked cap text (length xs) (xs ++ ns) vs ≡ walked cap text 0 ns vs
  skipped xs ns vs = skips cap text (length xs) (xs ++ ns) vs ∙ ap (λ ms. walked cap text 0 ms vs) (drop_at xs ns (length xs) refl)

  -- where there is room, a slot is pushed
  on_top : (ns : List Node) (v : Slot) (vs : List Slot) → length vs < cap → walked cap text 0 ns (pushed cap v vs) ≡ walked cap text 0 ns (v ∷ vs)
  on_top ns v vs h = ap (λ ws. walked cap text 0 ns ws) (cond-true _ _ _ (lt-ltb _ _ h))

  -- a node that gives a value or an error
  pushes : (p : ℕ) (r : Result Value Error) (ns : List Node) (vs : List Slot) → length vs < cap → or_fail p (gives_if cap r vs) >>= next ns ≡ or_fail p r >>= onward ns vs
  pushes p (Ok v) ns vs h = on_top ns (Some v) vs h
  pushes p (Err e) ns vs h = refl

  -- a key's value is asked for once its subscript is judged, and pushed
  abbrev asked : KeyName → List Slot → Program Turn
  asked k vs = ask k (λ v. return (pushed cap (Some v) vs, 0))

  index_pushes : (p : ℕ) (bs : List ℕ) (r : Result ℤ Error) (ns : List Node) (vs : List Slot) → length vs < cap
      → or_fail p r >>= (λ n. asked (bs, Some n) vs) >>= next ns ≡ or_fail p r >>= (λ n. ask (bs, Some n) (λ w. return w)) >>= onward ns vs
  index_pushes p bs (Ok n) ns vs h = λ i. ask (bs, Some n) (λ v. on_top ns (Some v) vs h i)
  index_pushes p bs (Err e) ns vs h = refl

  index_does : {xs : List Node} {m : Program Value} {n : ℕ} (i j : ℕ) → Does xs m n → 1 ≤ n
      → Does (xs ++ node.Index (from_to i j) ∷ []) (m >>= λ v. visit i (or_fail i (operand v)) >>= λ a. ask (part text i j, Some a) (λ w. return w)) n
  index_does {xs = xs} {m = m} i j d one = record {
    does = λ ns vs h.
        regrouped xs _ ns vs ∙ d.does (node.Index (from_to i j) ∷ ns) vs h
        ∙ then_on m (λ v. visit i (or_fail i (operand v)) >>= λ a. ask (part text i j, Some a) (λ w. return w)) (onward ns vs) (λ v k. visit i (index_pushes i (part text i j) (operand v) ns vs (omega arith) k));
  }

  signed_does : {xs : List Node} {m : Program Value} {n : ℕ} (q : ℕ) (s : Sign) → Does xs m n → 1 ≤ n → Does (xs ++ node.Signed q s ∷ []) (m >>= λ v. visit q (or_fail q (signed_value s v))) n
  signed_does {xs = xs} {m = m} q s d one = record {
    does = λ ns vs h.
        regrouped xs _ ns vs ∙ d.does (node.Signed q s ∷ ns) vs h
        ∙ then_on m (λ v. visit q (or_fail q (signed_value s v))) (onward ns vs) (λ v i. visit q (pushes q (signed_value s v) ns vs (omega arith) i));
  }

  -- ---- operators

  judges : (q : ℕ) (r : Result ℤ Error) (ns : List Node) (vs : List Slot) → length vs < cap
      → or_fail q (and_then r (λ b. gives cap (Some (holds b)) vs)) >>= next ns ≡ or_fail q r >>= (λ b. return (holds b)) >>= onward ns vs
  judges q (Ok b) ns vs h = on_top ns (Some (holds b)) vs h
  judges q (Err e) ns vs h = refl

  -- the right side of `&&` and `||`, where the left one does not decide
  abbrev judged : ℕ → Program Value → Program Value
  judged q m = m >>= λ w. or_fail q (operand w) >>= λ b. return (holds b)

  judged_does : {xs : List Node} {m : Program Value} {n : ℕ} (q : ℕ) → Does xs m n → 1 ≤ n → Does (xs ++ node.Judged q ∷ []) (judged q m) n
  judged_does {xs = xs} {m = m} q d one = record {
    does = λ ns vs h.
        regrouped xs _ ns vs ∙ d.does (node.Judged q ∷ ns) vs h
        ∙ then_on m (λ w. or_fail q (operand w) >>= λ b. return (holds b)) (onward ns vs) (λ w. judges q (operand w) ns vs (omega arith));
  }

  -- b says whether the left side decides, with the value v; k nodes are skipped then
  abbrev skips_if : Bool → Value → ℕ → List Slot → Result Turn Error
  skips_if b v k vs = cond b (Ok (pushed cap (Some v) vs, k)) (Ok (vs, 0))

  decided : {ys : List Node} {m : Program Value} {n : ℕ} (q k : ℕ) (v : Value) (b : Bool) → Does ys m n → k ≡ length ys → (ns : List Node) (vs : List Slot) → length vs + n ≤ cap → length vs < cap
      → or_fail q (skips_if b v k vs) >>= next (ys ++ ns) ≡ cond b (return v) m >>= onward ns vs
  decided {ys = ys} q k v true d size ns vs h lt = ap (λ j. walked cap text j (ys ++ ns) (pushed cap (Some v) vs)) size ∙ skipped ys ns _ ∙ on_top ns (Some v) vs lt
  decided q k v false d size ns vs h lt = d.does ns vs h

  decides_by : {ys : List Node} {m : Program Value} {n : ℕ} (q k : ℕ) (o : Op) (r : Result ℤ Error) → Does ys m n → k ≡ length ys → (ns : List Node) (vs : List Slot) → length vs + n ≤ cap → length vs < cap
      → or_fail q (and_then r (λ a. skips_if (decides o a) (holds a) k vs)) >>= next (ys ++ ns) ≡ or_fail q r >>= (λ a. cond (decides o a) (return (holds a)) m) >>= onward ns vs
  decides_by q k o (Ok a) d size ns vs h lt = decided q k (holds a) (decides o a) d size ns vs h lt
  decides_by q k o (Err e) d size ns vs h lt = refl

  short_does : {xs ys : List Node} {l m : Program Value} {n k : ℕ} (q : ℕ) (o : Op) → Does xs l n → Does ys m k → 1 ≤ n → 1 ≤ k
      → Does (xs ++ (node.Short q o (length ys + 1) ∷ ys ++ node.Judged q ∷ [])) (one_side q o l m) (max n k)
  short_does {xs = xs} {ys = ys} {l = l} {m = m} {n = n} {k = k} q o d e one one' = record {
    does = λ ns vs h.
        regrouped xs _ ns vs ∙ d.does (node.Short q o (length ys + 1) ∷ ((ys ++ node.Judged q ∷ []) ++ ns)) vs (omega arith)
        ∙ then_on l (λ v. visit q (or_fail q (operand v)) >>= λ a. cond (decides o a) (return (holds a)) (judged q m)) (onward ns vs)
        (λ v i. visit q (decides_by q (length ys + 1) o (operand v) (judged_does q e one') (sym (length-append ys (node.Judged q ∷ []))) ns vs (omega arith) (omega arith) i));
  }

  both_does : {xs ys : List Node} {l m : Program Value} {n k : ℕ} (q : ℕ) (o : Op) → Does xs l n → Does ys m k → 1 ≤ n
      → Does (xs ++ (ys ++ node.Binary q o ∷ [])) (both_sides q o l m) (max n (1 + k))
  both_does {xs = xs} {ys = ys} {l = l} {m = m} {n = n} {k = k} q o d e one = record {
    does = λ ns vs h.
        regrouped xs _ ns vs ∙ d.does ((ys ++ node.Binary q o ∷ []) ++ ns) vs (omega arith)
        ∙ then_on l (λ v. m >>= λ w. visit q (or_fail q (binary_value o v w))) (onward ns vs)
        (λ v. regrouped ys _ ns (Some v ∷ vs) ∙ e.does (node.Binary q o ∷ ns) (Some v ∷ vs) (omega arith)
        ∙ then_on m (λ w. visit q (or_fail q (binary_value o v w))) (onward ns vs) (λ w i. visit q (pushes q (binary_value o v w) ns vs (omega arith) i)));
  }

  -- b says whether the left side may decide
  binary_does : {xs ys : List Node} {l m : Program Value} {n k : ℕ} (b : Bool) (q : ℕ) (o : Op) → Does xs l n → Does ys m k → 1 ≤ n → 1 ≤ k
      → Does (xs ++ cond b (node.Short q o (length ys + 1) ∷ ys ++ node.Judged q ∷ []) (ys ++ node.Binary q o ∷ [])) (cond b (one_side q o l m) (both_sides q o l m)) (cond b (max n k) (max n (1 + k)))
  binary_does true q o d e one one' = short_does q o d e one one'
  binary_does false q o d e one one' = both_does q o d e one

  -- ---- arguments and items

  record Counted (c : ℕ) (m : Program (List Value)) : Type 0 where
    pub counted : Gives (λ (us : List Value). length us ≡ c) m

  one_more : {xs ys : List Node} {m : Program (List Value)} {e : Program Value} {n k c : ℕ} → DoesArguments xs m n → Counted c m → Does ys e k
      → DoesArguments (xs ++ ys) (m >>= λ us. e >>= λ v. return (us ++ v ∷ [])) (max n (c + k))
  one_more {xs = xs} {ys = ys} {m = m} {e = e} {n = n} {k = k} {c = c} d count d' = record {
    does = λ ns vs h.
        regrouped xs ys ns vs ∙ d.does (ys ++ ns) vs (omega arith)
        ∙ agree_after (λ (us : List Value). length us ≡ c) m count.counted
        (λ us size. d'.does ns (waiting us vs) (omega (arith, length-append (reverse (map Some us)) vs, length_waiting us))
        ∙ then_on e (λ v. return (us ++ v ∷ [])) (λ ws. walked cap text 0 ns (waiting ws vs)) (λ v. ap (λ ws. walked cap text 0 ns ws) (sym (waiting_more us v vs))))
        ∙ sym (bind_assoc m (λ us. e >>= λ v. return (us ++ v ∷ [])) (λ us. walked cap text 0 ns (waiting us vs)));
  }

  -- the node of a call
  called_turns : (i : ℕ) (f : Option Signature) (c : ℕ) (ns : List Node) (ws : List Slot)
      → walked cap text 0 (called i f c ∷ ns) ws ≡ visit i (or_fail i (gives_if cap (call (known f) (arguments_of c ws)) (drop c ws)) >>= next ns)
  called_turns i (Some f) c ns ws = refl
  called_turns i None c ns ws = refl

  calls : (i : ℕ) (f : Option Signature) (c : ℕ) (us : List Value) (ns : List Node) (vs : List Slot) → length us ≡ c → length vs < cap
      → walked cap text 0 (called i f c ∷ ns) (waiting us vs) ≡ visit i (or_fail i (call (known f) us)) >>= onward ns vs
  calls i f c us ns vs size lt =
      called_turns i f c ns (waiting us vs)
      ∙ (λ k. visit i (or_fail i (gives_if cap (call (known f) (taken_waiting us vs c size k)) (left_waiting us vs c size k)) >>= next ns))
      ∙ (λ k. visit i (pushes i (call (known f) us) ns vs lt k))

  call_does : {xs : List Node} {m : Program (List Value)} {n c : ℕ} (i : ℕ) (f : Option Signature) → DoesArguments xs m n → Counted c m → 1 ≤ n
      → Does (xs ++ called i f c ∷ []) (m >>= λ vs. visit i (or_fail i (call (known f) vs))) n
  call_does {xs = xs} {m = m} {c = c} i f d count one = record {
    does = λ ns vs h.
        regrouped xs _ ns vs ∙ d.does (called i f c ∷ ns) vs h ∙ agree_after (λ (us : List Value). length us ≡ c) m count.counted (λ us size. calls i f c us ns vs size (omega arith))
        ∙ sym (bind_assoc m (λ us. visit i (or_fail i (call (known f) us))) (onward ns vs));
  }

  -- an item is joined to those before it
  joins : (s : Seq) (u : Slot) (v w : Value) (ns : List Node) (vs : List Slot) (k : Value → Program (List Slot)) → ItemsSlotted s u v → ((u : Slot) (v : Value) → Slotted u v → walked cap text 0 ns (u ∷ vs) ≡ k v) → length vs < cap
      → walked cap text 0 (joint s ++ ns) (Some w ∷ settled s u vs) ≡ k (v ++ w)
  joins Seq.empty u v w ns vs k h next lt = next (Some w) (v ++ w) (ap (λ x. x ++ w) (sym h))
  joins (Seq.item s e) u v w ns vs k h next lt = on_top ns (joined u w) vs lt ∙ next (joined u w) (v ++ w) (slotted_more u v w h)
  joins (Seq.steps s a b c) u v w ns vs k h next lt = on_top ns (joined u w) vs lt ∙ next (joined u w) (v ++ w) (slotted_more u v w h)

  -- the items s and one more
  item_does : {xs ys : List Node} {m e : Program Value} {n k : ℕ} (s : Seq) → DoesItems s xs m n → Does ys e k → (ns : List Node) (vs : List Slot) (f : Value → Program (List Slot)) → ((u : Slot) (v : Value) → Slotted u v → walked cap text 0 ns (u ∷ vs) ≡ f v)
      → length vs + max n (1 + k) ≤ cap → 1 ≤ n → walked cap text 0 (xs ++ (ys ++ (joint s ++ ns))) vs ≡ m >>= (λ v. e >>= λ w. return (v ++ w)) >>= f
  item_does {ys = ys} {m = m} {e = e} s d d' ns vs f next h one =
      d.does (ys ++ (joint s ++ ns)) vs (λ v. e >>= (λ w. return (v ++ w)) >>= f)
      (λ u v slotted. d'.does (joint s ++ ns) (settled s u vs) (omega (arith, length_settled s u vs)) ∙ then_on e (λ w. return (v ++ w)) f (λ w. joins s u v w ns vs f slotted next (omega arith))) (omega arith)
      ∙ sym (bind_assoc m (λ v. e >>= λ w. return (v ++ w)) f)

  -- the node of a list
  closes : (q : ℕ) (u : Slot) (v : Value) (ns : List Node) (vs : List Slot) → Slotted u v → length vs < cap → walked cap text 0 (node.List q ∷ ns) (u ∷ vs) ≡ visit q (or_fail q (at_most_16 v)) >>= onward ns vs
  closes q u v ns vs h lt i = visit q ((pushes q (checked u) ns vs lt ∙ ap (λ r. or_fail q r >>= onward ns vs) (slotted_checked u v h)) i)

  -- a list with its node
  list_does : {n : ℕ} (q : ℕ) (s : Seq) → DoesItems s (flatten_seq s) (items text s) n → 1 ≤ n → Does (flatten_seq s ++ closing q s ∷ []) (items text s >>= λ v. visit q (or_fail q (at_most_16 v))) n
  unfolding flatten_seq items
  list_does q Seq.empty d one = record { does = λ ns vs h i. visit q (on_top ns (Some []) vs (omega arith) i) }
  list_does q s d one = record {
    does = λ ns vs h.
        regrouped (flatten_seq s) _ ns vs
        ∙ d.does (node.List q ∷ ns) vs (λ v. visit q (or_fail q (at_most_16 v)) >>= onward ns vs) (λ u v slotted. closes q u v ns vs slotted (omega arith)) h
        ∙ sym (bind_assoc (items text s) (λ v. visit q (or_fail q (at_most_16 v))) (onward ns vs));
  }

  sequence_does : (p a b c : ℕ) → Does (node.Sequence p a b c ∷ []) (visit p (or_fail p (sequence a b c))) 1
  sequence_does p a b c = record { does = λ ns vs h i. visit p (pushes p (sequence a b c) ns vs (omega arith) i) }

  -- there are as many values as arguments
  counted_arguments : (s : Args) → Counted (count_args s) (arguments text s)
  unfolding arguments
  counted_arguments Args.nullary = record { counted = refl }
  counted_arguments (Args.argument s e) = record {
    counted =
        gives_then (λ (us : List Value). length us ≡ count_args s) (λ (us : List Value). length us ≡ suc (count_args s)) (arguments text s) (λ us. expression text e >>= λ v. return (us ++ v ∷ [])) (counted_arguments s).counted
        (λ us size. gives_after (λ (us : List Value). length us ≡ suc (count_args s)) (expression text e) (λ v. return (us ++ v ∷ [])) (λ v. omega (arith, length-append us (v ∷ []))));
  }

  mutual
    unfolding flatten flatten_key flatten_args flatten_seq need need_key need_args need_list expression key_value arguments items

    does_expression : (e : Expr) → CallsHaveArguments (flatten e) → Does (flatten e) (expression text e) (need e)
    does_expression (Expr.number c) h = record { does = λ ns vs le i. visit c.span.«from» (on_top ns (Some (number_constant text c.span c.value)) vs (omega arith) i) }
    does_expression (Expr.text t) h = record { does = λ ns vs le i. visit t.span.«from» (on_top ns (Some (text_constant text t.span)) vs (omega arith) i) }
    does_expression (Expr.key k) h = does_key k h
    does_expression (Expr.call i j q f s z) h =
        let a = calls_before (flatten_args s) _ h in
        call_does i f (does_arguments s a) (counted_arguments s) (needs_args s a (called_has i f (count_args s) (calls_behind (flatten_args s) _ h).0))
    does_expression (Expr.list q s) h = list_does q s (does_items s (calls_before (flatten_seq s) _ h)) (needs_list s)
    does_expression (Expr.round q e) h = does_expression e h
    does_expression (Expr.signed q s e) h = let a = calls_before (flatten e) _ h in signed_does q s (does_expression e a) (needs e a)
    does_expression (Expr.binary q o l r) h =
        let a = calls_before (flatten l) _ h in
        let b = calls_right (is_short o) q o (flatten r) (calls_behind (flatten l) _ h) in
        binary_does (is_short o) q o (does_expression l a) (does_expression r b) (needs l a) (needs r b)

    does_key : (k : Key) → CallsHaveArguments (flatten_key k) → Does (flatten_key k) (key_value text k) (need_key k)
    does_key (Key.name i j) h = record { does = λ ns vs le k. visit i (ask (part text i j, None) (λ v. on_top ns (Some v) vs (omega arith) k)) }
    does_key (Key.index i j q e) h = let a = calls_before (flatten e) _ h in index_does i j (does_expression e a) (needs e a)

    does_arguments : (s : Args) → CallsHaveArguments (flatten_args s) → DoesArguments (flatten_args s) (arguments text s) (need_args s)
    does_arguments Args.nullary h = record { does = λ ns vs le. refl }
    does_arguments (Args.argument s e) h = one_more (does_arguments s (calls_before (flatten_args s) (flatten e) h)) (counted_arguments s) (does_expression e (calls_behind (flatten_args s) (flatten e) h))

    does_items : (s : Seq) → CallsHaveArguments (flatten_seq s) → DoesItems s (flatten_seq s) (items text s) (need_list s)
    does_items Seq.empty h = record { does = λ ns vs k next le. next (Some []) [] refl }
    does_items (Seq.item s e) h =
        let a = calls_before (flatten_seq s ++ flatten e) (joint s) h in
        record {
          does = λ ns vs k next le. regrouped (flatten_seq s ++ flatten e) (joint s) ns vs ∙ regrouped (flatten_seq s) (flatten e) (joint s ++ ns) vs
              ∙ item_does s (does_items s (calls_before (flatten_seq s) (flatten e) a)) (does_expression e (calls_behind (flatten_seq s) (flatten e) a)) ns vs k next le (needs_list s);
        }
    does_items (Seq.steps s a b c) h =
        record {
          does = λ ns vs k next le. regrouped (flatten_seq s) (node.Sequence a.span.«from» a.value b.value c.value ∷ joint s) ns vs
              ∙ item_does s (does_items s (calls_before (flatten_seq s) _ h)) (sequence_does a.span.«from» a.value b.value c.value) ns vs k next le (needs_list s);
        }

-- The nodes of an expression, with others behind them, push its value: on a stack with room for its need they do just what it means.
pub walks : (cap : ℕ) (text : List ℕ) (e : Expr) (ns : List Node) (vs : List Slot) → CallsHaveArguments (flatten e) → length vs + need e ≤ cap
    → walked cap text 0 (flatten e ++ ns) vs ≡ expression text e >>= (λ v. walked cap text 0 ns (Some v ∷ vs))
walks cap text e ns vs h le = (does_expression cap text e h).does ns vs le
