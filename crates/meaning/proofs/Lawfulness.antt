-- The nodes of every template that is read are lawful. Assumes nothing.
use Rattle.std.proofs.Common.{◌≡◌, ℕ, zero, suc, ◌+◌, ◌-◌, ◌^◌, ◌<◌, ◌≤◌, Bool, true, false, eqb, leb, ◌&&◌, List, [], ◌∷◌, ◌++◌, length, get_or, take, drop, is_some, Some, None, Option, sym, refl, ap, ◌∙◌, subst, ⊎_elim, inl, inr, append_assoc, append-nil, length-take, drop-cons, arith}
use Rattle.std.specs.Bool.{⊤}
use Rattle.std.specs.List.{list_all}
use Rattle.std.proofs.lemmas.Bool.{and_parts, and_from, not_from_false, cond-false, cond_both, leb-true, le-leb, ne_eqb}
use Rattle.functions.specs.declared.Signature.{Signature}
use Rattle.functions.specs.Table.{functions}
use Rattle.keys.specs.NameBytes.{name_byte, shaped, one_of, reserved_words}
use Rattle.keys.proofs.Listed.{found_if_listed}
use Rattle.keys.proofs.WordBytes.{word_is}
use Rattle.keywords.specs.Words.{keywords}
use Rattle.order.specs.Made.{bytes_order}
use Rattle.order.specs.Names.{lookup}
use Rattle.order.proofs.Sorting.{by_answer}
use Rattle.tokens.specs.declared.operator.Op.{Op}
use Rattle.tokens.specs.Operators.{is_short}
use Rattle.trees.specs.declared.Constant.{Constant}
use Rattle.trees.specs.declared.Node.{Node}
use Rattle.trees.specs.declared.Node.TheVariants as node
use Rattle.trees.specs.declared.Quote.{Quote}
use Rattle.trees.specs.Flat.{rest, joint, closing, called, flatten, flatten_key, flatten_args, flatten_seq, flatten_target, assign_node, opening_expr, opening_node, framed, flatten_block, flatten_statement, flatten_arms}
use Rattle.trees.specs.Tree.{Key, Expr, Args, Seq, Opening, Item, Items, Block, Statement, Arms, from_to, written, written_statement, written_arms, count_args}
use Rattle.grammar.specs.Grammar
use Rattle.grammar.specs.Grammar.{At, Every, part, Numeral, Number, Word, Name, Chars, Text, Spells, Keyed, Listed, Arguments, ItemsOf, Groups, Group, Commas, Says, Lines, Line, Body, Begun}
use Rattle.grammar.specs.Laws.{Faultless}
use Rattle.grammar.specs.Rules.{Rule, breaks, large, lengthy, wide, long, deep, known, counted, arrives, arrival, broken_number, broken, broken_key, broken_args, broken_seq, Opened, open_blocks, room, in_choice, broken_item, broken_items, unclosed}
use Rattle.grammar.specs.Words.{function, keyword_of}
use Rattle.grammar.proofs.Arrivals.{arrives_in_steps}
use Rattle.grammar.proofs.Upto.{part_more, part_none}
use Rattle.operations.specs.Functions.{Onwards}
use Rattle.meaning.specs.Constants.{unescaped, quoted}
use Rattle.meaning.specs.Lawful.{Inside, Named, Quoted, Lawful, AllLawful}

-- ---- lists that have nothing, and rules that are kept

-- from a list that has something, and yet nothing
something : {A X : Type 0} (x : X) (xs : List X) → x ∷ xs ≡ [] → A
something x xs e = absurd (let z : ◌≡◌ {A = ℕ} 0 1 = cc in omega arith)

left : {X : Type 0} (xs ys : List X) → xs ++ ys ≡ [] → xs ≡ []
left [] ys e = refl
left (x ∷ xs) ys e = something x (xs ++ ys) e

right : {X : Type 0} (xs ys : List X) → xs ++ ys ≡ [] → ys ≡ []
right [] ys e = e
right (x ∷ xs) ys e = something x (xs ++ ys) e

kept : (b : Bool) (r : Rule) (q p : ℕ) → breaks b r q p ≡ [] → b ≡ true
kept true r q p e = refl
kept false r q p e = something _ [] e

-- ---- calls

-- from one to four arguments
abbrev some_few : List ℕ × Signature → Bool
some_few e = leb 1 e.1.least && leb e.1.most 4

abbrev SomeFew : Signature → Type 0
SomeFew f = (1 ≤ f.least) × (f.most ≤ 4)

found_few : (k : List ℕ) (f : Signature) (es : List (List ℕ × Signature)) → list_all some_few es ≡ true → lookup bytes_order k es ≡ Some f → SomeFew f
found_few k f [] h e = absurd (let z : ◌≡◌ {A = ℕ} 0 1 = cc in omega arith)
found_few k f (x ∷ es) h e =
    let p = and_parts (some_few x) (list_all some_few es) h in
    by_answer (bytes_order.rank k x.0)
    (λ a. found_few k f es p.1 (simp a at e))
    (λ a.
    let same : Some x.1 ≡ Some f = simp a at e in
    let one : x.1 ≡ f = cc in
    let q = and_parts (leb 1 x.1.least) (leb x.1.most 4) p.0 in
    subst SomeFew one (leb-true 1 x.1.least q.0, leb-true x.1.most 4 q.1))
    (λ a. found_few k f es p.1 (simp a at e))

-- every function takes from one to four arguments
takes_few : (w : List ℕ) (f : Signature) → function w ≡ Some f → SomeFew f
takes_few w f e = found_few w f functions refl e

module _ (text : List ℕ) where
  called_lawful : (i q z n : ℕ) (f : Option Signature) → ((g : Signature) → f ≡ Some g → SomeFew g) → known i f q ≡ [] → counted i f n z ≡ [] → Lawful text (called i f n)
  called_lawful i q z n (Some f) few k c =
      let p = and_parts (leb f.least n) (leb n f.most) (kept _ _ _ _ c) in
      let h = few f refl in
      (omega (arith, leb-true f.least n p.0, h.0), omega (arith, leb-true n f.most p.1, h.1))
  called_lawful i q z n None few k c = something _ [] k

  -- ---- names

  -- a test that each byte passes
  passes : (test : ℕ → Bool) (n i : ℕ) → i + n ≤ length text → ((q : ℕ) → i ≤ q → q < i + n → test (get_or text q 0) ≡ true) → list_all test (take n (drop i text)) ≡ true
  passes test zero i le h = refl
  passes test (suc n) i le h =
      ap (λ xs. list_all test (take (suc n) xs)) (drop-cons text i 0 (omega arith))
      ∙ and_from _ _ (h i (omega arith) (omega arith)) (passes test n (suc i) (omega arith) (λ q a b. h q (omega arith) (omega arith)))

  word_shaped : (i j : ℕ) → Word text i j → shaped (part text i j) ≡ true
  word_shaped i j w =
      let n = j - suc i in
      let e : j - i ≡ suc n = omega (arith, w.some) in
      ap (λ n. shaped (take n (drop i text))) e
      ∙ ap (λ xs. shaped (take (suc n) xs)) (drop-cons text i 0 (omega (arith, w.some, w.words.inside)))
      ∙ and_from _ _ w.first (passes name_byte n (suc i) (omega (arith, w.some, w.words.inside)) (λ q a b. sym (word_is (get_or text q 0)) ∙ w.words.all q (omega arith) (omega (arith, w.some))))

  -- a word that is no keyword is not reserved
  free_word : (w : List ℕ) → keyword_of w ≡ None → one_of w reserved_words ≡ false
  free_word w e = sym (found_if_listed w keywords) ∙ ap is_some e

  named : (i j : ℕ) → Name text i j → long i j ≡ [] → Named text (from_to i j)
  named i j n l =
      let w = n.spelled in
      let short : length (part text i j) ≤ 24 = omega (arith, length-take (j - i) (drop i text), leb-true (j - i) 24 (kept _ _ _ _ l)) in (
        (omega (arith, w.some), w.words.inside),
        and_from _ _ (word_shaped i j w) (and_from _ _ (le-leb _ 24 short) (not_from_false _ (free_word (part text i j) n.free))),
      )

  -- ---- constants

  number_inside : {i j v : ℕ} → Number text i j v → (i ≤ j) × (j ≤ length text)
  number_inside (Grammar.decimal some n e) = (omega arith, e.inside)
  number_inside (Grammar.octal a some e) = (omega arith, e.inside)
  number_inside (Grammar.hexadecimal a x some e) = (omega arith, e.inside)

  small : (c : Constant) → large c ≡ [] → c.value < 2 ^ 63
  small c h = omega (arith, leb-true c.value 9223372036854775807 (kept _ _ _ _ h))

  number_lawful : (c : Constant) → Numeral text c → broken_number c ≡ [] → Lawful text (node.Number c.span c.value)
  number_lawful c n h = (number_inside n, leb-true (c.span.to - c.span.«from») 32 (kept _ _ _ _ (right (large c) (lengthy c) h)), small c (left (large c) (lengthy c) h))

  chars_onwards : {n i j : ℕ} → Chars text n i j → i ≤ j
  chars_onwards Grammar.none = omega arith
  chars_onwards (Grammar.plain c lt a b d) = omega (arith, chars_onwards c)
  chars_onwards (Grammar.escaped b c a z o) = omega (arith, chars_onwards c)

  -- behind such bytes no `\` stands open
  chars_length : {n i j : ℕ} → Chars text n i j → (ys : List ℕ) → length (unescaped false (part text i j ++ ys)) ≡ n + length (unescaped false ys)
  chars_length (Grammar.none {i = i}) ys = ap (λ xs. length (unescaped false (xs ++ ys))) (part_none text i) ∙ omega arith
  chars_length (Grammar.plain {n = n} {i = i} {j = j} c lt a b d) ys =
      let x = get_or text j 0 in
      ap (λ xs. length (unescaped false (xs ++ ys))) (part_more text i j (chars_onwards c) lt)
      ∙ ap (λ xs. length (unescaped false xs)) (append_assoc (part text i j) (x ∷ []) ys)
      ∙ chars_length c (x ∷ ys)
      ∙ ap (λ xs. n + length xs) (cond-false (eqb x 92) _ _ (ne_eqb x 92 b))
      ∙ omega arith
  chars_length (Grammar.escaped {n = n} {i = i} {j = j} b c a z o) ys =
      let on = chars_onwards c in
      let e : j + 2 ≡ j + 1 + 1 = omega arith in
      let p : part text i (j + 2) ≡ part text i j ++ 92 ∷ [] ++ b ∷ [] =
      ap (part text i) e
      ∙ part_more text i (j + 1) (omega arith) z.0
      ∙ (λ k. part_more text i j on a.0 k ++ z.1 k ∷ [])
      ∙ ap (λ x. part text i j ++ x ∷ [] ++ b ∷ []) a.1 in
      ap (λ xs. length (unescaped false (xs ++ ys))) p
      ∙ ap (λ xs. length (unescaped false xs)) (append_assoc (part text i j ++ 92 ∷ []) (b ∷ []) ys ∙ append_assoc (part text i j) (92 ∷ []) (b ∷ ys))
      ∙ chars_length c (92 ∷ b ∷ ys)
      ∙ omega arith

  quoted_lawful : (t : Quote) → Text text t → wide t ≡ [] → Quoted text t.span
  quoted_lawful t x h =
      let last : t.span.to - 1 ≡ x.last = omega (arith, x.ends) in
      let n : length (quoted text t.span) ≡ t.bytes =
      ap (λ j. length (unescaped false (part text (t.span.«from» + 1) j))) last
      ∙ sym (ap (λ xs. length (unescaped false xs)) (append-nil (part text (t.span.«from» + 1) x.last)))
      ∙ chars_length x.chars []
      ∙ omega arith in (
        omega (arith, chars_onwards x.chars, x.ends),
        omega (arith, x.closes.0, x.ends),
        omega (arith, n, leb-true t.bytes 32 (kept _ _ _ _ h)),
      )

  onwards : (a b c : ℕ) → arrives a b c ≡ true → Onwards a b c
  onwards a b c h = ⊎_elim (λ u. inl (u.0, omega (arith, u.1.1))) (λ d. inr (d.0, omega (arith, d.1.1))) ((arrives_in_steps a b c).0 h)

  -- ---- nodes one after another

  pub joined : (xs ys : List Node) → AllLawful text xs → AllLawful text ys → AllLawful text (xs ++ ys)
  joined [] ys a b = b
  joined (x ∷ xs) ys a b = (a.0, joined xs ys a.1 b)

  pub parted : (xs ys : List Node) → AllLawful text (xs ++ ys) → AllLawful text xs × AllLawful text ys
  parted [] ys h = (tt, h)
  parted (x ∷ xs) ys h = let r = parted xs ys h.1 in ((h.0, r.0), r.1)

  rest_lawful : (q : ℕ) (o : Op) (r : List Node) → AllLawful text r → AllLawful text (rest q o r)
  rest_lawful q o r h = cond_both (is_short o) _ _ (AllLawful text) (λ e. joined (node.Short q o (length r + 1) ∷ r) (node.Judged q ∷ []) (tt, h) (tt, tt)) (λ e. joined r (node.Binary q o ∷ []) h (tt, tt))

  joint_lawful : (s : Seq) → AllLawful text (joint s)
  joint_lawful Seq.empty = tt
  joint_lawful (Seq.item s e) = (tt, tt)
  joint_lawful (Seq.steps s a b c) = (tt, tt)

  closing_lawful : (q : ℕ) (s : Seq) → Lawful text (closing q s)
  closing_lawful q Seq.empty = tt
  closing_lawful q (Seq.item s e) = tt
  closing_lawful q (Seq.steps s a b c) = tt

  -- ---- items

  abbrev LawfulKey : Key → Type 0
  LawfulKey (Key.name i j) = Named text (from_to i j)
  LawfulKey (Key.index i j q e) = Named text (from_to i j) × AllLawful text (flatten e)

  abbrev LawfulOpening : Opening → Type 0
  LawfulOpening (Opening.if c) = AllLawful text (flatten c)
  LawfulOpening (Opening.while c) = AllLawful text (flatten c)
  LawfulOpening (Opening.foreach x y e) = Named text (from_to x y) × AllLawful text (flatten e)
  LawfulOpening (Opening.joineach x y e d) = Named text (from_to x y) × Quoted text d.span × AllLawful text (flatten e)

  -- the nodes that come with an item are lawful
  abbrev LawfulItem : Item → Type 0
  LawfulItem (Item.piece i j) = Inside text (from_to i j)
  LawfulItem (Item.dollar p) = ⊤
  LawfulItem (Item.show q e) = AllLawful text (flatten e)
  LawfulItem (Item.assign q k e) = LawfulKey k × AllLawful text (flatten e)
  LawfulItem (Item.opens q j h) = LawfulOpening h
  LawfulItem (Item.elif q j c) = AllLawful text (flatten c)
  LawfulItem (Item.else q j) = ⊤
  LawfulItem (Item.end q j) = ⊤

  abbrev LawfulItems : Items → Type 0
  LawfulItems Items.none = ⊤
  LawfulItems (Items.then ts t) = LawfulItems ts × LawfulItem t

  key_lawful : (k : Key) → LawfulKey k → AllLawful text (flatten_key k)
  unfolding flatten_key
  key_lawful (Key.name i j) h = (h, tt)
  key_lawful (Key.index i j q e) h = joined (flatten e) (node.Index (from_to i j) ∷ []) h.1 (h.0, tt)

  target_lawful : (k : Key) → LawfulKey k → AllLawful text (flatten_target k)
  target_lawful (Key.name i j) h = tt
  target_lawful (Key.index i j q e) h = h.1

  assign_lawful : (q : ℕ) (k : Key) (n m : ℕ) → LawfulKey k → Lawful text (assign_node q k n m)
  assign_lawful q (Key.name i j) n m h = h
  assign_lawful q (Key.index i j p e) n m h = h.0

  opening_lawful : (q : ℕ) (h : Opening) (m : ℕ) → LawfulOpening h → Lawful text (opening_node q h m)
  opening_lawful q (Opening.if c) m l = tt
  opening_lawful q (Opening.while c) m l = tt
  opening_lawful q (Opening.foreach x y e) m l = l.0
  opening_lawful q (Opening.joineach x y e d) m l = (l.0, l.1)

  opening_expr_lawful : (h : Opening) → LawfulOpening h → AllLawful text (flatten (opening_expr h))
  opening_expr_lawful (Opening.if c) l = l
  opening_expr_lawful (Opening.while c) l = l
  opening_expr_lawful (Opening.foreach x y e) l = l.1
  opening_expr_lawful (Opening.joineach x y e d) l = l.2

  framed_lawful : (q : ℕ) (h : Opening) (ns : List Node) → LawfulOpening h → AllLawful text ns → AllLawful text (framed q h ns)
  framed_lawful q h ns l b = (opening_lawful q h (length ns) l, joined (flatten (opening_expr h)) ns (opening_expr_lawful h l) b)

  -- ---- expressions

  mutual
    unfolding broken broken_key broken_args broken_seq flatten flatten_key flatten_args flatten_seq

    spelled : {n : ℕ} {t : Expr} {i j : ℕ} → Spells text n t i j → (d : ℕ) → broken d t ≡ [] → AllLawful text (flatten t)
    spelled (Grammar.tighter s) d h = spelled s d h
    spelled (Grammar.binary {l = l} {r = r} {b = q} o lev s bl w s') d h = joined (flatten l) (rest q o (flatten r)) (spelled s d (left (broken d l) (broken d r) h)) (rest_lawful q o (flatten r) (spelled s' d (right (broken d l) (broken d r) h)))
    spelled (Grammar.signed {t = t} s bl a sp) d h = joined (flatten t) _ (spelled sp d h) (tt, tt)
    spelled (Grammar.number c bl n) d h = (number_lawful c n h, tt)
    spelled (Grammar.quote t bl x) d h = (quoted_lawful t x h, tt)
    spelled (Grammar.key {k = k} s) d h = key_lawful k (keyed s d h)
    spelled (Grammar.call {a = a} {b = b} {c = c} {e = z} {s = s} bl n gap op l cl) d h =
        let f = function (part text a b) in
        let some = left _ (counted a f (count_args s) z) h in
        joined (flatten_args s) (called a f (count_args s) ∷ [])
        (listed l (suc d) (right _ (broken_args (suc d) s) some))
        (called_lawful a c z (count_args s) f (takes_few (part text a b)) (right _ (known a f c) (left _ (broken_args (suc d) s) some)) (right _ (counted a f (count_args s) z) h), tt)
    spelled (Grammar.list {a = q} {s = s} bl op l cl) d h = joined (flatten_seq s) (closing q s ∷ []) (items_of l (suc d) (right (deep d q) (broken_seq (suc d) s) h)) (closing_lawful q s, tt)
    spelled (Grammar.round {a = q} {t = t} bl op s bl' cl) d h = spelled s (suc d) (right (deep d q) (broken (suc d) t) h)

    keyed : {k : Key} {i j : ℕ} → Keyed text k i j → (d : ℕ) → broken_key d k ≡ [] → LawfulKey k
    keyed (Grammar.plain {a = a} {j = j} bl n) d h = named a j n h
    keyed (Grammar.numbered {a = a} {b = b} {c = q} {t = t} bl n gap op s bl' cl) d h = (named a b n (left (long a b) (deep d q) (left _ (broken (suc d) t) h)), spelled s (suc d) (right _ (broken (suc d) t) h))

    listed : {s : Args} {i j : ℕ} → Listed text s i j → (d : ℕ) → broken_args d s ≡ [] → AllLawful text (flatten_args s)
    listed (Grammar.no_arguments bl) d h = tt
    listed (Grammar.arguments a bl) d h = arguments a d h

    arguments : {s : Args} {i j : ℕ} → Arguments text s i j → (d : ℕ) → broken_args d s ≡ [] → AllLawful text (flatten_args s)
    arguments (Grammar.argument s) d h = spelled s d h
    arguments (Grammar.and_argument {s = s} {t = t} a bl c e) d h = joined (flatten_args s) (flatten t) (arguments a d (left (broken_args d s) (broken d t) h)) (spelled e d (right (broken_args d s) (broken d t) h))

    items_of : {s : Seq} {i j : ℕ} → ItemsOf text s i j → (d : ℕ) → broken_seq d s ≡ [] → AllLawful text (flatten_seq s)
    items_of (Grammar.no_items bl) d h = tt
    items_of (Grammar.items g bl) d h = groups g d h

    groups : {s : Seq} {i j : ℕ} → Groups text s i j → (d : ℕ) → broken_seq d s ≡ [] → AllLawful text (flatten_seq s)
    groups (Grammar.group g) d h = (group g d h).1 tt
    groups (Grammar.and_group gs bl c g) d h = let r = group g d h in r.1 (groups gs d r.0)

    -- a group behind some items
    group : {s₀ s : Seq} {i j : ℕ} → Group text s₀ s i j → (d : ℕ) → broken_seq d s ≡ [] → (broken_seq d s₀ ≡ []) × (AllLawful text (flatten_seq s₀) → AllLawful text (flatten_seq s))
    group (Grammar.expressions c) d h = commas c d h
    group (Grammar.sequence {s = s} a b c bl n g₁ c₁ g₂ m g₃ c₂ g₄ c₃ g₅ k) d h =
        let to_arrival = left _ (lengthy c) h in
        let to_large = left _ (arrival a b c) to_arrival in
        let to_second = left _ (large c) to_large in
        let to_first = left _ (broken_number b) to_second in (
          left (broken_seq d s) (broken_number a) to_first,
          λ l. joined (flatten_seq s) (node.Sequence a.span.«from» a.value b.value c.value ∷ joint s) l (
            (onwards a.value b.value c.value (kept _ _ _ _ (right _ (arrival a b c) to_arrival)), small a (left (large a) (lengthy a) (right _ (broken_number a) to_first)), small c (right _ (large c) to_large)),
            joint_lawful s,
          ),
        )

    commas : {s₀ s : Seq} {i j : ℕ} → Commas text s₀ s i j → (d : ℕ) → broken_seq d s ≡ [] → (broken_seq d s₀ ≡ []) × (AllLawful text (flatten_seq s₀) → AllLawful text (flatten_seq s))
    commas (Grammar.item {s = s} {t = t} e) d h = (left (broken_seq d s) (broken d t) h, λ l. joined (flatten_seq s ++ flatten t) (joint s) (joined (flatten_seq s) (flatten t) l (spelled e d (right (broken_seq d s) (broken d t) h))) (joint_lawful s))
    commas (Grammar.and_item {s = s} {t = t} c bl a e) d h =
        let r = commas c d (left (broken_seq d s) (broken d t) h) in
        (r.0, λ l. joined (flatten_seq s ++ flatten t) (joint s) (joined (flatten_seq s) (flatten t) (r.1 l) (spelled e d (right (broken_seq d s) (broken d t) h))) (joint_lawful s))

  -- ---- a whole template

  says : {t : Item} {i k : ℕ} → Says text t i k → (os : List Opened) → broken_item os t ≡ [] → LawfulItem t
  says (Grammar.show s bl) os h = spelled s 0 h
  says (Grammar.assign {c = k} {t = t} c bl a s bl') os h = (keyed c 0 (left (broken_key 0 k) (broken 0 t) h), spelled s 0 (right (broken_key 0 k) (broken 0 t) h))
  says (Grammar.if {t = t} {i = i} {b = b} bl c s bl') os h = spelled s 0 (right (room os i b) (broken 0 t) h)
  says (Grammar.elif {t = t} {i = i} {b = b} bl c s bl') os h = spelled s 0 (right (in_choice os i b) (broken 0 t) h)
  says (Grammar.else bl c bl') os h = tt
  says (Grammar.end bl c bl') os h = tt
  says (Grammar.while {t = t} {i = i} {b = b} bl c s bl') os h = spelled s 0 (right (room os i b) (broken 0 t) h)
  says (Grammar.foreach {t = t} {i = i} {b = b} {x = x} {y = y} bl c gap n s bl') os h =
      let o = right (room os i b) (long x y ++ broken 0 t) h in
      (named x y n (left (long x y) (broken 0 t) o), spelled s 0 (right (long x y) (broken 0 t) o))
  says (Grammar.joineach {t = t} {i = i} {b = b} {x = x} {y = y} d bl c gap n s bl' q bl'') os h =
      let o = right (room os i b) (long x y ++ broken 0 t ++ wide d) h in
      let o' = left (long x y ++ broken 0 t) (wide d) o in
      (named x y n (left (long x y) (broken 0 t) o'), quoted_lawful d q (right (long x y ++ broken 0 t) (wide d) o), spelled s 0 (right (long x y) (broken 0 t) o'))

  mutual
    unfolding broken_items

    lines : {ts : Items} {i : ℕ} → Lines text ts i → broken_items ts ≡ [] → LawfulItems ts
    lines Grammar.begin h = tt
    lines (Grammar.next l a) h = line l h

    line : {ts : Items} {i : ℕ} → Line text ts i → broken_items ts ≡ [] → LawfulItems ts
    line (Grammar.empty l bl) h = lines l h
    line (Grammar.comment l bl a lt b le n) h = lines l h
    line (Grammar.body b) h = body b h

    body : {ts : Items} {i : ℕ} → Body text ts i → broken_items ts ≡ [] → LawfulItems ts
    body (Grammar.return b a) h = begun b h
    body (Grammar.piece b some inside p longest) h = (begun b (left _ [] h), (omega arith, inside))
    body (Grammar.dollar b a a') h = (begun b (left _ [] h), tt)
    body (Grammar.instruction {ts = ts} {t = t} b a s z) h = (begun b (left (broken_items ts) (broken_item (open_blocks ts) t) h), says s (open_blocks ts) (right (broken_items ts) (broken_item (open_blocks ts) t) h))

    begun : {ts : Items} {i : ℕ} → Begun text ts i → broken_items ts ≡ [] → LawfulItems ts
    begun (Grammar.inside b) h = body b h
    begun (Grammar.first l bl n c) h = lines l h

  -- ---- from items to the block

  looped : (q j : ℕ) (o : Opening) (ns : List Node) (ts : Items) → AllLawful text ns × LawfulItems (Items.then ts (Item.opens q j o)) → AllLawful text (framed q o ns ++ node.End ∷ []) × LawfulItems ts
  looped q j o ns ts l = (joined (framed q o ns) (node.End ∷ []) (framed_lawful q o ns l.1.1 l.0) (tt, tt), l.1.0)

  mutual
    unfolding flatten_block flatten_statement flatten_arms

    of_block : (b : Block) (ts : Items) → LawfulItems (written b ts) → AllLawful text (flatten_block b) × LawfulItems ts
    of_block Block.nothing ts h = (tt, h)
    of_block (Block.then s b) ts h =
        let r = of_block b (written_statement s ts) h in
        let l = of_statement s ts r.1 in
        (joined (flatten_statement s) (flatten_block b) l.0 r.0, l.1)

    of_statement : (s : Statement) (ts : Items) → LawfulItems (written_statement s ts) → AllLawful text (flatten_statement s) × LawfulItems ts
    of_statement (Statement.piece i j) ts h = ((h.1, tt), h.0)
    of_statement (Statement.dollar p) ts h = ((tt, tt), h.0)
    of_statement (Statement.show q e) ts h = ((tt, h.1), h.0)
    of_statement (Statement.assign q k e) ts h = ((assign_lawful q k (length (flatten_target k)) (length (flatten e)) h.1.0, joined (flatten_target k) (flatten e) (target_lawful k h.1.0) h.1.1), h.0)
    of_statement (Statement.choice q j c b r) ts h =
        let a = of_arms r (written b (Items.then ts (Item.opens q j (Opening.if c)))) h in
        let l = of_block b (Items.then ts (Item.opens q j (Opening.if c))) a.1 in
        (joined (framed q (Opening.if c) (flatten_block b)) (flatten_arms r) (framed_lawful q (Opening.if c) (flatten_block b) l.1.1 l.0) a.0, l.1.0)
    of_statement (Statement.while q j c b q' j') ts h = looped q j (Opening.while c) (flatten_block b) ts (of_block b (Items.then ts (Item.opens q j (Opening.while c))) h.0)
    of_statement (Statement.foreach q j x y e b q' j') ts h = looped q j (Opening.foreach x y e) (flatten_block b) ts (of_block b (Items.then ts (Item.opens q j (Opening.foreach x y e))) h.0)
    of_statement (Statement.joineach q j x y e d b q' j') ts h = looped q j (Opening.joineach x y e d) (flatten_block b) ts (of_block b (Items.then ts (Item.opens q j (Opening.joineach x y e d))) h.0)

    of_arms : (r : Arms) (ts : Items) → LawfulItems (written_arms r ts) → AllLawful text (flatten_arms r) × LawfulItems ts
    of_arms (Arms.close q j) ts h = ((tt, tt), h.0)
    of_arms (Arms.otherwise q j b q' j') ts h =
        let l = of_block b (Items.then ts (Item.else q j)) h.0 in
        ((tt, joined (flatten_block b) (node.End ∷ []) l.0 (tt, tt)), l.1.0)
    of_arms (Arms.elif q j c b r) ts h =
        let a = of_arms r (written b (Items.then ts (Item.elif q j c))) h in
        let l = of_block b (Items.then ts (Item.elif q j c)) a.1 in
        (joined (node.Elif q (length (flatten c)) (length (flatten_block b)) ∷ flatten c ++ flatten_block b) (flatten_arms r) (tt, joined (flatten c) (flatten_block b) l.1.1 l.0) a.0, l.1.0)

-- the nodes of every template that is read are lawful
pub nodes_lawful : (text : List ℕ) (b : Block) → Faultless text (written b Items.none) → AllLawful text (flatten_block b)
nodes_lawful text b f =
    let ts = written b Items.none in
    (of_block text b Items.none (line text f.template (left (broken_items ts) (unclosed (open_blocks ts) (length text)) f.lawful))).0
