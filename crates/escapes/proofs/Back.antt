-- What is written by escapes reads back. Assumes nothing.
use Rattle.std.proofs.Common.{◌≡◌, ℕ, ◌+◌, ◌*◌, ◌/◌, ◌%◌, ◌<◌, ◌||◌, List, [], ◌∷◌, ◌++◌, refl, ap, ◌∙◌, arith, ltb, eqb}
use Rattle.std.specs.Option.{option_map}
use Rattle.std.proofs.lemmas.Bool.{and_parts, cond_both, ltb-true, eqb-true, lt-ltb}
use Rattle.std.proofs.lemmas.Bool.Decides.{nat_tests}
use Rattle.tokens.specs.Bytes.{digit_value}
use Rattle.escapes.specs.Escapes.{hex_digit, written, all_written, read_line, ReadsBack}

digit_back : (n : ℕ) → n < 16 → digit_value (hex_digit n) ≡ n
digit_back n h = grind (arith, nat_tests)

-- a digit that is read by two
digit_pair : (h l : ℕ) (rest : List ℕ) → digit_value h < 16 → digit_value l < 16 → read_line (92 ∷ 120 ∷ h ∷ l ∷ rest) ≡ option_map (λ xs. (16 * digit_value h + digit_value l) ∷ xs) (read_line rest)
digit_pair h l rest p q = rw (lt-ltb _ _ p, lt-ltb _ _ q) refl

-- what stands in a line for a byte
abbrev Means : ℕ → List ℕ → Type 0
Means b w = (rest : List ℕ) → read_line (w ++ rest) ≡ option_map (λ xs. b ∷ xs) (read_line rest)

hex_back : (b : ℕ) → b < 256 → Means b (92 ∷ 120 ∷ hex_digit (b / 16) ∷ hex_digit (b % 16) ∷ [])
hex_back b h rest =
    let p = digit_back (b / 16) (omega arith) in
    let q = digit_back (b % 16) (omega arith) in
    let e : 16 * (b / 16) + b % 16 ≡ b = omega arith in
    digit_pair (hex_digit (b / 16)) (hex_digit (b % 16)) rest (omega arith) (omega arith)
    ∙ ap (λ x. option_map (λ xs. x ∷ xs) (read_line rest)) (ap (λ x. 16 * x + digit_value (hex_digit (b % 16))) p ∙ ap (λ x. 16 * (b / 16) + x) q ∙ e)

byte_back : (b : ℕ) → b < 256 → Means b (written b)
byte_back b h =
    cond_both (eqb b 10) _ _ (Means b) (λ e rest. (rw (eqb-true b 10 e) refl))
    (λ _. cond_both (eqb b 9) _ _ (Means b) (λ e rest. (rw (eqb-true b 9 e) refl))
    (λ _. cond_both (eqb b 92) _ _ (Means b) (λ e rest. (rw (eqb-true b 92 e) refl))
    (λ n. cond_both (ltb b 32 || ltb 126 b) _ _ (Means b) (λ _. hex_back b h) (λ _ rest. (rw n refl)))))

pub reads_back : ReadsBack
reads_back [] h = refl
reads_back (b ∷ bs) h =
    let p = and_parts _ _ h in
    byte_back b (ltb-true _ _ p.0) (all_written bs) ∙ ap (option_map (λ xs. b ∷ xs)) (reads_back bs p.1)
