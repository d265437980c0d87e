-- A sequence arrives just where its last number is reached in whole steps from its second. Assumes nothing.
use Rattle.std.proofs.Common.{◌≡◌, ℕ, ◌+◌, ◌-◌, ◌*◌, ◌/◌, ◌%◌, ◌≤◌, true, false, ◌&&◌, eqb, ltb, leb, sym, ap, ◌∙◌, inl, inr, ⊎_elim, div-add-mod', arith}
use native.Mathlib.Nat.{mul-mod_left}
use Rattle.std.proofs.lemmas.Bool.{cond-true, cond-false, cond_both, and_parts, and_from, lt-ltb, le-ltb, ltb-true, leb-true, le-leb, eqb-true, eq-eqb}
use Rattle.grammar.specs.Rules.{arrives}
use Rattle.grammar.specs.Laws.{InSteps, ArrivesInSteps}

-- from `low` on, `high` is reached in whole steps of d
reached : (low high d : ℕ) → leb low high && eqb ((high - low) % d) 0 ≡ true → (k : ℕ) × (high ≡ low + k * d)
reached low high d h =
    let ps = and_parts (leb low high) (eqb ((high - low) % d) 0) h in
    let le : low ≤ high = leb-true low high ps.0 in
    let none : (high - low) % d ≡ 0 = eqb-true ((high - low) % d) 0 ps.1 in
    let parts = div-add-mod' (high - low) d in
    ((high - low) / d, omega (arith, le, none, parts))

reach : (low high d k : ℕ) → high ≡ low + k * d → leb low high && eqb ((high - low) % d) 0 ≡ true
reach low high d k e =
    let le : low ≤ high = omega arith in
    let far : high - low ≡ k * d = omega arith in
    and_from (leb low high) (eqb ((high - low) % d) 0) (le-leb low high le) (eq-eqb ((high - low) % d) 0 (ap (λ n. n % d) far ∙ mul-mod_left k d))

never : {G : Type 0} → false ≡ true → G
never e = absurd (let z : ◌≡◌ {A = ℕ} 0 1 = cc in omega arith)

in_steps : (a b c : ℕ) → arrives a b c ≡ true → InSteps a b c
in_steps a b c =
    cond_both (ltb a b) _ _ (λ t. t ≡ true → InSteps a b c)
    (λ up e. inl (ltb-true a b up, reached b c (b - a) e))
    (λ no.
    cond_both (ltb b a) _ _ (λ t. t ≡ true → InSteps a b c) (λ down e. let r = reached c b (a - b) e in inr (ltb-true b a down, (r.0, sym r.1)))
    (λ no e. never e))

by_steps : (a b c : ℕ) → InSteps a b c → arrives a b c ≡ true
by_steps a b c = ⊎_elim
    (λ u. cond-true (ltb a b) _ _ (lt-ltb a b u.0) ∙ reach b c (b - a) u.1.0 u.1.1)
    (λ d.
    let over : b ≤ a = omega (arith, d.0) in
    cond-false (ltb a b) _ _ (le-ltb a b over) ∙ cond-true (ltb b a) _ _ (lt-ltb b a d.0) ∙ reach c b (a - b) d.1.0 (sym d.1.1))

pub arrives_in_steps : ArrivesInSteps
arrives_in_steps a b c = (in_steps a b c, by_steps a b c)
