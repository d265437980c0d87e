-- Elements that come from outside, before they are judged. Assumes nothing.
use Rattle.std.specs.Prelude.{ℕ, Bool, true, false, ◌&&◌, List, [], ◌∷◌, map, length, ℤ, Some, None, Option, nat_le}
use Rattle.std.specs.Borrow.{Bor}
use Rattle.values.specs.declared.given.Given.{Given}
use Rattle.values.specs.Forms.{Elem, number, text, both}

-- a text of at most 32 bytes, or none where there is a number
abbrev pub lawful_element : Option ℤ → Option (Bor (List ℕ)) → Bool
lawful_element n (Some t) = nat_le (length t.now) 32
lawful_element (Some n) None = true
lawful_element None None = false

abbrev pub element_of : Option ℤ → Option (Bor (List ℕ)) → Elem
element_of (Some n) (Some t) = both n t.now
element_of (Some n) None = number n
element_of None (Some t) = text t.now
-- such an element is not lawful
element_of None None = text []

abbrev pub lawful_elements : List Given → Bool
lawful_elements [] = true
lawful_elements (g ∷ gs) = lawful_element g.number g.text && lawful_elements gs

-- at most 16 elements, each lawful
abbrev pub lawful_value : List Given → Bool
lawful_value gs = nat_le (length gs) 16 && lawful_elements gs

abbrev pub elements_of : List Given → List Elem
elements_of gs = map (λ (g : Given). element_of g.number g.text) gs
