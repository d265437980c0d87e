-- What the structs of texts, elements and values mean. Assumes nothing.
use Rattle.std.specs.Prelude.{ℕ, List, map}
use Rattle.arrays.specs.Items.{items}
use Rattle.values.specs.declared.text.Text.{Text}
use Rattle.values.specs.declared.element.Element.{Element}
use Rattle.values.specs.declared.element.Element.TheVariants as element
use Rattle.values.specs.declared.value.Value.{Value}
use Rattle.values.specs.Forms.{Elem, number, text, both}

abbrev pub text_means : Text → List ℕ
text_means t = items t.bytes

abbrev pub element_means : Element → Elem
element_means (element.Number n) = number n
element_means (element.Text t) = text (text_means t)
element_means (element.Both n t) = both n (text_means t)

abbrev pub value_means : Value → List Elem
value_means v = map element_means (items v.elements)
