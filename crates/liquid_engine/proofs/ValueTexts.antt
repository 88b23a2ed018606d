-- The text of a value, kind by kind.
use Rattle.std.proofs.Common.{◌≡◌, ℤ, [], Bool, Vec, BTreeMap, String, Global, string_bytes, ap, sym, ◌∙◌, rules}
use Rattle.liquid_model.specs.Data.{nil, truth, number, text_of, items_text, pairs_text}
use Rattle.liquid_model.specs.View.{view, items_view, pairs_view}
use Rattle.liquid_model.specs.declared.value.Value.{Value, Nil, Bool as Truth, Integer, Text, Array, Object, the_lemmas}
use Rattle.liquid_model.proofs.Views.{view-Text, view-Array, view-Object}
use Rattle.liquid_engine.proofs.Counting.{view-Integer}

view-Nil : view Nil ≡ nil
view-Nil = search (rules, the_lemmas)

view-Bool : (b : Bool) → view (Truth b) ≡ truth b
view-Bool b = search (rules, the_lemmas)

pub nil_text : (value : Value) → value ≡ Nil → [] ≡ text_of (view value)
nil_text value is = sym (ap (λ v. text_of (view v)) is ∙ ap text_of view-Nil)

pub truth_text : (value : Value) (b : Bool) → value ≡ Truth b → text_of (truth b) ≡ text_of (view value)
truth_text value b is = sym (ap (λ v. text_of (view v)) is ∙ ap text_of (view-Bool b))

pub number_text : (value : Value) (n : ℤ) → value ≡ Integer n → text_of (number n) ≡ text_of (view value)
number_text value n is = sym (ap (λ v. text_of (view v)) is ∙ ap text_of (view-Integer n))

pub text_text : (value : Value) (s : String Global) → value ≡ Text s → string_bytes s ≡ text_of (view value)
text_text value s is = sym (ap (λ v. text_of (view v)) is ∙ ap text_of (view-Text s))

pub array_text : (value : Value) (v : Vec Value Global) → value ≡ Array v → items_text (items_view v.items) ≡ text_of (view value)
array_text value v is = sym (ap (λ x. text_of (view x)) is ∙ ap text_of (view-Array v))

pub object_text : (value : Value) (m : BTreeMap (String Global) Value) → value ≡ Object m → pairs_text (pairs_view m.entries) ≡ text_of (view value)
object_text value m is = sym (ap (λ v. text_of (view v)) is ∙ ap text_of (view-Object m))
