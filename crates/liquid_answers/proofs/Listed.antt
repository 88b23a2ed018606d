-- Calls that are listed one after another, and their text.
use Rattle.std.proofs.Common.{◌≡◌, ◌==◌, ℕ, zero, suc, ◌+◌, ◌<◌, ◌≤◌, List, [], ◌∷◌, ◌++◌, Bool, true, false, T, Some, None, Less, length, refl, sym, ap, subst, ◌∙◌, arith}
use Rattle.std.proofs.Math.Dec.{eqb-suc-zero}
use Rattle.std.proofs.lemmas.List.{length-append}
use Rattle.std.specs.Prelude.{codes, slice_get, string_bytes}
use Rattle.std.specs.Ordering.{on}
use Rattle.liquid_model.specs.Data.{array}
use Rattle.liquid_model.specs.Order.{order}
use Rattle.liquid_model.specs.Texts.{Text}
use Rattle.liquid_model.specs.View.{items_view, view}
use Rattle.liquid_model.specs.declared.value.Value.{Value}
use Rattle.liquid_json.specs.JsonTexts.{json_text}
use Rattle.liquid_answers.specs.Answering.{IsShort}
use Rattle.liquid_answers.specs.Lacking.{AreLackingCalls, IsLacking}
use Rattle.liquid_answers.specs.Tables.{answer_at}
use Rattle.liquid_answers.specs.declared.answers.Answers.{Answers}
use Rattle.liquid_answers.specs.declared.lacking.Lacking.{Lacking}
use Rattle.liquid_answers.specs.declared.lacking.Listed.{Listed}
use Rattle.liquid_answers.specs.declared.answered_page.Answered.TheVariants as answered
use Rattle.liquid_answers.specs.inside.Listed.{AreListed, IsAfter, IsNone, comma_after, list_front}
use Rattle.liquid_answers.proofs.Fronts.{front_closed, front_more, front_none}
use Rattle.liquid_answers.proofs.LackingCalls.{lacking_calls_more, lacking_calls_none}

-- there is a call
pub not_none : (n : ℕ) (b : Bool) → b ≡ (n == 0) → b ≡ false → 0 < n
not_none zero b is h = absurd (subst T (sym is ∙ h) tt)
not_none (suc n) b is h = omega arith

pub separator_none : (cs : List Value) → (length cs == 0) ≡ true → [] ≡ comma_after cs
separator_none [] none = refl
separator_none (c ∷ cs) none = absurd (subst T (sym none ∙ eqb-suc-zero (length cs)) tt)

pub separator_some : (cs : List Value) → (length cs == 0) ≡ false → codes "," ≡ comma_after cs
separator_some [] some = cc
separator_some (c ∷ cs) some = refl

closed : (cs : List Value) (text : Text) → text ≡ list_front (items_view cs) → text ++ codes "]" ≡ json_text (array (items_view cs))
closed cs text is = ap (λ t. t ++ codes "]") is ∙ front_closed (items_view cs)

one_more : (n : ℕ) → n < 1048576 → n + 1 ≤ 1048576
one_more n h = omega (arith, h)

-- a text that isn't closed and has room has room for its end
room : (cs : List Value) (text : Text) → text ≡ list_front (items_view cs) → length text < 1048576 → length (json_text (array (items_view cs))) ≤ 1048576
room cs text is h = subst (λ t. length t ≤ 1048576) (closed cs text is) (subst (λ n. n ≤ 1048576) (sym (length-append text (codes "]"))) (one_more (length text) h))

pub listed_none : (table : Answers) (listed : Listed) → IsNone listed → AreListed table listed
listed_none table listed is = record {
  lacking_calls = subst (AreLackingCalls table) (sym is.0) (lacking_calls_none table);
  text = is.1 ∙ front_none ∙ ap (λ cs. list_front (items_view cs)) (sym is.0);
}

-- one more is listed
pub listed_more : (table : Answers) (old new : Listed) (c : Value) → AreListed table old → new.calls.items ≡ old.calls.items ++ c ∷ []
    → string_bytes new.text ≡ string_bytes old.text ++ (comma_after old.calls.items ++ json_text (view c)) → length old.calls.items < 1000 → length (string_bytes old.text) < 1048576
    → IsAfter old.calls.items c → answer_at table (view c) ≡ None → AreListed table new
listed_more table old new c listed calls text few short after lacks = record {
  lacking_calls = subst (AreLackingCalls table) (sym calls) (lacking_calls_more table old.calls.items c listed.lacking_calls few (room old.calls.items (string_bytes old.text) listed.text short) after lacks);
  text = text ∙ ap (λ t. t ++ (comma_after old.calls.items ++ json_text (view c))) listed.text ∙ front_more old.calls.items c ∙ ap (λ cs. list_front (items_view cs)) (sym calls);
}

-- the list with its end
pub lacking_listed : (table : Answers) (listed : Listed) (it : Lacking) → AreListed table listed → 0 < length listed.calls.items
    → it.calls.items ≡ listed.calls.items → string_bytes it.text ≡ string_bytes listed.text ++ codes "]" → IsLacking table it
lacking_listed table listed it are some calls text = (
  subst (AreLackingCalls table) (sym calls) are.lacking_calls,
  subst (λ cs. 0 < length cs) (sym calls) some,
  text ∙ closed listed.calls.items (string_bytes listed.text) are.text ∙ ap (λ cs. json_text (array (items_view cs))) (sym calls),
)

pub short_lacking : (table : Answers) (it : Lacking) → IsLacking table it → IsShort (answered.Lacking it)
short_lacking table it is = is.0.short
