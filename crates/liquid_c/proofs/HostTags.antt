-- A tag in the language of a handle.
use Rattle.std.proofs.Common.{◌≡◌, ℕ, List, Option, Some, sym, subst}
use Rattle.liquid_language.specs.declared.registry.Language.{Language}
use Rattle.liquid_core.specs.Expression.{Expression}
use Rattle.liquid_model.specs.Texts.{Text}
use Rattle.liquid_lexer.specs.declared.style.Style.{Style}
use Rattle.liquid_c.specs.HostTags.{AddsGiven, AddsTag, AsksForTag, IsTagRegistration}
use Rattle.liquid_c.specs.declared.content.Content.TheVariants as content
use Rattle.liquid_c.specs.declared.handle_content.HandleContent.{HandleContent}
use Rattle.liquid_c.specs.declared.handle_content.HandleContent.TheVariants.{Own}
use Rattle.liquid_c.specs.declared.tags.TagForm.{TagForm}

-- what is registered in the language is registered in the handle
pub in_language : (what : TagForm) (old : Option HandleContent) (name filter given : List ℕ) (asked n : ℕ) (left : Option HandleContent) (l : Language) → old ≡ Some (Own (content.Language l)) → AsksForTag what l name filter given asked n left → IsTagRegistration what old name filter given asked n left
in_language what old name filter given asked n left l is_old asks = subst (λ o. IsTagRegistration what o name filter given asked n left) (sym is_old) asks

-- what is added in the one form is added in the same
pub as_asked : (what one : TagForm) (old : Language) (name filter : Text) (style : Style) (given : List Expression) (n : ℕ) (left : Option HandleContent) → what ≡ one → AddsTag one old name filter style given n left → AddsTag what old name filter style given n left
as_asked what one old name filter style given n left is_one adds = subst (λ w. AddsTag w old name filter style given n left) (sym is_one) adds

-- what is added under texts is added under the same bytes
pub of_bytes : (what : TagForm) (old : Language) (name added_name filter added_filter : Text) (style : Style) (given added_given : Text) (n : ℕ) (left : Option HandleContent) → name ≡ added_name → filter ≡ added_filter → given ≡ added_given
    → AddsGiven what old added_name added_filter style added_given n left → AddsGiven what old name filter style given n left
of_bytes what old name added_name filter added_filter style given added_given n left same_name same_filter same_given adds =
    subst (λ w. AddsGiven what old w filter style given n left) (sym same_name)
    (subst (λ f. AddsGiven what old added_name f style given n left) (sym same_filter)
    (subst (λ g. AddsGiven what old added_name added_filter style g n left) (sym same_given) adds))
