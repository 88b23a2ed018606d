use Rattle.std.proofs.Common.{rules, OnOk, OnErr, ◌≡◌, Bool, true, false, not, cond, Option, Some, None, Bor, ℕ, option_map, is_some, length, string_bytes, refl, sym, ap, subst, ◌∙◌}
use Rattle.std.specs.Map.{lookup}
use Rattle.liquid_model.specs.Answer.{IsValueOrMemory}
use Rattle.liquid_core.specs.Held.{held}
use Rattle.liquid_language.specs.Entries.{put_entry, without}
use Rattle.liquid_site.specs.Parts.{by_name, trees_in}
use Rattle.liquid_model.specs.View.{view}
use Rattle.liquid_model.specs.Maps.{listed}
use Rattle.liquid_parser.specs.Parsing.{IsOnlyTree}
use Rattle.liquid_syntax.specs.Templates.{tree_of, partials_of, slots_of}
use Rattle.liquid_syntax.specs.declared.template.Template.{Template}
use Rattle.liquid_language.proofs.Inserted.{named}
use Rattle.liquid_site.specs.Applied.{IsStep}
use Rattle.liquid_language.specs.declared.registry.Language.{Language}
use Rattle.liquid_site.specs.Contents.{Contents, page_of, pages_from_scratch}
use Rattle.liquid_site.specs.PartViews.{site_parts_view}
use Rattle.liquid_site.specs.declared.parts.SiteParts.{SiteParts}
use Rattle.liquid_site.specs.Steps.{set_page, remove_page, set_partial, remove_partial, set_value, remove_value, set_data, stepped, saturated_sum, mentioning}
use Rattle.liquid_site.proofs.KeptPages.{without_shown}
use Rattle.liquid_site.proofs.Shown.{shown_as, shown_without}
use Rattle.liquid_site.proofs.Applying.{applied, held_there, no_partial, no_value, raised_none, value_there}
use Rattle.liquid_site.proofs.parts.SiteParts.apply.Goals as goal

abbrev contents_of : {P : Type 0} → SiteParts P → Contents
contents_of s = (site_parts_view s).contents

abbrev language_of : {P : Type 0} → SiteParts P → Language
language_of s = (site_parts_view s).language

abbrev count_of : {P : Type 0} → SiteParts P → ℕ
count_of s = (site_parts_view s).rendered

turned : (a b : Bool) → a ≡ not b → b ≡ true → a ≡ false
turned true true h k = sym (sym h)
turned false true h k = refl
turned a false h k = cc

turned_back : (a b : Bool) → a ≡ not b → b ≡ false → a ≡ true
turned_back true b h k = refl
turned_back false true h k = sym k
turned_back false false h k = h

same_some : (r : Option (Bor Template)) → is_some (option_map (λ t. tree_of t.now) r) ≡ is_some r
same_some None = refl
same_some (Some t) = refl

pub returns-in_ok-template-in-SetPage-clause-applied : goal.returns-in_ok-template-in-SetPage-clause-applied
returns-in_ok-template-in-SetPage-clause-applied g c =
    let old = c.args.self.now in
    let l = language_of old in
    let t = tree_of c.in_ok-template-in-SetPage.template in
    let s = set_page (string_bytes c.in-SetPage.name) t in
    let only : IsOnlyTree l t (string_bytes c.in-SetPage.source) = subst (IsOnlyTree l t) c.as_str.ensures.value c.in_ok-template-in-SetPage.ensures.parses in
    applied c.args.change c.set_page.result (site_parts_view old) (site_parts_view c.set_page.new.self) s (subst (λ ch. IsStep l ch s) (sym c.in-SetPage.is) (t, only, refl)) c.set_page.ensures.set c.set_page.ensures.counted c.set_page.ensures.unchanged c.set_page.ensures.uncounted

pub returns-in-RemovePage-clause-applied : goal.returns-in-RemovePage-clause-applied
returns-in-RemovePage-clause-applied g c =
    let old = c.args.self.now in
    let l = language_of old in
    let s = remove_page (string_bytes c.in-RemovePage.name) in
    record {
      step = s;
      is_step = subst (λ ch. IsStep l ch s) (sym c.in-RemovePage.is) refl;
      contents = c.remove_page.ensures.removed ∙ ap (λ n. stepped (remove_page n) (contents_of old)) c.as_str-in-RemovePage.ensures.value;
      rendered = c.remove_page.ensures.uncounted ∙ raised_none old.rendered 0 (search rules) refl;
    }

pub returns-in_ok-reserve-in-SetPartial-clause-applied : goal.returns-in_ok-reserve-in-SetPartial-clause-applied
returns-in_ok-reserve-in-SetPartial-clause-applied g c =
    let old = c.args.self.now in
    let l = language_of old in
    let new = c.exchange_partial.new.self in
    let r = c.exchange_partial.result in
    let t = tree_of c.in_ok-template-in-SetPartial.template in
    let s = set_partial (string_bytes c.in-SetPartial.name) t in
    let only : IsOnlyTree l t (string_bytes c.in-SetPartial.source) = subst (IsOnlyTree l t) c.as_str-in-SetPartial.ensures.value c.in_ok-template-in-SetPartial.ensures.parses in
    let named = c.as_str-in-SetPartial-3.ensures.value in
    let same = c.in_ok-reserve-in-SetPartial.ensures.same in
    let meant : record { setting = old.setting; pages = trees_in old.templates; partials = put_entry c.as_str-in-SetPartial-3.result.now t (partials_of c.reserve.new.self); «data» = held old.«data» } ≡ stepped s (contents_of old) =
    λ i. record { setting = old.setting; pages = trees_in old.templates; partials = put_entry (named i) t (same i); «data» = held old.«data» } in
    let before : record { setting = old.setting; pages = trees_in old.templates; partials = partials_of c.reserve.new.self; «data» = held old.«data» } ≡ contents_of old =
    λ i. record { setting = old.setting; pages = trees_in old.templates; partials = same i; «data» = held old.«data» } in
    applied c.args.change r (site_parts_view old) (site_parts_view new) s (subst (λ ch. IsStep l ch s) (sym c.in-SetPartial.is) (t, only, refl)) (subst (λ x. IsValueOrMemory (λ u. contents_of new) r x) meant c.exchange_partial.ensures.set) c.exchange_partial.ensures.counted
    (subst (λ x. OnErr r (contents_of new ≡ x)) before c.exchange_partial.ensures.unchanged) c.exchange_partial.ensures.uncounted

pub returns-then-is_none-clause-applied : goal.returns-then-is_none-clause-applied
returns-then-is_none-clause-applied g c =
    let old = c.args.self.now in
    let l = language_of old in
    let n = string_bytes c.in-RemovePartial.name in
    let s = remove_partial n in
    let none : is_some (listed (partials_of old.partials) n) ≡ false =
    ap (λ q. is_some (listed (partials_of old.partials) q)) (sym c.as_str-in-RemovePartial.ensures.value) ∙ ap is_some (sym c.get.ensures.found) ∙ same_some c.get.result ∙ turned (is_some c.get.result) c.is_none.result c.is_none.ensures c.if-is_none.true in
    record {
      step = s;
      is_step = subst (λ ch. IsStep l ch s) (sym c.in-RemovePartial.is) refl;
      contents = no_partial (contents_of old) n none;
      rendered = raised_none old.rendered _ (search rules) (ap (λ b. cond b (length (contents_of old).pages) 0) none);
    }

pub exchange_partial-requires-in-RemovePartial-clause-slot : goal.exchange_partial-requires-in-RemovePartial-clause-slot
exchange_partial-requires-in-RemovePartial-clause-slot g c =
    let old = c.args.self.now in
    let some = ap is_some (sym c.get.ensures.found) ∙ same_some c.get.result ∙ turned_back (is_some c.get.result) c.is_none.result c.is_none.ensures c.if-is_none.false in
    held_there c.as_str-in-RemovePartial-2.result.now (slots_of old.partials) (ap (λ q. is_some (listed (partials_of old.partials) q)) (c.as_str-in-RemovePartial-2.ensures.value ∙ sym c.as_str-in-RemovePartial.ensures.value) ∙ some)

pub returns-else-is_none-clause-applied : goal.returns-else-is_none-clause-applied
returns-else-is_none-clause-applied g c =
    let old = c.args.self.now in
    let l = language_of old in
    let new = c.exchange_partial-in-RemovePartial.new.self in
    let r = c.exchange_partial-in-RemovePartial.result in
    let n = string_bytes c.in-RemovePartial.name in
    let s = remove_partial n in
    let named = c.as_str-in-RemovePartial-2.ensures.value in
    let some : is_some (listed (partials_of old.partials) n) ≡ true =
    ap (λ q. is_some (listed (partials_of old.partials) q)) (sym c.as_str-in-RemovePartial.ensures.value) ∙ ap is_some (sym c.get.ensures.found) ∙ same_some c.get.result ∙ turned_back (is_some c.get.result) c.is_none.result c.is_none.ensures c.if-is_none.false in
    let meant : stepped (remove_partial c.as_str-in-RemovePartial-2.result.now) (contents_of old) ≡ stepped s (contents_of old) = ap (λ q. stepped (remove_partial q) (contents_of old)) named in
    applied c.args.change r (site_parts_view old) (site_parts_view new) s (subst (λ ch. IsStep l ch s) (sym c.in-RemovePartial.is) refl) (subst (λ x. IsValueOrMemory (λ u. contents_of new) r x) meant c.exchange_partial-in-RemovePartial.ensures.set)
    (subst (λ x. OnOk r (count_of new ≡ saturated_sum (count_of old) x)) (sym (ap (λ b. cond b (length (contents_of old).pages) 0) some)) c.exchange_partial-in-RemovePartial.ensures.counted)
    c.exchange_partial-in-RemovePartial.ensures.unchanged c.exchange_partial-in-RemovePartial.ensures.uncounted

pub returns-in-SetValue-clause-applied : goal.returns-in-SetValue-clause-applied
returns-in-SetValue-clause-applied g c =
    let old = c.args.self.now in
    let l = language_of old in
    let new = c.change_value.new.self in
    let r = c.change_value.result in
    let n = string_bytes c.in-SetValue.name in
    let d = view c.in-SetValue.value in
    let s = set_value n d in
    let named = c.as_str-in-SetValue.ensures.value in
    let meant : stepped (set_value c.as_str-in-SetValue.result.now d) (contents_of old) ≡ stepped s (contents_of old) = ap (λ q. stepped (set_value q d) (contents_of old)) named in
    applied c.args.change r (site_parts_view old) (site_parts_view new) s (subst (λ ch. IsStep l ch s) (sym c.in-SetValue.is) refl) (subst (λ x. IsValueOrMemory (λ u. contents_of new) r x) meant c.change_value.ensures.set)
    (subst (λ x. OnOk r (count_of new ≡ saturated_sum (count_of old) (mentioning (contents_of old) x))) named c.change_value.ensures.counted) c.change_value.ensures.unchanged c.change_value.ensures.uncounted

pub returns-then-not-contains_key-clause-applied : goal.returns-then-not-contains_key-clause-applied
returns-then-not-contains_key-clause-applied g c =
    let old = c.args.self.now in
    let l = language_of old in
    let n = string_bytes c.in-RemoveValue.name in
    let s = remove_value n in
    let none : is_some ((contents_of old).«data» n) ≡ false = value_there old.«data» n false (sym c.if-not-contains_key.true ∙ c.contains_key.ensures ∙ ap (λ q. is_some (lookup (named q) old.«data».entries)) c.as_str-in-RemoveValue.ensures.value) in
    record {
      step = s;
      is_step = subst (λ ch. IsStep l ch s) (sym c.in-RemoveValue.is) refl;
      contents = no_value (contents_of old) n none;
      rendered = raised_none old.rendered _ (search rules) (ap (λ b. cond b (mentioning (contents_of old) n) 0) none);
    }

pub returns-else-not-contains_key-clause-applied : goal.returns-else-not-contains_key-clause-applied
returns-else-not-contains_key-clause-applied g c =
    let old = c.args.self.now in
    let l = language_of old in
    let new = c.change_value-in-RemoveValue.new.self in
    let r = c.change_value-in-RemoveValue.result in
    let n = string_bytes c.in-RemoveValue.name in
    let s = remove_value n in
    let is = c.as_str-in-RemoveValue-2.ensures.value in
    let some : is_some ((contents_of old).«data» n) ≡ true = value_there old.«data» n true (sym c.if-not-contains_key.false ∙ c.contains_key.ensures ∙ ap (λ q. is_some (lookup (named q) old.«data».entries)) c.as_str-in-RemoveValue.ensures.value) in
    let meant : stepped (remove_value c.as_str-in-RemoveValue-2.result.now) (contents_of old) ≡ stepped s (contents_of old) = ap (λ q. stepped (remove_value q) (contents_of old)) is in
    applied c.args.change r (site_parts_view old) (site_parts_view new) s (subst (λ ch. IsStep l ch s) (sym c.in-RemoveValue.is) refl) (subst (λ x. IsValueOrMemory (λ u. contents_of new) r x) meant c.change_value-in-RemoveValue.ensures.set)
    (subst (λ x. OnOk r (count_of new ≡ saturated_sum (count_of old) x)) (ap (mentioning (contents_of old)) is ∙ sym (ap (λ b. cond b (mentioning (contents_of old) n) 0) some)) c.change_value-in-RemoveValue.ensures.counted)
    c.change_value-in-RemoveValue.ensures.unchanged c.change_value-in-RemoveValue.ensures.uncounted

pub returns-in-SetData-clause-applied : goal.returns-in-SetData-clause-applied
returns-in-SetData-clause-applied g c =
    let old = c.args.self.now in
    let l = language_of old in
    let new = c.change_data.new.self in
    let s = set_data (held c.in-SetData.«data») in
    applied c.args.change c.change_data.result (site_parts_view old) (site_parts_view new) s (subst (λ ch. IsStep l ch s) (sym c.in-SetData.is) refl) c.change_data.ensures.set c.change_data.ensures.counted c.change_data.ensures.unchanged c.change_data.ensures.uncounted

pub returns-in-RemovePage-clause-keeps : goal.returns-in-RemovePage-clause-keeps
returns-in-RemovePage-clause-keeps g c =
    let old = c.args.self.now in
    let new = c.remove_page.new.self in
    let n = c.as_str-in-RemovePage.result.now in
    let ws = pages_from_scratch (contents_of old) in
    shown_as (g.R.Rendering.shows c.args.rendering.now) (without n ws) (pages_from_scratch (contents_of new)) (without n (by_name old.pages)) (by_name new.pages)
    (without_shown (page_of (contents_of old)) n (contents_of old).pages ∙ ap pages_from_scratch (sym c.remove_page.ensures.removed)) (sym c.remove_page.ensures.pages)
    (shown_without (g.R.Rendering.shows c.args.rendering.now) n ws (by_name old.pages) c.requires)
