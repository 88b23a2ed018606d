-- Where a text is cut by a sign, and what its parts say of the format that it is.
use Rattle.std.proofs.Common.{◌≡◌, ℕ, ◌+◌, ◌<◌, ◌≤◌, List, ◌++◌, Some, None, codes, drop, take, length, string_bytes, sym, ap, subst, ◌∙◌, arith}
use Rattle.std.proofs.Math.Seq.{drop-append_seam, take-append_seam}
use Rattle.std.proofs.lemmas.List.{append_cancel_left}
use Rattle.std.proofs.lemmas.Str.Pattern.{split_text_parts}
use Rattle.std.specs.Borrow.{Bor}
use Rattle.std.specs.Str.{trim}
use Rattle.std.specs.Str.Pattern.{FindsText}
use Rattle.liquid_model.specs.Texts.{Text}
use Rattle.liquid_filter_sets.specs.MoneyFormats.{ClosesNone, ClosesPlaceholder, IsCutAtFirst, IsMadeOf, IsMoneyFormat, IsNoMoneyFormat}
use Rattle.liquid_shopify_host_filters.specs.Styles.{style_named}
use Rattle.liquid_shopify_host_filters.specs.declared.money.MoneyFormat.{MoneyFormat}
use Rattle.liquid_shopify_host_filters.specs.declared.money.MoneyStyle.{MoneyStyle}

-- the parts of a text around a sign, as `split_once` gives them
abbrev SplitParts : Text → Text → Bor (List ℕ) × Bor (List ℕ) → Type 0
SplitParts sign text x = (i : ℕ) × (j : ℕ) × FindsText sign text (Some (i, j)) × (x.0.now ≡ take i text) × (x.1.now ≡ drop j text)
    × (i ≤ j) × (length x.0.now ≡ i) × (length x.1.now + j ≡ length text)

pub cut_at_first : (sign text : Text) (x : Bor (List ℕ) × Bor (List ℕ)) → SplitParts sign text x → IsCutAtFirst sign text x.0.now x.1.now
cut_at_first sign text x h = record {
  whole = split_text_parts sign text (Some x) h;
  first = λ xs ys e.
      let there : drop (length xs) text ≡ sign ++ ys = ap (drop (length xs)) e ∙ drop-append_seam xs (sign ++ ys) in
      let not_before : length xs < h.0 → ⊥ = λ lt. h.2.0 (length xs) lt ys there in
      let size : length x.0.now ≡ h.0 = h.6 in
      omega arith;
}

pub cut_nowhere : (sign text : Text) → FindsText sign text None → (front back : Text) → IsCutAtFirst sign text front back → ⊥
cut_nowhere sign text none front back cut = split_text_parts sign text None none front back cut.whole

-- a text is cut so in one way only
same_front : (sign text front back front' back' : Text) → IsCutAtFirst sign text front back → IsCutAtFirst sign text front' back' → front ≡ front'
same_front sign text front back front' back' c d =
    let up : length front ≤ length front' = c.first front' back' d.whole in
    let down : length front' ≤ length front = d.first front back c.whole in
    let size : length front ≡ length front' = omega arith in
    sym (take-append_seam front (sign ++ back)) ∙ ap (take (length front)) (sym c.whole ∙ d.whole) ∙ ap (λ n. take n (front' ++ (sign ++ back'))) size ∙ take-append_seam front' (sign ++ back')

same_back : (sign text front back front' back' : Text) → IsCutAtFirst sign text front back → IsCutAtFirst sign text front' back' → back ≡ back'
same_back sign text front back front' back' c d =
    append_cancel_left sign back back' (append_cancel_left front (sign ++ back) (sign ++ back')
    (sym c.whole ∙ d.whole ∙ ap (λ f. f ++ (sign ++ back')) (sym (same_front sign text front back front' back' c d))))

-- ---- the placeholder

some_not_none : {A : Type 0} (x : A) → Some x ≡ None → ⊥
some_not_none x e = cc

pub closes_by : (rest name after : Text) (style : MoneyStyle) → IsCutAtFirst (codes "}}") rest name after → Some style ≡ style_named (trim name) → ClosesPlaceholder rest style after
closes_by rest name after style cut named = record { name = name; closed = cut; named = sym named }

pub closes_no_name : (rest name after : Text) → IsCutAtFirst (codes "}}") rest name after → None ≡ style_named (trim name) → ClosesNone rest
closes_no_name rest name after cut none style after' other =
    some_not_none style (sym other.named ∙ ap (λ n. style_named (trim n)) (same_front (codes "}}") rest other.name after' name after other.closed cut) ∙ sym none)

pub closes_nowhere : (rest : Text) → FindsText (codes "}}") rest None → ClosesNone rest
closes_nowhere rest none style after other = cut_nowhere (codes "}}") rest none other.name after other.closed

-- ---- the format

pub opens_nowhere : (text : Text) → FindsText (codes "{{") text None → IsNoMoneyFormat text
opens_nowhere text none before style after format = cut_nowhere (codes "{{") text none before format.rest format.opened

pub opens_no_placeholder : (text front back : Text) → IsCutAtFirst (codes "{{") text front back → ClosesNone back → IsNoMoneyFormat text
opens_no_placeholder text front back cut none before style after format =
    none style after (subst (λ r. ClosesPlaceholder r style after) (same_back (codes "{{") text before format.rest front back format.opened cut) format.closes)

pub format_by : (text before : Text) (style : MoneyStyle) (after : Text) (f : MoneyFormat) → IsMoneyFormat text before style after → IsMadeOf before style after f → IsMoneyFormat text (string_bytes f.before) f.style (string_bytes f.after)
format_by text before style after f is made =
    subst (λ b. IsMoneyFormat text b f.style (string_bytes f.after)) (sym made.before_is)
    (subst (λ s. IsMoneyFormat text before s (string_bytes f.after)) (sym made.style_is)
    (subst (λ a. IsMoneyFormat text before style a) (sym made.after_is) is))
