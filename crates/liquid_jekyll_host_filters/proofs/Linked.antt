-- The answers of Jekyll's tags by their arguments.
use Rattle.std.proofs.Common.{◌≡◌, ◌≤◌, ◌<◌, ◌-◌, suc, ◌∷◌, [], List, drop, get_or, length, map, take, Bool, true, false, MatchBool, Err, arith, refl, ap, sym, subst, ◌∙◌}
use Rattle.std.specs.Bool.{⊤}
use Rattle.std.proofs.lemmas.List.{length-drop, take_all}
use Rattle.liquid_model.specs.Answer.{Faulted}
use Rattle.liquid_model.specs.Arguments.{Answer}
use Rattle.liquid_model.specs.Data.{Datum}
use Rattle.liquid_model.specs.ErrorKinds.{IsKindOrMemory, is_memory, is_refusal}
use Rattle.liquid_model.specs.Texts.{Text}
use Rattle.liquid_model.specs.View.{view}
use Rattle.liquid_model.specs.declared.error.ErrorKind.{ErrorKind}
use Rattle.liquid_model.specs.declared.error.ErrorKind.TheVariants.{InvalidArgument}
use Rattle.liquid_model.specs.declared.value.Value.{Value}
use Rattle.liquid_jekyll_host_filters.specs.FeedMeta.{feed_link, feed_meta_answer, feed_path, or_other}
use Rattle.liquid_jekyll_host_filters.specs.Seo.{given_text, seo_answer}
use Rattle.liquid_jekyll_host_filters.specs.Links.{link_answer, named_post_url, page_url, post_url_answer}

-- what stands after the first
others : (y : Value) (ys : List Value) → take (length (y ∷ ys) - 1) ys ≡ ys
others y ys = take_all (length (y ∷ ys) - 1) ys (omega (arith, length-drop 1 (y ∷ ys)))

pub link_split : (base : Text) (d : Datum) (xs : List Value) (x : Value) → 1 ≤ length xs → x ≡ get_or xs 0 x → link_answer base d (map view xs) ≡ page_url base (view x) (map view (take (length xs - 1) (drop 1 xs)))
link_split base d [] x h is = absurd (omega (arith, h))
link_split base d (y ∷ ys) x h is = ap (λ (z : Value). page_url base (view z) (map view ys)) (sym is) ∙ ap (λ (zs : List Value). page_url base (view x) (map view zs)) (sym (others y ys))

pub post_split : (base : Text) (d : Datum) (xs : List Value) (x : Value) → 1 ≤ length xs → x ≡ get_or xs 0 x → post_url_answer base d (map view xs) ≡ named_post_url base (view x) (map view (take (length xs - 1) (drop 1 xs)))
post_split base d [] x h is = absurd (omega (arith, h))
post_split base d (y ∷ ys) x h is = ap (λ (z : Value). named_post_url base (view z) (map view ys)) (sym is) ∙ ap (λ (zs : List Value). named_post_url base (view x) (map view zs)) (sym (others y ys))

pub feed_split : (address base : Text) (d : Datum) (xs : List Value) (f t n : Value) → 3 ≤ length xs → f ≡ get_or xs 0 f → t ≡ get_or xs 1 t → n ≡ get_or xs 2 n
    → feed_meta_answer address base d (map view xs) ≡ feed_link address base (feed_path (view f)) (or_other (view t) (view n))
feed_split address base d [] f t n h p q r = absurd (omega (arith, h))
feed_split address base d (x ∷ []) f t n h p q r = absurd (omega (arith, h))
feed_split address base d (x ∷ y ∷ []) f t n h p q r = absurd (omega (arith, h))
feed_split address base d (x ∷ y ∷ z ∷ zs) f t n h p q r =
    let first = sym p in
    let second = sym q in
    let third = sym r in
    λ i. feed_link address base (feed_path (view (first i))) (or_other (view (second i)) (view (third i)))

pub feed_lacking : (address base : Text) (d : Datum) (xs : List Value) → length xs < 3 → feed_meta_answer address base d (map view xs) ≡ Err InvalidArgument
feed_lacking address base d [] h = refl
feed_lacking address base d (x ∷ []) h = refl
feed_lacking address base d (x ∷ y ∷ []) h = refl
feed_lacking address base d (x ∷ y ∷ z ∷ zs) h = absurd (omega (arith, h))

pub seo_split : (d : Datum) (xs : List Value) (x : Value) → 1 ≤ length xs → x ≡ get_or xs (length xs - 1) x → seo_answer d (map view xs) ≡ given_text (view x)
seo_split d [] x h is = absurd (omega (arith, h))
seo_split d (y ∷ []) x h is = ap (λ (z : Value). given_text (view z)) (sym is)
seo_split d (y ∷ z ∷ zs) x h is =
    let at : length (y ∷ z ∷ zs) - 1 ≡ suc (length (z ∷ zs) - 1) = omega arith in
    seo_split d (z ∷ zs) x (omega arith) (is ∙ ap (λ n. get_or (y ∷ z ∷ zs) n x) at)

pub refused_as : (kind : ErrorKind) (r : Answer) → IsKindOrMemory InvalidArgument kind → r ≡ Err InvalidArgument → Faulted kind r
refused_as kind r h e = on (is_memory kind) refl h
  where
    on : (b : Bool) → is_memory kind ≡ b → MatchBool b ⊤ (InvalidArgument ≡ kind) → MatchBool (is_memory kind) ⊤ ((r ≡ Err kind) × (is_refusal kind ≡ false))
    on true is m = subst (λ b. MatchBool b ⊤ ((r ≡ Err kind) × (is_refusal kind ≡ false))) (sym is) tt
    on false is m = subst (λ k. Faulted k r) m (e, refl)
