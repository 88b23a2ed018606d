-- What is asked of each visitor of names.
use Rattle.std.specs.Prelude.{◌≡◌, Bool, true, false, ◌||◌, List, [], ◌++◌}
use Rattle.std.specs.List.{list_any}
use Rattle.std.proofs.lemmas.List.Folds.{list_any-append}
use mathlib.Core.Path.{refl, sym, ap, ◌∙◌, fun_ext}
use Rattle.liquid_core.specs.Environment.{Names}
use Rattle.liquid_model.specs.Texts.{Text, same_text}
use Rattle.liquid_evaluation.specs.Names.{mentioned}
use Rattle.liquid_evaluation.specs.Telling.{IsTelling}
use Rattle.liquid_syntax.specs.NameSets.{added, Looks, Gathers}

pub any_both : (xs ys : List Text) (N : Names) → list_any N (xs ++ ys) ≡
    (list_any N xs || list_any N ys)
any_both xs ys N = list_any-append N xs ys

pub mentioned_both : (xs ys : List Text) (name : Text) → mentioned (xs ++ ys) name ≡
    (mentioned xs name || mentioned ys name)
mentioned_both xs ys name = list_any-append (same_text name) xs ys

pub or_assoc : (a b c : Bool) → ((a || b) || c) ≡ (a || (b || c))
or_assoc true b c = refl
or_assoc false b c = refl

pub or_false : (b : Bool) → b ≡ (b || false)
or_false true = refl
or_false false = refl

added_none : (h : Names) → h ≡ added [] h
unfolding added
added_none h = fun_ext (λ name. or_false (h name))

pub added_both : (xs ys : List Text) (h : Names) → added (xs ++ ys) h ≡ added ys (added xs h)
unfolding added
added_both xs ys h =
    fun_ext (λ name. ap (λ b. h name || b) (mentioned_both xs ys name) ∙ sym
    (or_assoc (h name) (mentioned xs name) (mentioned ys name)))

pub looks : {V : Type 0} (wanted : V → Names) → IsTelling (Looks wanted)
looks wanted = record {
  none = λ v. (refl, refl);
  both = λ u v w xs ys b h k. (
    k.0 ∙ h.0,
    k.1 ∙ ap (λ x. list_any (wanted x) ys) h.0 ∙ ap
        (λ a. a || list_any (wanted u) ys) h.1 ∙ sym (any_both xs ys (wanted u)),
  );
  ends = λ u v xs ys h. (
    h.0,
    ap (λ a. a || list_any (wanted u) ys) h.1 ∙ sym
        (any_both xs ys (wanted u)),
  );
}

pub gathers : {V : Type 0} (has : V → Names) → IsTelling (Gathers has)
gathers has = record {
  none = λ v. added_none (has v);
  both = λ u v w xs ys b h k. on u v w xs ys b h k;
  ends = λ u v xs ys h. tt;
}
  where
    on : (u v w : _) (xs ys : List Text) (b : Bool) → has v ≡ added xs (has u) →
        Gathers has v ys b w → Gathers has u (xs ++ ys) b w
    on u v w xs ys true h k = tt
    on u v w xs ys false h k = k ∙ ap (added ys) h ∙ sym (added_both xs ys (has u))
