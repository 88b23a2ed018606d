-- The laws of the visitors that test and gather what a node reads.
use Rattle.std.specs.Prelude.{◌≡◌, T, Bool, true, false, ◌||◌}
use mathlib.Core.Path.{refl, subst, ◌∙◌}
use Rattle.liquid_evaluation.specs.Names.{mentioned}
use Rattle.liquid_evaluation.specs.Telling.{IsTelling}
use Rattle.liquid_syntax.specs.inside.NameVisitors.{mentioned_both}
use Rattle.liquid_uses.specs.inside.Scopes.{Tests, visible_to}

pub either_test : {X : Type 0} (a b : Bool) → T (a || b) → (T a → X) → (T b → X) → X
either_test true b h f g = f tt
either_test false b h f g = g h

pub tests : IsTelling Tests
tests = record {
  none = λ v. (refl, (λ e q h. absurd h));
  both = λ u v w xs ys b h k. (
    k.0 ∙ h.0,
    (λ e q m. either_test (mentioned xs q) (mentioned ys q) (subst (λ c. T c)
        (mentioned_both xs ys q) m) (h.1 refl q)
        (λ z. subst (λ r. visible_to r q) h.0 (k.1 e q z))),
  );
  ends = λ u v xs ys h. (h.0, (λ e. absurd (clash e)));
}
  where
    clash : true ≡ false → ⊥
    clash e = cc

pub trivial : {V : Type 0} → IsTelling {V = V} (λ before names ended after. Unit {0})
trivial = record {
  none = λ v. tt;
  both = λ u v w xs ys b h k. tt;
  ends = λ u v xs ys h. tt;
}
