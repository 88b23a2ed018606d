-- How a value compares with nil or a scalar is seen by its shape, and with any other value by all of it.
use Rattle.std.specs.Prelude.{◌≡◌, Bool, true, false, cond, not, T, Option, Some, None, Result, Ok, Err}
use mathlib.Core.Path.{refl, sym, ap, subst, ◌∙◌}
use Rattle.std.specs.Option.{unwrap_or}
use Rattle.std.specs.Ordering.{is_lt, is_gt, is_le, is_ge}
use Rattle.liquid_model.specs.Data.{Datum, nil, truth, number, text, array, object}
use Rattle.liquid_model.specs.Order.{same}
use Rattle.liquid_model.specs.Compare.{compare}
use Rattle.liquid_model.specs.declared.error.ErrorKind.{ErrorKind}
use Rattle.liquid_core.specs.Expression.{Expression, literal, variable}
use Rattle.liquid_core.specs.declared.missing_value.Missing.{Missing}
use Rattle.liquid_core.specs.declared.missing_value.Missing.TheVariants.{IsFault}
use Rattle.liquid_evaluation.specs.declared.comparison.ComparisonOperator.{ComparisonOperator}
use Rattle.liquid_evaluation.specs.declared.comparison.ComparisonOperator.TheVariants.{Equals, NotEquals, LessThan, GreaterThan, LessThanEquals, GreaterThanEquals, Contains}
use Rattle.liquid_evaluation.specs.Evaluation.{order_passes, comparison_truth, truth_beside_missing, truth_of_found}
use Rattle.liquid_model.specs.Uses.{Use, everything, there, shape, Alike, asks_whether}
use Rattle.liquid_meaning.specs.Reading.{Uses, is_nil_or_scalar, sees_kind_alone, use_beside, grants}

-- ---- shapes

same_shape : (c d : Datum) → T (is_nil_or_scalar (literal d)) → same (shape c) d ≡ same c d
same_shape nil d h = refl
same_shape (truth b) d h = refl
same_shape (number z) d h = refl
same_shape (text s) d h = refl
same_shape (array ds) nil h = refl
same_shape (array ds) (truth b) h = refl
same_shape (array ds) (number z) h = refl
same_shape (array ds) (text s) h = refl
same_shape (array ds) (array es) h = absurd h
same_shape (array ds) (object qs) h = absurd h
same_shape (object ps) nil h = refl
same_shape (object ps) (truth b) h = refl
same_shape (object ps) (number z) h = refl
same_shape (object ps) (text s) h = refl
same_shape (object ps) (array es) h = absurd h
same_shape (object ps) (object qs) h = absurd h

same_shape_after : (c d : Datum) → T (is_nil_or_scalar (literal d)) → same d (shape c) ≡ same d c
same_shape_after nil d h = refl
same_shape_after (truth b) d h = refl
same_shape_after (number z) d h = refl
same_shape_after (text s) d h = refl
same_shape_after (array ds) nil h = refl
same_shape_after (array ds) (truth b) h = refl
same_shape_after (array ds) (number z) h = refl
same_shape_after (array ds) (text s) h = refl
same_shape_after (array ds) (array es) h = absurd h
same_shape_after (array ds) (object qs) h = absurd h
same_shape_after (object ps) nil h = refl
same_shape_after (object ps) (truth b) h = refl
same_shape_after (object ps) (number z) h = refl
same_shape_after (object ps) (text s) h = refl
same_shape_after (object ps) (array es) h = absurd h
same_shape_after (object ps) (object qs) h = absurd h

compare_shape : (c d : Datum) → T (is_nil_or_scalar (literal d)) → compare (shape c) d ≡ compare c d
compare_shape nil d h = refl
compare_shape (truth b) d h = refl
compare_shape (number z) d h = refl
compare_shape (text s) d h = refl
compare_shape (array ds) nil h = refl
compare_shape (array ds) (truth b) h = refl
compare_shape (array ds) (number z) h = refl
compare_shape (array ds) (text s) h = refl
compare_shape (array ds) (array es) h = absurd h
compare_shape (array ds) (object qs) h = absurd h
compare_shape (object ps) nil h = refl
compare_shape (object ps) (truth b) h = refl
compare_shape (object ps) (number z) h = refl
compare_shape (object ps) (text s) h = refl
compare_shape (object ps) (array es) h = absurd h
compare_shape (object ps) (object qs) h = absurd h

compare_shape_after : (c d : Datum) → T (is_nil_or_scalar (literal d)) → compare d (shape c) ≡ compare d c
compare_shape_after nil d h = refl
compare_shape_after (truth b) d h = refl
compare_shape_after (number z) d h = refl
compare_shape_after (text s) d h = refl
compare_shape_after (array ds) nil h = refl
compare_shape_after (array ds) (truth b) h = refl
compare_shape_after (array ds) (number z) h = refl
compare_shape_after (array ds) (text s) h = refl
compare_shape_after (array ds) (array es) h = absurd h
compare_shape_after (array ds) (object qs) h = absurd h
compare_shape_after (object ps) nil h = refl
compare_shape_after (object ps) (truth b) h = refl
compare_shape_after (object ps) (number z) h = refl
compare_shape_after (object ps) (text s) h = refl
compare_shape_after (object ps) (array es) h = absurd h
compare_shape_after (object ps) (object qs) h = absurd h

-- ---- comparisons

abbrev Truth : Type 0
Truth = Result Bool ErrorKind

-- what is seen of two values by their shape, where only that is asked of them
by_shape_or_whole : (b : Bool) (g : Datum → Truth) → (T b → (c : Datum) → g (shape c) ≡ g c) → (c d : Datum) → Alike (cond b there everything) (Some c) (Some d) → g c ≡ g d
by_shape_or_whole true g k c d a = sym (k tt c) ∙ (ap (λ o. g (unwrap_or o nil)) a.0 ∙ k tt d)
by_shape_or_whole false g k c d a = ap (λ o. g (unwrap_or o nil)) a

-- of two values on the left of a literal's
left_seen : (missing : Missing) (comparison : ComparisonOperator) (d l m : Datum) → Alike (use_beside comparison (literal d)) (Some l) (Some m) → comparison_truth missing comparison l d ≡ comparison_truth missing comparison m d
unfolding comparison_truth
left_seen missing Equals d l m a = by_shape_or_whole (is_nil_or_scalar (literal d)) (λ c. comparison_truth missing Equals c d) (λ h c. ap Ok (same_shape c d h)) l m a
left_seen missing NotEquals d l m a = by_shape_or_whole (is_nil_or_scalar (literal d)) (λ c. comparison_truth missing NotEquals c d) (λ h c. ap (λ b. Ok (not b)) (same_shape c d h)) l m a
left_seen missing LessThan d l m a = by_shape_or_whole (is_nil_or_scalar (literal d)) (λ c. comparison_truth missing LessThan c d) (λ h c. ap (λ o. Ok (order_passes is_lt o)) (compare_shape c d h)) l m a
left_seen missing GreaterThan d l m a = by_shape_or_whole (is_nil_or_scalar (literal d)) (λ c. comparison_truth missing GreaterThan c d) (λ h c. ap (λ o. Ok (order_passes is_gt o)) (compare_shape c d h)) l m a
left_seen missing LessThanEquals d l m a = by_shape_or_whole (is_nil_or_scalar (literal d)) (λ c. comparison_truth missing LessThanEquals c d) (λ h c. ap (λ o. Ok (order_passes is_le o)) (compare_shape c d h)) l m a
left_seen missing GreaterThanEquals d l m a = by_shape_or_whole (is_nil_or_scalar (literal d)) (λ c. comparison_truth missing GreaterThanEquals c d) (λ h c. ap (λ o. Ok (order_passes is_ge o)) (compare_shape c d h)) l m a
left_seen missing Contains d l m a = ap (λ o. comparison_truth missing Contains (unwrap_or o nil) d) a

-- of two values on its right
right_seen : (missing : Missing) (comparison : ComparisonOperator) (d r s : Datum) → Alike (use_beside comparison (literal d)) (Some r) (Some s) → comparison_truth missing comparison d r ≡ comparison_truth missing comparison d s
unfolding comparison_truth
right_seen missing Equals d r s a = by_shape_or_whole (is_nil_or_scalar (literal d)) (λ c. comparison_truth missing Equals d c) (λ h c. ap Ok (same_shape_after c d h)) r s a
right_seen missing NotEquals d r s a = by_shape_or_whole (is_nil_or_scalar (literal d)) (λ c. comparison_truth missing NotEquals d c) (λ h c. ap (λ b. Ok (not b)) (same_shape_after c d h)) r s a
right_seen missing LessThan d r s a = by_shape_or_whole (is_nil_or_scalar (literal d)) (λ c. comparison_truth missing LessThan d c) (λ h c. ap (λ o. Ok (order_passes is_lt o)) (compare_shape_after c d h)) r s a
right_seen missing GreaterThan d r s a = by_shape_or_whole (is_nil_or_scalar (literal d)) (λ c. comparison_truth missing GreaterThan d c) (λ h c. ap (λ o. Ok (order_passes is_gt o)) (compare_shape_after c d h)) r s a
right_seen missing LessThanEquals d r s a = by_shape_or_whole (is_nil_or_scalar (literal d)) (λ c. comparison_truth missing LessThanEquals d c) (λ h c. ap (λ o. Ok (order_passes is_le o)) (compare_shape_after c d h)) r s a
right_seen missing GreaterThanEquals d r s a = by_shape_or_whole (is_nil_or_scalar (literal d)) (λ c. comparison_truth missing GreaterThanEquals d c) (λ h c. ap (λ o. Ok (order_passes is_ge o)) (compare_shape_after c d h)) r s a
right_seen missing Contains d r s a = ap (λ o. comparison_truth missing Contains d (unwrap_or o nil)) a

-- beside a variable all is seen
whole_beside : (comparison : ComparisonOperator) (name : _) (steps : _) → use_beside comparison (variable name steps) ≡ everything
whole_beside Equals name steps = refl
whole_beside NotEquals name steps = refl
whole_beside LessThan name steps = refl
whole_beside GreaterThan name steps = refl
whole_beside LessThanEquals name steps = refl
whole_beside GreaterThanEquals name steps = refl
whole_beside Contains name steps = refl

pub beside_asks : (comparison : ComparisonOperator) (x : Expression) → T (asks_whether (use_beside comparison x))
beside_asks comparison x = at (sees_kind_alone comparison x)
  where
    at : (b : Bool) → T (asks_whether (cond b there everything))
    at true = tt
    at false = tt

-- ---- sides

-- a literal has its own value
abbrev HasValue : Expression → Datum → Type 0
HasValue (literal d) c = c ≡ d
HasValue (variable name steps) c = Unit {0}

-- values of an expression that are alike in all that is granted of it
pub record Sides (U : Uses) (x : Expression) (c d : Datum) : Type 0 where
  pub seen : (v : Use) → T (grants U x v) → Alike v (Some c) (Some d)
  pub left : HasValue x c
  pub right : HasValue x d

abbrev IsVariable : Expression → Type 0
IsVariable (literal d) = ⊥
IsVariable (variable name steps) = Unit {0}

-- both values are there, or both are missing
abbrev pub SidesFound : Uses → Expression → Option Datum → Option Datum → Type 0
SidesFound U x (Some c) (Some d) = Sides U x c d
SidesFound U x None None = IsVariable x
SidesFound U x None (Some d) = ⊥
SidesFound U x (Some c) None = ⊥

module _ (U : Uses) (missing : Missing) (comparison : ComparisonOperator) where
  pub sides_compare : (x y : Expression) (l m r s : Datum) → Sides U x l m → Sides U y r s → T (grants U x (use_beside comparison y)) → T (grants U y (use_beside comparison x))
      → comparison_truth missing comparison l r ≡ comparison_truth missing comparison m s
  sides_compare x (literal d) l m r s a b h k =
      ap (comparison_truth missing comparison l) b.left ∙ (left_seen missing comparison d l m (a.seen _ h) ∙ sym (ap (comparison_truth missing comparison m) b.right))
  sides_compare (literal d) (variable name steps) l m r s a b h k =
      ap (λ c. comparison_truth missing comparison c r) a.left ∙ (right_seen missing comparison d r s (b.seen _ k) ∙ sym (ap (λ c. comparison_truth missing comparison c s) a.right))
  sides_compare (variable name steps) (variable other more) l m r s a b h k =
      let at_left : Alike everything (Some l) (Some m) = subst (λ u. Alike u (Some l) (Some m)) (whole_beside comparison other more) (a.seen _ h) in
      let at_right : Alike everything (Some r) (Some s) = subst (λ u. Alike u (Some r) (Some s)) (whole_beside comparison name steps) (b.seen _ k) in
      ap (λ o. comparison_truth missing comparison (unwrap_or o nil) r) at_left ∙ ap (λ o. comparison_truth missing comparison m (unwrap_or o nil)) at_right

  -- beside a value that is missing all is seen, since only a variable can lack one
  pub found_compare : (x y : Expression) (l m r s : Option Datum) → SidesFound U x l m → SidesFound U y r s → T (grants U x (use_beside comparison y)) → T (grants U y (use_beside comparison x))
      → truth_of_found missing comparison l r ≡ truth_of_found missing comparison m s
  found_compare x y (Some l) (Some m) (Some r) (Some s) a b h k = sides_compare x y l m r s a b h k
  found_compare x (literal d) (Some l) (Some m) None None a b h k = absurd b
  found_compare x (variable name steps) (Some l) (Some m) None None a b h k =
      let at_left : Alike everything (Some l) (Some m) = subst (λ u. Alike u (Some l) (Some m)) (whole_beside comparison name steps) (a.seen _ h) in
      ap (λ o. Ok (truth_beside_missing comparison (unwrap_or o nil) nil)) at_left
  found_compare (literal d) y None None (Some r) (Some s) a b h k = absurd a
  found_compare (variable name steps) y None None (Some r) (Some s) a b h k =
      let at_right : Alike everything (Some r) (Some s) = subst (λ u. Alike u (Some r) (Some s)) (whole_beside comparison name steps) (b.seen _ k) in
      ap (λ o. Ok (truth_beside_missing comparison nil (unwrap_or o nil))) at_right
  found_compare x y None None None None a b h k = refl
  found_compare x y None (Some m) r s a b h k = absurd a
  found_compare x y (Some l) None r s a b h k = absurd a
  found_compare x y (Some l) (Some m) None (Some s) a b h k = absurd b
  found_compare x y (Some l) (Some m) (Some r) None a b h k = absurd b
  found_compare x y None None None (Some s) a b h k = absurd b
  found_compare x y None None (Some r) None a b h k = absurd b

-- the same of equality alone
held : Truth → Bool
held (Ok b) = b
held (Err kind) = false

pub sides_equal : (U : Uses) (x y : Expression) (l m r s : Datum) → Sides U x l m → Sides U y r s → T (grants U x (use_beside Equals y)) → T (grants U y (use_beside Equals x)) → same l r ≡ same m s
unfolding comparison_truth held
sides_equal U x y l m r s a b h k = ap held (sides_compare U IsFault Equals x y l m r s a b h k)
