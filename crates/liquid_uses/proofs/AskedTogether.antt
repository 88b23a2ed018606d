-- Uses that ask for all that others ask for.
use Rattle.std.proofs.Common.{◌≡◌, Bool, true, false, cond, ◌&&◌, String, Global, BTreeMap, refl, sym, ap, ◌∙◌}
use mathlib.Core.Path.{subst}
use Rattle.std.specs.Cmp.Lexicographic.{bytes_decides}
use Rattle.liquid_model.specs.Texts.{Text, same_text}
use Rattle.liquid_model.specs.Uses.{Use, parts, Fields, no_fields, field, uncounted, use_in, includes, includes_fields}
use Rattle.liquid_model.specs.UseViews.{members_view, uses_view}
use Rattle.liquid_model.specs.declared.uses.Use as code
use Rattle.liquid_uses.specs.Together.{AsksAll}

first_true : (a b : Bool) → a && b ≡ true → a ≡ true
first_true true b e = refl
first_true false b e = absurd cc

second_true : (a b : Bool) → a && b ≡ true → b ≡ true
second_true true b e = e
second_true false b e = absurd cc

all_in : (held asked : Fields) (name : Text) → includes_fields (parts held uncounted) asked ≡ true → includes (use_in name held) (use_in name asked) ≡ true
all_in held no_fields name h = refl
all_in held (field key v more) name h = at (same_text key name) refl (all_in held more name (second_true (includes (use_in key held) v) _ h))
  where
    at : (b : Bool) → same_text key name ≡ b → includes (use_in name held) (use_in name more) ≡ true → includes (use_in name held) (cond b v (use_in name more)) ≡ true
    at true e rest = subst (λ t. includes (use_in t held) v ≡ true) ((bytes_decides key name).0 e) (first_true (includes (use_in key held) v) _ h)
    at false e rest = rest

pub all_asked : (uses others : BTreeMap (String Global) code.Use) (b : Bool) → b ≡ includes_fields (parts (members_view uses.entries) uncounted) (members_view others.entries) → b ≡ true
    → AsksAll (uses_view uses) (uses_view others)
all_asked uses others b is e name = all_in (members_view uses.entries) (members_view others.entries) name (sym is ∙ e)
