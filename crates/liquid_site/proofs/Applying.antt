-- What an answer of a change says.
use Rattle.std.specs.Prelude.{◌≡◌, ⊤, MatchBool, Result, Ok, Err, OnOk, OnErr, IsSome, is_some, cond, Option, Some, None, true, false, Bool, List, [], ◌∷◌, ℕ, ◌^◌, ◌<◌, String, option_map}
use native.Mathlib.Omega.{arith}
use Rattle.std.specs.BTreeMap.{BTreeMap}
use Rattle.std.specs.Map.{lookup}
use Rattle.std.specs.declared.alloc.Global.{Global}
use Rattle.liquid_model.specs.View.{view}
use Rattle.liquid_model.specs.declared.value.Value.{Value}
use Rattle.liquid_model.proofs.Views.{view-lookup}
use Rattle.liquid_core.specs.Held.{map_of, held}
use mathlib.Core.Path.{refl, sym, ap, subst, ◌∙◌}
use Rattle.liquid_model.specs.Answer.{IsValueOrMemory}
use Rattle.liquid_model.specs.Texts.{Text, same_text}
use Rattle.liquid_model.specs.ErrorKinds.{is_memory}
use Rattle.liquid_model.specs.Maps.{listed}
use Rattle.liquid_model.specs.declared.error.Error.{Error}
use Rattle.liquid_parser.specs.Parsing.{IsOfSource}
use Rattle.liquid_language.proofs.Inserted.{named}
use Rattle.liquid_language.specs.Entries.{placed}
use Rattle.liquid_syntax.specs.Slots.{with_held, filled}
use Rattle.liquid_site.specs.Applied.{IsStep, HasBadSource, AppliesTo}
use Rattle.liquid_site.specs.PartViews.{SiteView}
use Rattle.liquid_site.specs.Steps.{Step, remove_partial, remove_value, stepped, rendered_by, saturated_sum}
use Rattle.liquid_site.specs.Contents.{Contents}
use Rattle.liquid_site.proofs.KeptPages.{without_absent, absent_value}
use Rattle.liquid_site.specs.declared.change.Change.{Change}

pub applied : (change : Change) (r : Result (Unit {0}) Error) (old new : SiteView) (s : Step) → IsStep old.language change s
    → IsValueOrMemory (λ u. new.contents) r (stepped s old.contents) → OnOk r (new.rendered ≡ saturated_sum old.rendered (rendered_by s old.contents))
    → OnErr r (new.contents ≡ old.contents) → OnErr r (new.rendered ≡ old.rendered) → AppliesTo change r old new
applied change (Ok u) old new s is context counted same uncounted = record { step = s; is_step = is; contents = context; rendered = counted }
applied change (Err e) old new s is context counted same uncounted = record { contents = same; rendered = uncounted; why = subst (λ k. MatchBool (is_memory k) ⊤ (HasBadSource old.language change × IsOfSource k)) (sym context) tt }

-- ---- places

pub placed_there : {X : Type 0} (name : Text) (x : X) (es : List (Text × X)) → IsSome (listed es name) → IsSome (listed (placed name x es) name)
unfolding listed
placed_there name x [] h = h
placed_there name x (e ∷ es) h = on (same_text e.0 name) refl h (placed_there name x es)
  where
    on : (b : Bool) → same_text e.0 name ≡ b → IsSome (cond b (Some e.1) (listed es name)) → (IsSome (listed es name) → IsSome (listed (placed name x es) name)) → IsSome (listed (cond b ((e.0, x) ∷ es) (e ∷ placed name x es)) name)
    on true s k rest = ap (λ b. is_some (cond b (Some x) (listed es name))) s
    on false s k rest = ap (λ b. is_some (cond b (Some e.1) (listed (placed name x es) name))) s ∙ rest k

-- what is held under a name has a place
pub held_there : {Y : Type 0} (name : Text) (es : List (Text × Option Y)) → IsSome (listed (filled es) name) → IsSome (listed es name)
unfolding listed
held_there name [] h = h
held_there name (e ∷ es) h = on (same_text e.0 name) refl e.1 h (held_there name es)
  where
    on : (b : Bool) → same_text e.0 name ≡ b → (v : Option _) → IsSome (listed (with_held e.0 v (filled es)) name) → (IsSome (listed (filled es) name) → IsSome (listed es name)) → IsSome (cond b (Some v) (listed es name))
    on true s v k rest = refl
    on false s None k rest = rest k
    on false s (Some y) k rest = rest (sym (ap (λ b. is_some (cond b (Some y) (listed (filled es) name))) s) ∙ k)

-- ---- removals of what isn't there

pub no_partial : (c : Contents) (name : Text) → is_some (listed c.partials name) ≡ false → c ≡ stepped (remove_partial name) c
no_partial c name h = λ i. record c { partials = sym (without_absent name c.partials h) i }

pub no_value : (c : Contents) (name : Text) → is_some (c.«data» name) ≡ false → c ≡ stepped (remove_value name) c
no_value c name h = λ i. record c { «data» = sym (absent_value c.«data» name h) i }

pub raised_none : (n m : ℕ) → n < 2 ^ 64 → m ≡ 0 → n ≡ saturated_sum n m
raised_none n m h e = omega (arith, h, e)

pub value_there : (m : BTreeMap (String Global) Value) (name : Text) (b : Bool) → b ≡ is_some (lookup (named name) m.entries) → is_some (held m name) ≡ b
unfolding map_of
value_there m name b h = ap is_some (sym (view-lookup name m.entries)) ∙ kept (lookup (named name) m.entries) ∙ sym h
  where
    kept : (o : Option Value) → is_some (option_map view o) ≡ is_some o
    kept None = refl
    kept (Some v) = refl
