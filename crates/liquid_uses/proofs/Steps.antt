-- Where the steps of an expression lead, place by place.
use Rattle.std.proofs.Common.{◌≡◌, ℕ, suc, ◌+◌, ◌<◌, ◌≤◌, length, drop, get_or, ◌∷◌, add-one, drop-cons, ℤ, Bool, true, false, cond, ◌&&◌, List, [], Option, Some, None, refl, sym, ap, ◌∙◌, arith}
use Rattle.std.proofs.lemmas.List.{drop_all, nil_from_length}
use Rattle.std.proofs.lemmas.Bool.Decides.{nat_tests}
use mathlib.Core.Path.{subst}
use Rattle.std.specs.Fmt.{signed_decimal}
use Rattle.liquid_model.specs.Texts.{Text}
use Rattle.liquid_model.specs.Data.{Datum, nil, truth, number, text, array, object, Items, Pairs}
use Rattle.liquid_model.specs.Whole.{fits}
use Rattle.liquid_model.specs.Uses.{Use, nothing, everything, parts, Fields, ItemUse, use_in, use_at, includes, is_everything}
use Rattle.liquid_model.proofs.UseViews.{everything_includes}
use Rattle.liquid_core.specs.ExpressionView.{expression_view, steps_view}
use Rattle.liquid_core.specs.declared.expression.Expression.{Expression as Step}
use Rattle.liquid_core.specs.Expression.{Expression, literal, variable, Steps, no_steps, step}
use Rattle.liquid_evaluation.specs.Tree.{Chain, FilterCall}
use Rattle.std.specs.Borrow.{Bor}
use Rattle.std.specs.Prelude.{MatchOption, Vec, vec_len, ◌==◌}
use Rattle.std.specs.declared.alloc.Global.{Global}
use Rattle.liquid_model.specs.UseViews.{use_view}
use Rattle.liquid_model.specs.declared.uses.Use.{Use as RustUse}
use Rattle.liquid_uses.specs.declared.places.Place.{Place}
use Rattle.liquid_uses.specs.declared.places.Place.TheVariants.{Whole, Asked, Unnamed, Refused}
use Rattle.liquid_uses.specs.inside.Placing.{gives, gives_along, use_place, whole_if, Leads}
use Rattle.liquid_meaning.specs.Reading.{Uses, Needs, for_known_key, key, grants, grants_along, grants_chain, grants_filters, use_before}

pub true_both : (a b : Bool) → a ≡ true → b ≡ true → a && b ≡ true
true_both true b e f = f
true_both false b e f = absurd cc

-- everything is asked of a literal's step and of what comes after it
pub whole_step : (U : Uses) (d : Datum) (more : Steps) (v : Use) → grants_along U everything more v ≡ true → grants_along U everything (step (literal d) more) v ≡ true
unfolding grants
whole_step U nil more v h = h
whole_step U (truth b) more v h = h
whole_step U (number z) more v h = at (fits z)
  where
    at : (b : Bool) → for_known_key (cond b (Some (signed_decimal z)) None) (λ k. grants_along U everything more v) (grants_along U everything more v) ≡ true
    at true = h
    at false = h
whole_step U (text s) more v h = h
whole_step U (array ds) more v h = h
whole_step U (object ps) more v h = h

-- and of a variable's that is whole itself
pub variable_step : (U : Uses) (name : Text) (steps more : Steps) (v : Use) → grants U (variable name steps) everything ≡ true → grants_along U everything more v ≡ true
    → grants_along U everything (step (variable name steps) more) v ≡ true
unfolding grants
variable_step U name steps more v g h = true_both _ _ g h

-- ---- what is granted everything is granted any use

more_by : (k : Option Text) (a b : Text → Bool) (c d : Bool) → ((t : Text) → a t ≡ true → b t ≡ true) → (c ≡ true → d ≡ true) → for_known_key k a c ≡ true → for_known_key k b d ≡ true
more_by None a b c d known unknown h = unknown h
more_by (Some t) a b c d known unknown h = known t h

more_and : (a b c : Bool) → (b ≡ true → c ≡ true) → a && b ≡ true → a && c ≡ true
more_and true b c k h = k h
more_and false b c k h = absurd cc

more_along : (U : Uses) (u v : Use) (steps : Steps) → grants_along U u steps everything ≡ true → grants_along U u steps v ≡ true
unfolding grants
more_along U nothing v no_steps h = absurd cc
more_along U everything v no_steps h = everything_includes v
more_along U (parts ms ts) v no_steps h = absurd cc
more_along U u v (step x more) h =
    more_by (key x) _ _ _ _ (λ k. more_along U (use_at k u) v more) (more_and (is_everything u) _ _ (more_and (grants U x everything) _ _ (more_along U everything v more))) h

pub more_granted : (U : Uses) (x : Expression) (v : Use) → grants U x everything ≡ true → grants U x v ≡ true
unfolding grants
more_granted U (literal d) v h = refl
more_granted U (variable name steps) v h = more_along U (U name) v steps h

-- a chain whose entry and arguments are whole is granted any use of its value
pub whole_chain : (needs : Needs) (U : Uses) (v : Use) (chain : Chain) → grants U chain.entry everything ≡ true → grants_filters U chain.filters ≡ true → grants_chain needs U v chain ≡ true
unfolding grants_chain
whole_chain needs U v chain e f = true_both _ _ (more_granted U chain.entry _ e) f

-- and one without filters what its entry is granted
pub entry_alone : (needs : Needs) (U : Uses) (v : Use) (chain : Chain) → chain.filters ≡ [] → grants U chain.entry v ≡ true → grants_chain needs U v chain ≡ true
unfolding grants_chain grants_filters
entry_alone needs U v chain none e =
    subst (λ fs. grants U chain.entry (use_before needs fs v) && grants_filters U fs ≡ true) (sym none) (true_both _ _ e refl)

-- a list of no length is empty
pub empty_vec : {X : Type 0} (v : Vec X Global) → (vec_len v == 0) ≡ true → v.items ≡ []
empty_vec v e =
    let none : vec_len v ≡ 0 = grind (arith, nat_tests) in
    nil_from_length v.items (omega (arith, v.ok.0))

-- ---- places

is_all : (u : Use) → is_everything u ≡ true → u ≡ everything
is_all nothing e = absurd cc
is_all everything e = refl
is_all (parts ms ts) e = absurd cc

-- where there are no more steps
pub along_none : (U : Uses) (r : Place) (v : Use) → gives r v ≡ true → gives_along U r no_steps v ≡ true
unfolding grants
along_none U Whole v h = h
along_none U (Asked u) v h = h
along_none U Unnamed v h = h
along_none U Refused v h = absurd cc

pub step_whole : (key : Text) → (U : Uses) → Leads U Whole (literal (text key)) Whole
unfolding grants
step_whole key U more v h = h

pub step_unnamed : (key : Text) → (U : Uses) → Leads U Unnamed (literal (text key)) Unnamed
unfolding grants
step_unnamed key U more v h = h

pub step_refused : (key : Text) → (U : Uses) → Leads U Refused (literal (text key)) Refused
step_refused key U more v h = absurd cc

pub step_of_nothing : (r : Bor RustUse) (key : Text) → use_view r.now ≡ nothing → (U : Uses) → Leads U (Asked r) (literal (text key)) Unnamed
unfolding grants
step_of_nothing r key e U more v h = subst (λ u. grants_along U (use_at key u) more v ≡ true) (sym e) h

pub step_of_everything : (r : Bor RustUse) (key : Text) → use_view r.now ≡ everything → (U : Uses) → Leads U (Asked r) (literal (text key)) Whole
unfolding grants
step_of_everything r key e U more v h = subst (λ u. grants_along U (use_at key u) more v ≡ true) (sym e) h

pub step_of_parts : (r : Bor RustUse) (key : Text) (ms : Fields) (ts : ItemUse) → use_view r.now ≡ parts ms ts → (found : Option (Bor RustUse))
    → MatchOption found (use_in key ms ≡ nothing) (λ u. use_in key ms ≡ use_view u.now) → (U : Uses) → Leads U (Asked r) (literal (text key)) (use_place found)
unfolding grants
step_of_parts r key ms ts e None m U more v h = subst (λ u. grants_along U (use_at key u) more v ≡ true) (sym e) (subst (λ u. grants_along U u more v ≡ true) (sym m) h)
step_of_parts r key ms ts e (Some w) m U more v h = subst (λ u. grants_along U (use_at key u) more v ≡ true) (sym e) (subst (λ u. grants_along U u more v ≡ true) (sym m) h)

-- where everything is asked of a place, what everything is granted along a step it is granted
leads_whole : (U : Uses) (r : Place) (x : Expression) → ((more : Steps) (v : Use) → grants_along U everything more v ≡ true → grants_along U everything (step x more) v ≡ true) → gives r everything ≡ true → Leads U r x Whole
leads_whole U Whole x k w more v h = k more v h
leads_whole U (Asked u) x k w more v h = subst (λ t. grants_along U t (step x more) v ≡ true) (sym (is_all (use_view u.now) w)) (k more v h)
leads_whole U Unnamed x k w more v h = absurd cc
leads_whole U Refused x k w more v h = absurd cc

leads_if : (U : Uses) (r : Place) (x : Expression) (holds asked : Bool) → gives r everything ≡ asked → (holds ≡ true → (more : Steps) (v : Use) → grants_along U everything more v ≡ true → grants_along U everything (step x more) v ≡ true) → Leads U r x (cond (holds && asked) Whole Refused)
leads_if U r x true true e k more v h = leads_whole U r x (k refl) e more v h
leads_if U r x true false e k more v h = absurd cc
leads_if U r x false asked e k more v h = absurd cc

-- a step whose value is seen leads on where everything is asked
pub seen_leads : (U : Uses) (r : Place) (x : Expression) (seen : Bool) → (seen ≡ true → grants U x everything ≡ true) → Leads U r x (whole_if r seen)
seen_leads U r (literal d) seen g = leads_if U r (literal d) seen (gives r everything) refl (λ e more v h. whole_step U d more v h)
seen_leads U r (variable name steps) seen g = leads_if U r (variable name steps) seen (gives r everything) refl (λ e more v h. variable_step U name steps more v (g e) h)

-- and so does a literal
pub seen_literal : (U : Uses) (r : Place) (d : Datum) → Leads U r (literal d) (whole_if r true)
unfolding grants
seen_literal U r d = seen_leads U r (literal d) true (λ e. refl)

-- ---- steps, one after another

-- what a place gives along the steps from the i-th on, the first gives along all of them
abbrev pub LedSoFar : Uses → Place → Place → List Step → ℕ → Type 0
LedSoFar U place first steps i = (v : Use) → gives_along U place (steps_view (drop i steps)) v ≡ true → gives_along U first (steps_view steps) v ≡ true

pub led_further : (U : Uses) (place next first : Place) (steps : List Step) (i : ℕ) (x : Step) → x ≡ get_or steps i x → i < length steps → LedSoFar U place first steps i → Leads U place (expression_view x) next → LedSoFar U next first steps (i + 1)
led_further U place next first steps i x is lt sofar leads v h =
    let e : drop i steps ≡ x ∷ drop (i + 1) steps = rw add-one (drop-cons steps i x lt ∙ ap (λ y. y ∷ drop (suc i) steps) (sym is)) in
    sofar v (subst (λ xs. gives_along U place (steps_view xs) v ≡ true) (sym e) (leads (steps_view (drop (i + 1) steps)) v h))

pub led_all : (U : Uses) (place first : Place) (steps : List Step) (i : ℕ) → length steps ≤ i → LedSoFar U place first steps i → (v : Use) → gives place v ≡ true → gives_along U first (steps_view steps) v ≡ true
led_all U place first steps i le sofar v h =
    sofar v (subst (λ xs. gives_along U place (steps_view xs) v ≡ true) (sym (drop_all i steps le)) (along_none U place v h))

-- where the first name leads
pub first_gives : (U : Uses) (name : Text) (steps : Steps) (found : Option (Bor RustUse)) → MatchOption found (U name ≡ nothing) (λ u. U name ≡ use_view u.now) → (v : Use) → gives_along U (use_place found) steps v ≡ true → grants U (variable name steps) v ≡ true
unfolding grants
first_gives U name steps None m v h = subst (λ u. grants_along U u steps v ≡ true) (sym m) h
first_gives U name steps (Some w) m v h = subst (λ u. grants_along U u steps v ≡ true) (sym m) h
