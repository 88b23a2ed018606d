-- Where jiff has no second, a pattern shows the same, or it fails for want of the instant.
use Rattle.std.proofs.Common.{◌≡◌, ◌⊎◌, inl, inr, refl, ap, ℕ, zero, suc, ◌==◌, ℤ, Bool, true, false, if◌then◌else◌, List, [], ◌∷◌, ◌++◌, length, get_or, drop, Option, Result, Ok, Err, arith}
use Rattle.std.specs.Prelude.{⊤}
use Rattle.std.proofs.lemmas.Bool.Decides.{nat_tests}
use Rattle.jiff_core.specs.declared.error.Error.{Error}
use Rattle.jiff_core.specs.declared.error.Error.TheVariants.{Missing}
use Rattle.jiff_core.specs.declared.error.Part.TheVariants.{Instant}
use Rattle.jiff_core.specs.declared.civil.date.Date.{Date}
use Rattle.jiff_core.specs.declared.civil.iso_week_date.ISOWeekDate.{ISOWeekDate}
use Rattle.jiff_strtime.specs.Directive.{read_extension, read_width}
use Rattle.jiff_strtime.specs.Number.{match_result}
use Rattle.jiff_strtime.specs.Show.{Context, Shown, text_of, items_from, directive_text, percent_text, shown_then, show_f, show_letter, step_text, show_steps, show_format}
use Rattle.liquid_filters.specs.Clock.{Clock, parts, unix_second}
use Rattle.liquid_filters.specs.Printed.{strict, context, show_clock}

-- the two are the same, or the first lacks the instant
abbrev pub Same : {A : Type 0} → Result A Error → Result A Error → Type 0
Same a b = (a ≡ b) ⊎ (a ≡ Err (Missing Instant))

-- the second is the clock's, or there is none
abbrev pub IsSecond : Clock → Result ℤ Error → Type 0
IsSecond c (Ok s) = s ≡ unix_second c
IsSecond c (Err e) = ⊤

-- what jiff looks up beside the parts
pub record Found : Type 0 where
  pub date : Result Date Error
  pub iso : Result ISOWeekDate Error
  pub second : Result ℤ Error

abbrev pub with_found : Clock → Found → Context
with_found c f = record { parts = parts c; date = f.date; iso = f.iso; second = f.second }

pick : {A : Type 0} (b : Bool) (x y : Result A Error) (x₂ y₂ : Result A Error) → Same x x₂ → Same y y₂ → Same (if b then x else y) (if b then x₂ else y₂)
pick true x y x₂ y₂ h k = h
pick false x y x₂ y₂ h k = k

match_same : {X A : Type 0} (r : Result X Error) (f g : X → Result A Error) → ((x : X) → Same (f x) (g x)) → Same (match_result r f (λ e. Err e)) (match_result r g (λ e. Err e))
match_same (Ok x) f g h = h x
match_same (Err e) f g h = inl refl

bind_same : {X A : Type 0} (r r₂ : Result X Error) (f g : X → Result A Error) → Same r r₂ → ((x : X) → Same (f x) (g x)) → Same (match_result r f (λ e. Err e)) (match_result r₂ g (λ e. Err e))
bind_same r r₂ f g (inl e) h = rw e (match_same r₂ f g h)
bind_same r r₂ f g (inr e) h = rw e (inr refl)

text-known : (letter : ℕ) (ext : _) (c : Clock) (f : Found) (s : ℤ) → f.second ≡ Ok s → s ≡ unix_second c
    → text_of letter ext (with_found c f) ≡ text_of letter ext (context c)
unfolding text_of
text-known letter ext c f s e same = rw (e, same) refl

text-other : (letter : ℕ) (ext : _) (c : Clock) (f : Found)
    → (letter == 115) ≡ false → text_of letter ext (with_found c f) ≡ text_of letter ext (context c)
unfolding text_of
text-other letter ext c f differs = rw differs refl

text-second : (letter : ℕ) (ext : _) (c : Clock) (f : Found) (e : Error)
    → letter ≡ 115 → f.second ≡ Err e → text_of letter ext (with_found c f) ≡ Err (Missing Instant)
unfolding text_of
text-second letter ext c f e is none = rw (is, none) refl

by_second : (letter : ℕ) (ext : _) (c : Clock) (f : Found) (r : Result ℤ Error) (b : Bool) → f.second ≡ r → (letter == 115) ≡ b → IsSecond c r
    → Same (text_of letter ext (with_found c f)) (text_of letter ext (context c))
by_second letter ext c f (Ok s) b e h same = inl (text-known letter ext c f s e same)
by_second letter ext c f (Err x) false e h same = inl (text-other letter ext c f h)
by_second letter ext c f (Err x) true e h same = inr (text-second letter ext c f x (grind (arith, nat_tests)) e)

text_same : (letter : ℕ) (ext : _) (c : Clock) (f : Found) → IsSecond c f.second → Same (text_of letter ext (with_found c f)) (text_of letter ext (context c))
text_same letter ext c f h = by_second letter ext c f f.second (letter == 115) refl refl h

directive_same : (letter : ℕ) (ext : _) (c : Clock) (f : Found) → IsSecond c f.second → Same (directive_text strict letter ext (with_found c f)) (directive_text strict letter ext (context c))
unfolding directive_text items_from text_of
directive_same letter ext c f h =
    pick (letter == 99) _ _ _ _ (inl refl) (pick (letter == 68) _ _ _ _ (inl refl) (pick (letter == 70) _ _ _ _ (inl refl)
    (pick (letter == 82) _ _ _ _ (inl refl) (pick (letter == 114) _ _ _ _ (inl refl) (pick (letter == 84) _ _ _ _ (inl refl)
    (pick (letter == 88) _ _ _ _ (inl refl) (pick (letter == 120) _ _ _ _ (inl refl) (text_same letter ext c f h))))))))

shown_then_same : (after : List ℕ) (a b : Shown) → Same a b → Same (shown_then after a) (shown_then after b)
shown_then_same after a b (inl e) = inl (ap (λ x. shown_then after x) e)
shown_then_same after a b (inr e) = rw e (inr refl)

f_same : (w : Option ℕ) (after : List ℕ) (c : Clock) (f : Found) → Same (show_f w after (with_found c f)) (show_f w after (context c))
f_same w [] c f = inl refl
f_same w (b ∷ after) c f = inl refl

letter_same : (ext : _) (fmt : List ℕ) (c : Clock) (f : Found) → IsSecond c f.second → Same (show_letter strict ext fmt (with_found c f)) (show_letter strict ext fmt (context c))
letter_same ext [] c f h = inl refl
letter_same ext (letter ∷ after) c f h =
    pick (letter == 46) _ _ _ _ (match_same (read_width after) _ _ (λ w. f_same w.0 w.1 c f)) (shown_then_same after _ _ (directive_same letter ext c f h))

percent_same : (fmt : List ℕ) (c : Clock) (f : Found) → IsSecond c f.second → Same (percent_text strict fmt (with_found c f)) (percent_text strict fmt (context c))
percent_same fmt c f h = match_same (read_extension fmt) _ _ (λ e. letter_same e.0 e.1 c f h)

step_same : (fmt : List ℕ) (c : Clock) (f : Found) → IsSecond c f.second → Same (step_text strict fmt (with_found c f)) (step_text strict fmt (context c))
step_same fmt c f h =
    pick (length fmt == 0) _ _ _ _ (inl refl) (pick (get_or fmt 0 0 == 37) _ _ _ _
    (pick (length (drop 1 fmt) == 0) _ _ _ _ (inl refl) (percent_same (drop 1 fmt) c f h)) (inl refl))

steps_same : (fuel : ℕ) (fmt : List ℕ) (c : Clock) (f : Found) (out : List ℕ) → IsSecond c f.second
    → Same (show_steps fuel strict fmt (with_found c f) out) (show_steps fuel strict fmt (context c) out)
unfolding show_steps
steps_same zero fmt c f out h = inl refl
steps_same (suc fuel) fmt c f out h = bind_same _ _ _ _ (step_same fmt c f h) (λ t. steps_same fuel t.1 c f (out ++ t.0) h)

-- the whole pattern
pub shown_same : (pattern : List ℕ) (c : Clock) (f : Found) → IsSecond c f.second → Same (show_format strict pattern (with_found c f)) (show_clock c pattern)
shown_same pattern c f h = steps_same _ pattern c f [] h
