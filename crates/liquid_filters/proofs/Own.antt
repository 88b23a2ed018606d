-- The parts that are filled in change nothing: a pattern shows the same of jiff's own parts, with the date that they come to.
use Rattle.std.proofs.Common.{◌≡◌, refl, ap, ℕ, zero, suc, ◌==◌, ℤ, Bool, true, false, if◌then◌else◌, List, [], ◌∷◌, ◌++◌, length, get_or, drop, Option, Result, Ok, Err}
use Rattle.jiff_core.specs.declared.error.Error.{Error}
use Rattle.jiff_core.specs.declared.civil.datetime.DateTime.{DateTime}
use Rattle.jiff_core.specs.declared.civil.iso_week_date.ISOWeekDate.{ISOWeekDate}
use Rattle.jiff_core.specs.Date.{epoch_day}
use Rattle.jiff_strtime.specs.Directive.{read_extension, read_width}
use Rattle.jiff_strtime.specs.Number.{match_result}
use Rattle.jiff_strtime.specs.Show.{text_of, items_from, directive_text, percent_text, shown_then, show_f, show_letter, step_text, show_steps, show_format}
use Rattle.liquid_filters.specs.Clock.{clock_of, week_year_of, week_of}
use Rattle.liquid_filters.specs.Printed.{strict, context, show_clock}
use Rattle.liquid_filters.specs.Own.{own, IsWeekOf}
use Rattle.liquid_filters.proofs.Weeks.{year_is, week_is}

pick : {A : Type 0} (b : Bool) (x y x₂ y₂ : Result A Error) → x ≡ x₂ → y ≡ y₂ → (if b then x else y) ≡ (if b then x₂ else y₂)
pick true x y x₂ y₂ h k = h
pick false x y x₂ y₂ h k = k

match_same : {X A : Type 0} (r : Result X Error) (f g : X → Result A Error) → ((x : X) → f x ≡ g x) → match_result r f (λ e. Err e) ≡ match_result r g (λ e. Err e)
match_same (Ok x) f g h = h x
match_same (Err e) f g h = refl

bind_same : {X A : Type 0} (r r₂ : Result X Error) (f g : X → Result A Error) → r ≡ r₂ → ((x : X) → f x ≡ g x) → match_result r f (λ e. Err e) ≡ match_result r₂ g (λ e. Err e)
bind_same r r₂ f g e h = rw e (match_same r₂ f g h)

text_by : (letter : ℕ) (ext : _) (dt : DateTime) (o : ℤ) (i : ISOWeekDate) → i.year ≡ week_year_of dt.date.year (epoch_day dt.date) → i.week ≡ week_of (week_year_of dt.date.year (epoch_day dt.date)) (epoch_day dt.date)
    → text_of letter ext (own dt o i) ≡ text_of letter ext (context (clock_of dt o))
unfolding text_of
text_by letter ext dt o i year week = rw (year, week) refl

text_same : (letter : ℕ) (ext : _) (dt : DateTime) (o : ℤ) (i : ISOWeekDate) → IsWeekOf i dt → text_of letter ext (own dt o i) ≡ text_of letter ext (context (clock_of dt o))
text_same letter ext dt o i h = text_by letter ext dt o i (year_is dt.date i h) (week_is i _ _ h (year_is dt.date i h))

directive_same : (letter : ℕ) (ext : _) (dt : DateTime) (o : ℤ) (i : ISOWeekDate) → IsWeekOf i dt → directive_text strict letter ext (own dt o i) ≡ directive_text strict letter ext (context (clock_of dt o))
unfolding directive_text items_from text_of
directive_same letter ext dt o i h =
    pick (letter == 99) _ _ _ _ refl (pick (letter == 68) _ _ _ _ refl (pick (letter == 70) _ _ _ _ refl
    (pick (letter == 82) _ _ _ _ refl (pick (letter == 114) _ _ _ _ refl (pick (letter == 84) _ _ _ _ refl
    (pick (letter == 88) _ _ _ _ refl (pick (letter == 120) _ _ _ _ refl (text_same letter ext dt o i h))))))))

f_same : (w : Option ℕ) (after : List ℕ) (dt : DateTime) (o : ℤ) (i : ISOWeekDate) → show_f w after (own dt o i) ≡ show_f w after (context (clock_of dt o))
f_same w [] dt o i = refl
f_same w (b ∷ after) dt o i = refl

letter_same : (ext : _) (fmt : List ℕ) (dt : DateTime) (o : ℤ) (i : ISOWeekDate) → IsWeekOf i dt → show_letter strict ext fmt (own dt o i) ≡ show_letter strict ext fmt (context (clock_of dt o))
letter_same ext [] dt o i h = refl
letter_same ext (letter ∷ after) dt o i h =
    pick (letter == 46) _ _ _ _ (match_same (read_width after) _ _ (λ w. f_same w.0 w.1 dt o i)) (ap (λ x. shown_then after x) (directive_same letter ext dt o i h))

percent_same : (fmt : List ℕ) (dt : DateTime) (o : ℤ) (i : ISOWeekDate) → IsWeekOf i dt → percent_text strict fmt (own dt o i) ≡ percent_text strict fmt (context (clock_of dt o))
percent_same fmt dt o i h = match_same (read_extension fmt) _ _ (λ e. letter_same e.0 e.1 dt o i h)

step_same : (fmt : List ℕ) (dt : DateTime) (o : ℤ) (i : ISOWeekDate) → IsWeekOf i dt → step_text strict fmt (own dt o i) ≡ step_text strict fmt (context (clock_of dt o))
step_same fmt dt o i h =
    pick (length fmt == 0) _ _ _ _ refl (pick (get_or fmt 0 0 == 37) _ _ _ _
    (pick (length (drop 1 fmt) == 0) _ _ _ _ refl (percent_same (drop 1 fmt) dt o i h)) refl)

steps_same : (fuel : ℕ) (fmt : List ℕ) (dt : DateTime) (o : ℤ) (i : ISOWeekDate) (out : List ℕ) → IsWeekOf i dt
    → show_steps fuel strict fmt (own dt o i) out ≡ show_steps fuel strict fmt (context (clock_of dt o)) out
unfolding show_steps
steps_same zero fmt dt o i out h = refl
steps_same (suc fuel) fmt dt o i out h = bind_same _ _ _ _ (step_same fmt dt o i h) (λ t. steps_same fuel t.1 dt o i (out ++ t.0) h)

-- the whole pattern
pub own_is : (pattern : List ℕ) (dt : DateTime) (o : ℤ) (i : ISOWeekDate) → IsWeekOf i dt → show_format strict pattern (own dt o i) ≡ show_clock (clock_of dt o) pattern
own_is pattern dt o i h = steps_same _ pattern dt o i [] h
