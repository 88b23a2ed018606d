-- What jiff's printer gives for parts that hold everything.
use Rattle.std.proofs.Common.{◌≡◌, ◌⊎◌, inl, inr, refl, ap, ◌∙◌, ℕ, ℤ, pos, true, false, List, Option, Some, Result, Ok, Err, rules, arith}
use Rattle.std.specs.Prelude.{option_map}
use Rattle.std.specs.Int.{int_div_euclid}
use Rattle.jiff_core.specs.declared.error.Error.{Error}
use Rattle.jiff_core.specs.declared.timestamp.Timestamp.{Timestamp}
use Rattle.jiff_strtime.specs.declared.directive.Config.{Config}
use Rattle.jiff_strtime.specs.declared.directive.Locale.TheVariants.{Default}
use Rattle.jiff_strtime.specs.declared.tm.BrokenDownTime.{BrokenDownTime}
use Rattle.jiff_strtime.specs.Civil.{IsInstantOf}
use Rattle.jiff_strtime.specs.Text.{parts_of}
use Rattle.jiff_strtime.specs.Show.{Context, Shown, SecondResult, IsShownAs, show_format}
use Rattle.liquid_filters.specs.Clock.{Clock, parts, instant}
use Rattle.std.proofs.Common.{ℕ}
use Rattle.std.specs.Str.{is_utf8, IsUtf8}
use Rattle.std.proofs.lemmas.Str.{IsUtf8-from_is_utf8, is_utf8-from_IsUtf8}
use Rattle.liquid_model.specs.declared.error.ErrorKind.TheVariants.{DateFormat}
use Rattle.jiff_core.specs.declared.error.Error.TheVariants.{OutOfMemory}
use Rattle.jiff_strtime.specs.Show.{IsBadText}
use Rattle.liquid_filters.specs.Printed.{strict, show_clock, printed, is_short}
use Rattle.liquid_filters.proofs.Second.{Same, IsSecond, Found, with_found, shown_same}

held : (tm : BrokenDownTime) (c : Clock) (o : Option Timestamp) (t : Timestamp) → tm.timestamp ≡ o → option_map (λ x. x.nanosecond) o ≡ Some (instant c) → IsInstantOf tm t → t.nanosecond ≡ instant c
held tm c o t e h (inl is) = search (rules, arith)
held tm c o t e h (inr at) = search (rules, at.none)

second_is : (tm : BrokenDownTime) (c : Clock) (r : Result ℤ Error) → parts_of tm ≡ parts c → SecondResult tm r → IsSecond c r
second_is tm c (Err e) same h = tt
second_is tm c (Ok s) same h = h.2 ∙ ap (λ n. int_div_euclid n (pos 1_000_000_000)) (held tm c tm.timestamp h.0 refl (ap (λ p. p.timestamp) same) h.1)

config_is : (config : Config) → config.locale ≡ Default → config.lenient ≡ false → config ≡ strict
config_is config locale lenient = rw (locale, lenient) refl

shown_in : (format : List ℕ) (tm : BrokenDownTime) (c : Clock) (r : Shown) (cx : Context) → cx.parts ≡ parts c → SecondResult tm cx.second → parts_of tm ≡ parts c
    → show_format strict format cx ≡ r → Same r (show_clock c format)
shown_in format tm c r cx is second same e =
    let found : Found = record { date = cx.date; iso = cx.iso; second = cx.second } in
    let whole : cx ≡ with_found c found = rw is refl in
    let all = shown_same format c found (second_is tm c cx.second same second) in
    rw (← e, whole) all

pub shown_of : (config : Config) (format : List ℕ) (tm : BrokenDownTime) (c : Clock) (r : Shown) → config.locale ≡ Default → config.lenient ≡ false → parts_of tm ≡ parts c
    → IsShownAs config format tm r → Same r (show_clock c format)
shown_of config format tm c r locale lenient same h =
    shown_in format tm c r h.context (h.is_context.parts ∙ same) h.is_context.second same (rw (← config_is config locale lenient) h.shown_is)

-- what the text is, and what a refusal is
pub printed_ok : (c : Clock) (format bs : List ℕ) → IsUtf8 bs → Same (Ok bs) (show_clock c format) → printed c format ≡ Ok bs
printed_ok c format bs text (inl e) = rw (← e, is_utf8-from_IsUtf8 bs text) refl
printed_ok c format bs text (inr e) = search (rules, e)

no_text : (bs : List ℕ) → (IsUtf8 bs → ⊥) → is_utf8 bs ≡ false
no_text bs h = elim (is_utf8 bs) as (λ v. is_utf8 bs ≡ v → v ≡ false) [
  | true ↦ λ e. absurd (h (IsUtf8-from_is_utf8 bs e))
  | false ↦ λ e. refl
] refl

printed_bad : (c : Clock) (format bs : List ℕ) → (IsUtf8 bs → ⊥) → Same (Ok bs) (show_clock c format) → printed c format ≡ Err DateFormat
printed_bad c format bs bad (inl e) = rw (← e, no_text bs bad) refl
printed_bad c format bs bad (inr e) = search (rules, e)

printed_err : (c : Clock) (format : List ℕ) (e : Error) → is_short e ≡ false → Same (Err e) (show_clock c format) → printed c format ≡ Err DateFormat
printed_err c format e long (inl same) = rw (← same) refl
printed_err c format e long (inr short) = search (rules, short, long)

pub printed_refused : (config : Config) (format : List ℕ) (tm : BrokenDownTime) (c : Clock) (e : Error) → config.locale ≡ Default → config.lenient ≡ false → parts_of tm ≡ parts c
    → is_short e ≡ false → (e ≡ OutOfMemory) ⊎ (IsBadText e config format tm ⊎ IsShownAs config format tm (Err e)) → printed c format ≡ Err DateFormat
printed_refused config format tm c e locale lenient same long (inl out) = search (rules, out, long)
printed_refused config format tm c e locale lenient same long (inr (inl bad)) =
    printed_bad c format bad.shown bad.no_text (shown_of config format tm c (Ok bad.shown) locale lenient same bad.shown_as)
printed_refused config format tm c e locale lenient same long (inr (inr is)) =
    printed_err c format e long (shown_of config format tm c (Err e) locale lenient same is)
