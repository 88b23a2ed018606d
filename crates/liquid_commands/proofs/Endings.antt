-- What a word ends with.
use Rattle.std.proofs.Common.{◌≡◌, ◌++◌, ◌-◌, Bool, true, false, length, take, drop, refl, sym, subst, ap, ◌∙◌}
use Rattle.std.specs.Prelude.{◌≢◌, ℕ, Option, cond, codes, bytes_eq, nat_le}
use Rattle.std.proofs.lemmas.List.{take-append-drop}
use Rattle.std.proofs.lemmas.Slice.Eq.{bytes_eq-Decides}
use Rattle.liquid_commands.specs.Sizes.{digits_before, unit_letters}
use Rattle.liquid_commands.specs.declared.sizes.Unit.{Unit}
use Rattle.liquid_commands.specs.Words.{CommandWord, GivenValue, has_ending, value_named, value_of_parts}

-- a word that isn't anything with this after it
no_rest : (ending word : CommandWord) (n : ℕ) → ((front : CommandWord) → word ≢ front ++ ending) → (b : Bool) → bytes_eq (drop n word) ending ≡ b → b ≡ false
no_rest ending word n lacks false is = refl
no_rest ending word n lacks true is =
    absurd (lacks (take n word) (sym (take-append-drop n word) ∙ ap (λ rest. take n word ++ rest) ((bytes_eq-Decides (drop n word) ending).0 is)))

neither : (b : Bool) → cond b false false ≡ false
neither true = refl
neither false = refl

pub no_ending : (ending word : CommandWord) → ((front : CommandWord) → word ≢ front ++ ending) → has_ending ending word ≡ false
no_ending ending word lacks =
    ap (λ b. cond (nat_le (length ending) (length word)) b false) (no_rest ending word (length word - length ending) lacks _ refl)
    ∙ neither (nat_le (length ending) (length word))

-- what has no `:` before its `=` is a text
pub text_given : (before word : CommandWord) (given : Option GivenValue) → ((front : CommandWord) → before ≢ front ++ codes ":") → given ≡ value_named false before word
    → given ≡ value_of_parts before word
text_given before word given lacks is = rw (no_ending (codes ":") before lacks) is

-- all of a word stands before a unit that it doesn't end with
pub whole_before : (unit : Unit) (word letters : CommandWord) → letters ≡ unit_letters unit → ((front : CommandWord) → word ≢ front ++ letters) → word ≡ digits_before unit word
whole_before unit word letters is lacks =
    ap (λ b. cond b (take (length word - length (unit_letters unit)) word) word) (sym (subst (λ l. has_ending l word ≡ false) is (no_ending letters word lacks)))
