-- Where a byte stands in the text of a JSON object.
--     braces_after braces byte, after_all braces bytes      the place after more of the text
--     after_object braces text      what stands after the brace that closes the object, where one
--                                   does
use Rattle.std.specs.Prelude.{ℕ, zero, suc, ◌+◌, ◌==◌, cond, min, Bool, true, false}
use Rattle.std.specs.Prelude.{List, [], ◌∷◌, Option, Some, None}
use Rattle.liquid_data.specs.declared.braces.Braces.{Braces}
use Rattle.liquid_data.specs.declared.braces.Braces.TheVariants.{Closed, Between, InText}
use Rattle.liquid_data.specs.declared.braces.Braces.TheVariants.{Escaped}

abbrev pub is_closed : Braces → Bool
is_closed Closed = true
is_closed _ = false

-- a closing brace is that of the object where no other is open
abbrev pub one_closed : ℕ → Braces
one_closed zero = Closed
one_closed (suc n) = Between n

-- a quote begins a text; of the braces at most as many are counted as 64 bits hold
abbrev pub after_sign : ℕ → ℕ → Braces
after_sign n b = cond (b == 34) (InText n)
    (cond (b == 123) (Between (min (n + 1) 18446744073709551615))
    (cond (b == 125) (one_closed n) (Between n)))

-- a quote ends the text, unless a backslash stands before it
abbrev pub in_text : ℕ → ℕ → Braces
in_text n b = cond (b == 34) (Between n) (cond (b == 92) (Escaped n) (InText n))

abbrev pub braces_after : Braces → ℕ → Braces
braces_after Closed b = Closed
braces_after (Between n) b = after_sign n b
braces_after (InText n) b = in_text n b
braces_after (Escaped n) b = InText n

abbrev pub after_all : Braces → List ℕ → Braces
after_all braces [] = braces
after_all braces (b ∷ bs) = after_all (braces_after braces b) bs

abbrev pub if_closed : Braces → List ℕ → Option (List ℕ) → Option (List ℕ)
if_closed Closed bs more = Some bs
if_closed _ bs more = more

abbrev pub after_object : Braces → List ℕ → Option (List ℕ)
after_object braces [] = None
after_object braces (b ∷ bs) = if_closed (braces_after braces b) bs
    (after_object (braces_after braces b) bs)
