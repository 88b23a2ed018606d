-- Characters that give way to texts. Each of them is ASCII, so a text is seen byte by byte.
use Rattle.std.specs.Prelude.{ℕ, ◌<◌, ◌==◌, List, [], ◌∷◌, if◌then◌else◌, ⊤}
use Rattle.std.specs.Borrow.{Bor}
use Rattle.liquid_model.specs.Texts.{Text}

-- characters, each with what stands in its place
abbrev pub Replacements : Type 0
Replacements = List (ℕ × Bor (List ℕ))

-- what stands in the place of a byte: the text of the first that is this byte, or the byte
abbrev pub replaced_by : Replacements → ℕ → Text
replaced_by [] b = b ∷ []
replaced_by (r ∷ rs) b = if b == r.0 then r.1.now else replaced_by rs b

abbrev pub AreAscii : Replacements → Type 0
AreAscii [] = ⊤
AreAscii (r ∷ rs) = (r.0 < 128) × AreAscii rs
