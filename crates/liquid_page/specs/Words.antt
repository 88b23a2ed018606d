-- The call that the words after the program's own make.
use Rattle.std.specs.Prelude.{ℕ, List, [], ◌∷◌, ◌++◌, length, ◌==◌, ◌&&◌, nat_lt, if◌then◌else◌}
use Rattle.std.specs.Prelude.{Option, Some, None, option_map, option_and_then, map}
use Rattle.std.specs.List.{position_or_len, before_first, after_first}
use Rattle.std.specs.Borrow.{Bor}
use Rattle.liquid_page.specs.declared.words.CommandLine.{CommandLine}

abbrev pub NamedTexts : Type 0
NamedTexts = List (List ℕ × List ℕ)

-- where the first `=` stands, or the length
abbrev pub equals_at : List ℕ → ℕ
equals_at word = position_or_len (λ b. b == 61) word

-- NAME=FILE, cut at the first `=`; the name isn't empty
abbrev pub pair_of : List ℕ → Option (List ℕ × List ℕ)
pair_of word = if nat_lt 0 (equals_at word) && nat_lt (equals_at word) (length word) then Some
    (before_first (λ b. b == 61) word, after_first (λ b. b == 61) word) else None

abbrev pub named_texts_from : List (List ℕ) → NamedTexts → Option NamedTexts
named_texts_from [] done = Some done
named_texts_from (word ∷ words) done = option_and_then (λ p.
    named_texts_from words (done ++ p ∷ []))
    (pair_of word)

abbrev pub borrowed_pair : Bor (List ℕ) × Bor (List ℕ) → List ℕ × List ℕ
borrowed_pair p = (p.0.now, p.1.now)

pub record NamedFiles : Type 0 where
  pub template : List ℕ
  pub «data» : List ℕ
  pub partials : NamedTexts

abbrev pub call_view : CommandLine → NamedFiles
call_view c = record {
  template = c.template.now;
  «data» = c.«data».now;
  partials = map borrowed_pair c.partials.items;
}

abbrev pub page_call : List (List ℕ) → Option NamedFiles
page_call (template ∷ «data» ∷ words) = option_map (λ ps. record {
  template = template;
  «data» = «data»;
  partials = ps;
}) (named_texts_from words [])
page_call _ = None
