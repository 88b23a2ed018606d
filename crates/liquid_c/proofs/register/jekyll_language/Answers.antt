use Rattle.std.proofs.Common.{◌≡◌, [], codes, rules}
use Rattle.liquid_model.specs.Bytes.{in_word}
use Rattle.liquid_model.specs.Front.{word_at}
use Rattle.liquid_model.specs.Maps.{insert, listed}
use Rattle.liquid_core.specs.Environment.{bind_each}
use Rattle.liquid_c.proofs.FreeName.{is_free}
use Rattle.liquid_language.specs.Languages.{kinds_of}
use Rattle.liquid_language.specs.Standard.{standard_blocks, standard_tags}
use Rattle.liquid_language.specs.declared.registry.TagKind.TheVariants.{JekyllInclude}
use Rattle.liquid_c.proofs.register.jekyll_language.Goals as goal

pub register_highlight-requires-clause-allowed : goal.register_highlight-requires-clause-allowed
unfolding word_at in_word
register_highlight-requires-clause-allowed c =
    let tags : listed (kinds_of c.register.new.self) ≡ insert (bind_each standard_tags (listed [])) (codes "include") JekyllInclude = search rules in
    let blocks : listed (kinds_of c.in_ok-language.language.blocks) ≡ bind_each standard_blocks (listed []) = search rules in
    is_free (listed (kinds_of c.register.new.self)) (listed (kinds_of c.in_ok-language.language.blocks)) tags blocks

pub returns-clause-language : goal.returns-clause-language
returns-clause-language c = record { tags = search rules; blocks = search rules; filters = search rules; include_paths = search rules; drops_blanks = search rules; escapes_html = search rules; highlight = search rules }
