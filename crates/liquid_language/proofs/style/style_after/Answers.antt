use Rattle.std.proofs.Common.{rules, sym}
use Rattle.liquid_lexer.specs.SourceReading.{name_at}
use Rattle.liquid_language.proofs.ItemsAlone.{items_without_host}
use Rattle.liquid_language.proofs.style.style_after.Goals as goal
use Rattle.liquid_language.proofs.style.style_after.Goals.{then-language, else-language}

pub returns-else-not-is_empty : goal.returns-else-not-is_empty
returns-else-not-is_empty c =
    elim c.if-language.branch [
      | then-language w ↦ search rules
      | else-language w ↦ sym (items_without_host c.args.language.now (search rules) (search rules) (name_at c.args.text.now))
    ]
