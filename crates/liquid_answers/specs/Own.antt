-- Filters that need no table, as they have one answer to each call.
use Rattle.std.specs.Prelude.{◌&&◌, cond, Err, List, length, nat_eq, codes}
use Rattle.liquid_model.specs.FilterAnswers.{FilterAnswer}
use Rattle.liquid_model.specs.Texts.{Text, same_text}
use Rattle.liquid_model.specs.declared.error.ErrorKind.TheVariants.{Unsupported}
use Rattle.liquid_jekyll_host_filters.specs.Highlight.{jekyll_highlight_answer}

-- the filter that Jekyll's block `highlight` calls
abbrev pub highlight_name : Text
highlight_name = codes "{% highlight %}"

-- by name: Jekyll's `highlight`, where it is given its one argument
abbrev pub own_answers : Text → FilterAnswer
own_answers name input args = cond (same_text name highlight_name && nat_eq (length args) 1)
    (jekyll_highlight_answer input args) (Err Unsupported)
