-- In which style what stands after a tag's name is read.
use Rattle.std.specs.Prelude.{Bool, true, Option, Some, None}
use Rattle.liquid_model.specs.Maps.{listed}
use Rattle.liquid_model.specs.Texts.{Text}
use Rattle.liquid_lexer.specs.declared.style.Style.{Style}
use Rattle.liquid_lexer.specs.declared.style.Style.TheVariants.{Items, PathFirst}
use Rattle.liquid_language.specs.HostTags.{numbers_of, style_in}
use Rattle.liquid_language.specs.Languages.{kinds_of}
use Rattle.liquid_language.specs.declared.host_tags.HostKind.{HostKind}
use Rattle.liquid_language.specs.declared.host_tags.HostTags.{HostTags}
use Rattle.liquid_language.specs.declared.registry.BlockKind.{BlockKind}
use Rattle.liquid_language.specs.declared.registry.Language.{Language}
use Rattle.liquid_language.specs.declared.registry.TagKind.{TagKind}
use Rattle.liquid_language.specs.declared.registry.TagKind.TheVariants.{JekyllInclude}

-- Jekyll's `include` begins with a path where the language has paths, each other tag with items
abbrev pub style_of_kind : Bool → TagKind → Style
style_of_kind true JekyllInclude = PathFirst
style_of_kind _ _ = Items

abbrev pub style_of_host : HostTags → Option HostKind → Style
style_of_host tags None = Items
style_of_host tags (Some kind) = style_in tags kind

-- by the first of three that is there, in the order of `tag_or_block`
abbrev pub style_among : Language → Option TagKind → Option BlockKind → Option HostKind → Style
style_among l (Some kind) b h = style_of_kind l.include_paths kind
style_among l None (Some kind) h = Items
style_among l None None h = style_of_host l.host_tags h

-- what the language has of its own has items, but for Jekyll's `include`; tags and blocks of the
-- host are read as they were registered; and a name that stands for nothing has items
abbrev pub style_of : Language → Text → Style
style_of l w = style_among l (listed (kinds_of l.tags) w) (listed (kinds_of l.blocks) w)
    (listed (numbers_of l.host_tags) w)
