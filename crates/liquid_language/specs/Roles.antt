-- What a tag's name is, where the tag stands.
--     role_of l x w      of the name w in a language, in a context
--     verbatim_body role      the body after such a tag, where it is a block's that isn't read
use Rattle.std.specs.Prelude.{cond, bytes_eq, Option, Some, None, option_map}
use Rattle.liquid_model.specs.Maps.{listed}
use Rattle.liquid_model.specs.Texts.{Text}
use Rattle.liquid_lexer.specs.declared.piece.Body.{Body}
use Rattle.liquid_lexer.specs.declared.piece.Body.TheVariants as bodies
use Rattle.liquid_language.specs.Controls.{end_word, control_of}
use Rattle.liquid_language.specs.HostTags.{numbers_of}
use Rattle.liquid_language.specs.Languages.{kinds_of}
use Rattle.liquid_language.specs.declared.block.Control.{Control}
use Rattle.liquid_language.specs.declared.block.BlockContext.{BlockContext}
use Rattle.liquid_language.specs.declared.block.BlockContext.TheVariants.{Outside, InBody, InLast}
use Rattle.liquid_language.specs.declared.block.Role.{Role}
use Rattle.liquid_language.specs.declared.block.Role.TheVariants.{End, Control as Word, Tag}
use Rattle.liquid_language.specs.declared.block.Role.TheVariants.{Block as Start, HostTag}
use Rattle.liquid_language.specs.declared.block.Role.TheVariants.{HostBlock}
use Rattle.liquid_language.specs.declared.host_tags.HostKind.{HostKind}
use Rattle.liquid_language.specs.declared.host_tags.HostKind.TheVariants as kinds
use Rattle.liquid_language.specs.declared.registry.BlockKind.{BlockKind}
use Rattle.liquid_language.specs.declared.registry.BlockKind.TheVariants as blocks
use Rattle.liquid_language.specs.declared.registry.Language.{Language}
use Rattle.liquid_language.specs.declared.registry.TagKind.{TagKind}

abbrev pub host_role : HostKind → Role
host_role (kinds.Tag n) = HostTag n
host_role (kinds.Block n) = HostBlock n

-- the first of three that is there
abbrev pub tag_or_block : Option TagKind → Option BlockKind → Option HostKind → Option Role
tag_or_block (Some kind) b h = Some (Tag kind)
tag_or_block None (Some kind) h = Some (Start kind)
tag_or_block None None h = option_map host_role h

-- tags come before blocks, and both before what the host registered
abbrev pub registered : Language → Text → Option Role
registered l w = tag_or_block (listed (kinds_of l.tags) w) (listed (kinds_of l.blocks) w)
    (listed (numbers_of l.host_tags) w)

abbrev pub word_or : Option Control → Option Role → Option Role
word_or (Some word) o = Some (Word word)
word_or None o = o

-- in a block its end comes first, then the control words that can end the body, then what is
-- registered
abbrev pub role_of : Language → BlockContext → Text → Option Role
role_of l Outside w = registered l w
role_of l (InBody b) w =
    cond (bytes_eq w (end_word l b)) (Some End) (word_or (control_of b w) (registered l w))
role_of l (InLast b) w = cond (bytes_eq w (end_word l b)) (Some End) (registered l w)

abbrev pub verbatim_of : BlockKind → Option Body
verbatim_of blocks.Raw = Some bodies.Raw
verbatim_of blocks.Comment = Some bodies.Comment
verbatim_of blocks.If = None
verbatim_of blocks.Unless = None
verbatim_of blocks.Capture = None
verbatim_of blocks.Case = None
verbatim_of blocks.IfChanged = None
verbatim_of blocks.For = None
verbatim_of blocks.TableRow = None

abbrev pub verbatim_body : Option Role → Option Body
verbatim_body None = None
verbatim_body (Some End) = None
verbatim_body (Some (Word word)) = None
verbatim_body (Some (Tag kind)) = None
verbatim_body (Some (Start kind)) = verbatim_of kind
verbatim_body (Some (HostTag n)) = None
verbatim_body (Some (HostBlock n)) = None

abbrev pub body_after : Language → BlockContext → Text → Option Body
body_after l x w = verbatim_body (role_of l x w)
