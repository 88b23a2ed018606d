-- Tags and blocks of a host: which call a name stands for, and how a tag of that name is read.
use Rattle.std.specs.Prelude.{ℕ, List, [], map, Option, Some, None, option_map, slice_get}
use Rattle.std.specs.Prelude.{string_bytes}
use Rattle.liquid_model.specs.Texts.{Text}
use Rattle.liquid_core.specs.Expression.{Expression}
use Rattle.liquid_core.specs.ExpressionView.{expression_view}
use Rattle.liquid_lexer.specs.declared.style.Style.{Style}
use Rattle.liquid_lexer.specs.declared.style.Style.TheVariants.{Items}
use Rattle.liquid_language.specs.Languages.{kinds_of}
use Rattle.liquid_language.specs.declared.host_tags.EndedBlock.{EndedBlock}
use Rattle.liquid_language.specs.declared.host_tags.HostBlock.{HostBlock}
use Rattle.liquid_language.specs.declared.host_tags.HostCall.{HostCall}
use Rattle.liquid_language.specs.declared.host_tags.HostKind.{HostKind}
use Rattle.liquid_language.specs.declared.host_tags.HostKind.TheVariants as kinds
use Rattle.liquid_language.specs.declared.host_tags.HostTags.{HostTags}
use Rattle.liquid_language.specs.declared.registry.Language.{Language}

-- the filter that a tag calls, the filter's input, how a tag of the name is read, and the values
-- that are given with it
pub record TagCall : Type 0 where
  pub filter : Text
  pub input : Expression
  pub style : Style
  pub given : List Expression

abbrev pub tag_call : HostCall → TagCall
tag_call call = record {
  filter = string_bytes call.filter;
  input = expression_view call.input;
  style = call.style;
  given = map expression_view call.given.items;
}

-- the filter that a block's text goes through, how the tag that begins the block is read, and the
-- values that are given with it
pub record BlockCall : Type 0 where
  pub filter : Text
  pub style : Style
  pub given : List Expression

abbrev pub block_call : HostBlock → BlockCall
block_call block = record {
  filter = string_bytes block.filter;
  style = block.style;
  given = map expression_view block.given.items;
}

-- the numbers of the tags and of the blocks, by name
abbrev pub numbers_of : HostTags → List (Text × HostKind)
numbers_of tags = kinds_of tags.numbers

-- the calls of the tags, each at its number
abbrev pub calls_of : HostTags → List TagCall
calls_of tags = map tag_call tags.calls.items

-- the calls of the blocks, each at its number
abbrev pub blocks_of : HostTags → List BlockCall
blocks_of tags = map (λ (b : EndedBlock). block_call b.block) tags.blocks.items

-- the names of the tags that end the blocks, each at its number
abbrev pub end_names : HostTags → List Text
end_names tags = map (λ (b : EndedBlock). string_bytes b.end) tags.blocks.items

abbrev pub text_or_none : Option Text → Text
text_or_none None = []
text_or_none (Some w) = w

abbrev pub end_in : HostTags → ℕ → Text
end_in tags n = text_or_none (slice_get (end_names tags) n)

abbrev pub style_or_items : Option Style → Style
style_or_items None = Items
style_or_items (Some style) = style

abbrev pub style_in : HostTags → HostKind → Style
style_in tags (kinds.Tag n) =
    style_or_items (option_map (λ (c : TagCall). c.style) (slice_get (calls_of tags) n))
style_in tags (kinds.Block n) =
    style_or_items (option_map (λ (b : BlockCall). b.style) (slice_get (blocks_of tags) n))

-- the call of a tag's number
abbrev pub call_at : Language → ℕ → Option TagCall
call_at l n = slice_get (calls_of l.host_tags) n

-- the call of a block's number
abbrev pub block_at : Language → ℕ → Option BlockCall
block_at l n = slice_get (blocks_of l.host_tags) n
