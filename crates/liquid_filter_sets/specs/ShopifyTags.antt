-- The tags and blocks of Shopify's language: which filter each calls, and how its markup is read.
use Rattle.std.specs.Prelude.{◌≡◌, List, [], ◌∷◌, codes}
use Rattle.liquid_model.specs.Data.{nil}
use Rattle.liquid_model.specs.Maps.{Map, insert, listed}
use Rattle.liquid_model.specs.Texts.{Text}
use Rattle.liquid_core.specs.Expression.{literal, no_steps, variable}
use Rattle.liquid_lexer.specs.declared.style.Style.{Style}
use Rattle.liquid_lexer.specs.declared.style.Style.TheVariants.{Items, Text as OneText}
use Rattle.liquid_language.specs.HostTags.{BlockCall, TagCall, blocks_of, calls_of, end_names}
use Rattle.liquid_language.specs.HostTags.{numbers_of}
use Rattle.liquid_language.specs.declared.host_tags.HostKind.{HostKind}
use Rattle.liquid_language.specs.declared.host_tags.HostKind.TheVariants.{Block, Tag}
use Rattle.liquid_language.specs.declared.registry.Language.{Language}

-- ---- the tags

-- `section` and `sections`: the text that the data have in `sections` under the tag's name
abbrev pub section_call : TagCall
section_call = record {
  filter = codes "section";
  input = variable (codes "sections") no_steps;
  style = Items;
  given = [];
}

-- `layout`: its markup is one text
abbrev pub layout_call : TagCall
layout_call = record {
  filter = codes "layout";
  input = literal nil;
  style = OneText;
  given = [];
}

abbrev pub shopify_calls : List TagCall
shopify_calls = section_call ∷ section_call ∷ layout_call ∷ []

-- with the names of the tags
abbrev pub with_shopify_tags : Map HostKind → Map HostKind
with_shopify_tags m = insert (insert (insert m (codes "section") (Tag 0)) (codes "sections")
    (Tag 1)) (codes "layout") (Tag 2)

-- ---- the blocks

abbrev pub block_with : Text → Style → BlockCall
block_with filter style = record { filter = filter; style = style; given = [] }

-- what Shopify keeps for another place
abbrev pub kept_block : BlockCall
kept_block = block_with (codes "no_text") Items

abbrev pub shopify_blocks : List BlockCall
shopify_blocks =
    block_with (codes "form") Items ∷ block_with (codes "paginate") OneText ∷
    block_with (codes "style") Items ∷ kept_block ∷ kept_block ∷ kept_block ∷ []

-- with the names of the blocks
abbrev pub with_shopify_blocks : Map HostKind → Map HostKind
with_shopify_blocks m = insert (insert (insert (insert (insert (insert m
    (codes "form") (Block 0)) (codes "paginate") (Block 1)) (codes "style") (Block 2))
    (codes "schema") (Block 3)) (codes "javascript") (Block 4)) (codes "stylesheet") (Block 5)

abbrev pub shopify_ends : List Text
shopify_ends =
    codes "endform" ∷ codes "endpaginate" ∷ codes "endstyle" ∷ codes "endschema" ∷
    codes "endjavascript" ∷ codes "endstylesheet" ∷ []

-- the names of a host are those of these three tags and six blocks
pub record HasShopifyTags (l : Language) : Type 0 where
  pub names : listed (numbers_of l.host_tags) ≡ with_shopify_blocks (with_shopify_tags (listed []))
  pub calls : calls_of l.host_tags ≡ shopify_calls
  pub blocks : blocks_of l.host_tags ≡ shopify_blocks
  pub ends : end_names l.host_tags ≡ shopify_ends
