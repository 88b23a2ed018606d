-- The name `highlight` is free in the standard language, and in that with Jekyll's `include`.
use Rattle.std.proofs.Common.{◌≡◌, [], codes, Option, None, refl, ap, ◌∙◌}
use Rattle.liquid_model.specs.Maps.{Map, insert, listed}
use Rattle.liquid_model.specs.Texts.{Text}
use Rattle.liquid_core.specs.Environment.{bind_each}
use Rattle.liquid_language.specs.HostNames.{taken_by}
use Rattle.liquid_language.specs.Standard.{standard_blocks, standard_tags}
use Rattle.liquid_language.specs.declared.registry.BlockKind.{BlockKind}
use Rattle.liquid_language.specs.declared.registry.TagKind.{TagKind}
use Rattle.liquid_language.specs.declared.registry.TagKind.TheVariants.{JekyllInclude}

abbrev name : Text
name = codes "highlight"

no_tag : insert (bind_each standard_tags (listed [])) (codes "include") JekyllInclude name ≡ None
unfolding insert listed
no_tag = refl

no_block : bind_each standard_blocks (listed []) name ≡ None
unfolding insert listed
no_block = refl

-- neither a tag nor a block has the name, where these are the tags and the blocks
pub is_free : (t : Map TagKind) (b : Map BlockKind) → t ≡ insert (bind_each standard_tags (listed [])) (codes "include") JekyllInclude → b ≡ bind_each standard_blocks (listed []) → taken_by (t name) (b name) ≡ None
is_free t b same_tags same_blocks =
    ap (λ (m : Map TagKind). taken_by (m name) (b name)) same_tags ∙ ap (λ (o : Option TagKind). taken_by o (b name)) no_tag
    ∙ ap (λ (m : Map BlockKind). taken_by {X = TagKind} None (m name)) same_blocks ∙ ap (λ (o : Option BlockKind). taken_by {X = TagKind} None o) no_block
