-- The names of Shopify's tags and blocks are free in the standard language.
use Rattle.std.proofs.Common.{◌≡◌, [], codes, Option, None, refl, ap, ◌∙◌}
use Rattle.liquid_model.specs.Maps.{Map, insert, listed}
use Rattle.liquid_model.specs.Texts.{Text}
use Rattle.liquid_core.specs.Environment.{bind_each}
use Rattle.liquid_language.specs.HostNames.{taken_by}
use Rattle.liquid_language.specs.Standard.{standard_blocks, standard_tags}
use Rattle.liquid_language.specs.declared.registry.BlockKind.{BlockKind}
use Rattle.liquid_language.specs.declared.registry.TagKind.{TagKind}

abbrev tags : Map TagKind
tags = bind_each standard_tags (listed [])

abbrev blocks : Map BlockKind
blocks = bind_each standard_blocks (listed [])

-- neither a tag nor a block has the name, where these are the tags and the blocks
abbrev IsFree : Text → Type 0
IsFree name = (t : Map TagKind) (b : Map BlockKind) → t ≡ tags → b ≡ blocks → taken_by (t name) (b name) ≡ None

free : (name : Text) → tags name ≡ None → blocks name ≡ None → IsFree name
free name no_tag no_block t b same_tags same_blocks =
    ap (λ (m : Map TagKind). taken_by (m name) (b name)) same_tags ∙ ap (λ (o : Option TagKind). taken_by o (b name)) no_tag
    ∙ ap (λ (m : Map BlockKind). taken_by {X = TagKind} None (m name)) same_blocks ∙ ap (λ (o : Option BlockKind). taken_by {X = TagKind} None o) no_block

pub section_is_free : IsFree (codes "section")
unfolding insert listed
section_is_free = free (codes "section") refl refl

pub sections_is_free : IsFree (codes "sections")
unfolding insert listed
sections_is_free = free (codes "sections") refl refl

pub layout_is_free : IsFree (codes "layout")
unfolding insert listed
layout_is_free = free (codes "layout") refl refl

pub form_is_free : IsFree (codes "form")
unfolding insert listed
form_is_free = free (codes "form") refl refl

pub paginate_is_free : IsFree (codes "paginate")
unfolding insert listed
paginate_is_free = free (codes "paginate") refl refl

pub style_is_free : IsFree (codes "style")
unfolding insert listed
style_is_free = free (codes "style") refl refl

pub schema_is_free : IsFree (codes "schema")
unfolding insert listed
schema_is_free = free (codes "schema") refl refl

pub javascript_is_free : IsFree (codes "javascript")
unfolding insert listed
javascript_is_free = free (codes "javascript") refl refl

pub stylesheet_is_free : IsFree (codes "stylesheet")
unfolding insert listed
stylesheet_is_free = free (codes "stylesheet") refl refl
