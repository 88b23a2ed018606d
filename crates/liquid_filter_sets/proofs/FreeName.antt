-- The names of Jekyll's tags of a host are free in the standard language with Jekyll's `include`.
use Rattle.std.proofs.Common.{◌≡◌, [], codes, Option, None, refl, ap, ◌∙◌}
use Rattle.liquid_model.specs.Bytes.{in_word}
use Rattle.liquid_model.specs.Front.{word_at}
use Rattle.liquid_model.specs.Maps.{Map, insert, listed}
use Rattle.liquid_model.specs.Texts.{Text}
use Rattle.liquid_core.specs.Environment.{bind_each}
use Rattle.liquid_filter_sets.specs.Languages.{jekyll_tags}
use Rattle.liquid_language.specs.HostNames.{name_refusal, taken_by}
use Rattle.liquid_language.specs.Languages.{kinds_of}
use Rattle.liquid_language.specs.Standard.{standard_blocks, standard_tags}
use Rattle.liquid_language.specs.declared.registry.BlockKind.{BlockKind}
use Rattle.liquid_language.specs.declared.registry.Language.{Language}
use Rattle.liquid_language.specs.declared.registry.TagKind.{TagKind}

abbrev blocks : Map BlockKind
blocks = bind_each standard_blocks (listed [])

-- neither a tag nor a block has the name, where these are the tags and the blocks
abbrev IsFree : Text → Type 0
IsFree name = (t : Map TagKind) (b : Map BlockKind) → t ≡ jekyll_tags → b ≡ blocks → taken_by (t name) (b name) ≡ None

free : (name : Text) → jekyll_tags name ≡ None → blocks name ≡ None → IsFree name
free name no_tag no_block t b same_tags same_blocks =
    ap (λ (m : Map TagKind). taken_by (m name) (b name)) same_tags ∙ ap (λ (o : Option TagKind). taken_by o (b name)) no_tag
    ∙ ap (λ (m : Map BlockKind). taken_by {X = TagKind} None (m name)) same_blocks ∙ ap (λ (o : Option BlockKind). taken_by {X = TagKind} None o) no_block

highlight_is_free : IsFree (codes "highlight")
unfolding insert listed
highlight_is_free = free (codes "highlight") refl refl

link_is_free : IsFree (codes "link")
unfolding insert listed
link_is_free = free (codes "link") refl refl

post_url_is_free : IsFree (codes "post_url")
unfolding insert listed
post_url_is_free = free (codes "post_url") refl refl

feed_meta_is_free : IsFree (codes "feed_meta")
unfolding insert listed
feed_meta_is_free = free (codes "feed_meta") refl refl

seo_is_free : IsFree (codes "seo")
unfolding insert listed
seo_is_free = free (codes "seo") refl refl

-- so a host may register it
pub highlight_allowed : (l : Language) → listed (kinds_of l.tags) ≡ jekyll_tags → listed (kinds_of l.blocks) ≡ bind_each standard_blocks (listed []) → name_refusal l (codes "highlight") ≡ None
unfolding word_at in_word
highlight_allowed l tags blocks = highlight_is_free (listed (kinds_of l.tags)) (listed (kinds_of l.blocks)) tags blocks

pub link_allowed : (l : Language) → listed (kinds_of l.tags) ≡ jekyll_tags → listed (kinds_of l.blocks) ≡ bind_each standard_blocks (listed []) → name_refusal l (codes "link") ≡ None
unfolding word_at in_word
link_allowed l tags blocks = link_is_free (listed (kinds_of l.tags)) (listed (kinds_of l.blocks)) tags blocks

pub post_url_allowed : (l : Language) → listed (kinds_of l.tags) ≡ jekyll_tags → listed (kinds_of l.blocks) ≡ bind_each standard_blocks (listed []) → name_refusal l (codes "post_url") ≡ None
unfolding word_at in_word
post_url_allowed l tags blocks = post_url_is_free (listed (kinds_of l.tags)) (listed (kinds_of l.blocks)) tags blocks

pub feed_meta_allowed : (l : Language) → listed (kinds_of l.tags) ≡ jekyll_tags → listed (kinds_of l.blocks) ≡ bind_each standard_blocks (listed []) → name_refusal l (codes "feed_meta") ≡ None
unfolding word_at in_word
feed_meta_allowed l tags blocks = feed_meta_is_free (listed (kinds_of l.tags)) (listed (kinds_of l.blocks)) tags blocks

pub seo_allowed : (l : Language) → listed (kinds_of l.tags) ≡ jekyll_tags → listed (kinds_of l.blocks) ≡ bind_each standard_blocks (listed []) → name_refusal l (codes "seo") ≡ None
unfolding word_at in_word
seo_allowed l tags blocks = seo_is_free (listed (kinds_of l.tags)) (listed (kinds_of l.blocks)) tags blocks
