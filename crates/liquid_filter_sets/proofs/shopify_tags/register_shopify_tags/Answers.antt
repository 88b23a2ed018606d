use Rattle.std.proofs.Common.{◌≡◌, [], rules}
use Rattle.liquid_model.specs.Bytes.{in_word}
use Rattle.liquid_model.specs.Front.{word_at}
use Rattle.liquid_model.specs.Maps.{listed}
use Rattle.liquid_core.specs.Environment.{bind_each}
use Rattle.liquid_language.specs.Languages.{kinds_of}
use Rattle.liquid_language.specs.Standard.{standard_blocks, standard_tags}
use Rattle.liquid_filter_sets.proofs.FreeShopifyNames.{section_is_free, sections_is_free, layout_is_free}
use Rattle.liquid_filter_sets.proofs.shopify_tags.register_shopify_tags.Goals as goal

pub register_tag-requires : goal.register_tag-requires
unfolding word_at in_word
register_tag-requires c =
    let tags : listed (kinds_of c.args.language.now.tags) ≡ bind_each standard_tags (listed []) = search rules in
    let blocks : listed (kinds_of c.args.language.now.blocks) ≡ bind_each standard_blocks (listed []) = search rules in
    record { allowed = section_is_free (listed (kinds_of c.args.language.now.tags)) (listed (kinds_of c.args.language.now.blocks)) tags blocks }

pub register_tag-requires-2 : goal.register_tag-requires-2
unfolding word_at in_word
register_tag-requires-2 c =
    let tags : listed (kinds_of c.register_tag.new.language.tags) ≡ bind_each standard_tags (listed []) = search rules in
    let blocks : listed (kinds_of c.register_tag.new.language.blocks) ≡ bind_each standard_blocks (listed []) = search rules in
    record { allowed = sections_is_free (listed (kinds_of c.register_tag.new.language.tags)) (listed (kinds_of c.register_tag.new.language.blocks)) tags blocks }

pub register_tag-requires-3 : goal.register_tag-requires-3
unfolding word_at in_word
register_tag-requires-3 c =
    let tags : listed (kinds_of c.register_tag-2.new.language.tags) ≡ bind_each standard_tags (listed []) = search rules in
    let blocks : listed (kinds_of c.register_tag-2.new.language.blocks) ≡ bind_each standard_blocks (listed []) = search rules in
    record { allowed = layout_is_free (listed (kinds_of c.register_tag-2.new.language.tags)) (listed (kinds_of c.register_tag-2.new.language.blocks)) tags blocks }
