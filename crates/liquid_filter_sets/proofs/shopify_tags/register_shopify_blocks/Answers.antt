use Rattle.std.proofs.Common.{◌≡◌, [], rules}
use Rattle.liquid_model.specs.Bytes.{in_word}
use Rattle.liquid_model.specs.Front.{word_at}
use Rattle.liquid_model.specs.Maps.{listed}
use Rattle.liquid_core.specs.Environment.{bind_each}
use Rattle.liquid_language.specs.Languages.{kinds_of}
use Rattle.liquid_language.specs.Standard.{standard_blocks, standard_tags}
use Rattle.liquid_filter_sets.proofs.FreeShopifyNames.{form_is_free, paginate_is_free, style_is_free, schema_is_free, javascript_is_free, stylesheet_is_free}
use Rattle.liquid_filter_sets.proofs.shopify_tags.register_shopify_blocks.Goals as goal

pub register_block-requires : goal.register_block-requires
unfolding word_at in_word
register_block-requires c =
    let tags : listed (kinds_of c.args.language.now.tags) ≡ bind_each standard_tags (listed []) = search rules in
    let blocks : listed (kinds_of c.args.language.now.blocks) ≡ bind_each standard_blocks (listed []) = search rules in
    record { allowed = form_is_free (listed (kinds_of c.args.language.now.tags)) (listed (kinds_of c.args.language.now.blocks)) tags blocks }

pub register_block-requires-2 : goal.register_block-requires-2
unfolding word_at in_word
register_block-requires-2 c =
    let tags : listed (kinds_of c.register_block.new.language.tags) ≡ bind_each standard_tags (listed []) = search rules in
    let blocks : listed (kinds_of c.register_block.new.language.blocks) ≡ bind_each standard_blocks (listed []) = search rules in
    record { allowed = paginate_is_free (listed (kinds_of c.register_block.new.language.tags)) (listed (kinds_of c.register_block.new.language.blocks)) tags blocks }

pub register_block-requires-3 : goal.register_block-requires-3
unfolding word_at in_word
register_block-requires-3 c =
    let tags : listed (kinds_of c.register_block-2.new.language.tags) ≡ bind_each standard_tags (listed []) = search rules in
    let blocks : listed (kinds_of c.register_block-2.new.language.blocks) ≡ bind_each standard_blocks (listed []) = search rules in
    record { allowed = style_is_free (listed (kinds_of c.register_block-2.new.language.tags)) (listed (kinds_of c.register_block-2.new.language.blocks)) tags blocks }

pub register_block-requires-4 : goal.register_block-requires-4
unfolding word_at in_word
register_block-requires-4 c =
    let tags : listed (kinds_of c.register_block-3.new.language.tags) ≡ bind_each standard_tags (listed []) = search rules in
    let blocks : listed (kinds_of c.register_block-3.new.language.blocks) ≡ bind_each standard_blocks (listed []) = search rules in
    record { allowed = schema_is_free (listed (kinds_of c.register_block-3.new.language.tags)) (listed (kinds_of c.register_block-3.new.language.blocks)) tags blocks }

pub register_block-requires-5 : goal.register_block-requires-5
unfolding word_at in_word
register_block-requires-5 c =
    let tags : listed (kinds_of c.register_block-4.new.language.tags) ≡ bind_each standard_tags (listed []) = search rules in
    let blocks : listed (kinds_of c.register_block-4.new.language.blocks) ≡ bind_each standard_blocks (listed []) = search rules in
    record { allowed = javascript_is_free (listed (kinds_of c.register_block-4.new.language.tags)) (listed (kinds_of c.register_block-4.new.language.blocks)) tags blocks }

pub register_block-requires-6 : goal.register_block-requires-6
unfolding word_at in_word
register_block-requires-6 c =
    let tags : listed (kinds_of c.register_block-5.new.language.tags) ≡ bind_each standard_tags (listed []) = search rules in
    let blocks : listed (kinds_of c.register_block-5.new.language.blocks) ≡ bind_each standard_blocks (listed []) = search rules in
    record { allowed = stylesheet_is_free (listed (kinds_of c.register_block-5.new.language.tags)) (listed (kinds_of c.register_block-5.new.language.blocks)) tags blocks }
