use Rattle.std.proofs.Common.{◌≡◌, [], rules}
use Rattle.liquid_model.specs.Maps.{listed}
use Rattle.liquid_core.specs.Environment.{bind_each}
use Rattle.liquid_language.specs.Languages.{kinds_of}
use Rattle.liquid_language.specs.Standard.{standard_blocks}
use Rattle.liquid_filter_sets.specs.Languages.{jekyll_tags}
use Rattle.liquid_filter_sets.proofs.FreeName.{feed_meta_allowed, highlight_allowed, link_allowed}
use Rattle.liquid_filter_sets.proofs.FreeName.{post_url_allowed, seo_allowed}
use Rattle.liquid_filter_sets.proofs.jekyll_tags.register_jekyll_tags.Goals as goal

pub register_site_tag-requires : goal.register_site_tag-requires
register_site_tag-requires c =
    record { allowed = link_allowed c.args.language.now (search rules) (search rules) }

pub register_site_tag-requires-2 : goal.register_site_tag-requires-2
register_site_tag-requires-2 c =
    let tags : listed (kinds_of c.register_site_tag.new.language.tags) ≡ jekyll_tags = search rules in
    let blocks : listed (kinds_of c.register_site_tag.new.language.blocks) ≡ bind_each standard_blocks (listed []) = search rules in
    record { allowed = post_url_allowed c.register_site_tag.new.language tags blocks }

pub register_site_tag-requires-3 : goal.register_site_tag-requires-3
register_site_tag-requires-3 c =
    let tags : listed (kinds_of c.register_site_tag-2.new.language.tags) ≡ jekyll_tags = search rules in
    let blocks : listed (kinds_of c.register_site_tag-2.new.language.blocks) ≡ bind_each standard_blocks (listed []) = search rules in
    record { allowed = feed_meta_allowed c.register_site_tag-2.new.language tags blocks }

pub register_site_tag-requires-4 : goal.register_site_tag-requires-4
register_site_tag-requires-4 c =
    let tags : listed (kinds_of c.register_site_tag-3.new.language.tags) ≡ jekyll_tags = search rules in
    let blocks : listed (kinds_of c.register_site_tag-3.new.language.blocks) ≡ bind_each standard_blocks (listed []) = search rules in
    record { allowed = seo_allowed c.register_site_tag-3.new.language tags blocks }

pub register_highlight-requires : goal.register_highlight-requires
register_highlight-requires c =
    let tags : listed (kinds_of c.register_site_tag-4.new.language.tags) ≡ jekyll_tags = search rules in
    let blocks : listed (kinds_of c.register_site_tag-4.new.language.blocks) ≡ bind_each standard_blocks (listed []) = search rules in
    record { allowed = highlight_allowed c.register_site_tag-4.new.language tags blocks }
