use Rattle.liquid_filters.proofs.laws.jekyll_shopify.word_laws.Goals as goal
use Rattle.liquid_filters.proofs.JekyllEachLaw.{sentence_is_one, slugify_is_one}
use Rattle.liquid_filters.proofs.PathLaws.{path_is_read}
use Rattle.liquid_filters.proofs.Plurals.{pluralize_is_one}
use Rattle.liquid_filters.proofs.AsciiSlugs.{ascii_slugs}

pub returns-clause-sentence_is_one : goal.returns-clause-sentence_is_one
returns-clause-sentence_is_one c = sentence_is_one

pub returns-clause-path_is_read : goal.returns-clause-path_is_read
returns-clause-path_is_read c = path_is_read

pub returns-clause-pluralize_is_one : goal.returns-clause-pluralize_is_one
returns-clause-pluralize_is_one c = pluralize_is_one

pub returns-clause-slugify_is_one : goal.returns-clause-slugify_is_one
returns-clause-slugify_is_one c = slugify_is_one

pub returns-clause-ascii_slugs : goal.returns-clause-ascii_slugs
returns-clause-ascii_slugs c = ascii_slugs
