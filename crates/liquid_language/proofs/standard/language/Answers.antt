use Rattle.std.proofs.Common.{◌≡◌, ◌∙◌, ap, rules}
use Rattle.liquid_model.specs.Maps.{listed}
use Rattle.liquid_language.specs.Standard.{standard_filters, with_filters}
use Rattle.liquid_language.proofs.standard.language.Goals as goal

-- the filters that the code lists are those of the definition, one by one
pub returns-clause-standard : goal.returns-clause-standard
returns-clause-standard c = record {
  tags = search rules;
  blocks = search rules;
  filters = c.in_ok-register_filters.ensures ∙ ap (λ ks. with_filters (listed ks) standard_filters) c.new-language.ensures.filters;
  include_paths = search rules;
  drops_blanks = search rules;
  escapes_html = search rules;
  host_tags = search rules;
  host_calls = search rules;
  host_blocks = search rules;
  host_ends = search rules;
}
