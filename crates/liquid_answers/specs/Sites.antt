-- Jekyll's filters over a site, which need no table as they have one answer to each call.
use Rattle.std.specs.Prelude.{◌&&◌, Option, Some, None, codes, cond, length, nat_eq, string_bytes}
use Rattle.liquid_model.specs.FilterAnswers.{FilterAnswer}
use Rattle.liquid_model.specs.Texts.{Text, same_text}
use Rattle.liquid_filter_sets.specs.Selections.{where_exp_answer}
use Rattle.liquid_jekyll_host_filters.specs.Named.{filter_named}
use Rattle.liquid_jekyll_host_filters.specs.SiteFilters.{filter_answer, filter_counts}
use Rattle.liquid_jekyll_host_filters.specs.declared.site_filter.JekyllFilter.{JekyllFilter}
use Rattle.liquid_answers.specs.Own.{own_answers}
use Rattle.liquid_answers.specs.declared.site.Site.{Site}

-- its address and its base path
abbrev pub place_view : Site → Text × Text
place_view site = (string_bytes site.address, string_bytes site.base)

-- `where_exp`, where it is given its two arguments;  else as without a site
abbrev pub selecting_answers : Text → FilterAnswer
selecting_answers name input args =
    cond (same_text name (codes "where_exp") && nat_eq (length args) 2)
    (where_exp_answer input args) (own_answers name input args)

abbrev pub answers_of_kind : Text × Text → Option JekyllFilter → Text → FilterAnswer
answers_of_kind site None name input args = selecting_answers name input args
answers_of_kind site (Some f) name input args = cond (filter_counts f (length args))
    (filter_answer f site.0 site.1 input args) (own_answers name input args)

-- by name: Jekyll's filter over the site, or `where_exp`, where it takes so many arguments;  else
-- as without a site
abbrev pub jekyll_answers : Text × Text → Text → FilterAnswer
jekyll_answers site name = answers_of_kind site (filter_named name) name

-- where there is a site
abbrev pub site_answers : Option (Text × Text) → Text → FilterAnswer
site_answers None name = own_answers name
site_answers (Some site) name = jekyll_answers site name
