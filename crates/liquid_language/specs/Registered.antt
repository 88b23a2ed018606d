-- What the names of filters are registered as.
use Rattle.std.specs.Prelude.{ℕ, Bool, ◌&&◌, nat_le, List}
use Rattle.liquid_model.specs.Texts.{Text}
use Rattle.liquid_filters.specs.Kinds.{kind_counts}
use Rattle.liquid_language.specs.Languages.{kinds_of}
use Rattle.liquid_language.specs.declared.registered_filter.FilterRegistry.{FilterRegistry}
use Rattle.liquid_language.specs.declared.registered_filter.RegisteredFilter.{RegisteredFilter}
use Rattle.liquid_language.specs.declared.registered_filter.RegisteredFilter.TheVariants.{Kind}
use Rattle.liquid_language.specs.declared.registered_filter.RegisteredFilter.TheVariants.{Host}

abbrev pub registered_in : FilterRegistry → List (Text × RegisteredFilter)
registered_in r = kinds_of r.entries

-- how many arguments a template may give it
abbrev pub registered_counts : RegisteredFilter → ℕ → Bool
registered_counts (Kind kind) n = kind_counts kind n
registered_counts (Host least most) n = nat_le least n && nat_le n most
