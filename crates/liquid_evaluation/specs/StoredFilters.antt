-- The filters that a stored chain names.
use Rattle.std.specs.Prelude.{ℕ, Bool, List, true, string_bytes}
use Rattle.liquid_filters.specs.Kinds.{kind_counts, kind_name}
use Rattle.liquid_evaluation.specs.Tree.{Filter, existing, hosted}
use Rattle.liquid_evaluation.specs.declared.stored_filter.StoredFilter.{StoredFilter}
use Rattle.liquid_evaluation.specs.declared.stored_filter.StoredFilter.TheVariants.{Kind, Host}

-- a host's filter is asked when it is run
abbrev pub stored_counts : StoredFilter → ℕ → Bool
stored_counts (Kind kind) n = kind_counts kind n
stored_counts (Host name) n = true

-- Liquid's name of a filter that exists, and that of a host's
abbrev pub stored_name : StoredFilter → List ℕ
stored_name (Kind kind) = kind_name kind
stored_name (Host name) = string_bytes name

abbrev pub stored_view : StoredFilter → Filter
stored_view (Kind kind) = existing kind
stored_view (Host name) = hosted (string_bytes name)
