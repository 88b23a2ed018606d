-- The standard library: which tag, block and filter stands under which name.
use Rattle.std.specs.Prelude.{◌≡◌, List, [], ◌∷◌, codes, false}
use Rattle.liquid_model.specs.Maps.{insert, listed}
use Rattle.liquid_model.specs.Maps as maps
use Rattle.liquid_model.specs.Texts.{Text}
use Rattle.liquid_core.specs.Environment.{bind_each}
use Rattle.liquid_filters.specs.Kinds.{kind_name}
use Rattle.liquid_filters.specs.declared.kind.FilterKind.{FilterKind}
use Rattle.liquid_filters.specs.declared.kind.FilterKind.TheVariants.{Join, Sort, SortNatural}
use Rattle.liquid_filters.specs.declared.kind.FilterKind.TheVariants.{Where, Uniq, Reverse, Map}
use Rattle.liquid_filters.specs.declared.kind.FilterKind.TheVariants.{Compact, Concat, First, Last}
use Rattle.liquid_filters.specs.declared.kind.FilterKind.TheVariants.{Abs, AtLeast, AtMost, Plus}
use Rattle.liquid_filters.specs.declared.kind.FilterKind.TheVariants.{Minus, Times, DividedBy}
use Rattle.liquid_filters.specs.declared.kind.FilterKind.TheVariants.{Modulo, Round, Ceil, Floor}
use Rattle.liquid_filters.specs.declared.kind.FilterKind.TheVariants.{Size, Default, Slice, Split}
use Rattle.liquid_filters.specs.declared.kind.FilterKind.TheVariants.{Replace, ReplaceFirst, Remove}
use Rattle.liquid_filters.specs.declared.kind.FilterKind.TheVariants.{RemoveFirst, Append, Prepend}
use Rattle.liquid_filters.specs.declared.kind.FilterKind.TheVariants.{Strip, Lstrip, Rstrip}
use Rattle.liquid_filters.specs.declared.kind.FilterKind.TheVariants.{StripNewlines, Downcase}
use Rattle.liquid_filters.specs.declared.kind.FilterKind.TheVariants.{Upcase, Capitalize, Truncate}
use Rattle.liquid_filters.specs.declared.kind.FilterKind.TheVariants.{TruncateWords, Escape}
use Rattle.liquid_filters.specs.declared.kind.FilterKind.TheVariants.{EscapeOnce, StripHtml}
use Rattle.liquid_filters.specs.declared.kind.FilterKind.TheVariants.{NewlineToBr, UrlEncode}
use Rattle.liquid_filters.specs.declared.kind.FilterKind.TheVariants.{UrlDecode, Date, Push}
use Rattle.liquid_filters.specs.declared.kind.FilterKind.TheVariants.{Unshift, Pop, Shift}
use Rattle.liquid_filters.specs.declared.kind.FilterKind.TheVariants.{ArrayToSentenceString}
use Rattle.liquid_filters.specs.declared.kind.FilterKind.TheVariants.{Slugify, Pluralize, DateInTz}
use Rattle.liquid_language.specs.HostTags.{blocks_of, calls_of, end_names, numbers_of}
use Rattle.liquid_language.specs.Languages.{kinds_of}
use Rattle.liquid_language.specs.Registered.{registered_in}
use Rattle.liquid_language.specs.declared.registry.BlockKind.{BlockKind}
use Rattle.liquid_language.specs.declared.registry.BlockKind.TheVariants.{Raw, Comment, If, Unless}
use Rattle.liquid_language.specs.declared.registry.BlockKind.TheVariants.{Case, Capture, IfChanged}
use Rattle.liquid_language.specs.declared.registry.BlockKind.TheVariants.{For, TableRow}
use Rattle.liquid_language.specs.declared.registry.Language.{Language}
use Rattle.liquid_language.specs.declared.registry.TagKind.{TagKind}
use Rattle.liquid_language.specs.declared.registry.TagKind.TheVariants.{Assign, Break, Continue}
use Rattle.liquid_language.specs.declared.registry.TagKind.TheVariants.{Increment, Decrement, Cycle}
use Rattle.liquid_language.specs.declared.registry.TagKind.TheVariants.{Include, Render}
use Rattle.liquid_language.specs.declared.registered_filter.RegisteredFilter.{RegisteredFilter}
use Rattle.liquid_language.specs.declared.registered_filter.RegisteredFilter.TheVariants.{Kind}

-- the standard tags, each under its name
abbrev pub standard_tags : List (Text × TagKind)
standard_tags =
    (codes "assign", Assign) ∷ (codes "break", Break) ∷ (codes "continue", Continue) ∷
    (codes "increment", Increment) ∷ (codes "decrement", Decrement) ∷ (codes "include", Include) ∷
    (codes "render", Render) ∷ (codes "cycle", Cycle) ∷ []

-- the standard blocks, each under the name that begins it
abbrev pub standard_blocks : List (Text × BlockKind)
standard_blocks =
    (codes "raw", Raw) ∷ (codes "comment", Comment) ∷ (codes "if", If) ∷ (codes "unless", Unless) ∷
    (codes "case", Case) ∷ (codes "capture", Capture) ∷ (codes "ifchanged", IfChanged) ∷
    (codes "for", For) ∷ (codes "tablerow", TableRow) ∷ []

-- the standard filters: of the two that are called `sort` the one of Liquid, and not the one of
-- Jekyll
abbrev pub standard_filters : List FilterKind
standard_filters =
    Join ∷ Sort ∷ SortNatural ∷ Where ∷
    Uniq ∷ Reverse ∷ Map ∷ Compact ∷
    Concat ∷ First ∷ Last ∷ Abs ∷
    AtLeast ∷ AtMost ∷ Plus ∷ Minus ∷
    Times ∷ DividedBy ∷ Modulo ∷ Round ∷
    Ceil ∷ Floor ∷ Size ∷ Default ∷
    Slice ∷ Split ∷ Replace ∷ ReplaceFirst ∷
    Remove ∷ RemoveFirst ∷ Append ∷ Prepend ∷
    Strip ∷ Lstrip ∷ Rstrip ∷ StripNewlines ∷
    Downcase ∷ Upcase ∷ Capitalize ∷ Truncate ∷
    TruncateWords ∷ Escape ∷ EscapeOnce ∷
    StripHtml ∷ NewlineToBr ∷ UrlEncode ∷
    UrlDecode ∷ Date ∷ Push ∷ Unshift ∷
    Pop ∷ Shift ∷ ArrayToSentenceString ∷
    Slugify ∷ Pluralize ∷ DateInTz ∷ []

-- each filter at its own name, the later of one name winning
abbrev pub with_filters : maps.Map RegisteredFilter → List FilterKind → maps.Map RegisteredFilter
with_filters m [] = m
with_filters m (k ∷ ks) = with_filters (insert m (kind_name k) (Kind k)) ks

-- the language of the standard library: these tags, blocks and filters, each under its name, and no
-- others; and no tags and blocks of a host
pub record IsStandard (l : Language) : Type 0 where
  pub tags : listed (kinds_of l.tags) ≡ bind_each standard_tags (listed [])
  pub blocks : listed (kinds_of l.blocks) ≡ bind_each standard_blocks (listed [])
  pub filters : listed (registered_in l.filters) ≡ with_filters (listed []) standard_filters
  pub include_paths : l.include_paths ≡ false
  pub drops_blanks : l.drops_blanks ≡ false
  pub escapes_html : l.escapes_html ≡ false
  pub host_tags : numbers_of l.host_tags ≡ []
  pub host_calls : calls_of l.host_tags ≡ []
  pub host_blocks : blocks_of l.host_tags ≡ []
  pub host_ends : end_names l.host_tags ≡ []
