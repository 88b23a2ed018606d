-- A chain of layouts, as contracts see it.
use Rattle.std.specs.Prelude.{map, Ok, Err, string_bytes}
use Rattle.liquid_site_build.specs.Chains.{LayoutChain, no_layout, meets_itself}
use Rattle.liquid_site_build.specs.SourceViews.{site_text_view}
use Rattle.liquid_site_build.specs.declared.chain.Chain.{Chain}
use Rattle.liquid_site_build.specs.declared.chain.Chain.TheVariants as chain

abbrev pub layout_chain_view : Chain → LayoutChain
layout_chain_view (chain.Layouts ls) = Ok (map (λ l. site_text_view l.now) ls.items)
layout_chain_view (chain.NoLayout name) = Err (no_layout (string_bytes name))
layout_chain_view (chain.InsideItself name) = Err (meets_itself (string_bytes name))
