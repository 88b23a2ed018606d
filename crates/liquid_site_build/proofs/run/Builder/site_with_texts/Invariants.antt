use Rattle.std.proofs.Common.{◌≡◌, ◌++◌, map}
use Rattle.liquid_language.specs.Entries.{seen}
use Rattle.liquid_model.specs.View.{pairs_view}
use Rattle.liquid_site_build.specs.Built.{about, documents_of, put_collections, site_pairs, with_own_content}
use Rattle.liquid_site_build.specs.SourceViews.{site_texts_view, sources_view}
use Rattle.liquid_site_build.specs.inside.Parts.{content_part_view, with_contents}
use Rattle.liquid_site_build.specs.inside.Runs.{IsScopeOver, rules_in}
use Rattle.liquid_site_build.proofs.run.Builder.site_with_texts.Given as goal

abbrev pub invariant-loop-name : goal.invariant-loop-name
invariant-loop-name g l =
    let rules = rules_in g.H.NamedFilters.named g.C.Conversions.conversion l.self in
    let s = sources_view l.self.sources.now in
    let left = seen site_texts_view l.name-iterator in
    record {
      site : put_collections (with_own_content rules s) left (pairs_view l.site.entries) ≡ put_collections (with_own_content rules s) s.collections s.config;
      parts : map content_part_view l.parts.items ++ with_contents rules s (documents_of left) ≡ map content_part_view l.initial.parts.items ++ with_contents rules s (documents_of s.collections);
      scope : IsScopeOver (site_pairs about s) (pairs_view l.scope.entries);
    }
