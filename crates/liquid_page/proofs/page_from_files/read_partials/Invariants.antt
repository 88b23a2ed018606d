use Rattle.std.proofs.Common.{◌≡◌, [], drop, map, IfSome}
use Rattle.liquid_page.specs.Files.{sources_from}
use Rattle.liquid_page.specs.Words.{borrowed_pair}
use Rattle.liquid_page_texts.specs.Page.{sources_of}
use Rattle.liquid_page.proofs.page_from_files.read_partials.Given as goal

-- the same files are known, and what is left gives, after what was read, what the whole gives
abbrev pub invariant-loop-name : goal.invariant-loop-name
invariant-loop-name g l = record {
  same : g.T.Texts.known l.texts ≡ g.T.Texts.known l.initial.texts;
  left : IfSome (g.T.Texts.known l.initial.texts) (λ files. sources_from files (map borrowed_pair (drop l.name-index l.partials)) (sources_of l.sources.items) ≡ sources_from files (map borrowed_pair l.partials) []);
}
