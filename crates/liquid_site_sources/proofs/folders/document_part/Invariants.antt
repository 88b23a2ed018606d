use Rattle.std.proofs.Common.{◌≡◌, map, drop, string_bytes}
use Rattle.liquid_site_build.specs.SiteFiles.{document_part}
use Rattle.liquid_site_sources.specs.SourceFolders.{collection_folder_view}
use Rattle.liquid_site_sources.proofs.folders.document_part.Given as goal

-- the collections that are left decide as all of them do
abbrev pub invariant-loop-collection : goal.invariant-loop-collection
invariant-loop-collection l = document_part (map string_bytes l.included) (map collection_folder_view (drop l.collection-index l.collections)) l.path ≡ document_part (map string_bytes l.included) (map collection_folder_view l.collections) l.path
