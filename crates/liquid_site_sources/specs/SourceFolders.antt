-- Where the parts of a site stand, and what its files are read as, as contracts see it.
--     site_form folders      how the files of a site are read
use Rattle.std.specs.Prelude.{List, map, Option, option_map, string_bytes}
use Rattle.liquid_model.specs.Texts.{Text}
use Rattle.liquid_site_build.specs.SiteFiles as files
use Rattle.liquid_site_sources.specs.SourceForms.{file_stem, site_config, site_data}
use Rattle.liquid_site_sources.specs.declared.folders.CollectionFolder.{CollectionFolder}
use Rattle.liquid_site_sources.specs.declared.folders.SiteFolders.{SiteFolders}
use Rattle.liquid_site_sources.specs.declared.folders.FilePart.{FilePart}
use Rattle.liquid_site_sources.specs.declared.folders.FilePart.TheVariants as part
use Rattle.liquid_site_sources.specs.declared.take.RefusedSource.{RefusedSource}
use Rattle.liquid_site_sources.specs.declared.take.SourceFault.{SourceFault}
use Rattle.liquid_site_sources.specs.declared.take.SourceFault.TheVariants as fault
use Rattle.liquid_site_sources.specs.declared.take.SiteFile.{SiteFile}

abbrev pub collection_folder_view : CollectionFolder → Text × Text
collection_folder_view c = (string_bytes c.folder, string_bytes c.name)

abbrev pub site_form : SiteFolders → files.SiteForm
site_form f = record {
  layouts = string_bytes f.layouts;
  partials = string_bytes f.partials;
  «data» = string_bytes f.«data»;
  collections = map collection_folder_view f.collections.items;
  config = string_bytes f.config;
  excluded = map string_bytes f.excluded.items;
  included = map string_bytes f.included.items;
  data_read = site_data;
  config_read = site_config (string_bytes f.config);
  stem = file_stem;
}

-- ---- as contracts see it

abbrev pub file_part_view : FilePart → files.SitePart
file_part_view part.Config = files.config_file
file_part_view (part.Data s) = files.data_file s.now
file_part_view (part.Layout s) = files.layout_file s.now
file_part_view (part.Partial s) = files.partial_file s.now
file_part_view (part.Document s) = files.document_file_of s.now
file_part_view part.Page = files.page_file
file_part_view part.LeftOut = files.left_out

abbrev pub source_fault_view : SourceFault → files.SourceRefusal
source_fault_view (fault.Front e) = files.no_front e.kind
source_fault_view (fault.Template e) = files.no_template
source_fault_view (fault.Data e) = files.no_data e.kind
source_fault_view fault.Bytes = files.no_text

abbrev pub refused_source_view : RefusedSource → Text × files.SourceRefusal
refused_source_view r = (string_bytes r.path, source_fault_view r.why)

abbrev pub site_file_view : SiteFile → Text × Option Text
site_file_view f = (f.path.now, option_map (λ t. t.now) f.text)
