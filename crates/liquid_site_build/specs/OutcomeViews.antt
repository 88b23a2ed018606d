-- What documents come to, as contracts see it.
use Rattle.std.specs.Prelude.{string_bytes, Result, Ok, Err}
use Rattle.liquid_model.specs.Texts.{Text}
use Rattle.liquid_site_build.specs.Built as model
use Rattle.liquid_site_build.specs.Chains.{no_layout, meets_itself}
use Rattle.liquid_site_build.specs.declared.outcome.PageFault.{PageFault}
use Rattle.liquid_site_build.specs.declared.outcome.PageFault.TheVariants as fault
use Rattle.liquid_site_build.specs.declared.outcome.PageOutcome.{PageOutcome}
use Rattle.liquid_site_build.specs.declared.outcome.PageOutcome.TheVariants as outcome
use Rattle.liquid_site_build.specs.declared.outcome.DocumentOutcome.{DocumentOutcome}
use Rattle.liquid_site_build.specs.declared.outcome.Made.{Made}
use Rattle.liquid_site_build.specs.declared.outcome.Made.TheVariants as made
use Rattle.liquid_site_build.specs.declared.outcome.SiteOutput.{SiteOutput}
use Rattle.liquid_site_build.specs.Written as written

abbrev pub page_fault_view : PageFault → model.PageFault
page_fault_view (fault.InDocument e) = model.in_document e.kind
page_fault_view (fault.InLayout e) = model.in_layout e.kind
page_fault_view (fault.NoLayout name) = model.no_chain (no_layout (string_bytes name))
page_fault_view (fault.LayoutInsideItself name) = model.no_chain (meets_itself (string_bytes name))
page_fault_view (fault.Unconverted s) = model.unconverted (string_bytes s)

abbrev pub page_outcome_view : PageOutcome → model.PageOutcome
page_outcome_view (outcome.Page s) = Ok (string_bytes s)
page_outcome_view (outcome.Fault why) = Err (page_fault_view why)

abbrev pub document_outcome_view : DocumentOutcome → model.DocumentOutcome
document_outcome_view o = record {
  source = string_bytes o.source;
  file = string_bytes o.file;
  outcome = page_outcome_view o.outcome;
}

-- of the source of this file
abbrev pub file_made_view : Text → Made → Result written.SiteFile model.PageFault
file_made_view file made.AsItIs = Ok written.as_it_is
file_made_view file (made.Page s) = Ok (written.with_text s.now)
file_made_view file (made.Fault why) = Err (page_fault_view why.now)
file_made_view file made.LeadsOut = Err (model.leads_out file)
file_made_view file (made.FileTaken path) = Err (model.file_taken (string_bytes path))

abbrev pub output_view : SiteOutput → written.SiteOutput
output_view o = record {
  source = o.source.now;
  file = o.file.now;
  made = file_made_view o.file.now o.made;
}
