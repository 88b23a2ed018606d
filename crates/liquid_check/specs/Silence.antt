-- What a page shows silently, among the warnings of its template.
--     silent_among missing t remarks      those that are about it
--     SaysSilent e missing t remarks      of what `check -d` warns of in a template for an
--                                         engine, all that is about it, and no more
use Rattle.std.specs.Prelude.{◌≡◌, List, [], None, Some, true, false, filter, is_some, option_map}
use Rattle.liquid_check.specs.Findings.{SaysAll}
use Rattle.liquid_core.specs.declared.missing_value.Missing.{Missing}
use Rattle.liquid_syntax.specs.Templates.{positions_of, template_nodes}
use Rattle.liquid_syntax.specs.declared.template.Template.{Template}
use Rattle.liquid_warnings.specs.Remarks.{remark_view}
use Rattle.liquid_warnings.specs.Silent.{is_shown_silently}
use Rattle.liquid_warnings.specs.Warnings.{IsWarned}
use Rattle.liquid_warnings.specs.declared.remark.Remark.{Remark}
use Rattle.liquid_warnings.specs.declared.warnings.CheckedFile.{CheckedFile}
use Rattle.liquid_warnings.specs.declared.warnings.Given.{Given}
use Rattle.liquid_warnings.specs.declared.written_for.WrittenFor.{WrittenFor}

abbrev pub silent_among : Missing → Template → List Remark → List Remark
silent_among missing t remarks = filter (λ r. is_shown_silently missing (remark_view r)
    (template_nodes t) (positions_of t)) remarks

-- partials and attributes aren't looked at
pub record SaysSilent (e : WrittenFor) (missing : Missing) (t : Template) (remarks : List Remark) :
    Type 0 where
  pub given : Given
  pub file : CheckedFile
  pub over_data : is_some given.«data» ≡ true
  pub no_partials : given.partials ≡ None
  pub no_attributes : given.attributes ≡ false
  pub for_engine : given.written_for ≡ e
  pub of_template : option_map (λ x. x.now) file.template ≡ Some t
  pub warnings : List Remark
  pub warned : IsWarned given file warnings
  pub said : SaysAll [] (silent_among missing t warnings) remarks
