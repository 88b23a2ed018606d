-- The warnings of one file alone.
use Rattle.std.proofs.Common.{◌≡◌, List, [], ◌∷◌, ◌++◌, true, false, Some, None, is_some, subst}
use Rattle.std.specs.Prelude.{Vec, option_map}
use Rattle.std.specs.declared.alloc.Global.{Global}
use Rattle.liquid_check.specs.Findings.{SaysAll}
use Rattle.liquid_check.specs.Silence.{SaysSilent, silent_among}
use Rattle.liquid_core.specs.declared.missing_value.Missing.{Missing}
use Rattle.liquid_syntax.specs.declared.template.Template.{Template}
use Rattle.liquid_warnings.specs.Warnings.{AreWarned, IsWarned, lists_of}
use Rattle.liquid_warnings.specs.declared.remark.Remark.{Remark}
use Rattle.liquid_warnings.specs.declared.warnings.CheckedFile.{CheckedFile}
use Rattle.liquid_warnings.specs.declared.warnings.Given.{Given}
use Rattle.liquid_warnings.specs.declared.written_for.WrittenFor.{WrittenFor}

last_alone : (given : Given) (file : CheckedFile) (rest : List (Vec Remark Global)) (ws : Vec Remark Global) → AreWarned given (file ∷ []) (lists_of (rest ++ ws ∷ [])) → IsWarned given file ws.items
last_alone given file [] ws h = h.0
last_alone given file (r ∷ []) ws h = absurd h.1
last_alone given file (r ∷ s ∷ rs) ws h = absurd h.1

-- the last of the lists of one file is its list
pub of_one_file : (given : Given) (file : CheckedFile) (lists rest : List (Vec Remark Global)) (ws : Vec Remark Global) → lists ≡ rest ++ ws ∷ [] → AreWarned given (file ∷ []) (lists_of lists) → IsWarned given file ws.items
of_one_file given file lists rest ws is h = last_alone given file rest ws (subst (λ l. AreWarned given (file ∷ []) (lists_of l)) is h)

-- and there is one
pub some_list : (given : Given) (file : CheckedFile) (lists : List (Vec Remark Global)) → lists ≡ [] → AreWarned given (file ∷ []) (lists_of lists) → ⊥
some_list given file lists is h = subst (λ l. AreWarned given (file ∷ []) (lists_of l)) is h

-- what is kept of a file's warnings is all that a page shows silently
pub says_silent : (e : WrittenFor) (missing : Missing) (t : Template) (remarks : List Remark) (given : Given) (file : CheckedFile) (warnings : List Remark) → IsWarned given file warnings
    → is_some given.«data» ≡ true → given.partials ≡ None → given.attributes ≡ false → given.written_for ≡ e → option_map (λ x. x.now) file.template ≡ Some t
    → SaysAll [] (silent_among missing t warnings) remarks → SaysSilent e missing t remarks
says_silent e missing t remarks given file warnings warned over_data no_partials no_attributes for_engine of_template said = record {
  given = given;
  file = file;
  over_data = over_data;
  no_partials = no_partials;
  no_attributes = no_attributes;
  for_engine = for_engine;
  of_template = of_template;
  warnings = warnings;
  warned = warned;
  said = said;
}
