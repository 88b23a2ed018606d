-- The faults of a source, as they are said.
--     faults_said findings      those that follow from no earlier one
--     SaysAll findings warnings remarks      the warnings and these faults are said, and no more
use Rattle.std.specs.Prelude.{◌≡◌, ℕ, false, cond, List, [], ◌∷◌, ◌++◌}
use Rattle.std.specs.Prelude.{Option, Some, None, option_map}
use Rattle.std.specs.List.Sorted.{IsPermutation}
use Rattle.liquid_model.specs.ErrorKinds.{name_of}
use Rattle.liquid_model.specs.Errors.{message_text}
use Rattle.liquid_model.specs.declared.error.Error.{Error}
use Rattle.liquid_check.specs.declared.findings.Finding.{Finding}
use Rattle.liquid_warnings.specs.Remarks.{Said, all_said}
use Rattle.liquid_warnings.specs.declared.remark.Remark.{Remark}

-- a line and a column; those of the start where there is no location
abbrev pub place_said : Option (ℕ × ℕ) → ℕ × ℕ
place_said None = (1, 1)
place_said (Some p) = p

abbrev pub fault_place : Error → ℕ × ℕ
fault_place e = place_said (option_map (λ l. (l.value.line, l.value.column)) e.location)

abbrev pub fault_said : Finding → Said
fault_said f = record {
  line = (fault_place f.fault).0;
  column = (fault_place f.fault).1;
  kind = name_of f.fault.kind;
  is_warning = false;
  message = message_text f.fault.message;
}

abbrev pub faults_said : List Finding → List Said
faults_said [] = []
faults_said (f ∷ fs) = cond f.follows (faults_said fs) (fault_said f ∷ faults_said fs)

-- in an order of their own
abbrev pub SaysAll : List Finding → List Remark → List Remark → Type 0
SaysAll findings warnings remarks = (all : List Remark)
    × (all_said all ≡ all_said warnings ++ faults_said findings) × IsPermutation all remarks
