-- What is written of a site that is built.
--     build rules s      the files, by their paths below the folder that is written to
--     faults rules s      the sources that have none, and why
use Rattle.std.specs.Prelude.{◌&&◌, Bool, true, false, cond, List, [], ◌∷◌, ◌++◌, map, bytes_eq}
use Rattle.std.specs.Prelude.{nat_le, Option, Some, None, Result, Ok, Err}
use Rattle.std.specs.List.{list_all}
use Rattle.std.specs.Cmp.Lexicographic.{slice_cmp}
use Rattle.std.specs.Ordering.{match_ordering, nat_cmp}
use Rattle.liquid_model.specs.Texts.{Text}
use Rattle.liquid_records.specs.FileNames.{is_file_name}
use Rattle.liquid_site_build.specs.Built.{SiteRules, PageFault, PageOutcome, DocumentOutcome}
use Rattle.liquid_site_build.specs.Built.{leads_out, file_taken, outcomes}
use Rattle.liquid_site_build.specs.Sources.{SiteSources}

pub data SiteFile : Type 0 where
  -- as the file of the same path is in the site's folder
  as_it_is : SiteFile
  with_text : Text → SiteFile

-- what the source at a path gives, and the path of the file where it is written
pub record SiteOutput : Type 0 where
  pub source : Text
  pub file : Text
  pub made : Result SiteFile PageFault

abbrev pub static_output : Text → SiteOutput
static_output path = record { source = path; file = path; made = Ok as_it_is }

abbrev pub file_with : PageOutcome → Result SiteFile PageFault
file_with (Ok s) = Ok (with_text s)
file_with (Err fault) = Err fault

abbrev pub document_output : DocumentOutcome → SiteOutput
document_output o = record { source = o.source; file = o.file; made = file_with o.outcome }

-- static files as they are, and what each document comes to
abbrev pub outputs_of : SiteSources → List DocumentOutcome → List SiteOutput
outputs_of s os = map static_output s.statics ++ map document_output os

-- ---- which source has a file

-- it names one file below a folder, without controls
abbrev pub is_written_name : Text → Bool
is_written_name file = is_file_name file && list_all (λ b. nat_le 32 b) file

-- a path is before the other, where there is one
abbrev pub is_first : Text → Option Text → Bool
is_first path None = true
is_first path (Some other) = match_ordering (slice_cmp nat_cmp path other) true false false

abbrev pub with_owner : SiteOutput → Text → Option Text → Option Text
with_owner o file first =
    cond (bytes_eq o.file file && is_first o.source first) (Some o.source) first

abbrev pub first_written : Option Text → List SiteOutput → Text → Option Text
first_written first [] file = first
first_written first (o ∷ os) file = first_written (with_owner o file first) os file

-- the first path of the sources that are written to the file
abbrev pub owner : List SiteOutput → Text → Option Text
owner os file = first_written None os file

abbrev pub unless_taken : Text → Option Text → Result SiteFile PageFault →
    Result SiteFile PageFault
unless_taken source None r = r
unless_taken source (Some path) r = cond (bytes_eq path source) r (Err (file_taken path))

-- where no source before this one is written to its file
abbrev pub unless_owned : (Text → Option Text) → SiteOutput → SiteOutput
unless_owned owners o = record o { made = unless_taken o.source (owners o.file) o.made }

-- and where the file has its name
abbrev pub placed_by : (Text → Option Text) → SiteOutput → SiteOutput
placed_by owners o =
    cond (is_written_name o.file) (unless_owned owners o)
    (record o { made = Err (leads_out o.file) })

abbrev pub placed_outputs : List SiteOutput → List SiteOutput
placed_outputs os = map (placed_by (owner os)) os

-- what each source of a site gives, in its place
abbrev pub outputs : SiteRules → SiteSources → List SiteOutput
outputs rules s = placed_outputs (outputs_of s (outcomes rules s))

-- ---- files and faults

abbrev pub file_from : Text → Result SiteFile PageFault → List (Text × SiteFile)
file_from file (Ok made) = (file, made) ∷ []
file_from file (Err fault) = []

abbrev pub files_of : List SiteOutput → List (Text × SiteFile)
files_of [] = []
files_of (o ∷ os) = file_from o.file o.made ++ files_of os

abbrev pub build : SiteRules → SiteSources → List (Text × SiteFile)
build rules s = files_of (outputs rules s)

abbrev pub fault_from : Text → Result SiteFile PageFault → List (Text × PageFault)
fault_from source (Ok made) = []
fault_from source (Err fault) = (source, fault) ∷ []

abbrev pub faults_of : List SiteOutput → List (Text × PageFault)
faults_of [] = []
faults_of (o ∷ os) = fault_from o.source o.made ++ faults_of os

abbrev pub faults : SiteRules → SiteSources → List (Text × PageFault)
faults rules s = faults_of (outputs rules s)
