-- The faults of a source, round after round: each round tells a fault and makes the piece with it
-- text.
--     AreRounds l source found last      what is found, and what the source is after the last round
--     AreFindings l source found tree      the same, with the template that it is then
--     IsSilentAboutTemplates l source found      nothing is found exactly where the source is a
--       template
use Rattle.std.specs.Prelude.{◌≡◌, ℕ, Bool, false, List, [], ◌∷◌, Option, Some, None, length}
use Rattle.liquid_model.specs.Texts.{Text}
use Rattle.liquid_model.specs.declared.error.ErrorKind.{ErrorKind}
use Rattle.liquid_evaluation.specs.Tree.{Nodes}
use Rattle.liquid_language.specs.declared.registry.Language.{Language}
use Rattle.liquid_parser.specs.Parsing.{HasNoTree, IsOfSource, IsOnlyTree}
use Rattle.liquid_check.specs.Blanks.{IsBlanked}

-- what is found: the kind of the fault, the part that is made text, and whether the fault is there
-- only because an earlier one made a tag text
pub record Found : Type 0 where
  pub kind : ErrorKind
  pub start : ℕ
  pub count : ℕ
  pub follows : Bool

-- A round: the source has no template, and the kind says why: it is one of those that a source is
-- refused with. Then the part has blanks.
pub record IsRound (l : Language) (now : Text) (f : Found) (next : Text) : Type 0 where
  pub refused : HasNoTree l now
  pub of_source : IsOfSource f.kind
  pub blanks : IsBlanked f.start f.count now next

-- each round is one of the source that the rounds before it left
abbrev pub AreRounds : Language → Text → List Found → Text → Type 0
AreRounds l source [] last = last ≡ source
AreRounds l source (f ∷ fs) last =
    (next : Text) × IsRound l source f next × AreRounds l next fs last

-- the source is a template then, or 100 faults are found, and it isn't read further
abbrev pub Ends : Language → Text → List Found → Option Nodes → Type 0
Ends l last fs (Some tree) = IsOnlyTree l tree last
Ends l last fs None = length fs ≡ 100

abbrev pub AreFindings : Language → Text → List Found → Option Nodes → Type 0
AreFindings l source fs tree = (last : Text) × AreRounds l source fs last × Ends l last fs tree

-- nothing is found of a template, and of any other source a fault that follows from no other
abbrev pub IsSilentAboutTemplates : Language → Text → List Found → Type 0
IsSilentAboutTemplates l source [] = (tree : Nodes) × IsOnlyTree l tree source
IsSilentAboutTemplates l source (f ∷ fs) = HasNoTree l source × (f.follows ≡ false)
