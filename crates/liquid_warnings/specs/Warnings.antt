-- The warnings of all files.
--     AreWarned given files warnings      each file has its list of warnings, in the order of the
--                                         files
--     IsWarned given file warnings      these are the first hundred of those of its source, of its
--                                       single tags and outputs, and of all files together
--     AreOfSource is_html warnings      those of what stands in a source, in their order
--     template_said e template      those of single tags and outputs, in the order of the source
--     AreOfWhole given warnings      those that need all files, in their order
use Rattle.std.specs.Prelude.{◌≡◌, ◌+◌, ℕ, Bool, List, [], ◌∷◌, ◌++◌, All, map}
use Rattle.std.specs.Prelude.{Option, Some, None, is_some, option_map, slice_get, take, Vec, ⊤}
use Rattle.std.specs.declared.alloc.Global.{Global}
use Rattle.liquid_syntax.specs.Templates.{template_nodes, positions_of}
use Rattle.liquid_syntax.specs.declared.node.Node.{Node}
use Rattle.liquid_syntax.specs.declared.positions.Position.{Position}
use Rattle.liquid_syntax.specs.declared.template.Template.{Template}
use Rattle.liquid_warnings.specs.Differences.{AreOfData}
use Rattle.liquid_warnings.specs.FilterPairs.{pair_said}
use Rattle.liquid_warnings.specs.Fixed.{fixed_said}
use Rattle.liquid_warnings.specs.Joins.{join_said}
use Rattle.liquid_warnings.specs.Nodes.{no_clock, no_list, no_pattern, sure_said}
use Rattle.liquid_warnings.specs.OfJekyll.{jekyll_said}
use Rattle.liquid_warnings.specs.Remarks.{Said, all_said, said_or_else}
use Rattle.liquid_warnings.specs.Slips.{slip_said}
use Rattle.liquid_warnings.specs.Sorts.{InOrder, IsElseIf, IsEscapedTwice, IsMissingPartial}
use Rattle.liquid_warnings.specs.Sorts.{IsRecursive, IsUnescaped, IsUnknownName, IsUnusedPartial}
use Rattle.liquid_warnings.specs.Sorts.{IsUnusedName, OnlyWhere}
use Rattle.liquid_warnings.specs.Sorts.{IsForeign, IsPrintedFront, IsNotGiven, IsStray}
use Rattle.liquid_warnings.specs.Sorts.{IsQuotedName, IsTextTest, IsUnusedPair}
use Rattle.liquid_warnings.specs.TagOutputs.{tag_said}
use Rattle.liquid_warnings.specs.declared.remark.Remark.{Remark}
use Rattle.liquid_warnings.specs.declared.warnings.CheckedFile.{CheckedFile}
use Rattle.liquid_warnings.specs.declared.warnings.Given.{Given}
use Rattle.liquid_warnings.specs.declared.written_for.WrittenFor.{WrittenFor}

-- ---- the source

-- outputs in attributes come where they are looked at
abbrev pub AreOfSource : Bool → List Said → Type 0
AreOfSource is_html = InOrder (All IsElseIf) (OnlyWhere is_html (All IsUnescaped))

-- ---- single tags and outputs

-- one that is read otherwise than it looks
abbrev pub odd_said : Position → Node → Option Said
odd_said position node = said_or_else (slip_said position node)
    (said_or_else (pair_said position node)
    (said_or_else (fixed_said position node) (tag_said position node)))

-- the one that a tag or an output has, whatever engine it is written for
abbrev pub node_said : Position → Node → Option Said
node_said position node = said_or_else (no_clock position node)
    (said_or_else (no_list position node)
    (said_or_else (no_pattern position node)
    (said_or_else (sure_said position node) (odd_said position node))))

abbrev pub with_said : Option Said → List Said → List Said
with_said None more = more
with_said (Some s) more = s ∷ more

-- the one where the engine that it is written for reads it otherwise
abbrev pub engine_said : WrittenFor → Position → Node → Option Said
engine_said e position node =
    said_or_else (jekyll_said e position node) (join_said e position node)

-- of a node that begins at this position
abbrev pub said_at : WrittenFor → Option Position → Node → List Said
said_at e None node = []
said_at e (Some position) node =
    with_said (node_said position node) (with_said (engine_said e position node) [])

-- of the nodes from this place on, each of which begins at the position at its place
abbrev pub nodes_said : WrittenFor → ℕ → List Node → List Position → List Said
nodes_said e place [] positions = []
nodes_said e place (n ∷ ns) positions =
    said_at e (slice_get positions place) n ++ nodes_said e (place + 1) ns positions

abbrev pub template_said : WrittenFor → Option Template → List Said
template_said e None = []
template_said e (Some t) = nodes_said e 0 (template_nodes t) (positions_of t)

-- ---- all files together

-- what the data lacks is known only where data is given
abbrev pub AreOfNames : Bool → List Said → Type 0
AreOfNames has_data = InOrder (OnlyWhere has_data (All IsUnknownName))
    (InOrder (All IsUnusedName) (All IsEscapedTwice))

abbrev pub AreOfMisusedTexts : List Said → Type 0
AreOfMisusedTexts = InOrder (All IsTextTest) (All IsQuotedName)

abbrev pub AreOfText : List Said → Type 0
AreOfText = InOrder (All IsStray) (InOrder AreOfMisusedTexts
    (InOrder (All IsPrintedFront) (All IsForeign)))

abbrev pub AreOfPartials : List Said → Type 0
AreOfPartials = InOrder (All IsMissingPartial) (InOrder (All IsUnusedPartial)
    (InOrder (All IsRecursive) (InOrder (All IsUnusedPair) (All IsNotGiven))))

-- what stands in the data is known only where data is given, and partials only where they are asked
-- for, also where there are none
abbrev pub AreOfWhole : Given → List Said → Type 0
AreOfWhole given = InOrder (AreOfNames (is_some given.«data»)) (InOrder AreOfText
    (InOrder (OnlyWhere (is_some given.«data») (AreOfData given.written_for))
    (OnlyWhere (is_some given.partials) AreOfPartials)))

-- ---- the files

-- a list for each file
abbrev pub lists_of : List (Vec Remark Global) → List (List Remark)
lists_of lists = map (λ l. l.items) lists

pub record IsWarned (given : Given) (file : CheckedFile) (warnings : List Remark) : Type 0 where
  pub source : List Said
  pub others : List Said
  pub source_is : AreOfSource given.attributes source
  pub others_are : AreOfWhole given others
  -- and no more than these
  pub first_hundred : all_said warnings ≡ take 100
      (source ++ (template_said given.written_for (option_map (λ t. t.now) file.template)
      ++ others))

abbrev pub AreWarned : Given → List CheckedFile → List (List Remark) → Type 0
AreWarned given [] [] = ⊤
AreWarned given [] (ws ∷ wss) = ⊥
AreWarned given (file ∷ files) [] = ⊥
AreWarned given (file ∷ files) (ws ∷ wss) = IsWarned given file ws × AreWarned given files wss
