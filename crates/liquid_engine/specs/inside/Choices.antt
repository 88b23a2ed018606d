-- The nodes that a choice runs in an environment.
--     ListComesTo ns e nodes r      r is a range of ns that does in e what the list of nodes does
--                                   there, or the kind by which that list ends before anything is
--                                   done, or `Memory`
--     NodeComesTo ns e n r      the same of a node
--     CaseStands ns from arms last ws o      these `when` parts, of which the first body begins at
--       `from`, and the nodes of `else` up to `last`, are ws and o
--     equal_among target xs e      whether one of the values equals the target; they are evaluated
--                                  in order, up to the first that does
use Rattle.std.specs.Prelude.{◌≡◌, ℕ, List, [], ◌∷◌, Bool, MatchBool, ⊤, true, false, cond, Result}
use Rattle.std.specs.Prelude.{Ok, Err}
use Rattle.liquid_model.specs.Texts.{Text}
use Rattle.liquid_model.specs.declared.error.Error.{Error}
use Rattle.liquid_model.specs.declared.error.ErrorKind.{ErrorKind}
use Rattle.liquid_model.specs.ErrorKinds.{is_memory, is_refusal}
use Rattle.liquid_model.specs.Data.{Datum}
use Rattle.liquid_model.specs.Fallible.{◌>>=◌}
use Rattle.liquid_model.specs.Order.{same}
use Rattle.liquid_core.specs.Environment.{Environment, Names}
use Rattle.liquid_core.specs.Expression.{Expression}
use Rattle.liquid_core.specs.Expressions.{required}
use Rattle.liquid_syntax.specs.Flats.{Maker, IsForestAt, nodes_of, values_in}
use Rattle.liquid_syntax.specs.Forest.{Forest}
use Rattle.liquid_evaluation.specs.Names.{node_names, nodes_names, whens_names}
use Rattle.liquid_evaluation.specs.Tree as tree
use Rattle.liquid_syntax.specs.declared.node.Arm.{Arm}
use Rattle.liquid_syntax.specs.declared.node.Node.{Node}
use Rattle.liquid_meaning.specs.Meaning.{Setting, node_meaning, nodes_meaning, whens_meaning}
use Rattle.liquid_meaning.specs.Runs.{Nothing, Run}
use Rattle.liquid_meaning.specs.Within.{Within}

-- a meaning, whatever the setting and the meaning of partials
abbrev pub Meant : Type 0
Meant = Setting → (tree.Nodes → Run Nothing) → Run Nothing

-- the nodes of the range do in e what is meant, and mention none but these names
pub record Chosen (ns : List Node) (e : Environment) (names : List Text) (meant : Meant)
    (from to : ℕ) : Type 0 where
  pub nodes : Forest Maker
  pub stands : IsForestAt ns from nodes to
  pub within : (N : Names) → Within N names → Within N (nodes_names (nodes_of nodes))
  pub same : (setting : Setting) (deeper : tree.Nodes → Run Nothing) → meant setting deeper e ≡
      nodes_meaning setting deeper (nodes_of nodes) e

-- what is meant ends in e by the kind, before anything is done
abbrev pub Refused : Environment → Meant → ErrorKind → Type 0
Refused e meant kind = (setting : Setting) (deeper : tree.Nodes → Run Nothing) →
    meant setting deeper e ≡ record { text = []; environment = e; end = Err kind }

abbrev pub ComesTo : List Node → Environment → List Text → Meant → Result (ℕ × ℕ) Error → Type 0
ComesTo ns e names meant (Ok range) = Chosen ns e names meant range.0 range.1
ComesTo ns e names meant (Err x) = MatchBool (is_memory x.kind) ⊤ (Refused e meant x.kind ×
    (is_refusal x.kind ≡ false))

abbrev pub ListComesTo : List Node → Environment → tree.Nodes → Result (ℕ × ℕ) Error → Type 0
ListComesTo ns e nodes r =
    ComesTo ns e (nodes_names nodes) (λ setting deeper. nodes_meaning setting deeper nodes) r

abbrev pub NodeComesTo : List Node → Environment → tree.Node → Result (ℕ × ℕ) Error → Type 0
NodeComesTo ns e n r = ComesTo ns e (node_names n) (λ setting deeper. node_meaning setting deeper n)
    r

-- ---- the parts of a `case`

abbrev pub CaseStands : List Node → ℕ → List Arm → ℕ → tree.Whens → tree.Nodes → Type 0
CaseStands ns from [] last tree.no_whens o = (f : Forest Maker) × IsForestAt ns from f last ×
    (o ≡ nodes_of f)
CaseStands ns from (arm ∷ arms) last (tree.when values body ws) o =
    (f : Forest Maker) × IsForestAt ns from f arm.end × (values ≡ values_in arm) ×
    (body ≡ nodes_of f) × CaseStands ns arm.end arms last ws o
CaseStands ns from [] last (tree.when values body ws) o = ⊥
CaseStands ns from (arm ∷ arms) last tree.no_whens o = ⊥

abbrev pub HasCaseAt : List Node → ℕ → List Arm → ℕ → Type 0
HasCaseAt ns from arms last = (ws : tree.Whens) × (o : tree.Nodes) ×
    CaseStands ns from arms last ws o

unfoldable pub equal_among : Datum → List Expression → Environment → Result Bool ErrorKind
equal_among target [] e = Ok false
equal_among target (x ∷ xs) e =
    required x e >>= (λ d. cond (same target d) (Ok true) (equal_among target xs e))

-- these `when` parts and the nodes of `else`, with this target, do in e what is meant, and mention
-- none but these names
pub record CaseLeft (ns : List Node) (e : Environment) (names : List Text) (meant : Meant)
    (target : Datum) (arms : List Arm) (from last : ℕ) : Type 0 where
  pub whens : tree.Whens
  pub otherwise : tree.Nodes
  pub stands : CaseStands ns from arms last whens otherwise
  pub within : (N : Names) → Within N names → Within N (whens_names whens) ×
      Within N (nodes_names otherwise)
  pub same : (setting : Setting) (deeper : tree.Nodes → Run Nothing) → meant setting deeper e ≡
      whens_meaning setting deeper whens target (nodes_meaning setting deeper otherwise) e
