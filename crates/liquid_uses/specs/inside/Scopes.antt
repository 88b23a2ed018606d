-- Where in a template's list of nodes a name is bound, and where one is read that isn't.
--     own_reads R n      the names that a node itself reads, and not its bodies, where R says what
--                        partials read
--     BindsIn n end i q      a node in a body that ends at `end` binds a name at the later index i
--     Visible F ns A i q      at index i a name is bound, or it is one of F
--     AreScoped R F ns A      A holds where the body ends in which each node stands, and every name
--                             that is read is bound there or one of F
use Rattle.std.specs.Prelude.{◌≡◌, ℕ, ◌+◌, ◌<◌, ◌≤◌, T, Bool, true, false, ◌&&◌, ◌||◌, nat_eq}
use Rattle.std.specs.Prelude.{get_or}
use Rattle.std.specs.Prelude.{List, [], ◌∷◌, ◌++◌, length, map, option_map, slice_get, string_bytes}
use Rattle.std.specs.Prelude.{codes, Some}
use Rattle.liquid_model.specs.Texts.{Text, same_text}
use Rattle.liquid_core.specs.Environment.{Names}
use Rattle.liquid_core.specs.ExpressionView.{expression_view}
use Rattle.liquid_evaluation.specs.ChainView.{chain_filter_view, chain_view}
use Rattle.liquid_evaluation.specs.ConditionView.{condition_view}
use Rattle.liquid_evaluation.specs.SourceView.{source_view}
use Rattle.liquid_evaluation.specs.Names.{all_names, bound_names, chain_names, condition_names}
use Rattle.liquid_evaluation.specs.Names.{expression_names, filters_names, include_name, mentioned}
use Rattle.liquid_evaluation.specs.Names.{optional_names, source_names, target_names, window_names}
use Rattle.liquid_meaning.specs.FreeNames.{PartialsRead, literal_name, unbound}
use Rattle.liquid_syntax.specs.Laid.{last_end}
use Rattle.liquid_syntax.specs.Flats.{arm_values, bindings_view, each_view, flat_of, window_view}
use Rattle.liquid_syntax.specs.inside.Mentions.{arms_names}
use Rattle.liquid_syntax.specs.declared.node.Node.{Node}
use Rattle.liquid_uses.specs.declared.scopes.Scopes.{Scopes}
use Rattle.liquid_uses.specs.declared.scopes.Reader.{Reader}
use Rattle.liquid_uses.specs.inside.Readings.{reads_in}
use Rattle.liquid_syntax.specs.NameSets.{mentioned_in_set}
use Rattle.liquid_syntax.specs.declared.node.Node.TheVariants.{Text as Plain, Output, Assign, Raw}
use Rattle.liquid_syntax.specs.declared.node.Node.TheVariants.{Comment, If, Unless, Capture, Case}
use Rattle.liquid_syntax.specs.declared.node.Node.TheVariants.{For, TableRow, Break, Continue}
use Rattle.liquid_syntax.specs.declared.node.Node.TheVariants.{Increment, Decrement, Cycle}
use Rattle.liquid_syntax.specs.declared.node.Node.TheVariants.{IfChanged, Filtered, Include}
use Rattle.liquid_syntax.specs.declared.node.Node.TheVariants.{JekyllInclude, Render, RenderEach}

-- the names in what a node itself evaluates
abbrev pub read_names : Node → List Text
read_names (Plain t) = []
read_names (Output chain) = chain_names (chain_view chain)
read_names (Assign name chain) = chain_names (chain_view chain)
read_names (Raw t) = []
read_names Comment = []
read_names (If condition bodies) = condition_names (condition_view condition)
read_names (Unless condition bodies) = condition_names (condition_view condition)
read_names (Capture name end) = []
read_names (Case target arms end) = expression_names (expression_view target) ++
    arms_names (arm_values arms.items)
read_names (For f bodies) = codes "forloop" ∷ (source_names (source_view f.value.source) ++
    window_names (window_view f.value.window))
read_names (TableRow r end) = source_names (source_view r.value.source) ++
    (optional_names (option_map expression_view r.value.cols) ++
    window_names (window_view r.value.window))
read_names Break = []
read_names Continue = []
read_names (Increment name) = []
read_names (Decrement name) = []
read_names (Cycle group values) = all_names (map expression_view values.items)
read_names (IfChanged end) = []
read_names (Filtered filters end) = filters_names (map chain_filter_view filters.items)
read_names (Include name pairs) = expression_names (expression_view name) ++
    bound_names (bindings_view pairs.items)
read_names (JekyllInclude name pairs) = bound_names (bindings_view pairs.items)
read_names (Render name pairs) = expression_names (expression_view name) ++
    bound_names (bindings_view pairs.items)
read_names (RenderEach name each pairs) = expression_names (expression_view name) ++
    (source_names (each_view each).0 ++ bound_names (bindings_view pairs.items))

-- what the partial reads that a node includes, but for the pairs
abbrev pub partial_reads : PartialsRead → Node → Names
partial_reads R (Include name pairs) q =
    unbound (target_names (bindings_view pairs.items)) (R (literal_name (expression_view name))) q
partial_reads R (JekyllInclude name pairs) q =
    unbound (include_name (bindings_view pairs.items)) (R (Some (string_bytes name))) q
partial_reads R n q = false

abbrev pub own_reads : PartialsRead → Node → Names
own_reads R n q = mentioned (read_names n) q || partial_reads R n q

-- ---- where a name is bound

abbrev pub is_either : Text → Text → Text → Bool
is_either first second q = same_text q first || same_text q second

-- after the node an assigned name and a counter are bound, and a captured one after its body, up to
-- the end of the body that they stand in; and what a loop binds in its body
abbrev pub BindsIn : Node → ℕ → ℕ → Text → Type 0
BindsIn (Assign name chain) end i q = (same_text q (string_bytes name) ≡ true) × (i < end)
BindsIn (Increment name) end i q = (same_text q (string_bytes name) ≡ true) × (i < end)
BindsIn (Decrement name) end i q = (same_text q (string_bytes name) ≡ true) × (i < end)
BindsIn (Capture name last) end i q = (same_text q (string_bytes name) ≡ true) × ((last ≤ i) ×
    (i < end))
BindsIn (For f bodies) end i q =
    (is_either (codes "forloop") (string_bytes f.value.variable) q ≡ true) × (i < bodies.first_end)
BindsIn (TableRow r last) end i q =
    (is_either (codes "tablerow") (string_bytes r.value.variable) q ≡ true) × (i < last)
BindsIn n end i q = ⊥

abbrev pub end_at : List ℕ → ℕ → ℕ
end_at A p = get_or A p 0

pub data Visible (F : Names) (ns : List Node) (A : List ℕ) (i : ℕ) (q : Text) : Type 0 where
  free : T (F q) → Visible F ns A i q
  bound : (p : ℕ) (n : Node) → slice_get ns p ≡ Some n → p < i → BindsIn n (end_at A p) i q →
      Visible F ns A i q

-- ---- the ends of bodies

-- a body from s to e has no nodes, or its first one stands in a body that ends at e
abbrev pub ends_at : List ℕ → ℕ → ℕ → Bool
ends_at A s e = nat_eq s e || nat_eq (end_at A s) e

abbrev pub bodies_end : List ℕ → ℕ → List ℕ → Bool
bodies_end A s [] = true
bodies_end A s (e ∷ es) = ends_at A s e && bodies_end A e es

-- so the bodies of the node at i, of which the first begins at next, and what follows in its body
abbrev pub ends_after : List ℕ → ℕ → ℕ → Node → Bool
ends_after A i next n = bodies_end A next (flat_of n).ends &&
    ends_at A (last_end next (flat_of n).ends) (end_at A i)

abbrev pub ends_hold : List ℕ → ℕ → Node → Bool
ends_hold A i n = ends_after A i (i + 1) n

pub record AreScoped (R : PartialsRead) (F : Names) (ns : List Node) (A : List ℕ) : Type 0 where
  pub start : ends_at A 0 (length ns) ≡ true
  pub ends : (i : ℕ) (n : Node) → slice_get ns i ≡ Some n → ends_hold A i n ≡ true
  pub reads : (i : ℕ) (n : Node) → slice_get ns i ≡ Some n → (q : Text) → T (own_reads R n q) →
      Visible F ns A i q

-- ---- what the tests are about

-- the names that may be read where they aren't bound
abbrev pub kept_in : Scopes → Names
kept_in s q = mentioned_in_set s.kept.now q

abbrev pub visible_to : Reader → Text → Type 0
visible_to r q = Visible (kept_in r.scopes) r.scopes.nodes.now r.scopes.ends.now r.at q

-- the visitor stays the same, and unless it ended the visit all names are visible to it
abbrev pub Tests : Reader → List Text → Bool → Reader → Type 0
Tests u names found v = (v ≡ u) × (found ≡ false → (q : Text) → T (mentioned names q) →
    visible_to u q)

abbrev pub NodeScoped : Scopes → ℕ → Node → Type 0
NodeScoped s i n = (ends_hold s.ends.now i n ≡ true) × ((q : Text) → T (own_reads
    (reads_in s.readings.now.entries) n q) → Visible (kept_in s) s.nodes.now s.ends.now i q)
