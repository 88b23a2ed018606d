-- The names of a run: those of a template's list, and of the lists of all partials.
use Rattle.std.specs.Prelude.{◌≡◌, false, ◌||◌, List, [], ◌∷◌, ◌++◌, Option, Some, None, option_map, String, string_bytes}
use Rattle.std.specs.BTreeSet.{BTreeSet}
use Rattle.std.specs.BTreeMap.{is_at}
use Rattle.std.specs.Cmp.Lexicographic.{slice_cmp}
use Rattle.std.specs.List.{list_any}
use Rattle.std.specs.Map.{values_of}
use Rattle.std.specs.Ordering.{nat_cmp}
use Rattle.std.specs.declared.alloc.Global.{Global}
use mathlib.Core.Path.{refl, sym, ap, ◌∙◌, fun_ext}
use Rattle.liquid_core.specs.Environment.{Names}
use Rattle.liquid_model.specs.Texts.{Text, same_text}
use Rattle.liquid_evaluation.specs.Names.{mentioned, nodes_names, partials_names, run_names}
use Rattle.liquid_language.specs.Entries.{seen}
use Rattle.liquid_syntax.specs.Slots.{filled, with_held}
use Rattle.liquid_syntax.specs.inside.Mentions.{held_names, list_names, partials_list_names}
use Rattle.liquid_syntax.specs.NameSets.{added, mentioned_in_set}
use Rattle.liquid_syntax.specs.inside.NameVisitors.{any_both, mentioned_both}
use Rattle.liquid_syntax.specs.Templates.{template_nodes, tree_of}
use Rattle.liquid_syntax.specs.declared.template.Template.{Template}
use Rattle.liquid_syntax.proofs.TreeNames.{template_mentions}

pub partials_mention : (N : Names) (es : List (String Global × Option Template)) → list_any N (partials_names (filled (seen (option_map tree_of) es))) ≡ list_any N (partials_list_names (values_of es))
unfolding partials_names partials_list_names
partials_mention N [] = refl
partials_mention N (e ∷ es) = on e.1 (partials_mention N es)
  where
    on : (held : Option Template) → list_any N (partials_names (filled (seen (option_map tree_of) es))) ≡ list_any N (partials_list_names (values_of es))
        → list_any N (partials_names (with_held (string_bytes e.0) (option_map tree_of held) (filled (seen (option_map tree_of) es)))) ≡ list_any N (held_names held ++ partials_list_names (values_of es))
    on None rest = rest
    on (Some t) rest =
        any_both (nodes_names (tree_of t)) (partials_names (filled (seen (option_map tree_of) es))) N
        ∙ (λ i. template_mentions t N i || rest i)
        ∙ sym (any_both (list_names (template_nodes t)) (partials_list_names (values_of es)) N)

pub none_held : (s : BTreeSet (String Global)) (name : Text) → s.keys ≡ [] → mentioned_in_set s name ≡ false
unfolding mentioned_in_set
none_held s name empty = ap (λ ks. list_any (is_at (λ k. slice_cmp nat_cmp name (string_bytes k))) ks) empty

-- the names that are gathered from nothing
pub all_gathered : (t : Template) (es : List (String Global × Option Template)) (none some all : BTreeSet (String Global)) → none.keys ≡ [] → mentioned_in_set some ≡ added (list_names (template_nodes t)) (mentioned_in_set none) → mentioned_in_set all ≡ added (partials_list_names (values_of es)) (mentioned_in_set some)
    → mentioned_in_set all ≡ mentioned (run_names (filled (seen (option_map tree_of) es)) (tree_of t))
unfolding added
all_gathered t es none some all empty first then = fun_ext (λ name.
    ap (λ h. h name) then
    ∙ ap (λ h. h name || mentioned (partials_list_names (values_of es)) name) first
    ∙ ap (λ b. (b || mentioned (list_names (template_nodes t)) name) || mentioned (partials_list_names (values_of es)) name) (none_held none name empty)
    ∙ sym (mentioned_both (nodes_names (tree_of t)) (partials_names (filled (seen (option_map tree_of) es))) name ∙ (λ i. template_mentions t (same_text name) i || partials_mention (same_text name) es i)))
