-- What partials read where they are included, name by name and slot by slot.
use Rattle.std.specs.Prelude.{T}
use Rattle.std.proofs.Common.{◌≡◌, Bool, true, false, not, ◌&&◌, ◌||◌, cond, List, [], ◌∷◌, Option, Some, None, option_map, String, Global, string_bytes, nat_cmp, is_eq, refl, sym, ap, ◌∙◌, subst}
use Rattle.std.specs.BTreeMap.{is_at}
use Rattle.std.specs.Cmp.Lexicographic.{slice_cmp, bytes_decides}
use Rattle.std.proofs.lemmas.Map.Text.{is_eq-slice_cmp}
use Rattle.liquid_model.specs.Maps.{listed}
use Rattle.liquid_model.specs.Texts.{Text, same_text}
use Rattle.liquid_model.specs.declared.value.Value.{Text as TextValue}
use Rattle.liquid_model.proofs.Maps.{same_text_equal}
use Rattle.liquid_model.proofs.Views.{view-Text}
use Rattle.liquid_core.specs.Environment.{Names}
use Rattle.liquid_core.specs.Expression.{literal}
use Rattle.liquid_core.specs.ExpressionView.{expression_view}
use Rattle.liquid_core.specs.declared.expression.Expression.TheVariants.{Literal}
use Rattle.liquid_core.proofs.ExpressionViews.{literal_is}
use Rattle.liquid_language.specs.Entries.{seen}
use Rattle.liquid_evaluation.specs.Names.{mentioned}
use Rattle.liquid_evaluation.specs.Tree.{Nodes}
use Rattle.liquid_meaning.specs.FreeNames.{CoversPartials, PartialsRead, literal_name, nodes_reads, unbound}
use Rattle.liquid_syntax.specs.Slots.{filled}
use Rattle.liquid_syntax.specs.Templates.{tree_of}
use Rattle.liquid_syntax.specs.declared.template.Template.{Template}
use Rattle.liquid_uses.specs.inside.Readings.{Entry, SlotsKnown, reads_in}
use Rattle.liquid_uses.specs.inside.Telling.{either_test}
use Rattle.liquid_uses.proofs.WholeNames.{among}

truth : (b : Bool) → T b → b ≡ true
truth true h = refl
truth false h = absurd h

first_true : (a b : Bool) → T (a && b) → T a
first_true true b h = tt
first_true false b h = absurd h

second_true : (a b : Bool) → T (a && b) → T b
second_true true b h = h
second_true false b h = absurd h

both_true : (a b : Bool) → T a → T b → T (a && b)
both_true true b h k = k
both_true false b h k = absurd h

-- ---- the names that were found of a partial

-- each of the names that are left is one of V, or bound by the pairs
abbrev pub AllSeen : (Text → Type 0) → List Text → List (String Global) → Type 0
AllSeen V names left = (q : Text) → T (unbound names (λ r. among r left) q) → V q

pub none_left : (V : Text → Type 0) (names : List Text) → AllSeen V names []
none_left V names q h = absurd (second_true (not (mentioned names q)) false h)

pub one_seen : (V : Text → Type 0) (names : List Text) (k : String Global) (left : List (String Global)) → (T (not (mentioned names (string_bytes k))) → V (string_bytes k)) → AllSeen V names left → AllSeen V names (k ∷ left)
one_seen V names k left own more q h =
    let free = first_true (not (mentioned names q)) _ h in
    either_test (is_eq (slice_cmp nat_cmp q (string_bytes k))) (among q left) (second_true (not (mentioned names q)) _ h)
    (λ t. let same : q ≡ string_bytes k = (bytes_decides q (string_bytes k)).0 (sym (is_eq-slice_cmp q (string_bytes k)) ∙ truth _ t) in
    subst V (sym same) (own (subst (λ z. T (not (mentioned names z))) same free)))
    (λ t. more q (both_true (not (mentioned names q)) (among q left) free t))

-- ---- the name that stands at an include

pub literal_named : (s : String Global) → literal_name (expression_view (Literal (TextValue s))) ≡ Some (string_bytes s)
literal_named s = ap literal_name (literal_is (TextValue s) ∙ ap literal (view-Text s))

-- ---- slots

same_nodes : (m n : Nodes) → Some m ≡ Some n → m ≡ n
same_nodes m n e = cc

-- the slot of a name, or one after it
one_slot : (es : List Entry) (k : Text) (t : Template) (name : Text) (nodes : Nodes) (q : Text) (rest : Option Nodes) (b : Bool) → same_text k name ≡ b
    → ((u : Text) → T (nodes_reads (reads_in es) (tree_of t) u) → T (reads_in es (Some k) u)) → (rest ≡ Some nodes → T (reads_in es (Some name) q))
    → cond b (Some (tree_of t)) rest ≡ Some nodes → T (nodes_reads (reads_in es) nodes q) → T (reads_in es (Some name) q)
one_slot es k t name nodes q rest true same own more is h =
    subst (λ n. T (reads_in es (Some n) q)) (same_text_equal k name (subst (λ c. T c) (sym same) tt))
    (own q (subst (λ ns. T (nodes_reads (reads_in es) ns q)) (sym (same_nodes (tree_of t) nodes is)) h))
one_slot es k t name nodes q rest false same own more is h = more is

pub slots_cover : (es : List Entry) (slots : List (String Global × Option Template)) → SlotsKnown es slots → CoversPartials (reads_in es) (filled (seen (option_map tree_of) slots))
unfolding listed
slots_cover es [] known name nodes is q h = absurd cc
slots_cover es ((k, None) ∷ more) known name nodes is q h = slots_cover es more known.1 name nodes is q h
slots_cover es ((k, Some t) ∷ more) known name nodes is q h =
    (one_slot es (string_bytes k) t name nodes q (listed (filled (seen (option_map tree_of) more)) name) (same_text (string_bytes k) name) refl known.0 (λ found. (slots_cover es more known.1 name nodes found q h).0) is h, tt)
