-- Reading the include of jekyll, path by path.
use Rattle.std.proofs.Common.{◌≡◌, List, [], ◌∷◌, ◌++◌, Option, Some, None, refl, sym, ap, subst, ◌∙◌}
use Rattle.std.specs.Prelude.{Err}
use Rattle.std.specs.Option.{option_map}
use Rattle.liquid_core.specs.Expression.{Expression}
use Rattle.liquid_core.specs.ExpressionView.{expression_view}
use Rattle.liquid_model.specs.Texts.{Text}
use Rattle.liquid_lexer.specs.Readers.{Fails}
use Rattle.liquid_lexer.specs.Tokens.{Token, tokens_view, value_first}
use Rattle.liquid_lexer.specs.PieceView.{lexed_items_view}
use Rattle.liquid_lexer.proofs.Seen.{seen_tokens}
use Rattle.liquid_lexer.specs.declared.item.Item.{Item}
use Rattle.liquid_lexer.specs.declared.item.Item.TheVariants.{Value, Range, Symbol}
use Rattle.liquid_lexer.specs.declared.fault.ParseError.{ParseError}
use Rattle.liquid_lexer.specs.declared.fault.ParseError.TheVariants as errors
use Rattle.liquid_evaluation.specs.Tree.{Bindings, Node}
use Rattle.liquid_parser.specs.Bound.{bound_pairs}
use Rattle.liquid_parser.specs.inside.Classifies.{Classifies}
use Rattle.liquid_parser.specs.inside.PartialAnswers.{first_spelling}
use Rattle.liquid_parser.specs.Classification.{leaf_or}
use Rattle.liquid_parser.specs.PartialItems.{jekyll_of, spelled_name}
use Rattle.liquid_syntax.specs.Flats.{bindings_view}
use Rattle.liquid_syntax.specs.declared.node.Binding.{Binding}
use Rattle.liquid_parser.specs.declared.pair_items.PairStyle.TheVariants.{JekyllInclude}

pub malformed : {A : Type 0} (make : A → Node) (o : Option A) (e : ParseError) → Fails e o → Classifies (leaf_or (option_map make o)) (Err e)
malformed make o errors.Memory h = tt
malformed make o (errors.Fault f) h = ap (λ (o : Option _). leaf_or (option_map make o)) h

unmapped : (o : Option Bindings) (ps : Bindings) → option_map (λ qs. [] ++ qs) o ≡ Some ps → o ≡ Some ps
unmapped None ps h = absurd cc
unmapped (Some qs) ps h = h

nothing_read : (bs : List Binding) (o : Option Bindings) → option_map (λ qs. bindings_view bs ++ qs) o ≡ None → o ≡ None
nothing_read bs None h = refl
nothing_read bs (Some qs) h = absurd cc

-- after no others
pub pairs_alone : (bs : List Binding) (o : Option Bindings) (ps : Bindings) → bs ≡ [] → option_map (λ qs. bindings_view bs ++ qs) o ≡ Some ps → o ≡ Some ps
pairs_alone bs o ps none h = unmapped o ps (subst (λ (bs : List Binding). option_map (λ qs. bindings_view bs ++ qs) o ≡ Some ps) none h)

jekyll_named : (is : List Item) (us : List Token) (x : Expression) (s : Text) → Some (x, us) ≡ value_first (tokens_view is) → Some s ≡ first_spelling (lexed_items_view is)
    → jekyll_of (lexed_items_view is) ≡ option_map (λ ps. (spelled_name x s, ps)) (bound_pairs JekyllInclude us)
jekyll_named [] us x s front spelled = absurd cc
jekyll_named (Value y t ∷ is) us x s front spelled =
    let said : t.now ≡ s = cc in
    let same : (expression_view y, tokens_view is) ≡ (x, us) = cc in
    ap (λ (ts : List Token). option_map (λ ps. (spelled_name (expression_view y) t.now, ps)) (bound_pairs JekyllInclude ts)) (seen_tokens is)
    ∙ ap (λ (z : Expression × List Token). option_map (λ ps. (spelled_name z.0 t.now, ps)) (bound_pairs JekyllInclude z.1)) same
    ∙ ap (λ (s : Text). option_map (λ ps. (spelled_name x s, ps)) (bound_pairs JekyllInclude us)) said
jekyll_named (Range y z ∷ is) us x s front spelled = absurd cc
jekyll_named (Symbol t ∷ is) us x s front spelled = absurd cc

pub jekyll_stuck : (is : List Item) → None ≡ first_spelling (lexed_items_view is) → jekyll_of (lexed_items_view is) ≡ None
jekyll_stuck [] none = refl
jekyll_stuck (Value y t ∷ is) none = absurd cc
jekyll_stuck (Range y z ∷ is) none = refl
jekyll_stuck (Symbol t ∷ is) none = refl

-- after the name
module _ (is : List Item) (us : List Token) (x : Expression) (s : Text) (front : Some (x, us) ≡ value_first (tokens_view is)) (spelled : Some s ≡ first_spelling (lexed_items_view is)) where
  pub jekyll_read : (w : Text) (ps : Bindings) → w ≡ spelled_name x s → bound_pairs JekyllInclude us ≡ Some ps → jekyll_of (lexed_items_view is) ≡ Some (w, ps)
  jekyll_read w ps named read =
      jekyll_named is us x s front spelled ∙ ap (λ (o : Option Bindings). option_map (λ ps. (spelled_name x s, ps)) o) read ∙ ap (λ (w : Text). Some (w, ps)) (sym named)

  pub jekyll_refused : (bs : List Binding) (e : ParseError) → bs ≡ [] → Fails e (option_map (λ qs. bindings_view bs ++ qs) (bound_pairs JekyllInclude us)) → Fails e (jekyll_of (lexed_items_view is))
  jekyll_refused bs errors.Memory none h = tt
  jekyll_refused bs (errors.Fault f) none h = jekyll_named is us x s front spelled ∙ ap (option_map (λ ps. (spelled_name x s, ps))) (nothing_read bs (bound_pairs JekyllInclude us) h)
