-- The items of a tag that includes a partial are read just where the grammar says so.
use Rattle.std.proofs.Common.{◌≡◌, List, [], ◌∷◌, Option, Some, refl, sym, ap, subst}
use Rattle.std.specs.Option.{option_map}
use Rattle.liquid_core.specs.Expression.{Expression}
use Rattle.liquid_model.specs.Texts.{Text}
use Rattle.liquid_lexer.specs.Items as items
use Rattle.liquid_lexer.specs.Tokens.{Token, tokens_of, value, value_first}
use Rattle.liquid_lexer.specs.declared.symbol.Symbol.TheVariants.{Colon}
use Rattle.liquid_model.proofs.WordLaws.{bind_some, map_some, from_some}
use Rattle.liquid_evaluation.specs.Tree.{Bindings}
use Rattle.liquid_parser.specs.Bound.{a_pair, pair_first, bound_pairs}
use Rattle.liquid_parser.specs.PartialItems.{IsInclude, IsJekyllInclude, include_of, included_pairs, jekyll_name, jekyll_of, name_alone, name_and_pairs, spelled_name}
use Rattle.liquid_parser.specs.declared.pair_items.PairStyle.TheVariants.{Include, JekyllInclude}
use Rattle.liquid_parser.proofs.ItemLaws.{pair_takes, pairs_again, pairs_takes}
use Rattle.liquid_parser.proofs.TokenLaws.{first_value}

-- ---- include

after_name : (x : Expression) (ps : Bindings) (ts : List Token) → included_pairs ts ≡ Some ps → IsInclude x ps (value x ∷ ts)
after_name x ps [] h = subst (λ (ps : Bindings). IsInclude x ps (value x ∷ [])) (from_some h) (name_alone x)
after_name x ps (t ∷ ts) h =
    let (p, front, more) = bind_some (pair_first Colon (t ∷ ts)) _ ps h in
    let (qs, read, same) = map_some (bound_pairs Include p.1) (λ ps. p.0 ∷ ps) ps more in
    let (us, cut, is) = pair_takes Colon (t ∷ ts) p.0 p.1 front in
    subst (λ (ps : Bindings). IsInclude x ps (value x ∷ t ∷ ts)) same
    (subst (λ (ts : List Token). IsInclude x (p.0 ∷ qs) (value x ∷ ts)) (sym cut) (name_and_pairs x is (pairs_takes Include qs p.1 read)))

pub include_takes : (x : Expression) (ps : Bindings) (ts : List Token) → include_of ts ≡ Some (x, ps) → IsInclude x ps ts
include_takes x ps ts h =
    let (y, front, more) = bind_some (value_first ts) _ (x, ps) h in
    let (qs, read, same) = map_some (included_pairs y.1) _ (x, ps) more in
    subst (λ (r : Expression × Bindings). IsInclude r.0 r.1 ts) same
    (subst (λ (ts : List Token). IsInclude y.0 qs ts) (sym (first_value ts y.0 y.1 front)) (after_name y.0 qs y.1 read))

pub include_again : (x : Expression) (ps : Bindings) (ts : List Token) → IsInclude x ps ts → include_of ts ≡ Some (x, ps)
include_again x ps ts (name_alone y) = refl
include_again x ps ts (name_and_pairs {ps = qs} {us = us} y (a_pair w z) more) =
    ap (λ (o : Option Bindings). option_map (λ ps. (x, ps)) (option_map (λ ps. (w, z) ∷ ps) o)) (pairs_again Include qs us more)

-- ---- the include of jekyll

pub jekyll_takes : (w : Text) (ps : Bindings) (is : List items.Item) → jekyll_of is ≡ Some (w, ps) → IsJekyllInclude w ps is
jekyll_takes w ps [] h = absurd cc
jekyll_takes w ps (items.value x s ∷ is) h =
    let (qs, read, same) = map_some (bound_pairs JekyllInclude (tokens_of is)) (λ ps. (spelled_name x s, ps)) (w, ps) h in
    subst (λ (r : Text × Bindings). IsJekyllInclude r.0 r.1 (items.value x s ∷ is)) same (jekyll_name x s (pairs_takes JekyllInclude qs (tokens_of is) read))
jekyll_takes w ps (items.range x y ∷ is) h = absurd cc
jekyll_takes w ps (items.symbol s ∷ is) h = absurd cc

pub jekyll_again : (w : Text) (ps : Bindings) (is : List items.Item) → IsJekyllInclude w ps is → jekyll_of is ≡ Some (w, ps)
jekyll_again w ps is (jekyll_name {is = us} x s more) = ap (λ (o : Option Bindings). option_map (λ ps. (spelled_name x s, ps)) o) (pairs_again JekyllInclude ps (tokens_of us) more)
