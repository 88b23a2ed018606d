-- The items of a `render` are read just where the grammar says so.
use Rattle.std.proofs.Common.{◌≡◌, List, ◌∷◌, codes, Option, Some, None, refl, sym, ap, subst, ◌∙◌}
use Rattle.std.specs.Option.{option_and_then, option_map}
use Rattle.liquid_core.specs.Expression.{Expression}
use Rattle.liquid_model.specs.Texts.{Text}
use Rattle.liquid_lexer.specs.Tokens.{Token, value, word, value_first, word_first, past_word}
use Rattle.liquid_model.proofs.WordLaws.{bind_some, map_some}
use Rattle.liquid_evaluation.specs.Tree.{Bindings, Source, each_of, counted}
use Rattle.liquid_parser.specs.Bound.{ArePairs, after_comma, last_comma, no_item, bound_pairs, unseparated}
use Rattle.liquid_parser.specs.Loops.{read_or_else, source_first, source_token}
use Rattle.liquid_parser.specs.PartialItems.{IsRender, Rendered, each_first, for_each_of, render_of, rendered_each, rendered_of, rendered_once, rendered_with, with_first, with_one, without}
use Rattle.liquid_parser.specs.Repeated.{no_more, one_more}
use Rattle.liquid_parser.specs.declared.pair_items.PairStyle.TheVariants.{Render}
use Rattle.liquid_parser.proofs.ItemLaws.{first_source, pairs_again, pairs_takes}
use Rattle.liquid_parser.proofs.Printed.{first_word}
use Rattle.liquid_parser.proofs.TokenLaws.{first_value, past_word_is}

-- ---- what is read is written so

with_takes : (ts : List Token) (p : Text × Expression) (rest : List Token) → with_first ts ≡ Some (p, rest) → ts ≡ value p.1 ∷ word (codes "as") ∷ word p.0 ∷ rest
with_takes ts p rest h =
    let (x, front, more) = bind_some (value_first ts) _ (p, rest) h in
    let (mid, following, named) = bind_some (past_word (codes "as") x.1) _ (p, rest) more in
    let (w, last, same) = map_some (word_first mid) _ (p, rest) named in
    first_value ts x.0 x.1 front ∙ ap (λ (ts : List Token). value x.0 ∷ ts) (past_word_is (codes "as") x.1 mid following)
    ∙ ap (λ (ts : List Token). value x.0 ∷ word (codes "as") ∷ ts) (first_word mid w.0 w.1 last)
    ∙ ap (λ (y : (Text × Expression) × List Token). value y.0.1 ∷ word (codes "as") ∷ word y.0.0 ∷ y.1) same

each_takes : (ts : List Token) (e : Source × Text) (rest : List Token) → each_first ts ≡ Some (e, rest) → ts ≡ source_token e.0 ∷ word (codes "as") ∷ word e.1 ∷ rest
each_takes ts e rest h =
    let (s, front, more) = bind_some (source_first ts) _ (e, rest) h in
    let (mid, following, named) = bind_some (past_word (codes "as") s.1) _ (e, rest) more in
    let (w, last, same) = map_some (word_first mid) _ (e, rest) named in
    first_source ts s.0 s.1 front ∙ ap (λ (ts : List Token). source_token s.0 ∷ ts) (past_word_is (codes "as") s.1 mid following)
    ∙ ap (λ (ts : List Token). source_token s.0 ∷ word (codes "as") ∷ ts) (first_word mid w.0 w.1 last)
    ∙ ap (λ (y : (Source × Text) × List Token). source_token y.0.0 ∷ word (codes "as") ∷ word y.0.1 ∷ y.1) same

once_takes : (x : Expression) (r : Rendered) (ts : List Token) → rendered_once ts ≡ Some r → IsRender x r.0 r.1 (value x ∷ ts)
once_takes x r ts h =
    let (ps, read, same) = map_some (bound_pairs Render ts) _ r h in
    subst (λ (r : Rendered). IsRender x r.0 r.1 (value x ∷ ts)) same (without x (pairs_takes Render ps ts read))

after_with : (x : Expression) (r : Rendered) (ts following : List Token) → past_word (codes "with") ts ≡ Some following → rendered_with following ≡ Some r → IsRender x r.0 r.1 (value x ∷ ts)
after_with x r ts following e h =
    let (p, front, more) = bind_some (with_first following) _ r h in
    let (ps, read, same) = map_some (bound_pairs Render p.1) _ r more in
    let there : ts ≡ word (codes "with") ∷ value p.0.1 ∷ word (codes "as") ∷ word p.0.0 ∷ p.1 =
    past_word_is (codes "with") ts following e ∙ ap (λ (ts : List Token). word (codes "with") ∷ ts) (with_takes following p.0 p.1 front) in
    subst (λ (r : Rendered). IsRender x r.0 r.1 (value x ∷ ts)) same
    (subst (λ (ts : List Token). IsRender x None (p.0 ∷ ps) (value x ∷ ts)) (sym there) (with_one x p.0.1 p.0.0 (pairs_takes Render ps p.1 read)))

after_for : (x : Expression) (r : Rendered) (ts following : List Token) → past_word (codes "for") ts ≡ Some following → rendered_each following ≡ Some r → IsRender x r.0 r.1 (value x ∷ ts)
after_for x r ts following e h =
    let (each, front, more) = bind_some (each_first following) _ r h in
    let (ps, read, same) = map_some (bound_pairs Render each.1) _ r more in
    let there : ts ≡ word (codes "for") ∷ source_token each.0.0 ∷ word (codes "as") ∷ word each.0.1 ∷ each.1 =
    past_word_is (codes "for") ts following e ∙ ap (λ (ts : List Token). word (codes "for") ∷ ts) (each_takes following each.0 each.1 front) in
    subst (λ (r : Rendered). IsRender x r.0 r.1 (value x ∷ ts)) same
    (subst (λ (ts : List Token). IsRender x (Some each.0) ps (value x ∷ ts)) (sym there) (for_each_of x each.0.0 each.0.1 (pairs_takes Render ps each.1 read)))

for_or_once : (x : Expression) (r : Rendered) (ts : List Token) (o : Option (List Token)) → past_word (codes "for") ts ≡ o → read_or_else o rendered_each (rendered_once ts) ≡ Some r → IsRender x r.0 r.1 (value x ∷ ts)
for_or_once x r ts None e h = once_takes x r ts h
for_or_once x r ts (Some following) e h = after_for x r ts following e h

after_name : (x : Expression) (r : Rendered) (ts : List Token) (o : Option (List Token)) → past_word (codes "with") ts ≡ o → read_or_else o rendered_with (read_or_else (past_word (codes "for") ts) rendered_each (rendered_once ts)) ≡ Some r
    → IsRender x r.0 r.1 (value x ∷ ts)
after_name x r ts None e h = for_or_once x r ts (past_word (codes "for") ts) refl h
after_name x r ts (Some following) e h = after_with x r ts following e h

pub render_takes : (x : Expression) (each : Option (Source × Text)) (ps : Bindings) (ts : List Token) → render_of ts ≡ Some (x, (each, ps)) → IsRender x each ps ts
render_takes x each ps ts h =
    let (y, front, more) = bind_some (value_first ts) _ (x, (each, ps)) h in
    let (r, read, same) = map_some (rendered_of y.1) _ (x, (each, ps)) more in
    subst (λ (c : Expression × Rendered). IsRender c.0 c.1.0 c.1.1 ts) same
    (subst (λ (ts : List Token). IsRender y.0 r.0 r.1 ts) (sym (first_value ts y.0 y.1 front)) (after_name y.0 r y.1 (past_word (codes "with") y.1) refl read))

-- ---- what is written so is read

-- no pairs begin with a word
no_word : (w : Text) (ps : Bindings) (ts : List Token) → ArePairs Render ps ts → past_word w ts ≡ None
no_word w ps ts (no_more no_item) = refl
no_word w ps ts (no_more last_comma) = refl
no_word w ps ts (one_more (after_comma e is) more) = refl
no_word w ps ts (one_more (unseparated e is) more) = absurd cc

each_again : (s : Source) (w : Text) (ts : List Token) → each_first (source_token s ∷ word (codes "as") ∷ word w ∷ ts) ≡ Some ((s, w), ts)
each_again (each_of x) w ts = refl
each_again (counted x y) w ts = refl

each_with : (Source × Text) × List Token → Option Rendered
each_with e = option_map (λ ps. (Some e.0, ps)) (bound_pairs Render e.1)

of_name : Expression → Option Rendered → Option (Expression × Rendered)
of_name x o = option_map (λ r. (x, r)) o

pub render_again : (x : Expression) (each : Option (Source × Text)) (ps : Bindings) (ts : List Token) → IsRender x each ps ts → render_of ts ≡ Some (x, (each, ps))
unfolding each_with of_name
render_again x each ps ts (without {ts = us} y is) =
    ap (λ (o : Option (List Token)). of_name x (read_or_else o rendered_with (read_or_else (past_word (codes "for") us) rendered_each (rendered_once us)))) (no_word (codes "with") ps us is)
    ∙ ap (λ (o : Option (List Token)). of_name x (read_or_else o rendered_each (rendered_once us))) (no_word (codes "for") ps us is)
    ∙ ap (λ (o : Option Bindings). of_name x (option_map (λ ps. (None, ps)) o)) (pairs_again Render ps us is)
render_again x each ps ts (with_one {ps = qs} {ts = us} y z w is) =
    ap (λ (o : Option Bindings). of_name x (option_map (λ ps. (None, (w, z) ∷ ps)) o)) (pairs_again Render qs us is)
render_again x each ps ts (for_each_of {ps = qs} {ts = us} y s w is) =
    ap (λ (o : Option ((Source × Text) × List Token)). of_name x (option_and_then each_with o)) (each_again s w us)
    ∙ ap (λ (o : Option Bindings). of_name x (option_map (λ ps. (Some (s, w), ps)) o)) (pairs_again Render qs us is)
