-- Uses that include what a run asks serve it.
use Rattle.std.specs.Prelude.{◌≡◌, Bool, true, List, T}
use mathlib.Core.Path.{refl, sym, subst}
use Rattle.liquid_model.specs.Texts.{Text}
use Rattle.liquid_model.specs.Uses.{includes, includes_fields, parts, uncounted}
use Rattle.liquid_model.specs.UseViews.{members_view, uses_view}
use Rattle.liquid_model.proofs.Alike.{included_alike}
use Rattle.liquid_evaluation.specs.Tree.{Nodes}
use Rattle.liquid_uses.proofs.AskedTogether.{all_asked}
use Rattle.liquid_c.specs.Served.{Covers, UsesByName}

holds : (b : Bool) → b ≡ true → T b
holds b is = subst T (sym is) tt

pub serves : (partials : List (Text × Nodes)) (nodes : Nodes) (uses asked : UsesByName) → Covers partials nodes asked
    → includes_fields (parts (members_view uses.entries) uncounted) (members_view asked.entries) ≡ true → Covers partials nodes uses
serves partials nodes uses asked covers is = record {
  over = covers.over;
  same = covers.same;
  alone = λ named depth missing ps qs alike. covers.alone named depth missing ps qs
      (λ name. included_alike (uses_view uses name) (uses_view asked name) _ _
      (holds _ (all_asked uses asked _ refl is name)) (alike name));
}
