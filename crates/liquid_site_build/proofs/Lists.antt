-- Lists that a loop adds to.
use Rattle.std.proofs.Common.{◌≡◌, List, [], ◌∷◌, ◌++◌, map, refl, sym, ap, ◌∙◌, append_assoc}
use Rattle.liquid_site_build.specs.Built.{SiteRules, document_outcome, outcome_by}
use Rattle.liquid_site_build.specs.Sources.{SiteSources, SiteTexts}
use Rattle.liquid_site_build.specs.inside.Parts.{outcome_of_part, with_contents}

-- one more is done, and one fewer is left
pub one_more : {X Y : Type 0} (f : X → Y) (done new all : List Y) (x : X) (y : Y) (rest : List X) → new ≡ done ++ y ∷ [] → y ≡ f x → done ++ map f (x ∷ rest) ≡ all → new ++ map f rest ≡ all
one_more f done new all x y rest e h k = ap (λ l. l ++ map f rest) e ∙ append_assoc done (y ∷ []) (map f rest) ∙ ap (λ z. done ++ z ∷ map f rest) h ∙ k

-- what documents come to, by their contents
pub parts_outcomes : (rules : SiteRules) (s : SiteSources) (ds : SiteTexts) → map (outcome_of_part rules s) (with_contents rules s ds) ≡ map (outcome_by (document_outcome rules s)) ds
parts_outcomes rules s [] = refl
parts_outcomes rules s (d ∷ ds) = ap (λ os. outcome_by (document_outcome rules s) d ∷ os) (parts_outcomes rules s ds)
