-- The layouts around a page, from the inmost one on.
--     layout_named front      the layout that front matter names
--     layout_chain layouts front      the layouts one after another, or why there is no such chain
--     WithoutFuel      the bound in the recursion is none of the answer
use Rattle.std.specs.Prelude.{◌≡◌, ◌≤◌, ℕ, zero, suc, ◌||◌, Bool, cond, List, [], ◌∷◌, length}
use Rattle.std.specs.Prelude.{bytes_eq, codes, Option, Some, None, is_some, Result, Ok, Err}
use Rattle.liquid_model.specs.Data.{Datum, nil, truth, number, text, array, object, Pairs}
use Rattle.liquid_model.specs.Find.{value_at}
use Rattle.liquid_model.specs.Maps.{listed}
use Rattle.liquid_model.specs.Texts.{Text}
use Rattle.liquid_language.specs.Entries.{without}
use Rattle.liquid_site_build.specs.Sources.{SiteText, SiteTexts}

-- a text names a layout, but for `none` and the empty one
abbrev pub layout_by : Option Datum → Option Text
layout_by (Some (text s)) = cond (bytes_eq s [] || bytes_eq s (codes "none")) None (Some s)
layout_by _ = None

abbrev pub layout_named : Pairs → Option Text
layout_named front = layout_by (value_at (codes "layout") front)

pub data ChainFault : Type 0 where
  -- no layout has the name
  no_layout : Text → ChainFault
  -- the layout is around itself
  meets_itself : Text → ChainFault

abbrev pub chain_fault_at : SiteTexts → Text → ChainFault
chain_fault_at all name = cond (is_some (listed all name)) (meets_itself name) (no_layout name)

abbrev pub LayoutChain : Type 0
LayoutChain = Result (List SiteText) ChainFault

abbrev pub within_layout : SiteText → LayoutChain → LayoutChain
within_layout l (Ok ls) = Ok (l ∷ ls)
within_layout l (Err fault) = Err fault

-- the layout that was found, and those that next gives for the layout that it names
abbrev pub chained : (Option Text → LayoutChain) → ChainFault → Option SiteText → LayoutChain
chained next fault None = Err fault
chained next fault (Some l) = within_layout l (next (layout_named l.front))

-- each layout is taken out of those that are left, so one that comes again isn't found there
abbrev pub chain_from : ℕ → SiteTexts → SiteTexts → Option Text → LayoutChain
chain_from zero all left None = Ok []
chain_from zero all left (Some name) = Err (chain_fault_at all name)
chain_from (suc n) all left None = Ok []
chain_from (suc n) all left (Some name) =
    chained (chain_from n all (without name left)) (chain_fault_at all name) (listed left name)

abbrev pub layout_chain : SiteTexts → Pairs → LayoutChain
layout_chain layouts front = chain_from (length layouts) layouts layouts (layout_named front)

-- any bound that is no less than the number of layouts gives the same chain
abbrev pub WithoutFuel : Type 0
WithoutFuel = (n : ℕ) (layouts : SiteTexts) (front : Pairs) → length layouts ≤ n →
    chain_from n layouts layouts (layout_named front) ≡ layout_chain layouts front
