-- Pages that are rendered again, and put in the place of those before.
use Rattle.std.specs.Prelude.{Bool, true, List, [], ◌∷◌, filter, map, String, string_bytes}
use Rattle.std.specs.List.{list_any}
use Rattle.std.specs.declared.alloc.Global.{Global}
use Rattle.liquid_model.specs.Texts.{Text}
use Rattle.liquid_evaluation.specs.Tree.{Nodes}
use Rattle.liquid_evaluation.specs.Names.{mentioned, nodes_names}
use Rattle.liquid_language.specs.Entries.{placed}
use Rattle.liquid_syntax.specs.NameSets.{mentioned_in_set}
use Rattle.liquid_site.specs.Contents.{Trees}
use Rattle.liquid_site.specs.declared.selection.Selection.{Selection}
use Rattle.liquid_site.specs.declared.selection.Selection.TheVariants.{All, Naming, NamingAny}

-- all pages, or those whose template mentions the name or one of the names
abbrev pub selects : Selection → Nodes → Bool
selects All nodes = true
selects (Naming name) nodes = mentioned (nodes_names nodes) name.now
selects (NamingAny names) nodes = list_any (mentioned_in_set names.now) (nodes_names nodes)

abbrev pub selected : (Nodes → Bool) → Trees → Trees
selected test pages = filter (λ p. test p.1) pages

module _ {P : Type 0} where
  abbrev pub all_placed : List (Text × P) → List (Text × P) → List (Text × P)
  all_placed [] pages = pages
  all_placed (q ∷ qs) pages = all_placed qs (placed q.0 q.1 pages)

  -- a page under its name, and pages in a list
  abbrev pub named_page : String Global × P → Text × P
  named_page p = (string_bytes p.0, p.1)

  abbrev pub listed_pages : List (String Global × P) → List (Text × P)
  listed_pages ps = map named_page ps
