-- The parts of a site, as contracts see them.
use Rattle.std.specs.Prelude.{List, map, String, string_bytes}
use Rattle.std.specs.BTreeMap.{BTreeMap}
use Rattle.std.specs.declared.alloc.Global.{Global}
use Rattle.liquid_model.specs.Texts.{Text}
use Rattle.liquid_model.specs.declared.value.Value.{Value}
use Rattle.liquid_core.specs.Held.{held}
use Rattle.liquid_language.specs.Entries.{seen}
use Rattle.liquid_syntax.specs.Templates.{tree_of, partials_of}
use Rattle.liquid_syntax.specs.declared.partials.Partials.{Partials}
use Rattle.liquid_syntax.specs.declared.template.Template.{Template}
use Rattle.liquid_engine.specs.Pages.{page_view}
use Rattle.liquid_engine.specs.declared.rendered_page.Page.{Page}
use Rattle.liquid_engine.specs.declared.run_setting.RunSetting.{RunSetting}
use Rattle.liquid_site.specs.Contents.{Trees, Contents, Pages}

abbrev pub pages_in : BTreeMap (String Global) Page → Pages
pages_in pages = seen page_view pages.entries

-- pages by name, whatever they are
abbrev pub by_name : {P : Type 0} → BTreeMap (String Global) P → List (Text × P)
by_name pages = seen (λ p. p) pages.entries

abbrev pub trees_in : BTreeMap (String Global) Template → Trees
trees_in templates = seen tree_of templates.entries

abbrev pub contents_in : RunSetting → BTreeMap (String Global) Template → Partials →
    BTreeMap (String Global) Value → Contents
contents_in setting templates partials «data» = record {
  setting = setting;
  pages = trees_in templates;
  partials = partials_of partials;
  «data» = held «data»;
}
