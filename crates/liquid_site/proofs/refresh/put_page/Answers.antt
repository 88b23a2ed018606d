use Rattle.std.proofs.Common.{string_bytes, ap, ◌∙◌}
use Rattle.std.specs.Map.{lookup}
use Rattle.liquid_language.specs.Entries.{seen, put_entry}
use Rattle.liquid_syntax.specs.Templates.{tree_of}
use Rattle.liquid_language.proofs.Inserted.{named, seen_inserted}
use Rattle.liquid_site.specs.Parts.{by_name}
use Rattle.liquid_site.proofs.Entries.{taken_back}
use Rattle.liquid_site.proofs.refresh.put_page.Goals as goal

pub returns-in-Ok-clause-templates : goal.returns-in-Ok-clause-templates
returns-in-Ok-clause-templates g c = ap (seen tree_of) c.in_ok-insert.ensures.entries ∙ seen_inserted tree_of c.args.templates.now.entries c.args.name c.args.rendered.0

pub returns-in-Ok-clause-pages : goal.returns-in-Ok-clause-pages
returns-in-Ok-clause-pages g c =
    ap (seen (λ p. p)) c.in-Ok.ensures.entries ∙ seen_inserted (λ p. p) c.args.pages.now.entries c.in_ok-own.own c.args.rendered.1
    ∙ ap (λ n. put_entry n c.args.rendered.1 (by_name c.args.pages.now)) (c.in_ok-own.ensures.ok ∙ c.as_str.ensures.value)

pub returns-in-Err-clause-templates_unchanged : goal.returns-in-Err-clause-templates_unchanged
returns-in-Err-clause-templates_unchanged g c =
    let own = c.as_str-in-Err.ensures.value ∙ ap (λ p. string_bytes p.0) c.in-Err.ensures.value_returned in
    taken_back tree_of (λ p. p) c.args.name c.as_str-in-Err.result.now c.args.rendered.0 c.args.templates.now.entries c.insert.new.self.entries c.remove.new.self.entries c.args.pages.now.entries c.requires
    (own ∙ c.in_ok-own.ensures.ok ∙ c.as_str.ensures.value) (ap (λ n. lookup (named n) c.args.pages.now.entries) own ∙ c.in-Err.ensures.absent) c.in_ok-insert.ensures.entries c.remove.ensures.entries
