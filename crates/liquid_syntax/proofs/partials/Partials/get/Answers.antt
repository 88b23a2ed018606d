use Rattle.std.proofs.Common.{◌≡◌, ◌≤◌, Option, Some, None, Bor, option_map, IfSome, refl, sym, ap, ◌∙◌}
use Rattle.std.specs.Option.{option_copied}
use Rattle.liquid_syntax.specs.Templates.{tree_of, node_count_of, most_nodes}
use Rattle.liquid_syntax.specs.declared.template.Template.{Template}
use Rattle.liquid_syntax.proofs.Held.{held_found}
use Rattle.liquid_language.proofs.Inserted.{named}
use Rattle.liquid_syntax.proofs.Sizes.{small_found}
use Rattle.liquid_syntax.proofs.partials.Partials.get.Goals as goal

copied : (r : Option (Bor Template)) → option_map (λ t. tree_of t.now) r ≡ option_map tree_of (option_copied r)
copied None = refl
copied (Some t) = refl

pub returns-in-Some-clause-found : goal.returns-in-Some-clause-found
returns-in-Some-clause-found c =
    copied c.as_ref.result ∙ ap (option_map tree_of) c.as_ref.ensures.value
    ∙ sym (held_found tree_of c.args.name.now c.args.self.now.templates.entries (Some c.in-Some.slot.now) c.len.ensures.ordered (sym (ap option_copied c.in-Some.is) ∙ c.get.ensures.value))

pub returns-in-Some-clause-small : goal.returns-in-Some-clause-small
returns-in-Some-clause-small c = on c.as_ref.result c.as_ref.ensures.value
  where
    on : (r : Option (Bor Template)) → option_copied r ≡ c.in-Some.slot.now → IfSome r (λ t. node_count_of t.now ≤ most_nodes c.args.self.now.templates.entries)
    on None h = tt
    on (Some t) h = small_found t.now (named c.args.name.now) c.args.self.now.templates.entries (ap Some h ∙ (sym (ap option_copied c.in-Some.is) ∙ c.get.ensures.value))

pub returns-in-None-clause-found : goal.returns-in-None-clause-found
returns-in-None-clause-found c = sym (held_found tree_of c.args.name.now c.args.self.now.templates.entries None c.len.ensures.ordered (sym (ap option_copied c.in-None.is) ∙ c.get.ensures.value))
