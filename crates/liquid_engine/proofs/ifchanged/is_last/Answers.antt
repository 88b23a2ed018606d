use Rattle.std.proofs.Common.{sym, ap, ◌∙◌}
use Rattle.liquid_model.specs.Texts.{same_text}
use Rattle.liquid_engine.proofs.Interrupts.{is_the_last, is_the_first}
use Rattle.liquid_engine.proofs.ifchanged.is_last.Goals as goal

pub returns-in-Some : goal.returns-in-Some
returns-in-Some c =
    c.eq.ensures ∙ ap (λ t. same_text t c.args.text.now) c.as_str.ensures.value ∙ sym (is_the_last c.args.state.now c.in-Some.last c.args.text.now c.in-Some.is)

pub returns-in-None : goal.returns-in-None
returns-in-None c = sym (is_the_first c.args.state.now c.args.text.now c.in-None.is)
