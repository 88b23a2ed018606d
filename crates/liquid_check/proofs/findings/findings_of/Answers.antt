use Rattle.std.proofs.Common.{◌∙◌, refl, rules, string_bytes}
use Rattle.liquid_syntax.specs.Templates.{tree_of}
use Rattle.liquid_check.specs.Views.{findings_view}
use Rattle.liquid_check.proofs.Rounds.{silent_at_end, rounds_more, first_more, few_more, round_of}
use Rattle.liquid_check.proofs.findings.findings_of.Goals as goal

pub returns-in-Ok-clause-silent : goal.returns-in-Ok-clause-silent
returns-in-Ok-clause-silent c =
    silent_at_end c.args.language.now c.args.source.now c.as_str.result.now (findings_view c.rounds.findings.items) (tree_of c.in-Ok.template) (rw (c.as_str.ensures.value) c.rounds.invariant.rounds) c.rounds.invariant.first c.in-Ok.ensures.parses

pub rounds-preserved : goal.rounds-preserved
rounds-preserved c = record {
  rounds = rounds_more c.args.language.now c.args.source.now (string_bytes c.rounds.rest) (string_bytes c.in_ok-blanked.blanked) c.rounds.findings.items c.push.new.self.items _ c.in_ok-push.ensures.items c.rounds.invariant.rounds
      (round_of c.args.language.now (string_bytes c.rounds.rest) c.as_str.result.now c.as_str-in-rounds.result.now c.in_ok-part.part.front.now c.in_ok-part.part.piece.now c.in_ok-part.part.after.now (string_bytes c.in_ok-blanked.blanked) _
      c.as_str.ensures.value c.as_str-in-rounds.ensures.value (search rules) c.in-Err.ensures.parses c.in-Err.ensures.kinds refl refl c.in_ok-part.ensures.part c.in_ok-blanked.ensures);
  first = first_more c.rounds.findings.items c.push.new.self.items _ c.in_ok-push.ensures.items c.rounds.invariant.first (λ e. c.follows.ensures (c.deref.ensures.value ∙ e));
  few = few_more c.rounds.findings.items c.push.new.self.items _ c.in_ok-push.ensures.items (search rules);
}
