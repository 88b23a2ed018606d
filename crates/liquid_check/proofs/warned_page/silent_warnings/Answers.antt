use Rattle.std.proofs.Common.{refl}
use Rattle.liquid_warnings.specs.declared.written_for.WrittenFor.TheVariants.{Bikleinu}
use Rattle.liquid_check.proofs.Warned.{of_one_file, says_silent}
use Rattle.liquid_check.proofs.warned_page.silent_warnings.Goals as goal

pub returns-clause-warned : goal.returns-clause-warned
returns-clause-warned c =
    let warned = of_one_file _ _ c.in_ok-lists.lists.items c.pop.new.self.items c.in-Some.remarks c.in-Some.ensures.items c.in_ok-lists.ensures.warned in (
      c.in_ok-warnings.warnings.items,
      says_silent Bikleinu c.args.missing c.args.read.template.now c.in_ok-warnings.warnings.items _ _ c.in-Some.remarks.items warned refl refl refl refl refl c.in_ok-warnings.ensures,
      c.truncate.ensures.items,
    )
