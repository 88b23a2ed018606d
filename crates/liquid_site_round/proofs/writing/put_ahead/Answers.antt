use Rattle.std.proofs.Common.{◌≡◌, ◌++◌, ◌∙◌, Ok, refl, sym}
use Rattle.std.proofs.lemmas.Result.{err_from_is_err_and}
use Rattle.liquid_language.specs.Entries.{seen}
use Rattle.liquid_site_round.specs.SiteWriting.{built_file_view, list_ahead, list_name}
use Rattle.liquid_site_round.specs.declared.writing.SiteStop.{SiteStop}
use Rattle.liquid_site_round.proofs.Names.{words}
use Rattle.liquid_site_round.proofs.Setting.{ahead_none, ahead_set, none_set}
use Rattle.liquid_site_round.proofs.writing.put_ahead.Goals as goal

pub returns-then-is_of : goal.returns-then-is_of
returns-then-is_of g c =
    ahead_none {E = SiteStop} _ (c.args.out.now ++ list_name) c.args.built.0.now c.args.before.held.now (seen built_file_view c.args.built.1.now.entries) (words c.args.before.names.now) c.is_of.result (Ok tt) tt c.requires.held c.is_of.ensures c.requires.built c.if-is_of.true refl

pub returns-in_err-ahead : goal.returns-in_err-ahead
returns-in_err-ahead g c =
    none_set _ (list_ahead (c.args.out.now ++ list_name) (seen built_file_view c.args.built.1.now.entries) (words c.args.before.names.now)) _ _ (err_from_is_err_and c.from_residual.result c.from_residual.ensures.1).1

pub returns : goal.returns
returns g c =
    ahead_set _ _ (c.args.out.now ++ list_name) _ c.args.built.0.now c.as_str.result.now c.args.before.held.now (seen built_file_view c.args.built.1.now.entries) (words c.args.before.names.now) c.is_of.result _ c.requires.held c.is_of.ensures c.requires.built c.if-is_of.false
    refl (c.as_str.ensures.value ∙ c.in_ok-ahead.ensures) c.write_file.ensures
