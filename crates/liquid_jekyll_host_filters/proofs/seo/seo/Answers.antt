use Rattle.std.proofs.Common.{subst, sym}
use Rattle.liquid_model.specs.Answer.{Answers}
use Rattle.liquid_model.specs.View.{view}
use Rattle.liquid_jekyll_host_filters.proofs.Linked.{seo_split}
use Rattle.liquid_jekyll_host_filters.proofs.seo.seo.Goals as goal

pub returns-in-len1-up : goal.returns-in-len1-up
returns-in-len1-up c = subst (Answers view c.given_text.result) (sym (seo_split (view c.args.input.now) c.args.args.now c.given-item.result c.in-len1-up.len_at_least c.given-item.is)) c.given_text.ensures
