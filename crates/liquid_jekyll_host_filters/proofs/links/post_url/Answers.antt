use Rattle.std.proofs.Common.{subst, sym}
use Rattle.liquid_model.specs.Answer.{Answers}
use Rattle.liquid_model.specs.View.{view}
use Rattle.liquid_jekyll_host_filters.proofs.Linked.{post_split}
use Rattle.liquid_jekyll_host_filters.proofs.links.post_url.Goals as goal

pub returns-in-len1-up : goal.returns-in-len1-up
returns-in-len1-up c = subst (Answers view c.named_post_url.result) (sym (post_split c.args.base.now (view c.args.input.now) c.args.args.now c.markup-item.result c.in-len1-up.len_at_least c.markup-item.is)) c.named_post_url.ensures
