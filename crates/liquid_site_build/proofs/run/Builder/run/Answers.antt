use Rattle.std.proofs.Common.{refl}
use Rattle.liquid_site_build.proofs.Whole.{page_whole}
use Rattle.liquid_site_build.proofs.run.Builder.run.Goals as goal

pub returns : goal.returns
returns g c = page_whole _ c.in_ok-limited.limited (c.in_ok-limited.ensures.free refl) c.in_ok-limited.ensures.page
