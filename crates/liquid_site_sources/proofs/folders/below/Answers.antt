use Rattle.liquid_site_sources.proofs.Texts.{below_cut}
use Rattle.liquid_site_sources.proofs.folders.below.Goals as goal

pub range_from-requires : goal.range_from-requires
range_from-requires c positive = below_cut c.args.folder.now c.args.path.now c.utf8.folder c.utf8.path c.requires
