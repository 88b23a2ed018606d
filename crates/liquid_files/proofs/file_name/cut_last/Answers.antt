use Rattle.liquid_files.proofs.LastSign.{split_at_last}
use Rattle.liquid_files.proofs.file_name.cut_last.Goals as goal

pub returns : goal.returns
returns c = split_at_last c.args.sign c.args.text.now _ c.rsplit_once.ensures.cases c.requires
