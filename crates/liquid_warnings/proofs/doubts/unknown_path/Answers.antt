use Rattle.std.proofs.Common.{inl}
use Rattle.liquid_warnings.proofs.doubts.unknown_path.Goals as goal

pub returns : goal.returns
returns c = inl (_, (_, _, c.warning.ensures))
