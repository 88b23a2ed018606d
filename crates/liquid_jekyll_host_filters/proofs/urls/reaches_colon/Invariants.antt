use Rattle.std.proofs.Common.{◌≡◌, drop}
use Rattle.liquid_jekyll_host_filters.specs.Urls.{reaches_colon}
use Rattle.liquid_jekyll_host_filters.proofs.urls.reaches_colon.Given as goal

abbrev pub invariant-loop-byte : goal.invariant-loop-byte
invariant-loop-byte l = reaches_colon l.text ≡ reaches_colon (drop l.byte-index l.text)
