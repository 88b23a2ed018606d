-- What is registered under a name.
use Rattle.std.specs.Prelude.{List}
use Rattle.liquid_model.specs.Texts.{Text}
use Rattle.liquid_language.specs.Entries.{seen}
use Rattle.liquid_language.specs.declared.registry.Registry.{Registry}

-- the kinds by name
abbrev pub kinds_of : {K : Type 0} → Registry K → List (Text × K)
kinds_of r = seen (λ k. k) r.kinds.entries
