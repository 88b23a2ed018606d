use Rattle.std.proofs.Common.{ap}
use Rattle.liquid_yaml.proofs.Turns.{faulted_on}
use Rattle.liquid_site_sources.specs.SourceForms.{object_found}
use Rattle.liquid_site_sources.proofs.forms.toml_value.Goals as goal

pub returns-in-Err : goal.returns-in-Err
returns-in-Err c = faulted_on c.in-Err.error.kind _ _ (λ e. ap object_found e) c.in-Err.ensures
