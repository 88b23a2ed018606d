-- A site before its first page.
use Rattle.std.specs.Prelude.{Result, Ok, Err}
use Rattle.liquid_model.specs.Data.{Pairs}
use Rattle.liquid_model.specs.declared.error.ErrorKind.{ErrorKind}
use Rattle.liquid_core.specs.Held.{map_of}
use Rattle.liquid_core.specs.declared.missing_value.Missing.{Missing}
use Rattle.liquid_site.specs.Contents.{Contents}
use Rattle.liquid_site.specs.Steps.{no_contents}

-- the contents with these data alone, or the data's fault
abbrev pub site_over : Missing → Result Pairs ErrorKind → Result Contents ErrorKind
site_over missing (Ok «data») =
    Ok (record (no_contents (record { depth = 32; missing = missing })) { «data» = map_of «data» })
site_over missing (Err kind) = Err kind
