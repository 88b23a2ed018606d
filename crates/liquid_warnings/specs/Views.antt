-- Values and what is lacking, as contracts see them.
use Rattle.std.specs.Prelude.{List, map, Vec}
use Rattle.std.specs.Borrow.{Bor}
use Rattle.std.specs.declared.alloc.Global.{Global}
use Rattle.liquid_model.specs.Data.{Datum}
use Rattle.liquid_model.specs.View.{view, pairs_view}
use Rattle.liquid_model.specs.declared.value.Value.{Value}
use Rattle.liquid_warnings.specs.DataPaths.{Lacking}
use Rattle.liquid_warnings.specs.declared.data_path.Lack.{Lack}

abbrev pub lack_view : Lack → Lacking
lack_view l = record {
  left = l.left;
  among = pairs_view l.among.now.entries;
}

abbrev pub values_view : Vec (Bor Value) Global → List Datum
values_view v = map (λ r. view r.now) v.items
