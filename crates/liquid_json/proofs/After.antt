-- Items that stand before others.
use Rattle.std.proofs.Common.{◌≡◌, List, [], ◌∷◌, ◌++◌, Result, Ok, Err, refl, ap, ◌∙◌}
use Rattle.liquid_model.specs.Fallible.{◌>>=◌}
use Rattle.liquid_model.specs.Data.{Items, no_items, item}
use Rattle.liquid_model.specs.View.{view, items_view}
use Rattle.liquid_model.specs.declared.error.ErrorKind.{ErrorKind}
use Rattle.liquid_model.specs.declared.value.Value.{Value}
use Rattle.liquid_json.specs.Json.{datum_of, parsed_items}
use Rattle.serde_json.specs.View.{view as json_view, items_view as json_items}
use Rattle.serde_json.specs.declared.value.Value as json

abbrev pub after : List Value → Items → Items
after [] es = es
after (v ∷ vs) es = item (view v) (after vs es)

abbrev pub after_all : List Value → Result Items ErrorKind → Result Items ErrorKind
after_all vs (Ok es) = Ok (after vs es)
after_all vs (Err k) = Err k

pub after_next : (vs : List Value) (v : Value) (es : Items) → after vs (item (view v) es) ≡ after (vs ++ v ∷ []) es
after_next [] v es = refl
after_next (x ∷ vs) v es = ap (item (view x)) (after_next vs v es)

pub after_all_next : (vs : List Value) (v : Value) (r : Result Items ErrorKind) → after_all vs (r >>= λ es. Ok (item (view v) es)) ≡ after_all (vs ++ v ∷ []) r
after_all_next vs v (Ok es) = ap Ok (after_next vs v es)
after_all_next vs v (Err k) = refl

pub after_none : (vs : List Value) → after vs no_items ≡ items_view vs
after_none [] = refl
after_none (v ∷ vs) = ap (item (view v)) (after_none vs)

-- one more item is done
pub items_next : (vs : List Value) (v : Value) (x : json.Value) (rest : List json.Value) → datum_of (json_view x) ≡ Ok (view v) → after_all vs (parsed_items (json_items (x ∷ rest))) ≡ after_all (vs ++ v ∷ []) (parsed_items (json_items rest))
items_next vs v x rest e = ap (λ r. after_all vs (r >>= λ d. parsed_items (json_items rest) >>= λ es. Ok (item d es))) e ∙ after_all_next vs v (parsed_items (json_items rest))
