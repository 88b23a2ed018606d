use Rattle.std.proofs.Common.{◌≡◌, [], rules}
use Rattle.liquid_model.specs.View.{view}
use Rattle.liquid_json.proofs.AnyNumbers.{value_read, value_refused}
use Rattle.liquid_json.proofs.tokens.value_of_any_numbers.Goals as goal

pub returns-in-Err-Other : goal.returns-in-Err-Other
returns-in-Err-Other c = record {
  value = value_refused c.args.text.now (rw (c.in_ok-reader.ensures.ok) at (c.read.ensures.err (search rules)));
}

pub returns : goal.returns
returns c =
    let none : c.read.new.reader ≡ [] = search rules in
    record { value = value_read c.args.text.now (view c.in-Ok.value) (rw (c.in_ok-reader.ensures.ok, none) at c.in-Ok.ensures.ok) }
