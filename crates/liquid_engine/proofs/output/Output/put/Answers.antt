use Rattle.std.proofs.Common.{◌≡◌, rules, length, Some, refl, sym, ap, ◌∙◌, string_bytes}
use Rattle.std.specs.Option.{option_map}
use Rattle.liquid_engine.proofs.Reserves.{are_limited_in, bytes_are_limited, held_reserve, kept_limited, kept_reserve, none_reserve, text_reserve}
use Rattle.liquid_engine.proofs.output.Output.put.Goals as goal

pub returns-then-not-room-clause-bounded : goal.returns-then-not-room-clause-bounded
returns-then-not-room-clause-bounded g c = kept_reserve g.W.CountedWrite.left _ _ (sym c.in-Some.is) (c.if-not-room.ensures.kept refl)

pub returns-then-not-room-clause-limited : goal.returns-then-not-room-clause-limited
returns-then-not-room-clause-limited g c = kept_limited g.W.CountedWrite.left _ _ (c.if-not-room.ensures.kept refl)

pub returns-in-Ok-clause-bounded : goal.returns-in-Ok-clause-bounded
returns-in-Ok-clause-bounded g c = text_reserve g.W.CountedWrite.left _ _ (string_bytes c.in-Some.buffer) c.args.text.now (ap (option_map string_bytes) c.in-Some.is) (search rules) (c.if-not-room.ensures.takes refl)

pub returns-in-Ok-clause-limited : goal.returns-in-Ok-clause-limited
returns-in-Ok-clause-limited g c = bytes_are_limited g.W.CountedWrite.left _ _ _ (c.if-not-room.ensures.takes refl)

pub returns-in-Err-clause-bounded : goal.returns-in-Err-clause-bounded
returns-in-Err-clause-bounded g c =
    let same : string_bytes c.push_str.new.self ≡ string_bytes c.in-Some.buffer = search rules in
    held_reserve g.W.CountedWrite.left _ _ (length c.args.text.now) (ap Some same ∙ ap (option_map string_bytes) (sym c.in-Some.is)) (c.if-not-room.ensures.takes refl)

pub returns-in-Err-clause-limited : goal.returns-in-Err-clause-limited
returns-in-Err-clause-limited g c = bytes_are_limited g.W.CountedWrite.left _ _ _ (c.if-not-room.ensures.takes refl)

pub returns-in-Ok-write_all-clause-bounded : goal.returns-in-Ok-write_all-clause-bounded
returns-in-Ok-write_all-clause-bounded g c = none_reserve g.W.CountedWrite.left _ _ (ap (option_map string_bytes) c.in-None.is) refl c.write_all.ensures.bounded

pub returns-in-Ok-write_all-clause-limited : goal.returns-in-Ok-write_all-clause-limited
returns-in-Ok-write_all-clause-limited g c = are_limited_in g.W.CountedWrite.left _ _ c.write_all.ensures.limited

pub returns-in-Err-write_all-clause-bounded : goal.returns-in-Err-write_all-clause-bounded
returns-in-Err-write_all-clause-bounded g c = none_reserve g.W.CountedWrite.left _ _ (ap (option_map string_bytes) c.in-None.is) refl c.write_all.ensures.bounded

pub returns-in-Err-write_all-clause-limited : goal.returns-in-Err-write_all-clause-limited
returns-in-Err-write_all-clause-limited g c = are_limited_in g.W.CountedWrite.left _ _ c.write_all.ensures.limited
