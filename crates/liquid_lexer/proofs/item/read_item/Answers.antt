use Rattle.liquid_lexer.specs.PieceView.{read_view}
use Rattle.liquid_lexer.proofs.ValueLaws.{value_at_front}
use Rattle.liquid_lexer.proofs.item.read_item.Goals as goal

pub before-requires : goal.before-requires
before-requires c = value_at_front 200 c.args.text.now (read_view (c.in_ok-value.value, c.in_ok-value.rest)) c.in_ok-value.ensures
