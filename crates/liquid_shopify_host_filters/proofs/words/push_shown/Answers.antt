use Rattle.std.proofs.Common.{sym}
use Rattle.liquid_shopify_host_filters.proofs.Wordings.{word_shown}
use Rattle.liquid_shopify_host_filters.proofs.words.push_shown.Goals as goal

pub returns-in_ok-push-in-Word : goal.returns-in_ok-push-in-Word
returns-in_ok-push-in-Word c =
    word_shown c.args.wording c.args.state _ _ _ c.lead.result.now c.args.letter c.shaped.result (sym c.in-Word.ensures)
    c.lead.ensures c.shaped.ensures c.in_ok-push_str-in-Word.ensures.bytes c.in_ok-push-in-Word.ensures.bytes
