use Rattle.std.proofs.Common.{◌≡◌, ◌-◌, map, option_map}
use Rattle.liquid_model.specs.View.{pairs_view}
use Rattle.liquid_syntax.specs.NameSets.{mentioned_in_set}
use Rattle.liquid_site_build.specs.Chains.{chain_from, layout_chain}
use Rattle.liquid_site_build.specs.SourceViews.{site_text_view, site_texts_view}
use Rattle.liquid_site_build.specs.Sources.{SiteTexts}
use Rattle.liquid_site_build.proofs.ChainTurns.{in_front}
use Rattle.liquid_site_build.proofs.Left.{AreLeft}
use Rattle.liquid_site_build.proofs.chain.layout_chain.Given as goal

-- the layouts so far, and then those of the chain from here on, are the chain
abbrev pub invariant-loop-turn : goal.invariant-loop-turn
invariant-loop-turn l =
    let all = site_texts_view l.layouts in
    (left : SiteTexts) × AreLeft (mentioned_in_set l.passed) all left × (in_front (map (λ x. site_text_view x.now) l.chain.items) (chain_from (l.count - l.turn) all left (option_map (λ n. n.now) l.named)) ≡ layout_chain all (pairs_view l.front.entries))
