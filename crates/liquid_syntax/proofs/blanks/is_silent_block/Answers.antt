use Rattle.std.proofs.Common.{◌≡◌, ◌&&◌, ◌+◌, sym, ap, ◌∙◌, subst}
use Rattle.std.proofs.lemmas.Option.{slice_get_within}
use Rattle.liquid_syntax.specs.Flats.{flat_of}
use Rattle.liquid_syntax.specs.Laid.{IsLaidOut, last_end}
use Rattle.liquid_syntax.specs.inside.BlankNodes.{drops, own_flats, quiet_bodies}
use Rattle.liquid_syntax.proofs.Emptied.{read_twice}
use Rattle.liquid_syntax.proofs.Round.{joined}
use Rattle.liquid_syntax.proofs.Tidied.{bodies_stand, quiet_joined}
use Rattle.liquid_syntax.proofs.blanks.is_silent_block.Goals as goal

pub is_quiet-requires : goal.is_quiet-requires
is_quiet-requires c =
    let ns = c.args.nodes.now in
    let at = c.args.at in
    let (n, bs, there, s) = c.requires in
    let same = read_twice ns at n c.index-nodes-at.result (slice_get_within ns at n there) there c.index-nodes-at.is in
    let end : c.past.result ≡ last_end (at + 1) (flat_of n).ends = c.past.ensures ∙ ap (λ m. last_end (at + 1) (flat_of m).ends) same in
    (joined bs, subst (IsLaidOut (own_flats ns) (at + 1) (joined bs)) (sym end) (bodies_stand (own_flats ns) (at + 1) (flat_of n).ends bs s))

pub returns-then-drops : goal.returns-then-drops
returns-then-drops c n bs there s =
    let ns = c.args.nodes.now in
    let at = c.args.at in
    let same = read_twice ns at n c.index-nodes-at.result (slice_get_within ns at n there) there c.index-nodes-at.is in
    let end : c.past.result ≡ last_end (at + 1) (flat_of n).ends = c.past.ensures ∙ ap (λ m. last_end (at + 1) (flat_of m).ends) same in
    let stands = subst (IsLaidOut (own_flats ns) (at + 1) (joined bs)) (sym end) (bodies_stand (own_flats ns) (at + 1) (flat_of n).ends bs s) in
    c.is_quiet.ensures (joined bs) stands ∙ quiet_joined bs ∙ sym (ap (λ b. b && quiet_bodies bs) (sym (c.drops.ensures ∙ ap drops same) ∙ c.if-drops.true))

pub returns-else-drops : goal.returns-else-drops
returns-else-drops c n bs there s =
    let ns = c.args.nodes.now in
    let at = c.args.at in
    let same = read_twice ns at n c.index-nodes-at.result (slice_get_within ns at n there) there c.index-nodes-at.is in
    c.if-drops.false ∙ sym (ap (λ b. b && quiet_bodies bs) (sym (c.drops.ensures ∙ ap drops same) ∙ c.if-drops.false))
