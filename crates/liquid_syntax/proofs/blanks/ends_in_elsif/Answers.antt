use Rattle.std.proofs.Common.{◌&&◌, sym, ap, ◌∙◌}
use Rattle.std.proofs.lemmas.Option.{slice_get_within}
use Rattle.liquid_syntax.specs.inside.BlankNodes.{ends_in_if, is_if}
use Rattle.liquid_syntax.proofs.Elsifs.{if_bodies, other_if}
use Rattle.liquid_syntax.proofs.Emptied.{read_twice}
use Rattle.liquid_syntax.proofs.blanks.ends_in_elsif.Goals as goal

pub is_lone_if-requires : goal.is_lone_if-requires
is_lone_if-requires c =
    let ns = c.args.nodes.now in
    let (n, bs, there, s) = c.requires in
    let same = read_twice ns c.args.at n c.index-nodes-at.result (slice_get_within ns c.args.at n there) there c.index-nodes-at.is in
    let (f, g, is, first, second) = if_bodies ns c.args.at n c.in-If.field-0 c.in-If.bodies bs (sym same ∙ c.in-If.is) s in
    (g, second)

pub returns-in-If : goal.returns-in-If
returns-in-If c n bs there s =
    let ns = c.args.nodes.now in
    let same = read_twice ns c.args.at n c.index-nodes-at.result (slice_get_within ns c.args.at n there) there c.index-nodes-at.is in
    let is_this = sym same ∙ c.in-If.is in
    let (f, g, is, first, second) = if_bodies ns c.args.at n c.in-If.field-0 c.in-If.bodies bs is_this s in
    c.is_lone_if.ensures g second ∙ sym (ap (λ m. is_if m && ends_in_if bs) is_this ∙ ap ends_in_if is)

pub returns-in_default : goal.returns-in_default
returns-in_default c n bs there s =
    let ns = c.args.nodes.now in
    let same = read_twice ns c.args.at n c.index-nodes-at.result (slice_get_within ns c.args.at n there) there c.index-nodes-at.is in
    sym (ap (λ m. is_if m && ends_in_if bs) (sym same) ∙ ap (λ b. b && ends_in_if bs) (other_if c.index-nodes-at.result (λ condition ends e. c.in_default.not-If condition ends e)))
