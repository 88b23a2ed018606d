-- The pieces of a `split`, joined.
use Rattle.std.proofs.Common.{Ok, ap, ◌∙◌}
use Rattle.liquid_model.specs.Data.{text}
use Rattle.liquid_model.specs.Joined.{joined}
use Rattle.liquid_filters.specs.Split.{divided}
use Rattle.liquid_filters.proofs.TextOnes.{given_back, texts_of}
use Rattle.liquid_filters.specs.Joining.{JoinGivesBack}

pub join_law : JoinGivesBack
join_law s p u = ap (λ ts. Ok (text (joined p ts))) (texts_of (divided p s)) ∙ ap (λ t. Ok (text t)) (given_back p s u)
