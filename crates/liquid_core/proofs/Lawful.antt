-- The proofs of the laws of look-up, over the definitions alone.
use Rattle.std.proofs.Common.{refl, ap}
use Rattle.liquid_model.specs.Texts.{◌else◌}
use Rattle.liquid_model.specs.Maps.{merged}
use Rattle.liquid_core.specs.Environment.{local_of}
use Rattle.liquid_core.specs.Laws.{InnermostScopeDecides, FirstLayerDecides}

pub innermost_scope_decides : InnermostScopeDecides
unfolding merged
innermost_scope_decides = (
  λ scope scopes name d h. ap (λ o. o else local_of scopes name) h,
  λ scope scopes name h. ap (λ o. o else local_of scopes name) h,
)

pub first_layer_decides : FirstLayerDecides
first_layer_decides = (
  λ e name path d h. rw h refl,
  λ e name path d h k. rw (h, k) refl,
  λ e name path d h k l. rw (h, k, l) refl,
  λ e name path d h k l m. rw (h, k, l, m) refl,
)
