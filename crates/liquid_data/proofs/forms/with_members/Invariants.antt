use Rattle.std.proofs.Common.{◌≡◌}
use Rattle.liquid_model.specs.View.{pairs_view}
use Rattle.liquid_data.specs.Forms.{put_all}
use Rattle.liquid_data.proofs.forms.with_members.Given as goal

-- the members that are left, put into what is there, make all of it
abbrev pub invariant-loop-name : goal.invariant-loop-name
invariant-loop-name l = put_all (pairs_view l.fn.members.entries) (pairs_view l.fn.data.entries)
    ≡ put_all (pairs_view l.name-iterator) (pairs_view l.all.entries)
