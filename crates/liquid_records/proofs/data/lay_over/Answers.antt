use Rattle.std.proofs.Common.{◌≡◌, [], ◌∷◌, ◌++◌, sym, ap, subst, ◌∙◌, append_assoc, rules}
use Rattle.std.specs.List.Sorted.{IsStrictlySortedBy}
use Rattle.std.specs.Map.{keys_of}
use Rattle.std.specs.String.{string_cmp}
use Rattle.liquid_model.proofs.Views.{Entry, put_last}
use Rattle.liquid_core.specs.Held.{held}
use Rattle.liquid_core.proofs.DataChanges.{none_set}
use Rattle.liquid_records.specs.inside.Covered.{AreThere, covered_view}
use Rattle.liquid_records.proofs.Over.{one_over, same_back, same_there}
use Rattle.liquid_records.proofs.data.lay_over.Goals as goal

pub loop-name-init : goal.loop-name-init
loop-name-init c = ([], search rules, sym (none_set (held c.args.«data».now)), search rules, subst (λ es. AreThere (covered_view es) (held c.args.«data».now)) (sym c.new-covered.ensures.items) tt)

pub loop-name-preserved : goal.loop-name-preserved
loop-name-preserved c =
    let l = c.loop-name in
    let done = l.invariant.0 in
    let e : Entry = (c.in-Some.name, c.in-Some.value) in
    let left = c.next.new.self in
    let all : c.args.members.entries ≡ done ++ e ∷ left = l.invariant.1 ∙ ap (λ es. done ++ es) c.in-Some.ensures.steps in
    let sorted : IsStrictlySortedBy string_cmp (keys_of c.args.members.entries) = search rules in
    let last = put_last done e left (subst (λ es. IsStrictlySortedBy string_cmp (keys_of es)) all sorted) in (
      done ++ e ∷ [],
      all ∙ sym (append_assoc done (e ∷ []) left),
      one_over (held c.args.«data».now) (held l.«data») (held c.cover.new.«data») done e last l.invariant.2 c.in-Ok.ensures.put,
      c.in-Ok.ensures.back ∙ l.invariant.3,
      c.in-Ok.ensures.there l.invariant.4,
    )

pub take_off-requires : goal.take_off-requires
take_off-requires c = same_there (held c.loop-name.«data») (held c.cover.new.«data») c.loop-name.covered.items c.cover.new.covered.items c.in-Err.ensures.same c.in-Err.ensures.untouched c.loop-name.invariant.4

pub returns-in-Err-clause-untouched : goal.returns-in-Err-clause-untouched
returns-in-Err-clause-untouched c =
    c.take_off.ensures ∙ same_back (held c.loop-name.«data») (held c.cover.new.«data») c.loop-name.covered.items c.cover.new.covered.items c.in-Err.ensures.same c.in-Err.ensures.untouched
    ∙ c.loop-name.invariant.3
