-- Members put into a map, beside the map of their dated values.
use Rattle.std.proofs.Common.{◌≡◌, List, [], ◌∷◌, ◌++◌, Ordering, Less, Equal, Greater, nat_cmp, string_bytes, refl, sym, ap, ◌∙◌}
use Rattle.std.specs.Cmp.Lexicographic.{slice_cmp}
use Rattle.std.specs.List.Sorted.{IsStrictlySortedBy}
use Rattle.std.specs.Map.{keys_of}
use Rattle.std.specs.Ordering.{match_ordering}
use Rattle.std.specs.String.{string_cmp}
use Rattle.liquid_model.specs.Data.{Datum, Pairs, no_pairs, pair, put}
use Rattle.liquid_model.specs.Texts.{Text}
use Rattle.liquid_model.specs.View.{view, pairs_view}
use Rattle.liquid_model.proofs.Views.{Entry, put_last}
use Rattle.liquid_data.specs.Dates.{dated_datum, dated_pairs}

dated_order : (o : Ordering) (a b c : Pairs) → dated_pairs (match_ordering o a b c) ≡ match_ordering o (dated_pairs a) (dated_pairs b) (dated_pairs c)
dated_order Less a b c = refl
dated_order Equal a b c = refl
dated_order Greater a b c = refl

dated_put : (k : Text) (d : Datum) (ps : Pairs) → dated_pairs (put k d ps) ≡ put k (dated_datum d) (dated_pairs ps)
dated_put k d no_pairs = refl
dated_put k d (pair l e ps) = dated_order (slice_cmp nat_cmp k l) _ _ _ ∙ rw (dated_put k d ps)

-- a member that goes last, its value dated
pub dated_last : (done : List Entry) (e : Entry) (more : List Entry) → IsStrictlySortedBy string_cmp (keys_of (done ++ e ∷ more))
    → put (string_bytes e.0) (dated_datum (view e.1)) (dated_pairs (pairs_view done)) ≡ dated_pairs (pairs_view (done ++ e ∷ []))
dated_last done e more h = sym (dated_put (string_bytes e.0) (view e.1) (pairs_view done)) ∙ ap dated_pairs (put_last done e more h)
