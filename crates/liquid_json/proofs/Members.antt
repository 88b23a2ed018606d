-- The members of an object go in, in order, one after another.
use Rattle.std.proofs.Common.{◌≡◌, ℕ, List, [], ◌∷◌, ◌++◌, String, Global, Less, Greater, string_bytes, string_cmp, nat_cmp, Result, Ok, Err, refl, sym, ap, ◌∙◌, subst}
use Rattle.std.proofs.lemmas.Cmp.{nat_list_cmp_total}
use Rattle.std.specs.Cmp.Lexicographic.{slice_cmp}
use Rattle.std.specs.List.{AllByRecursion}
use Rattle.std.specs.List.Sorted.{IsStrictlySortedBy}
use Rattle.std.specs.Map.{keys_of}
use Rattle.std.specs.Ordering.{ordering_reverse}
use Rattle.liquid_model.specs.Fallible.{◌>>=◌}
use Rattle.liquid_model.specs.Data.{Datum, Pairs, no_pairs, pair, put}
use Rattle.liquid_model.specs.declared.error.ErrorKind.{ErrorKind}
use Rattle.liquid_model.proofs.Views.{pairs_view-insert_entry}
use Rattle.liquid_model.specs.View.{view, pairs_view}
use Rattle.liquid_model.specs.declared.value.Value.{Value as CoreValue}
use Rattle.std.specs.BTreeMap.{insert_entry}
use Rattle.liquid_json.specs.Json.{datum_of, parsed_pairs}
use Rattle.serde_json.specs.Data as json
use Rattle.serde_json.specs.View.{members_view as json_members}
use Rattle.serde_json.specs.declared.value.Value.{Value}

abbrev pub pairs_from : json.Members → Pairs → Result Pairs ErrorKind
pairs_from json.no_members done = Ok done
pairs_from (json.member k d ms) done = datum_of d >>= λ e. pairs_from ms (put k e done)

abbrev joined : Pairs → Pairs → Pairs
joined no_pairs qs = qs
joined (pair k d ps) qs = pair k d (joined ps qs)

abbrev joined_all : Pairs → Result Pairs ErrorKind → Result Pairs ErrorKind
joined_all ps (Ok qs) = Ok (joined ps qs)
joined_all ps (Err k) = Err k

abbrev names : Pairs → List (List ℕ)
names no_pairs = []
names (pair k d ps) = k ∷ names ps

abbrev member_names : json.Members → List (List ℕ)
member_names json.no_members = []
member_names (json.member k d ms) = k ∷ member_names ms

abbrev Sorted : List (List ℕ) → Type 0
Sorted ks = IsStrictlySortedBy (slice_cmp nat_cmp) ks

joined_none : (ps : Pairs) → joined ps no_pairs ≡ ps
joined_none no_pairs = refl
joined_none (pair k d ps) = ap (pair k d) (joined_none ps)

joined_one : (done : Pairs) (k : List ℕ) (e : Datum) (ps : Pairs) → joined (joined done (pair k e no_pairs)) ps ≡ joined done (pair k e ps)
joined_one no_pairs k e ps = refl
joined_one (pair l d done) k e ps = ap (pair l d) (joined_one done k e ps)

joined_all_one : (done : Pairs) (k : List ℕ) (e : Datum) (r : Result Pairs ErrorKind) → joined_all (joined done (pair k e no_pairs)) r ≡ joined_all done (r >>= λ ps. Ok (pair k e ps))
joined_all_one done k e (Ok ps) = ap Ok (joined_one done k e ps)
joined_all_one done k e (Err x) = refl

names_joined : (done : Pairs) (k : List ℕ) (e : Datum) (more : List (List ℕ)) → names (joined done (pair k e no_pairs)) ++ more ≡ names done ++ k ∷ more
names_joined no_pairs k e more = refl
names_joined (pair l d done) k e more = ap (λ ks. l ∷ ks) (names_joined done k e more)

below_middle : (l : List ℕ) (ks : List (List ℕ)) (k : List ℕ) (more : List (List ℕ)) → AllByRecursion (λ y. slice_cmp nat_cmp l y ≡ Less) (ks ++ k ∷ more) → slice_cmp nat_cmp l k ≡ Less
below_middle l [] k more h = h.0
below_middle l (x ∷ ks) k more h = below_middle l ks k more h.1

-- a key that is above those before it goes last
put_last : (done : Pairs) (k : List ℕ) (e : Datum) (more : List (List ℕ)) → Sorted (names done ++ k ∷ more) → put k e done ≡ joined done (pair k e no_pairs)
unfolding IsStrictlySortedBy
put_last no_pairs k e more h = refl
put_last (pair l d done) k e more h =
    let above : slice_cmp nat_cmp k l ≡ Greater = nat_list_cmp_total.antisymm k l ∙ ap ordering_reverse (below_middle l (names done) k more h.0) in
    rw above (ap (pair l d) (put_last done k e more h.1))

from_at : (r : Result Datum ErrorKind) (done : Pairs) (k : List ℕ) (ms : json.Members) → ((next : Pairs) → Sorted (names next ++ member_names ms) → pairs_from ms next ≡ joined_all next (parsed_pairs ms)) → Sorted (names done ++ k ∷ member_names ms)
    → (r >>= λ e. pairs_from ms (put k e done)) ≡ joined_all done (r >>= λ e. parsed_pairs ms >>= λ ps. Ok (pair k e ps))
from_at (Err x) done k ms next h = refl
from_at (Ok e) done k ms next h =
    ap (pairs_from ms) (put_last done k e (member_names ms) h)
    ∙ next (joined done (pair k e no_pairs)) (subst Sorted (sym (names_joined done k e (member_names ms))) h)
    ∙ joined_all_one done k e (parsed_pairs ms)

from_of : (done : Pairs) (ms : json.Members) → Sorted (names done ++ member_names ms) → pairs_from ms done ≡ joined_all done (parsed_pairs ms)
from_of done json.no_members h = ap Ok (sym (joined_none done))
from_of done (json.member k d ms) h = from_at (datum_of d) done k ms (λ next i. from_of next ms i) h

joined_all_first : (r : Result Pairs ErrorKind) → joined_all no_pairs r ≡ r
joined_all_first (Ok ps) = refl
joined_all_first (Err k) = refl

abbrev pub Entry : Type 0
Entry = String Global × Value

named_above : (k : String Global) (es : List Entry) → AllByRecursion (λ l. string_cmp k l ≡ Less) (keys_of es) → AllByRecursion (λ l. slice_cmp nat_cmp (string_bytes k) l ≡ Less) (member_names (json_members es))
named_above k [] h = h
named_above k (e ∷ es) h = (h.0, named_above k es h.1)

sorted_names : (es : List Entry) → IsStrictlySortedBy string_cmp (keys_of es) → Sorted (member_names (json_members es))
unfolding IsStrictlySortedBy
sorted_names [] h = h
sorted_names (e ∷ es) h = (named_above e.0 es h.0, sorted_names es h.1)

-- the entries of a map, put in one after another, are its pairs
pub pairs_from_sorted : (es : List Entry) → IsStrictlySortedBy string_cmp (keys_of es) → pairs_from (json_members es) no_pairs ≡ parsed_pairs (json_members es)
pairs_from_sorted es h = from_of no_pairs (json_members es) (sorted_names es h) ∙ joined_all_first (parsed_pairs (json_members es))

-- an entry that goes into a map is put among its pairs
pub pairs_after_insert : (es : List (String Global × CoreValue)) (k : String Global) (v : CoreValue) → pairs_view (insert_entry string_cmp es k v) ≡ put (string_bytes k) (view v) (pairs_view es)
pairs_after_insert es k v = pairs_view-insert_entry es k v
