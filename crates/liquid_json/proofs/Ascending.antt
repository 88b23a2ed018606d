-- The names of the data that a text of JSON gives stand in ascending order, so each stands there once.
use Rattle.std.proofs.Common.{◌≡◌, ℕ, List, [], ◌∷◌, Ordering, Less, Equal, Greater, nat_cmp, Option, Some, None, option_map, option_and_then, Result, Ok, Err, refl, sym, ap, subst, ◌∙◌}
use Rattle.std.specs.Prelude.{IfOk, IfSome}
use Rattle.std.specs.Cmp.Lexicographic.{slice_cmp}
use Rattle.std.specs.List.{AllByRecursion}
use Rattle.std.specs.Ordering.{match_ordering, ordering_reverse}
use Rattle.std.proofs.lemmas.Cmp.{nat_list_cmp_total}
use Rattle.json.specs.Json as json
use Rattle.json.specs.Lex.{tokens}
use Rattle.liquid_model.specs.Fallible.{◌>>=◌}
use Rattle.liquid_model.specs.Data.{Datum, Pairs, no_pairs, pair}
use Rattle.liquid_model.specs.Texts.{Text}
use Rattle.liquid_model.specs.declared.error.ErrorKind.{ErrorKind}
use Rattle.serde_json.specs.Data as tree
use Rattle.serde_json.specs.Read.{of_json, of_items, of_members, number_of, max_depth, read}
use Rattle.liquid_json.specs.Json.{datum_of, parsed_pairs, parsed_object, object_read, data_of}

-- ---- names in order

abbrev pub Below : Text → List Text → Type 0
Below k ks = AllByRecursion (λ l. slice_cmp nat_cmp k l ≡ Less) ks

abbrev pub Ascend : List Text → Type 0
Ascend [] = Unit {0}
Ascend (k ∷ ks) = Below k ks × Ascend ks

abbrev put_name : Text → List Text → List Text
put_name k [] = k ∷ []
put_name k (l ∷ ks) = match_ordering (slice_cmp nat_cmp k l) (k ∷ l ∷ ks) (l ∷ ks) (l ∷ put_name k ks)

below_more : (k l : Text) (ks : List Text) → slice_cmp nat_cmp k l ≡ Less → Below l ks → Below k ks
below_more k l [] lower h = tt
below_more k l (m ∷ ks) lower h = (nat_list_cmp_total.trans k l m lower h.0, below_more k l ks lower h.1)

below_put : (l k : Text) (ks : List Text) → slice_cmp nat_cmp l k ≡ Less → Below l ks → Below l (put_name k ks)
below_put l k [] lower h = (lower, tt)
below_put l k (m ∷ ks) lower h = at (slice_cmp nat_cmp k m) (below_put l k ks lower h.1)
  where
    at : (o : Ordering) → Below l (put_name k ks) → Below l (match_ordering o (k ∷ m ∷ ks) (m ∷ ks) (m ∷ put_name k ks))
    at Less rest = (lower, h)
    at Equal rest = h
    at Greater rest = (h.0, rest)

ascend_put : (k : Text) (ks : List Text) → Ascend ks → Ascend (put_name k ks)
ascend_put k [] h = (tt, tt)
ascend_put k (l ∷ ks) h = at (slice_cmp nat_cmp k l) refl (ascend_put k ks h.1)
  where
    at : (o : Ordering) → slice_cmp nat_cmp k l ≡ o → Ascend (put_name k ks) → Ascend (match_ordering o (k ∷ l ∷ ks) (l ∷ ks) (l ∷ put_name k ks))
    at Less is rest = ((is, below_more k l ks is h.0), h)
    at Equal is rest = h
    at Greater is rest = (below_put l k ks (nat_list_cmp_total.antisymm l k ∙ ap ordering_reverse is) h.0, rest)

-- ---- of a tree

abbrev tree_names : tree.Members → List Text
tree_names tree.no_members = []
tree_names (tree.member k d ms) = k ∷ tree_names ms

names_by : (o : Ordering) (a b c : tree.Members) → tree_names (match_ordering o a b c) ≡ match_ordering o (tree_names a) (tree_names b) (tree_names c)
names_by Less a b c = refl
names_by Equal a b c = refl
names_by Greater a b c = refl

names_put : (k : Text) (d : tree.Data) (ms : tree.Members) → tree_names (tree.put k d ms) ≡ put_name k (tree_names ms)
names_put k d tree.no_members = refl
names_put k d (tree.member l e ms) = names_by (slice_cmp nat_cmp k l) _ _ _ ∙ rw (names_put k d ms)

abbrev AscendIn : tree.Data → Type 0
AscendIn (tree.object ms) = Ascend (tree_names ms)
AscendIn _ = Unit {0}

each_of : {A B : Type 0} (o : Option A) (f : A → Option B) (P : B → Type 0) → ((a : A) → IfSome (f a) P) → IfSome (option_and_then f o) P
each_of None f P next = tt
each_of (Some a) f P next = next a

members_ascend : (ms : json.Members) (found : tree.Members) → Ascend (tree_names found) → IfSome (of_members ms found) (λ all. Ascend (tree_names all))
members_ascend json.no_members found h = h
members_ascend (json.member k j ms) found h =
    each_of (of_json j) (λ d. of_members ms (tree.put k d found)) (λ all. Ascend (tree_names all)) (λ d. members_ascend ms (tree.put k d found) (subst Ascend (sym (names_put k d found)) (ascend_put k (tree_names found) h)))

of_map : (o : Option tree.Members) → IfSome o (λ ms. Ascend (tree_names ms)) → IfSome (option_map tree.object o) AscendIn
of_map None h = tt
of_map (Some ms) h = h

of_list : (o : Option tree.Items) → IfSome (option_map tree.array o) AscendIn
of_list None = tt
of_list (Some ds) = tt

of_number : (o : Option tree.Num) → IfSome (option_map tree.number o) AscendIn
of_number None = tt
of_number (Some n) = tt

json_ascends : (j : json.Json) → IfSome (of_json j) AscendIn
json_ascends json.null = tt
json_ascends (json.boolean b) = tt
json_ascends (json.number s) = of_number (number_of s)
json_ascends (json.string s) = tt
json_ascends (json.array js) = of_list (of_items js)
json_ascends (json.object ms) = of_map (of_members ms tree.no_members) (members_ascend ms tree.no_members tt)

read_ascends : (o : Option json.Json) → IfSome (option_and_then of_json o) AscendIn
read_ascends None = tt
read_ascends (Some j) = json_ascends j

-- ---- of data

abbrev pub names : Pairs → List Text
names no_pairs = []
names (pair k d ps) = k ∷ names ps

same_names : (ms : tree.Members) → IfOk (parsed_pairs ms) (λ ps. names ps ≡ tree_names ms)
same_names tree.no_members = refl
same_names (tree.member k d ms) = at (datum_of d) (parsed_pairs ms) (same_names ms)
  where
    at : (r : Result Datum ErrorKind) (rest : Result Pairs ErrorKind) → IfOk rest (λ ps. names ps ≡ tree_names ms) → IfOk (r >>= λ e. rest >>= λ ps. Ok (pair k e ps)) (λ ps. names ps ≡ k ∷ tree_names ms)
    at (Err kind) rest h = tt
    at (Ok e) (Err kind) h = tt
    at (Ok e) (Ok ps) h = ap (λ ks. k ∷ ks) h

if_is : (r : Result Pairs ErrorKind) (ps : Pairs) (P : Pairs → Type 0) → r ≡ Ok ps → IfOk r P → P ps
if_is r ps P is h = subst (λ x. IfOk x P) is h

object_ascends : (d : tree.Data) (ps : Pairs) → AscendIn d → parsed_object d ≡ Ok ps → Ascend (names ps)
object_ascends (tree.object ms) ps h is = subst Ascend (sym (if_is (parsed_pairs ms) ps (λ qs. names qs ≡ tree_names ms) is (same_names ms))) h
object_ascends _ ps h is = absurd cc

found_ascends : (o : Option tree.Data) (ps : Pairs) → IfSome o AscendIn → object_read o ≡ Ok ps → Ascend (names ps)
found_ascends None ps h is = absurd cc
found_ascends (Some d) ps h is = object_ascends d ps h is

pub data_ascends : (source : List ℕ) (ps : Pairs) → data_of source ≡ Ok ps → Ascend (names ps)
data_ascends source ps is = found_ascends (read source) ps (read_ascends (option_and_then (λ p. json.if_last p.0 p.1) (json.value max_depth (tokens source)))) is
