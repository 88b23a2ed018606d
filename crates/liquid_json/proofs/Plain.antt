-- What the tokens of a text give is what its tree gives.
use Rattle.std.proofs.Common.{◌≡◌, ℕ, ℤ, List, [], Ordering, Less, Equal, Greater, nat_cmp, Option, Some, None, option_map, option_and_then, Result, Ok, Err, refl, sym, ap, subst, ◌∙◌}
use Rattle.std.specs.Prelude.{IfSome, IfOk}
use Rattle.std.specs.Ordering.{match_ordering}
use Rattle.std.specs.Cmp.Lexicographic.{slice_cmp}
use Rattle.liquid_model.specs.Fallible.{◌>>=◌}
use Rattle.liquid_model.specs.Data.{Datum, number, array, object, Items, item, Pairs, no_pairs, pair, put}
use Rattle.liquid_model.specs.declared.error.ErrorKind.{ErrorKind}
use Rattle.json.specs.Token.{Token}
use Rattle.json.specs.Json as json
use Rattle.serde_json.specs.Data as tree
use Rattle.serde_json.specs.Find.{as_i64}
use Rattle.serde_json.specs.Read.{of_json, of_items, of_members, number_of, converted}
use Rattle.liquid_json.specs.Json.{whole_number, datum_of, parsed_items, parsed_pairs, parsed_object, object_read}
use Rattle.liquid_json.specs.inside.Tokens as plain
use Rattle.liquid_json.specs.declared.tokens.Numbers.TheVariants.{Integers}
use Rattle.liquid_json.proofs.Turns.{converted_some}

-- ---- a member put in

module _ (l k : List ℕ) (d d0 : tree.Data) (ms : tree.Members) (e : Datum) (is : datum_of d ≡ Ok e) where
  in_order : (x : Datum) (ps : Pairs) → datum_of d0 ≡ Ok x → parsed_pairs ms ≡ Ok ps → parsed_pairs (tree.put k d ms) ≡ Ok (put k e ps) → (o : Ordering)
      → parsed_pairs (match_ordering o (tree.member k d (tree.member l d0 ms)) (tree.member l d ms) (tree.member l d0 (tree.put k d ms)))
      ≡ Ok (match_ordering o (pair k e (pair l x ps)) (pair l e ps) (pair l x (put k e ps)))
  in_order x ps first rest more Less = rw (is, first, rest)
  in_order x ps first rest more Equal = rw (is, rest)
  in_order x ps first rest more Greater = rw (first, more)

  beside : (r0 : Result Datum ErrorKind) (r1 : Result Pairs ErrorKind) → datum_of d0 ≡ r0 → parsed_pairs ms ≡ r1 → IfOk r1 (λ ps. parsed_pairs (tree.put k d ms) ≡ Ok (put k e ps))
      → IfOk (r0 >>= λ x. r1 >>= λ ps. Ok (pair l x ps)) (λ qs. parsed_pairs (tree.put k d (tree.member l d0 ms)) ≡ Ok (put k e qs))
  beside (Err kind) r1 first rest h = tt
  beside (Ok x) (Err kind) first rest h = tt
  beside (Ok x) (Ok ps) first rest h = in_order x ps first rest h (slice_cmp nat_cmp k l)

if_put : (k : List ℕ) (d : tree.Data) (e : Datum) → datum_of d ≡ Ok e → (ms : tree.Members) → IfOk (parsed_pairs ms) (λ ps. parsed_pairs (tree.put k d ms) ≡ Ok (put k e ps))
if_put k d e is tree.no_members = rw is
if_put k d e is (tree.member l d0 ms) = beside l k d d0 ms e is (datum_of d0) (parsed_pairs ms) refl refl (if_put k d e is ms)

pairs_put : (k : List ℕ) (d : tree.Data) (e : Datum) (ms : tree.Members) (ps : Pairs) → datum_of d ≡ Ok e → parsed_pairs ms ≡ Ok ps → parsed_pairs (tree.put k d ms) ≡ Ok (put k e ps)
pairs_put k d e ms ps is found = subst (λ r. IfOk r (λ qs. parsed_pairs (tree.put k d ms) ≡ Ok (put k e qs))) found (if_put k d e is ms)

-- ---- what is given, if anything

if_map : {A B : Type 0} (P : A → Type 0) (Q : B → Type 0) (f : A → B) (o : Option A) → IfSome o P → ((a : A) → P a → Q (f a)) → IfSome (option_map f o) Q
if_map P Q f None h g = tt
if_map P Q f (Some a) h g = g a h

if_then : {A B : Type 0} (P : A → Type 0) (Q : B → Type 0) (f : A → Option B) (o : Option A) → IfSome o P → ((a : A) → P a → IfSome (f a) Q) → IfSome (option_and_then f o) Q
if_then P Q f None h g = tt
if_then P Q f (Some a) h g = g a h

abbrev Stands : Option tree.Data → Datum → Type 0
Stands o e = (d : tree.Data) × (o ≡ Some d) × (datum_of d ≡ Ok e)

abbrev ItemsStand : Option tree.Items → Items → Type 0
ItemsStand o es = (ds : tree.Items) × (o ≡ Some ds) × (parsed_items ds ≡ Ok es)

abbrev PairsStand : Option tree.Members → Pairs → Type 0
PairsStand o ps = (ms : tree.Members) × (o ≡ Some ms) × (parsed_pairs ms ≡ Ok ps)

integer_stands : (n : tree.Num) (o : Option ℤ) → as_i64 n ≡ o → IfSome (option_map number o) (Stands (Some (tree.number n)))
integer_stands n None is = tt
integer_stands n (Some z) is = (tree.number n, refl, ap whole_number is)

number_stands : (o : Option tree.Num) → IfSome (option_map number (option_and_then as_i64 o)) (Stands (option_map tree.number o))
number_stands None = tt
number_stands (Some n) = integer_stands n (as_i64 n) refl

mutual
  datum_stands : (j : json.Json) → IfSome (plain.datum_of Integers j) (Stands (of_json j))
  datum_stands json.null = (tree.null, refl, refl)
  datum_stands (json.boolean b) = (tree.boolean b, refl, refl)
  datum_stands (json.number s) = number_stands (number_of s)
  datum_stands (json.string s) = (tree.string s, refl, refl)
  datum_stands (json.array js) =
      if_map (ItemsStand (of_items js)) (Stands (of_json (json.array js))) array (plain.token_items Integers js) (items_stand js) (λ es h. (tree.array h.0, ap (option_map tree.array) h.1, ap (λ r. r >>= λ es. Ok (array es)) h.2))
  datum_stands (json.object ms) =
      if_map (PairsStand (of_members ms tree.no_members)) (Stands (of_json (json.object ms))) object (plain.token_pairs Integers ms no_pairs) (pairs_stand ms tree.no_members no_pairs refl)
      (λ ps h. (tree.object h.0, ap (option_map tree.object) h.1, ap (λ r. r >>= λ ps. Ok (object ps)) h.2))

  items_stand : (js : json.Items) → IfSome (plain.token_items Integers js) (ItemsStand (of_items js))
  items_stand json.no_items = (tree.no_items, refl, refl)
  items_stand (json.item j js) =
      if_then (Stands (of_json j)) (ItemsStand (of_items (json.item j js))) (λ e. option_map (item e) (plain.token_items Integers js)) (plain.datum_of Integers j) (datum_stands j)
      (λ e h. if_map (ItemsStand (of_items js)) (ItemsStand (of_items (json.item j js))) (item e) (plain.token_items Integers js) (items_stand js) (λ es g. (tree.item h.0 g.0, rw (h.1, g.1), rw (h.2, g.2))))

  pairs_stand : (ms : json.Members) (found : tree.Members) (ps : Pairs) → parsed_pairs found ≡ Ok ps → IfSome (plain.token_pairs Integers ms ps) (PairsStand (of_members ms found))
  pairs_stand json.no_members found ps is = (found, refl, is)
  pairs_stand (json.member k j ms) found ps is =
      if_then (Stands (of_json j)) (PairsStand (of_members (json.member k j ms) found)) (λ e. plain.token_pairs Integers ms (put k e ps)) (plain.datum_of Integers j) (datum_stands j)
      (λ e h. subst (λ o. IfSome (plain.token_pairs Integers ms (put k e ps)) (PairsStand o)) (ap (option_and_then (λ d. of_members ms (tree.put k d found))) (sym h.1))
      (pairs_stand ms (tree.put k h.0 found) (put k e ps) (pairs_put k h.0 e found ps h.2 is)))

-- ---- the whole text

stands_where : (j : json.Json) (e : Datum) → plain.datum_of Integers j ≡ Some e → Stands (of_json j) e
stands_where j e is = subst (λ o. IfSome o (Stands (of_json j))) is (datum_stands j)

abbrev pairs_within : Pairs → Datum → Pairs
pairs_within none (object ps) = ps
pairs_within none _ = none

abbrev held : Pairs → Result Datum ErrorKind → Pairs
held none (Ok d) = pairs_within none d
held none (Err kind) = none

some_pairs : (r : Result Pairs ErrorKind) (ps : Pairs) → (r >>= λ qs. Ok (object qs)) ≡ Ok (object ps) → r ≡ Ok ps
some_pairs (Ok qs) ps is = ap (λ r. Ok (held qs r)) is
some_pairs (Err kind) ps is = absurd cc

no_pairs_of_items : (r : Result Items ErrorKind) (ps : Pairs) → (r >>= λ es. Ok (array es)) ≡ Ok (object ps) → ⊥
no_pairs_of_items (Ok es) ps is = absurd cc
no_pairs_of_items (Err kind) ps is = absurd cc

no_pairs_of_number : (o : Option ℤ) (ps : Pairs) → whole_number o ≡ Ok (object ps) → ⊥
no_pairs_of_number None ps is = absurd cc
no_pairs_of_number (Some z) ps is = absurd cc

pub of_object : (d : tree.Data) (ps : Pairs) → datum_of d ≡ Ok (object ps) → parsed_object d ≡ Ok ps
of_object tree.null ps is = absurd cc
of_object (tree.boolean b) ps is = absurd cc
of_object (tree.number n) ps is = absurd (no_pairs_of_number (as_i64 n) ps is)
of_object (tree.string s) ps is = absurd cc
of_object (tree.array ds) ps is = absurd (no_pairs_of_items (parsed_items ds) ps is)
of_object (tree.object ms) ps is = some_pairs (parsed_pairs ms) ps is

-- the tree of all tokens
abbrev pub whole : Option (json.Json × List Token) → Option tree.Data
whole o = option_and_then of_json (option_and_then (λ p. json.if_last p.0 p.1) o)

-- the value that takes all tokens is the data of the tree
pub whole_plain : (o : Option (json.Json × List Token)) (ps : Pairs) → converted (plain.datum_of Integers) o ≡ Some (object ps, []) → object_read (whole o) ≡ Ok ps
whole_plain o ps is =
    let j = converted_some (plain.datum_of Integers) o (object ps) [] is in
    let d = stands_where j.0 (object ps) j.2 in
    let seen : parsed_object d.0 ≡ Ok ps = of_object d.0 ps d.2 in
    ap (λ p. object_read (whole p)) j.1 ∙ ap object_read d.1 ∙ seen
