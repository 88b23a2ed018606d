-- What `jsonify` writes is read as the value again.
use Rattle.std.proofs.Common.{◌≡◌, suc, ◌^◌, ◌+◌, ◌<◌, ◌≤◌, max, pos, negsuc, List, [], ◌∷◌, ◌++◌, cond, Less, Greater, nat_cmp, Option, Some, None, option_map, option_and_then, Ok, refl, sym, ap, ap₂, ◌∙◌, subst, arith, append-nil, ltb-true}
use Rattle.std.proofs.lemmas.Cmp.{nat_list_cmp_total}
use Rattle.std.specs.Cmp.Lexicographic.{slice_cmp}
use Rattle.std.specs.List.{AllByRecursion}
use Rattle.std.specs.List.Sorted.{IsStrictlySortedBy}
use Rattle.std.specs.Ordering.{ordering_reverse}
use Rattle.std.specs.Prelude.{IsTrue, ℤ}
use Rattle.json.specs.Token.{Token}
use Rattle.json.specs.Lex.{tokens}
use Rattle.json.specs.Json as grammar
use Rattle.json.specs.Print.{print, ArePrintable, IsNumber}
use lib.Signed.{mag}
use Rattle.json.specs.Tree as tree
use Rattle.json.proofs.Nesting.{value-depth}
use Rattle.json.proofs.Unique.Spelling.{value-json_tokens_back}
use Rattle.json.proofs.Printed.Decimals.{IsNumber-signed_decimal}
use Rattle.json.proofs.Printed.Tokens.{tokens-print}
use Rattle.json.proofs.Printed.Trees.{value-json_tokens, ArePrintable-json_tokens}
use Rattle.serde_json.specs.Data as json
use Rattle.serde_json.specs.Find.{as_i64, of_integer}
use Rattle.serde_json.specs.Read.{read, max_depth, number_of, of_json, of_items, of_members}
use Rattle.serde_json.specs.Written.{outline, items_outline, members_outline, number_text}
use Rattle.serde_json.proofs.Numbers.{number_of-decimal, number_of-negative}
use Rattle.liquid_model.specs.Data.{Datum, nil, truth, number, text, array, object, Items, no_items, item, Pairs, no_pairs, pair}
use Rattle.liquid_model.specs.Fallible.{◌>>=◌}
use Rattle.liquid_model.specs.Texts.{Text}
use Rattle.liquid_model.specs.Whole.{fits}
use Rattle.liquid_json.specs.Json as reader
use Rattle.liquid_json.specs.JsonTexts.{json_text, json_tokens, items_tokens, pairs_tokens}
use Rattle.liquid_json.specs.ScriptTexts.{script_json}
use Rattle.liquid_json.proofs.ScriptTokens.{AreSpared, are_spared-append, script_tokens, spared_number}
use Rattle.liquid_filter_sets.specs.ReadBack.{IsWellFormed, AreWellFormedItems, HasWellFormedValues, datum_depth, items_depth, pairs_depth, pair_names, value_read, json_read_back, JsonifyIsReadBack, DataAreReadBack, DeeperIsRefused}
use Rattle.liquid_filter_sets.proofs.JsonData.{data_of, items_of, members_of, value_tokens}

-- ---- numbers

within : (z : ℤ) → IsTrue (fits z) → mag z < 2 ^ 63
within (pos n) h = ltb-true n (2 ^ 63) h
within (negsuc n) h = ltb-true n (2 ^ 63) h

number_printed : (z : ℤ) → IsTrue (fits z) → IsNumber (number_text (of_integer z))
number_printed (pos n) h = IsNumber-signed_decimal (pos n) (within (pos n) h)
number_printed (negsuc n) h = IsNumber-signed_decimal (negsuc n) (within (negsuc n) h)

number_read : (z : ℤ) → IsTrue (fits z) → number_of (number_text (of_integer z)) ≡ Some (of_integer z)
number_read (pos n) h = let small = within (pos n) h in number_of-decimal n (omega arith)
number_read (negsuc n) h = number_of-negative n (within (negsuc n) h)

number_whole : (z : ℤ) → IsTrue (fits z) → as_i64 (of_integer z) ≡ Some z
number_whole (pos n) h = ap (λ b. cond b (Some (pos n)) None) h
number_whole (negsuc n) h = refl

-- ---- the text's tokens are those of the value

mutual
  have_numbers : (d : Datum) → IsWellFormed d → tree.HasNumbers (outline (data_of d))
  have_numbers nil h = tt
  have_numbers (truth b) h = tt
  have_numbers (number z) h = number_printed z h
  have_numbers (text s) h = tt
  have_numbers (array ds) h = items_have_numbers ds h
  have_numbers (object ms) h = pairs_have_numbers ms h.1

  items_have_numbers : (ds : Items) → AreWellFormedItems ds → tree.ItemsHaveNumbers (items_outline (items_of ds))
  items_have_numbers no_items h = tt
  items_have_numbers (item d ds) h = (have_numbers d h.0, items_have_numbers ds h.1)

  pairs_have_numbers : (ms : Pairs) → HasWellFormedValues ms → tree.MembersHaveNumbers (members_outline (members_of ms))
  pairs_have_numbers no_pairs h = tt
  pairs_have_numbers (pair k d ms) h = (have_numbers d h.0, pairs_have_numbers ms h.1)

tokens_back : (d : Datum) → IsWellFormed d → tokens (json_text d) ≡ tree.json_tokens (outline (data_of d))
tokens_back d h =
    ap (λ ts. tokens (print ts)) (value_tokens d)
    ∙ tokens-print (tree.json_tokens (outline (data_of d))) (ArePrintable-json_tokens (outline (data_of d)) (have_numbers d h))

-- no number has a mark
mutual
  spared : (d : Datum) → IsWellFormed d → AreSpared (json_tokens d)
  spared nil h = (tt, tt)
  spared (truth b) h = (tt, tt)
  spared (number z) h = (spared_number z (within z h), tt)
  spared (text s) h = (tt, tt)
  spared (array ds) h = (tt, spared_items ds h)
  spared (object ms) h = (tt, spared_pairs ms h.1)

  spared_items : (ds : Items) → AreWellFormedItems ds → AreSpared (items_tokens ds)
  spared_items no_items h = (tt, tt)
  spared_items (item d ds) h = are_spared-append (json_tokens d) (items_tokens ds) (spared d h.0) (spared_items ds h.1)

  spared_pairs : (ms : Pairs) → HasWellFormedValues ms → AreSpared (pairs_tokens ms)
  spared_pairs no_pairs h = (tt, tt)
  spared_pairs (pair k d ms) h =
      (tt, are_spared-append (json_tokens d) (pairs_tokens ms) (spared d h.0) (spared_pairs ms h.1))

printable : (d : Datum) → IsWellFormed d → ArePrintable (json_tokens d)
printable d h =
    subst ArePrintable (sym (value_tokens d)) (ArePrintable-json_tokens (outline (data_of d)) (have_numbers d h))

-- the text for scripts has the tokens of the other
for_scripts : (d : Datum) → IsWellFormed d → tokens (script_json d) ≡ tokens (json_text d)
for_scripts d h = script_tokens (json_tokens d) (printable d h) (spared d h)

mutual
  same_depth : (d : Datum) → tree.depth (outline (data_of d)) ≡ datum_depth d
  same_depth nil = refl
  same_depth (truth b) = refl
  same_depth (number z) = refl
  same_depth (text s) = refl
  same_depth (array ds) = ap suc (same_items_depth ds)
  same_depth (object ms) = ap suc (same_pairs_depth ms)

  same_items_depth : (ds : Items) → tree.items_depth (items_outline (items_of ds)) ≡ items_depth ds
  same_items_depth no_items = refl
  same_items_depth (item d ds) = ap₂ max (same_depth d) (same_items_depth ds)

  same_pairs_depth : (ms : Pairs) → tree.members_depth (members_outline (members_of ms)) ≡ pairs_depth ms
  same_pairs_depth no_pairs = refl
  same_pairs_depth (pair k d ms) = ap₂ max (same_depth d) (same_pairs_depth ms)

-- ---- members go in, in order, one after another

abbrev joined : json.Members → json.Members → json.Members
joined json.no_members ns = ns
joined (json.member k d ms) ns = json.member k d (joined ms ns)

abbrev names : json.Members → List Text
names json.no_members = []
names (json.member k d ms) = k ∷ names ms

abbrev Sorted : List Text → Type 0
Sorted ks = IsStrictlySortedBy (slice_cmp nat_cmp) ks

joined_none : (ms : json.Members) → joined ms json.no_members ≡ ms
joined_none json.no_members = refl
joined_none (json.member k d ms) = ap (json.member k d) (joined_none ms)

joined_one : (done : json.Members) (k : Text) (d : json.Data) (ms : json.Members) → joined (joined done (json.member k d json.no_members)) ms ≡ joined done (json.member k d ms)
joined_one json.no_members k d ms = refl
joined_one (json.member l e done) k d ms = ap (json.member l e) (joined_one done k d ms)

names_joined : (done : json.Members) (k : Text) (d : json.Data) (more : List Text) → names (joined done (json.member k d json.no_members)) ++ more ≡ names done ++ k ∷ more
names_joined json.no_members k d more = refl
names_joined (json.member l e done) k d more = ap (λ ks. l ∷ ks) (names_joined done k d more)

below_middle : (l : Text) (ks : List Text) (k : Text) (more : List Text) → AllByRecursion (λ y. slice_cmp nat_cmp l y ≡ Less) (ks ++ k ∷ more) → slice_cmp nat_cmp l k ≡ Less
below_middle l [] k more h = h.0
below_middle l (x ∷ ks) k more h = below_middle l ks k more h.1

-- a key that is above those before it goes last
put_last : (done : json.Members) (k : Text) (d : json.Data) (more : List Text) → Sorted (names done ++ k ∷ more) → json.put k d done ≡ joined done (json.member k d json.no_members)
unfolding IsStrictlySortedBy
put_last json.no_members k d more h = refl
put_last (json.member l e done) k d more h =
    let above : slice_cmp nat_cmp k l ≡ Greater = nat_list_cmp_total.antisymm k l ∙ ap ordering_reverse (below_middle l (names done) k more h.0) in
    rw above (ap (json.member l e) (put_last done k d more h.1))

-- ---- a value's JSON is its data, and the data are the value

mutual
  read_json : (d : Datum) → IsWellFormed d → of_json (outline (data_of d)) ≡ Some (data_of d)
  read_json nil h = refl
  read_json (truth b) h = refl
  read_json (number z) h = ap (option_map json.number) (number_read z h)
  read_json (text s) h = refl
  read_json (array ds) h = ap (option_map json.array) (read_items ds h)
  read_json (object ms) h = ap (option_map json.object) (read_members ms json.no_members h.0 h.1)

  read_items : (ds : Items) → AreWellFormedItems ds → of_items (items_outline (items_of ds)) ≡ Some (items_of ds)
  read_items no_items h = refl
  read_items (item d ds) h = rw (read_json d h.0, read_items ds h.1) refl

  read_members : (ms : Pairs) (done : json.Members) → Sorted (names done ++ pair_names ms) → HasWellFormedValues ms → of_members (members_outline (members_of ms)) done ≡ Some (joined done (members_of ms))
  read_members no_pairs done sorted h = ap Some (sym (joined_none done))
  read_members (pair k d ms) done sorted h =
      let next = joined done (json.member k (data_of d) json.no_members) in
      ap (option_and_then (λ e. of_members (members_outline (members_of ms)) (json.put k e done))) (read_json d h.0)
      ∙ ap (of_members (members_outline (members_of ms))) (put_last done k (data_of d) (pair_names ms) sorted)
      ∙ read_members ms next (subst Sorted (sym (names_joined done k (data_of d) (pair_names ms))) sorted) h.1
      ∙ ap Some (joined_one done k (data_of d) (members_of ms))

mutual
  data_back : (d : Datum) → IsWellFormed d → reader.datum_of (data_of d) ≡ Ok d
  data_back nil h = refl
  data_back (truth b) h = refl
  data_back (number z) h = ap reader.whole_number (number_whole z h)
  data_back (text s) h = refl
  data_back (array ds) h = ap (λ r. r >>= λ es. Ok (array es)) (items_back ds h)
  data_back (object ms) h = ap (λ r. r >>= λ ps. Ok (object ps)) (pairs_back ms h.1)

  items_back : (ds : Items) → AreWellFormedItems ds → reader.parsed_items (items_of ds) ≡ Ok ds
  items_back no_items h = refl
  items_back (item d ds) h = rw (data_back d h.0, items_back ds h.1) refl

  pairs_back : (ms : Pairs) → HasWellFormedValues ms → reader.parsed_pairs (members_of ms) ≡ Ok ms
  pairs_back no_pairs h = refl
  pairs_back (pair k d ms) h = rw (data_back d h.0, pairs_back ms h.1) refl

-- ---- the laws

abbrev whole : Option (grammar.Json × List Token) → Option json.Data
whole r = option_and_then of_json (option_and_then (λ p. grammar.if_last p.0 p.1) r)

text_read : (d : Datum) → IsWellFormed d → datum_depth d ≤ max_depth → read (json_text d) ≡ Some (data_of d)
text_read d h shallow =
    ap whole (ap (grammar.value max_depth) (tokens_back d h ∙ sym (append-nil _)) ∙ value-json_tokens (outline (data_of d)) max_depth [] (omega (arith, same_depth d)))
    ∙ read_json d h

-- both texts are read alike
alike : (d : Datum) → IsWellFormed d → read (script_json d) ≡ read (json_text d)
alike d h = ap (λ ts. whole (grammar.value max_depth ts)) (for_scripts d h)

pub read_back_law : JsonifyIsReadBack
read_back_law d h shallow = ap value_read (alike d h ∙ text_read d h shallow) ∙ data_back d h

pub json_law : (d : Datum) → IsWellFormed d → datum_depth d ≤ max_depth → json_read_back d ≡ Ok d
json_law d h shallow = ap value_read (text_read d h shallow) ∙ data_back d h

pub data_law : DataAreReadBack
data_law ms h shallow = ap reader.object_read (alike (object ms) h ∙ text_read (object ms) h shallow) ∙ pairs_back ms h.1

-- two values with the same tokens are one
one_value : (i j : grammar.Json) → tree.json_tokens i ≡ tree.json_tokens j → i ≡ j
one_value i j e =
    let deep = tree.depth i + tree.depth j in
    let read_i = value-json_tokens i deep [] (omega arith) in
    let read_j = value-json_tokens j deep [] (omega arith) in
    let same = sym read_i ∙ ap (λ ts. grammar.value deep (ts ++ [])) e ∙ read_j in
    ap (λ r. pick i r) same
  where
    pick : grammar.Json → Option (grammar.Json × List Token) → grammar.Json
    pick i None = i
    pick i (Some p) = p.0

too_deep : (j : grammar.Json) → max_depth < tree.depth j → (r : Option (grammar.Json × List Token)) → grammar.value max_depth (tree.json_tokens j) ≡ r → whole r ≡ None
too_deep j h None e = refl
too_deep j h (Some (i, t ∷ ts)) e = refl
too_deep j h (Some (i, [])) e =
    let same : i ≡ j = one_value i j (sym (value-json_tokens_back max_depth (tree.json_tokens j) [] i e ∙ append-nil _)) in
    let shallow : tree.depth i ≤ max_depth = value-depth max_depth (tree.json_tokens j) [] i e in
    absurd (omega (arith, ap tree.depth same))

pub deeper_law : DeeperIsRefused
deeper_law d h deep =
    let j = outline (data_of d) in
    ap value_read (alike d h ∙ ap (λ ts. whole (grammar.value max_depth ts)) (tokens_back d h) ∙ too_deep j (omega (arith, same_depth d)) _ refl)
