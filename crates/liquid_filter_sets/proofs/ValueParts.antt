-- Items and pairs that a walk over a value has seen: each is a value, and how deep they nest.
use Rattle.std.proofs.Common.{◌≡◌, ℕ, zero, suc, ◌-◌, max, Bool, true, false, ◌&&◌, nat_lt, nat_le, List, [], ◌∷◌, ◌++◌, ◌⊎◌, inl, inr, String, Global, Less, nat_cmp, string_bytes, string_cmp, refl, sym, ap, ap₂, ◌∙◌, arith}
use Rattle.std.proofs.lemmas.Bool.{cases_Bool, leb-true, leb-false, le-leb, lt-leb, lt-ltb}
use lib.Dec.{leb-suc-suc}
use Rattle.std.specs.Cmp.Lexicographic.{slice_cmp}
use Rattle.std.specs.List.{AllByRecursion}
use Rattle.std.specs.List.Sorted.{IsStrictlySortedBy}
use Rattle.std.specs.Map.{keys_of}
use Rattle.liquid_model.specs.Data.{Items, Pairs}
use Rattle.liquid_model.specs.View.{view, items_view, pairs_view}
use Rattle.liquid_model.specs.declared.value.Value.{Value}
use Rattle.liquid_model.proofs.Views.{Entry}
use Rattle.liquid_filter_sets.specs.ReadBack.{IsWellFormed, AreWellFormedItems, HasWellFormedValues, HasAscendingKeys, datum_depth, items_depth, pairs_depth, pair_names}

pub record ItemsSeen (ds : Items) (most : ℕ) (within : Bool) : Type 0 where
  pub nested : within ≡ (nat_lt 0 most && nat_le (items_depth ds) (most - 1))
  pub held : AreWellFormedItems ds

pub record PairsSeen (ms : Pairs) (most : ℕ) (within : Bool) : Type 0 where
  pub nested : within ≡ (nat_lt 0 most && nat_le (pairs_depth ms) (most - 1))
  pub held : HasWellFormedValues ms

-- ---- depths as tests

one_deeper : (d most : ℕ) → (nat_lt 0 most && nat_le d (most - 1)) ≡ nat_le (suc d) most
one_deeper d zero = sym (lt-leb (suc d) 0 (omega arith))
one_deeper d (suc k) = rw (lt-ltb 0 (suc k) (omega arith)) (ap (nat_le d) (omega arith) ∙ sym (leb-suc-suc d k))

le_max : (a b c : ℕ) → nat_le (max a b) c ≡ (nat_le a c && nat_le b c)
le_max a b c = by (cases_Bool (nat_le a c)) (cases_Bool (nat_le b c))
  where
    by : (nat_le a c ≡ true) ⊎ (nat_le a c ≡ false) → (nat_le b c ≡ true) ⊎ (nat_le b c ≡ false) → nat_le (max a b) c ≡ (nat_le a c && nat_le b c)
    by (inl e) (inl f) = le-leb (max a b) c (omega (arith, leb-true a c e, leb-true b c f)) ∙ sym (rw (e, f) refl)
    by (inl e) (inr f) = lt-leb (max a b) c (omega (arith, leb-false b c f)) ∙ sym (rw (e, f) refl)
    by (inr e) f = lt-leb (max a b) c (omega (arith, leb-false a c e)) ∙ sym (rw e refl)

and_and : (a b c : Bool) → ((a && b) && c) ≡ (a && (b && c))
and_and true b c = refl
and_and false b c = refl

seen_deeper : (first within next : Bool) (d e most : ℕ) → within ≡ (first && nat_le d most) → next ≡ nat_le e most → (within && next) ≡ (first && nat_le (max d e) most)
seen_deeper first within next d e most h k =
    ap₂ (λ a b. a && b) h k ∙ and_and first (nat_le d most) (nat_le e most) ∙ ap (λ b. first && b) (sym (le_max d e most))

-- ---- one more

items_deeper : (vs : List Value) (v : Value) → items_depth (items_view (vs ++ v ∷ [])) ≡ max (items_depth (items_view vs)) (datum_depth (view v))
items_deeper [] v = omega arith
items_deeper (u ∷ vs) v = omega (arith, items_deeper vs v)

pairs_deeper : (es : List Entry) (e : Entry) → pairs_depth (pairs_view (es ++ e ∷ [])) ≡ max (pairs_depth (pairs_view es)) (datum_depth (view e.1))
pairs_deeper [] e = omega arith
pairs_deeper (f ∷ es) e = omega (arith, pairs_deeper es e)

items_held : (vs : List Value) (v : Value) → AreWellFormedItems (items_view vs) → IsWellFormed (view v) → AreWellFormedItems (items_view (vs ++ v ∷ []))
items_held [] v h k = (k, tt)
items_held (u ∷ vs) v h k = (h.0, items_held vs v h.1 k)

pairs_held : (es : List Entry) (e : Entry) → HasWellFormedValues (pairs_view es) → IsWellFormed (view e.1) → HasWellFormedValues (pairs_view (es ++ e ∷ []))
pairs_held [] e h k = (k, tt)
pairs_held (f ∷ es) e h k = (h.0, pairs_held es e h.1 k)

pub one_more_item : (vs : List Value) (v : Value) (most : ℕ) (within next : Bool) → ItemsSeen (items_view vs) most within → next ≡ nat_le (datum_depth (view v)) (most - 1) → IsWellFormed (view v)
    → ItemsSeen (items_view (vs ++ v ∷ [])) most (within && next)
one_more_item vs v most within next seen is held = record {
  nested = seen_deeper (nat_lt 0 most) within next _ _ (most - 1) seen.nested is ∙ ap (λ d. nat_lt 0 most && nat_le d (most - 1)) (sym (items_deeper vs v));
  held = items_held vs v seen.held held;
}

pub one_more_pair : (es : List Entry) (e : Entry) (most : ℕ) (within next : Bool) → PairsSeen (pairs_view es) most within → next ≡ nat_le (datum_depth (view e.1)) (most - 1) → IsWellFormed (view e.1)
    → PairsSeen (pairs_view (es ++ e ∷ [])) most (within && next)
one_more_pair es e most within next seen is held = record {
  nested = seen_deeper (nat_lt 0 most) within next _ _ (most - 1) seen.nested is ∙ ap (λ d. nat_lt 0 most && nat_le d (most - 1)) (sym (pairs_deeper es e));
  held = pairs_held es e seen.held held;
}

-- ---- all of them

pub items_nested : (ds : Items) (most : ℕ) (within : Bool) → ItemsSeen ds most within → within ≡ nat_le (suc (items_depth ds)) most
items_nested ds most within seen = seen.nested ∙ one_deeper (items_depth ds) most

pub pairs_nested : (ms : Pairs) (most : ℕ) (within : Bool) → PairsSeen ms most within → within ≡ nat_le (suc (pairs_depth ms)) most
pairs_nested ms most within seen = seen.nested ∙ one_deeper (pairs_depth ms) most

named_above : (k : String Global) (es : List Entry) → AllByRecursion (λ l. string_cmp k l ≡ Less) (keys_of es) → AllByRecursion (λ l. slice_cmp nat_cmp (string_bytes k) l ≡ Less) (pair_names (pairs_view es))
named_above k [] h = h
named_above k (e ∷ es) h = (h.0, named_above k es h.1)

pub ascending : (es : List Entry) → IsStrictlySortedBy string_cmp (keys_of es) → HasAscendingKeys (pairs_view es)
unfolding IsStrictlySortedBy
ascending [] h = h
ascending (e ∷ es) h = (named_above e.0 es h.0, ascending es h.1)
