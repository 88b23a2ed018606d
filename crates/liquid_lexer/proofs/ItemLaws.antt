-- What is read between an opener and a closer stands in the grammar, and what stands in the grammar is read.
use Rattle.std.proofs.Common.{◌≡◌, ℕ, zero, suc, ◌<◌, ◌≤◌, List, [], ◌∷◌, ◌++◌, length, take, get_or, Bool, true, false, eqb, ◌⊎◌, inl, inr, Option, Some, None, refl, ap, subst, ◌∙◌, sym, arith}
use Rattle.std.specs.Option.{option_and_then, option_map, option_or}
use Rattle.liquid_core.specs.Expression.{Expression}
use Rattle.liquid_model.specs.Words.{Blank}
use Rattle.liquid_lexer.specs.ValueReading.{expression_at}
use Rattle.liquid_model.specs.Front.{past_white, past_byte, word_at, literal_at, quoted_at, integer_at}
use Rattle.liquid_lexer.specs.Items.{Item, value, range, spelling_of, IsSymbol, IsRange, is_range, mark, dash_if, IsItem, is_symbol, is_interval, is_value, NoCloser, AreItems, closed, item}
use Rattle.liquid_lexer.specs.ItemReading.{bare_closer_at, closer_by, closer_at, two_bytes, one_byte, long_symbol_at, short_symbol_at, symbol_at, range_at, before, range_or_value, item_by, lexed_item, ReadItems, items_by, items_at}
use Rattle.liquid_lexer.specs.declared.symbol.Symbol.{Symbol}
use Rattle.liquid_lexer.specs.declared.symbol.Symbol.TheVariants.{Equals, NotEquals, LessOrGreater, LessThanEquals, GreaterThanEquals, LessThan, GreaterThan, Assign, Colon, Comma, Bar}
use Rattle.liquid_lexer.specs.declared.item.Delimiter.{Delimiter}
use Rattle.liquid_lexer.specs.declared.item.Delimiter.TheVariants.{Output, Tag}
use Rattle.liquid_model.proofs.WordLaws.{bind_some, map_some, from_some, byte_some, blank_takes, blank_again, blank_shorter, opens_value}
use Rattle.liquid_lexer.proofs.ValueLaws.{value_takes, value_again, value_shrinks, value_opens, value_at_front, apart}
use Rattle.std.proofs.lemmas.Bool.{ne_eqb}
use Rattle.std.proofs.lemmas.List.{length-append}
use Rattle.std.proofs.Math.Seq.{take-append_seam}
use Rattle.std.proofs.lemmas.Option.{none-some}

-- ---- closers

two_takes : (k : Delimiter) (bs rest : List ℕ) → bare_closer_at k bs ≡ Some rest → bs ≡ mark k ∷ 125 ∷ rest
two_takes k bs rest h = let a = bind_some (past_byte (mark k) bs) (past_byte 125) rest h in byte_some (mark k) bs a.0 a.1 ∙ ap (λ l. mark k ∷ l) (byte_some 125 a.0 rest a.2)

closer_takes_by : (k : Delimiter) (bs : List ℕ) (o : Option (List ℕ)) (x : Bool × List ℕ) → past_byte 45 bs ≡ o → closer_by k bs o ≡ Some x → bs ≡ dash_if x.0 ++ (mark k ∷ 125 ∷ x.1)
closer_takes_by k bs (Some r) x e h = let a = map_some (bare_closer_at k r) _ x h in subst (λ (x : Bool × List ℕ). bs ≡ dash_if x.0 ++ (mark k ∷ 125 ∷ x.1)) a.2 (byte_some 45 bs r e ∙ ap (λ l. 45 ∷ l) (two_takes k r a.0 a.1))
closer_takes_by k bs None x e h = let a = map_some (bare_closer_at k bs) _ x h in subst (λ (x : Bool × List ℕ). bs ≡ dash_if x.0 ++ (mark k ∷ 125 ∷ x.1)) a.2 (two_takes k bs a.0 a.1)

pub closer_takes : (k : Delimiter) (bs : List ℕ) (x : Bool × List ℕ) → closer_at k bs ≡ Some x → bs ≡ dash_if x.0 ++ (mark k ∷ 125 ∷ x.1)
unfolding closer_at
closer_takes k bs x h = closer_takes_by k bs (past_byte 45 bs) x refl h

pub closer_again : (k : Delimiter) (d : Bool) (rest : List ℕ) → closer_at k (dash_if d ++ (mark k ∷ 125 ∷ rest)) ≡ Some (d, rest)
unfolding closer_at
closer_again Output true rest = refl
closer_again Output false rest = refl
closer_again Tag true rest = refl
closer_again Tag false rest = refl

pub closer_none : (k : Delimiter) (bs : List ℕ) → closer_at k bs ≡ None → NoCloser k bs
closer_none k bs h d rest e = none-some (d, rest) (sym h ∙ ap (closer_at k) e ∙ closer_again k d rest)

no_closer_by : (k : Delimiter) (bs : List ℕ) (o : Option (Bool × List ℕ)) → closer_at k bs ≡ o → NoCloser k bs → o ≡ None
no_closer_by k bs None e h = refl
no_closer_by k bs (Some x) e h = absurd (h x.0 x.1 (closer_takes k bs x e))

pub no_closer : (k : Delimiter) (bs : List ℕ) → NoCloser k bs → closer_at k bs ≡ None
no_closer k bs h = no_closer_by k bs (closer_at k bs) refl h

-- ---- symbols

or_either : {A : Type 0} (o p : Option A) (x : A) → option_or o p ≡ Some x → (o ≡ Some x) ⊎ ((o ≡ None) × (p ≡ Some x))
or_either None p x h = inr (refl, h)
or_either (Some y) p x h = inl h

Spelled : List ℕ → Symbol × List ℕ → Type 0
Spelled bs x = bs ≡ spelling_of x.0 ++ x.1

one_spelled : (b : ℕ) (s : Symbol) (bs : List ℕ) → spelling_of s ≡ b ∷ [] → (x : Symbol × List ℕ) → one_byte b s bs ≡ Some x → Spelled bs x × (length (spelling_of x.0) ≡ 1)
unfolding Spelled
one_spelled b s bs e x h =
    let r = map_some (past_byte b bs) _ x h in
    subst (λ (x : Symbol × List ℕ). Spelled bs x × (length (spelling_of x.0) ≡ 1)) r.2
    (byte_some b bs r.0 r.1 ∙ ap (λ (l : List ℕ). l ++ r.0) (sym e), ap (length {A = ℕ}) e)

two_spelled : (b c : ℕ) (s : Symbol) (bs : List ℕ) → spelling_of s ≡ b ∷ c ∷ [] → (x : Symbol × List ℕ) → two_bytes b c s bs ≡ Some x → Spelled bs x × (length (spelling_of x.0) ≡ 2)
unfolding Spelled
two_spelled b c s bs e x h =
    let r = map_some (option_and_then (past_byte c) (past_byte b bs)) _ x h in
    let a = bind_some (past_byte b bs) (past_byte c) r.0 r.1 in
    subst (λ (x : Symbol × List ℕ). Spelled bs x × (length (spelling_of x.0) ≡ 2)) r.2
    (byte_some b bs a.0 a.1 ∙ ap (λ (l : List ℕ). b ∷ l) (byte_some c a.0 r.0 a.2) ∙ ap (λ (l : List ℕ). l ++ r.0) (sym e), ap (length {A = ℕ}) e)

or_holds : {A : Type 0} (P : A → Type 0) (o p : Option A) → ((x : A) → o ≡ Some x → P x) → ((x : A) → p ≡ Some x → P x) → (x : A) → option_or o p ≡ Some x → P x
or_holds P o p f g x h = elim (or_either o p x h) [ inl e ↦ f x e | inr e ↦ g x e.1 ]

long_spelled : (bs : List ℕ) (x : Symbol × List ℕ) → long_symbol_at bs ≡ Some x → Spelled bs x × (length (spelling_of x.0) ≡ 2)
unfolding long_symbol_at
long_spelled bs =
    let P : Symbol × List ℕ → Type 0 = λ x. Spelled bs x × (length (spelling_of x.0) ≡ 2) in
    or_holds P _ _ (two_spelled 61 61 Equals bs refl) (or_holds P _ _ (two_spelled 33 61 NotEquals bs refl) (or_holds P _ _ (two_spelled 60 62 LessOrGreater bs refl)
    (or_holds P _ _ (two_spelled 60 61 LessThanEquals bs refl) (two_spelled 62 61 GreaterThanEquals bs refl))))

short_spelled : (bs : List ℕ) (x : Symbol × List ℕ) → short_symbol_at bs ≡ Some x → Spelled bs x × (length (spelling_of x.0) ≡ 1)
unfolding short_symbol_at
short_spelled bs =
    let P : Symbol × List ℕ → Type 0 = λ x. Spelled bs x × (length (spelling_of x.0) ≡ 1) in
    or_holds P _ _ (one_spelled 60 LessThan bs refl) (or_holds P _ _ (one_spelled 62 GreaterThan bs refl) (or_holds P _ _ (one_spelled 61 Assign bs refl)
    (or_holds P _ _ (one_spelled 58 Colon bs refl) (or_holds P _ _ (one_spelled 44 Comma bs refl) (one_spelled 124 Bar bs refl)))))

at_most_two : (t : Symbol) → length (spelling_of t) ≤ 2
at_most_two Equals = omega arith
at_most_two NotEquals = omega arith
at_most_two LessOrGreater = omega arith
at_most_two LessThanEquals = omega arith
at_most_two GreaterThanEquals = omega arith
at_most_two LessThan = omega arith
at_most_two GreaterThan = omega arith
at_most_two Assign = omega arith
at_most_two Colon = omega arith
at_most_two Comma = omega arith
at_most_two Bar = omega arith

-- where a long symbol stands, it is read
long_again : (t : Symbol) (rest : List ℕ) → (length (spelling_of t) ≡ 2) → long_symbol_at (spelling_of t ++ rest) ≡ Some (t, rest)
unfolding long_symbol_at
long_again Equals rest h = refl
long_again NotEquals rest h = refl
long_again LessOrGreater rest h = refl
long_again LessThanEquals rest h = refl
long_again GreaterThanEquals rest h = refl
long_again LessThan rest h = absurd (omega (arith, h))
long_again GreaterThan rest h = absurd (omega (arith, h))
long_again Assign rest h = absurd (omega (arith, h))
long_again Colon rest h = absurd (omega (arith, h))
long_again Comma rest h = absurd (omega (arith, h))
long_again Bar rest h = absurd (omega (arith, h))

short_again : (t : Symbol) (rest : List ℕ) → (length (spelling_of t) ≡ 2 → ⊥) → short_symbol_at (spelling_of t ++ rest) ≡ Some (t, rest)
unfolding short_symbol_at
short_again Equals rest h = absurd (h refl)
short_again NotEquals rest h = absurd (h refl)
short_again LessOrGreater rest h = absurd (h refl)
short_again LessThanEquals rest h = absurd (h refl)
short_again GreaterThanEquals rest h = absurd (h refl)
short_again LessThan rest h = refl
short_again GreaterThan rest h = refl
short_again Assign rest h = refl
short_again Colon rest h = refl
short_again Comma rest h = refl
short_again Bar rest h = refl

two_or_one : (t : Symbol) → (length (spelling_of t) ≡ 2) ⊎ (length (spelling_of t) ≡ 1)
two_or_one Equals = inl refl
two_or_one NotEquals = inl refl
two_or_one LessOrGreater = inl refl
two_or_one LessThanEquals = inl refl
two_or_one GreaterThanEquals = inl refl
two_or_one LessThan = inr refl
two_or_one GreaterThan = inr refl
two_or_one Assign = inr refl
two_or_one Colon = inr refl
two_or_one Comma = inr refl
two_or_one Bar = inr refl

none_long : (bs : List ℕ) → long_symbol_at bs ≡ None → (t : Symbol) (after : List ℕ) → bs ≡ spelling_of t ++ after → length (spelling_of t) ≤ 1
none_long bs h t after e = elim (two_or_one t) [
  | inl two ↦ absurd (none-some (t, after) (sym h ∙ ap long_symbol_at e ∙ long_again t after two))
  | inr one ↦ omega (arith, one)
]

pub symbol_takes : (bs : List ℕ) (x : Symbol × List ℕ) → symbol_at bs ≡ Some x → IsSymbol x.0 bs x.1
unfolding Spelled
symbol_takes bs x h = elim (or_either (long_symbol_at bs) (short_symbol_at bs) x h) [
  | inl e ↦ (let s = long_spelled bs x e in record { joined = s.0; longest = λ t after g. omega (arith, s.1, at_most_two t) })
  | inr e ↦ (let s = short_spelled bs x e.1 in record { joined = s.0; longest = λ t after g. omega (arith, s.1, none_long bs e.0 t after g) })
]

long_or : (bs : List ℕ) (o : Option (Symbol × List ℕ)) (x : Symbol × List ℕ) → long_symbol_at bs ≡ o → ((t : Symbol) (after : List ℕ) → bs ≡ spelling_of t ++ after → length (spelling_of t) ≤ 1) → short_symbol_at bs ≡ Some x → option_or o (short_symbol_at bs) ≡ Some x
unfolding Spelled
long_or bs None x e h k = k
long_or bs (Some y) x e h k = let s = long_spelled bs y e in absurd (omega (arith, s.1, h y.0 y.1 s.0))

pub symbol_again : (s : Symbol) (bs rest : List ℕ) → IsSymbol s bs rest → symbol_at bs ≡ Some (s, rest)
symbol_again s bs rest h = elim (two_or_one s) [
  | inl two ↦ ap (λ o. option_or o (short_symbol_at bs)) (ap long_symbol_at h.joined ∙ long_again s rest two)
  | inr one ↦ long_or bs (long_symbol_at bs) (s, rest) refl (λ t after e. omega (arith, one, h.longest t after e)) (ap short_symbol_at h.joined ∙ short_again s rest (λ two. omega (arith, one, two)))
]

symbol_shrinks : {s : Symbol} {bs rest : List ℕ} → IsSymbol s bs rest → length rest < length bs
symbol_shrinks {s} {bs} {rest} h = let e = ap (length {A = ℕ}) h.joined ∙ length-append (spelling_of s) rest in elim (two_or_one s) [ inl two ↦ omega (arith, e, two) | inr one ↦ omega (arith, e, one) ]

-- ---- ranges

range_takes : (bs : List ℕ) (x : Item × List ℕ) → range_at bs ≡ Some x → (first : Expression) × (second : Expression) × (x.0 ≡ range first second) × IsRange first second bs x.1
unfolding range_at
range_takes bs x h =
    let a = bind_some (expression_at 200 (past_white bs)) _ x h in
    let b = bind_some (past_byte 46 (past_white a.0.1)) _ x a.2 in
    let c = bind_some (past_byte 46 b.0) _ x b.2 in
    let d = bind_some (expression_at 200 (past_white c.0)) _ x c.2 in
    let e = bind_some (past_byte 41 (past_white d.0.1)) _ x d.2 in
    let whole : (range a.0.0 d.0.0, e.0) ≡ x = from_some e.2 in
    let dots : past_white a.0.1 ≡ 46 ∷ 46 ∷ c.0 = byte_some 46 (past_white a.0.1) b.0 b.1 ∙ ap (λ (l : List ℕ). 46 ∷ l) (byte_some 46 b.0 c.0 c.1) in
    let ends : past_white d.0.1 ≡ 41 ∷ e.0 = byte_some 41 (past_white d.0.1) e.0 e.1 in
    subst (λ (x : Item × List ℕ). (first : Expression) × (second : Expression) × (x.0 ≡ range first second) × IsRange first second bs x.1) whole (
      a.0.0,
      d.0.0,
      refl,
      is_range (blank_takes bs) (value_takes 200 (past_white bs) a.0 a.1) (subst (Blank a.0.1) dots (blank_takes a.0.1))
          (blank_takes c.0) (value_takes 200 (past_white c.0) d.0 d.1) (subst (Blank d.0.1) ends (blank_takes d.0.1)),
    )

range_again : {first second : Expression} {bs rest : List ℕ} → IsRange first second bs rest → range_at bs ≡ Some (range first second, rest)
unfolding range_at
range_again (is_range {from = from} {next = next} a x b c y d) =
    rw (blank_again _ _ a, value_again x, blank_again _ _ b, blank_again _ _ c, value_again y, blank_again _ _ d)

range_shrinks : {first second : Expression} {bs rest : List ℕ} → IsRange first second bs rest → length rest < length bs
range_shrinks (is_range a x b c y d) = omega (arith, blank_shorter a, value_shrinks x, blank_shorter b, blank_shorter c, value_shrinks y, blank_shorter d)

-- ---- one item

-- what opens a value opens no symbol and no range
no_symbol : (bs : List ℕ) → opens_value (get_or bs 0 0) ≡ true → symbol_at bs ≡ None
unfolding long_symbol_at short_symbol_at opens_value
no_symbol [] h = absurd cc
no_symbol (b ∷ bs) h =
    let other : (q : ℕ) → opens_value q ≡ false → eqb b q ≡ false = λ q k. ne_eqb b q (apart opens_value b q h k) in
    rw (other 61 refl, other 33 refl, other 60 refl, other 62 refl, other 58 refl, other 44 refl, other 124 refl)

no_parenthesis : (bs : List ℕ) → opens_value (get_or bs 0 0) ≡ true → past_byte 40 bs ≡ None
unfolding opens_value
no_parenthesis [] h = refl
no_parenthesis (b ∷ bs) h = rw (ne_eqb b 40 (apart opens_value b 40 h refl))

before_is : (front rest : List ℕ) → before (front ++ rest) rest ≡ front
before_is front rest = ap (λ n. take n (front ++ rest)) (let e = length-append front rest in omega (arith, e)) ∙ take-append_seam front rest

range_or_takes : (bs : List ℕ) (o : Option (List ℕ)) (x : Item × List ℕ) → past_byte 40 bs ≡ o → range_or_value bs o ≡ Some x → IsItem x.0 bs x.1
range_or_takes bs (Some inside) x e h =
    let r = range_takes inside x h in
    subst (λ (i : Item). IsItem i bs x.1) (sym r.2) (subst (λ (l : List ℕ). IsItem (range r.0 r.1) l x.1) (sym (byte_some 40 bs inside e)) (is_interval r.3))
range_or_takes bs None x e h =
    let v = map_some (expression_at 200 bs) _ x h in
    let f = value_at_front 200 bs v.0 v.1 in
    let spelled : before bs v.0.1 ≡ f.0 = ap (λ (l : List ℕ). before l v.0.1) f.1 ∙ before_is f.0 v.0.1 in
    subst (λ (x : Item × List ℕ). IsItem x.0 bs x.1) v.2 (is_value (value_takes 200 bs v.0 v.1) (f.1 ∙ ap (λ (l : List ℕ). l ++ v.0.1) (sym spelled)))

item_takes_by : (bs : List ℕ) (o : Option (Symbol × List ℕ)) (x : Item × List ℕ) → symbol_at bs ≡ o → item_by bs o ≡ Some x → IsItem x.0 bs x.1
item_takes_by bs (Some y) x e h = subst (λ (x : Item × List ℕ). IsItem x.0 bs x.1) (from_some h) (is_symbol (symbol_takes bs y e))
item_takes_by bs None x e h = range_or_takes bs (past_byte 40 bs) x refl h

pub item_takes : (bs : List ℕ) (x : Item × List ℕ) → lexed_item bs ≡ Some x → IsItem x.0 bs x.1
unfolding lexed_item
item_takes bs x h = item_takes_by bs (symbol_at bs) x refl h

parenthesis_no_symbol : (inside : List ℕ) → symbol_at (40 ∷ inside) ≡ None
unfolding long_symbol_at short_symbol_at
parenthesis_no_symbol inside = refl

-- at the end no item stands
pub nothing_read : (bs : List ℕ) → length bs ≡ 0 → lexed_item bs ≡ None
unfolding lexed_item long_symbol_at short_symbol_at expression_at word_at literal_at quoted_at integer_at
nothing_read [] e = refl
nothing_read (b ∷ bs) e = absurd (omega (arith, e))

pub item_again : {i : Item} {bs rest : List ℕ} → IsItem i bs rest → lexed_item bs ≡ Some (i, rest)
unfolding lexed_item
item_again (is_symbol {s = s} {bs = bs} {rest = rest} e) = ap (item_by bs) (symbol_again s bs rest e)
item_again (is_interval {inside = inside} r) = ap (item_by (40 ∷ inside)) (parenthesis_no_symbol inside) ∙ range_again r
item_again (is_value {x = x} {spelling = spelling} {bs = bs} {rest = rest} v e) =
    let opens = value_opens v in
    let spelled : before bs rest ≡ spelling = ap (λ (l : List ℕ). before l rest) e ∙ before_is spelling rest in
    ap (item_by bs) (no_symbol bs opens) ∙ ap (range_or_value bs) (no_parenthesis bs opens)
    ∙ ap (option_map (λ v. (value v.0 (before bs v.1), v.1))) (value_again v) ∙ ap (λ (s : List ℕ). Some (value x s, rest)) spelled

pub item_shrinks : {i : Item} {bs rest : List ℕ} → IsItem i bs rest → length rest < length bs
item_shrinks (is_symbol e) = symbol_shrinks e
item_shrinks (is_interval r) = let l = range_shrinks r in omega (arith, l)
item_shrinks (is_value v e) = value_shrinks v

-- ---- all items of a piece

module _ (k : Delimiter) where
  by_takes : (again : List ℕ → Option ReadItems) → ((bs : List ℕ) (x : ReadItems) → again bs ≡ Some x → AreItems k x.0 x.1 bs x.2)
      → (bs : List ℕ) (o : Option (Bool × List ℕ)) (x : ReadItems) → closer_at k (past_white bs) ≡ o → items_by k again (past_white bs) o ≡ Some x → AreItems k x.0 x.1 bs x.2
  by_takes again takes bs (Some y) x e h = subst (λ (x : ReadItems). AreItems k x.0 x.1 bs x.2) (from_some h) (closed (blank_takes bs) (closer_takes k (past_white bs) y e))
  by_takes again takes bs None x e h =
      let v = bind_some (lexed_item (past_white bs)) _ x h in
      let r = map_some (again v.0.1) _ x v.2 in
      subst (λ (x : ReadItems). AreItems k x.0 x.1 bs x.2) r.2 (item (blank_takes bs) (closer_none k (past_white bs) e) (item_takes (past_white bs) v.0 v.1) (takes v.0.1 r.0 r.1))

  pub items_takes : (n : ℕ) (bs : List ℕ) (x : ReadItems) → items_at k n bs ≡ Some x → AreItems k x.0 x.1 bs x.2
  unfolding items_at
  items_takes zero bs x h = by_takes (λ bs. None) (λ bs x h. absurd cc) bs (closer_at k (past_white bs)) x refl h
  items_takes (suc n) bs x h = by_takes (items_at k n) (items_takes n) bs (closer_at k (past_white bs)) x refl h

pub items_again : {k : Delimiter} {is : List Item} {d : Bool} {bs rest : List ℕ} → AreItems k is d bs rest → (n : ℕ) → length bs ≤ n → items_at k n bs ≡ Some (is, d, rest)
unfolding items_at
items_again (closed b e) zero l = rw (blank_again _ _ b, e, closer_again)
items_again (closed b e) (suc n) l = rw (blank_again _ _ b, e, closer_again)
items_again (item b c i is) zero l = absurd (omega (arith, blank_shorter b, item_shrinks i))
items_again (item {k = k} {after = after} b c i is) (suc n) l =
    let m : length after ≤ n = omega (arith, blank_shorter b, item_shrinks i) in
    rw (blank_again _ _ b, no_closer k _ c, item_again i, items_again is n m)

dash_shorter : (k : Delimiter) (d : Bool) (from rest : List ℕ) → from ≡ dash_if d ++ (mark k ∷ 125 ∷ rest) → length rest ≤ length from
dash_shorter k true from rest e = omega (arith, ap (length {A = ℕ}) e)
dash_shorter k false from rest e = omega (arith, ap (length {A = ℕ}) e)

pub items_shorter : {k : Delimiter} {is : List Item} {d : Bool} {bs rest : List ℕ} → AreItems k is d bs rest → length rest ≤ length bs
items_shorter (closed {k = k} {d = d} {from = from} {rest = rest} b e) = omega (arith, blank_shorter b, dash_shorter k d from rest e)
items_shorter (item b c i is) = omega (arith, blank_shorter b, item_shrinks i, items_shorter is)

pub white_shorter : (bs : List ℕ) → length (past_white bs) ≤ length bs
white_shorter bs = blank_shorter (blank_takes bs)

pub turn_shorter : (bs from : List ℕ) (x : Item × List ℕ) → from ≡ past_white bs → lexed_item from ≡ Some x → length x.1 < length bs
turn_shorter bs from x e h = omega (arith, item_shrinks (item_takes from x h), white_shorter bs, ap (length {A = ℕ}) e)
