-- The passes over the characters, as the code makes them, and what they leave.
use Rattle.std.proofs.Common.{◌≡◌, ◌≢◌, ℕ, zero, suc, ◌+◌, ◌-◌, ◌<◌, ◌≤◌, Bool, true, false, ◌&&◌, ◌||◌, eqb, not, List, [], ◌∷◌, ◌++◌, length, take, drop, Option, Some, None, option_map, ap, subst, refl, sym, ◌∙◌, arith, if◌then◌else◌, codes}
use Rattle.std.specs.List.{list_all}
use Rattle.std.proofs.lemmas.Bool.Decides.{nat_tests}
use Rattle.std.proofs.Common.{length-drop, get_or}
use Rattle.std.proofs.Math.Seq.{drop-cons}
use Rattle.std.specs.Prelude.{IsTrue}
use Rattle.std.specs.List.{list_any}
use Rattle.std.proofs.lemmas.Bool.{and_parts, and_right, or_parts}
use Rattle.liquid_filters.specs.Tags.{SplitsAtFirst, stands_for, begins_mark, has_mark, kept, without_pairs, without_tags, first_mark, is_opener}
use Rattle.liquid_filters.specs.HtmlLaws.{has_close, HasNoTag}

-- ---- a closer that does not stand in a text stands in no end of it
has_drop : (p s : List ℕ) (k : ℕ) → has_mark p s ≡ false → has_mark p (drop k s) ≡ false
has_drop p s zero h = h
has_drop p [] (suc k) h = refl
has_drop p (c ∷ s) (suc k) h = has_drop p s k (or_parts (begins_mark p (c ∷ s)) (has_mark p s) h).1

kept_all : (o e s : List ℕ) → has_mark e s ≡ false → kept o e false 0 s ≡ s
kept_all o e [] h = refl
kept_all o e (c ∷ s) h =
    ap (λ t. if t then kept o e true (length o - 1) s else c ∷ kept o e false 0 s) (and_right (begins_mark o (c ∷ s)) (has_mark e (drop (length o) (c ∷ s))) (has_drop e (c ∷ s) (length o) h))
    ∙ ap (λ t. c ∷ t) (kept_all o e s (or_parts (begins_mark e (c ∷ s)) (has_mark e s) h).1)

-- ---- no opener begins inside an opener
abbrev No60 : ℕ → List ℕ → Type 0
No60 zero s = Unit {0}
No60 (suc k) [] = Unit {0}
No60 (suc k) (c ∷ s) = (c ≢ 60) × No60 k s

alike_60 : (c : ℕ) → c ≢ 60 → stands_for 60 c ≡ false
alike_60 c h = grind (arith, nat_tests)

alike_not : (y c : ℕ) → eqb y 60 ≡ false → stands_for y c ≡ true → c ≢ 60
alike_not y c e h g = let u : ⊥ = grind (arith, nat_tests) in u

not_true : (b : Bool) → not b ≡ true → b ≡ false
not_true true h = cc
not_true false h = refl

inner : (p s : List ℕ) → list_all (λ y. not (eqb y 60)) p ≡ true → begins_mark p s ≡ true → No60 (length p) s
inner [] s a h = tt
inner (y ∷ p) [] a h = cc
inner (y ∷ p) (c ∷ s) a h =
    let q = and_parts (stands_for y c) (begins_mark p s) h in
    let r = and_parts (not (eqb y 60)) (list_all (λ y. not (eqb y 60)) p) a in
    (alike_not y c (not_true (eqb y 60) r.0) q.0, inner p s r.1 q.1)

opener_60 : (o s : List ℕ) (c : ℕ) → is_opener o ≡ true → c ≢ 60 → begins_mark o (c ∷ s) ≡ false
opener_60 [] s c h n = cc
opener_60 (x ∷ p) s c h n =
    let q = and_parts (eqb x 60) (list_all (λ y. not (eqb y 60)) p) h in
    let k : x ≡ 60 = grind (arith, nat_tests) in
    ap (λ z. stands_for z c && begins_mark p s) k ∙ ap (λ t. t && begins_mark p s) (alike_60 c n)

kept_inner : (o e : List ℕ) (k : ℕ) (s : List ℕ) → is_opener o ≡ true → No60 k s → has_mark e (drop k s) ≡ false → kept o e false 0 s ≡ s
kept_inner o e zero s i n h = kept_all o e s h
kept_inner o e (suc k) [] i n h = refl
kept_inner o e (suc k) (c ∷ s) i n h =
    ap (λ t. if t && has_mark e (drop (length o) (c ∷ s)) then kept o e true (length o - 1) s else c ∷ kept o e false 0 s) (opener_60 o s c i n.0)
    ∙ ap (λ t. c ∷ t) (kept_inner o e k s i n.1 h)

-- ---- before the first opener all is kept
pub some_suc : (o : Option ℕ) (i : ℕ) → option_map (λ k. k + 1) o ≡ Some i → (j : ℕ) × (o ≡ Some j) × (i ≡ j + 1)
some_suc None i h = let u : ⊥ = cc in absurd u
some_suc (Some j) i h = (j, refl, (cc))

pub none_suc : (o : Option ℕ) → option_map (λ k. k + 1) o ≡ None → o ≡ None
none_suc None h = refl
none_suc (Some j) h = let u : ⊥ = cc in absurd u

-- where a mark first stands, it stands, and the text before it keeps a pass outside
abbrev Before : List ℕ → List ℕ → List ℕ → ℕ → Type 0
Before o e s i = (i < length s) × (begins_mark o (drop i s) ≡ true) × (kept o e false 0 s ≡ take i s ++ kept o e false 0 (drop i s))

before_suc : (o e s : List ℕ) (c i j : ℕ) → i ≡ j + 1 → begins_mark o (c ∷ s) ≡ false → Before o e s j → Before o e (c ∷ s) i
before_suc o e s c zero j q f h = absurd (omega arith)
before_suc o e s c (suc i) j q f h =
    let k : i ≡ j = omega arith in
    let g = subst (Before o e s) (sym k) h in
    (omega (arith, g.0), g.1, ap (λ t. if t && has_mark e (drop (length o) (c ∷ s)) then kept o e true (length o - 1) s else c ∷ kept o e false 0 s) f ∙ ap (λ t. c ∷ t) g.2)

before_either : (o e s : List ℕ) (c i : ℕ) (t : Bool) → begins_mark o (c ∷ s) ≡ t → (if t then Some 0 else option_map (λ k. k + 1) (first_mark o s)) ≡ Some i → ((j : ℕ) → first_mark o s ≡ Some j → Before o e s j) → Before o e (c ∷ s) i
before_either o e s c i true f h next = let z : i ≡ 0 = cc in subst (Before o e (c ∷ s)) (sym z) (omega arith, f, refl)
before_either o e s c i false f h next = let r = some_suc (first_mark o s) i h in before_suc o e s c i r.0 r.2 f (next r.0 r.1)

before_open : (o e s : List ℕ) (i : ℕ) → first_mark o s ≡ Some i → Before o e s i
before_open o e [] i h = let u : ⊥ = cc in absurd u
before_open o e (c ∷ s) i h = before_either o e s c i (begins_mark o (c ∷ s)) refl h (λ j g. before_open o e s j g)

none_either : (o e s : List ℕ) (c : ℕ) (t : Bool) → begins_mark o (c ∷ s) ≡ t → (if t then Some 0 else option_map (λ k. k + 1) (first_mark o s)) ≡ None → (first_mark o s ≡ None → kept o e false 0 s ≡ s) → kept o e false 0 (c ∷ s) ≡ c ∷ s
none_either o e s c true f h next = let u : ⊥ = cc in absurd u
none_either o e s c false f h next =
    ap (λ t. if t && has_mark e (drop (length o) (c ∷ s)) then kept o e true (length o - 1) s else c ∷ kept o e false 0 s) f ∙ ap (λ t. c ∷ t) (next (none_suc (first_mark o s) h))

pub no_open : (o e s : List ℕ) → first_mark o s ≡ None → kept o e false 0 s ≡ s
no_open o e [] h = refl
no_open o e (c ∷ s) h = none_either o e s c (begins_mark o (c ∷ s)) refl h (no_open o e s)

-- ---- the closer: where it first stands, it is there, and inside nothing is kept up to its end
opens_long : (p s : List ℕ) → begins_mark p s ≡ true → length p ≤ length s
opens_long [] s h = omega arith
opens_long (x ∷ p) [] h = cc
opens_long (x ∷ p) (c ∷ s) h = let q = opens_long p s (and_parts (stands_for x c) (begins_mark p s) h).1 in omega arith

skip : (o e : List ℕ) (b : Bool) (k : ℕ) (s : List ℕ) → kept o e b k s ≡ kept o e b 0 (drop k s)
skip o e b zero s = refl
skip o e b (suc k) [] = refl
skip o e b (suc k) (c ∷ s) = skip o e b k s

drop_pred : (p s : List ℕ) (c : ℕ) → 0 < length p → drop (length p - 1) s ≡ drop (length p) (c ∷ s)
drop_pred [] s c l = absurd (omega arith)
drop_pred (x ∷ p) s c l = let e : length (x ∷ p) - 1 ≡ length p = omega arith in rw e refl

abbrev Closed : List ℕ → List ℕ → List ℕ → ℕ → Type 0
Closed o e s j = (has_mark e s ≡ true) × (j + length e ≤ length s) × (kept o e true 0 s ≡ kept o e false 0 (drop (j + length e) s))

closed_suc : (o e s : List ℕ) (c i j : ℕ) → i ≡ j + 1 → begins_mark e (c ∷ s) ≡ false → Closed o e s j → Closed o e (c ∷ s) i
closed_suc o e s c i j q f h =
    let d : drop (i + length e) (c ∷ s) ≡ drop (j + length e) s = let k : i + length e ≡ suc (j + length e) = omega arith in ap (λ n. drop n (c ∷ s)) k in
    (ap (λ t. t || has_mark e s) f ∙ h.0, omega (arith, h.1), ap (λ t. if t then kept o e false (length e - 1) s else kept o e true 0 s) f ∙ h.2 ∙ ap (kept o e false 0) (sym d))

closed_either : (o e s : List ℕ) (c i : ℕ) (t : Bool) → 0 < length e → begins_mark e (c ∷ s) ≡ t → (if t then Some 0 else option_map (λ k. k + 1) (first_mark e s)) ≡ Some i → ((j : ℕ) → first_mark e s ≡ Some j → Closed o e s j) → Closed o e (c ∷ s) i
closed_either o e s c i true l f h next =
    let z : i ≡ 0 = cc in
    let long = opens_long e (c ∷ s) f in
    let d : drop (i + length e) (c ∷ s) ≡ drop (length e) (c ∷ s) = ap (λ n. drop n (c ∷ s)) (omega arith) in
    (ap (λ t. t || has_mark e s) f, omega arith, ap (λ t. if t then kept o e false (length e - 1) s else kept o e true 0 s) f ∙ skip o e false (length e - 1) s ∙ ap (kept o e false 0) (drop_pred e s c l ∙ sym d))
closed_either o e s c i false l f h next = let r = some_suc (first_mark e s) i h in closed_suc o e s c i r.0 r.2 f (next r.0 r.1)

first_close : (o e s : List ℕ) (i : ℕ) → 0 < length e → first_mark e s ≡ Some i → Closed o e s i
first_close o e [] i l h = let u : ⊥ = cc in absurd u
first_close o e (c ∷ s) i l h = closed_either o e s c i (begins_mark e (c ∷ s)) l refl h (λ j g. first_close o e s j l g)

no_close_either : (e s : List ℕ) (c : ℕ) (t : Bool) → (if t then Some 0 else option_map (λ k. k + 1) (first_mark e s)) ≡ None → (first_mark e s ≡ None → has_mark e s ≡ false) → (t || has_mark e s) ≡ false
no_close_either e s c true h next = let u : ⊥ = cc in absurd u
no_close_either e s c false h next = next (none_suc (first_mark e s) h)

no_close : (e s : List ℕ) → first_mark e s ≡ None → has_mark e s ≡ false
no_close e [] h = refl
no_close e (c ∷ s) h = no_close_either e s c (begins_mark e (c ∷ s)) h (no_close e s)

-- ---- an opener at the start
pub opener_long : (o : List ℕ) → is_opener o ≡ true → 0 < length o
opener_long [] h = cc
opener_long (x ∷ p) h = omega arith

at_open : (o e s : List ℕ) → is_opener o ≡ true → begins_mark o s ≡ true → has_mark e (drop (length o) s) ≡ true → kept o e false 0 s ≡ kept o e true 0 (drop (length o) s)
at_open o e [] i f h = let l = opener_long o i in let m = opens_long o [] f in absurd (omega arith)
at_open o e (c ∷ s) i f h =
    ap (λ t. if t && has_mark e (drop (length o) (c ∷ s)) then kept o e true (length o - 1) s else c ∷ kept o e false 0 s) f
    ∙ ap (λ t. if t then kept o e true (length o - 1) s else c ∷ kept o e false 0 s) h
    ∙ skip o e true (length o - 1) s ∙ ap (kept o e true 0) (drop_pred o s c (opener_long o i))

kept_open : (o e s : List ℕ) → is_opener o ≡ true → begins_mark o s ≡ true → has_mark e (drop (length o) s) ≡ false → kept o e false 0 s ≡ s
kept_open [] e s i f h = cc
kept_open (x ∷ p) e [] i f h = refl
kept_open (x ∷ p) e (c ∷ s) i f h =
    ap (λ t. if begins_mark (x ∷ p) (c ∷ s) && t then kept (x ∷ p) e true (length (x ∷ p) - 1) s else c ∷ kept (x ∷ p) e false 0 s) h
    ∙ ap (λ t. if t then kept (x ∷ p) e true (length (x ∷ p) - 1) s else c ∷ kept (x ∷ p) e false 0 s) (and_right (begins_mark (x ∷ p) (c ∷ s)) false refl)
    ∙ ap (λ t. c ∷ t) (kept_inner (x ∷ p) e (length p) s i (inner p s (and_parts (eqb x 60) _ i).1 (and_parts (stands_for x c) (begins_mark p s) f).1) h)

pub drop_past : (k : ℕ) → drop {A = ℕ} k [] ≡ []
drop_past zero = refl
drop_past (suc k) = refl

pub drop_drop : (i k : ℕ) (s : List ℕ) → drop (i + k) s ≡ drop k (drop i s)
drop_drop zero k s = let e : zero + k ≡ k = omega arith in ap (λ n. drop n s) e
drop_drop (suc i) k [] = drop_past (suc i + k) ∙ sym (drop_past k)
drop_drop (suc i) k (c ∷ s) = let e : suc i + k ≡ suc (i + k) = omega arith in ap (λ n. drop n (c ∷ s)) e ∙ drop_drop i k s

front_back : (i : ℕ) (s : List ℕ) → take i s ++ drop i s ≡ s
front_back zero s = refl
front_back (suc i) [] = refl
front_back (suc i) (c ∷ s) = ap (λ t. c ∷ t) (front_back i s)

ap_le : (a b s : List ℕ) → a ≡ b → length b ≤ length s → length a ≤ length s
ap_le a b s e h = subst (λ x. length x ≤ length s) (sym e) h

shorter : (k : ℕ) (s : List ℕ) → length (drop k s) ≤ length s
shorter k s = let e = length-drop k s in omega arith

-- ---- what the code's cut gives
pub cut_body : (o e s before body mid rest : List ℕ) → IsTrue (is_opener o) → 0 < length e → SplitsAtFirst o s (Some (before, body)) → SplitsAtFirst e body (Some (mid, rest))
    → (kept o e false 0 s ≡ before ++ kept o e false 0 rest) × (length rest < length s)
cut_body o e s before body mid rest p l f g =
    let b = before_open o e s f.0 f.1 in
    let d : body ≡ drop (length o) (drop f.0 s) = f.3 ∙ drop_drop f.0 (length o) s in
    let k = first_close o e body g.0 l g.1 in
    let n : length body ≤ length s = ap_le body (drop (f.0 + length o) s) s f.3 (shorter (f.0 + length o) s) in
    let z : length rest ≡ length body - (g.0 + length e) = ap length g.3 ∙ length-drop (g.0 + length e) body in (
      b.2 ∙ ap (λ t. take f.0 s ++ t) (at_open o e (drop f.0 s) p b.1 (ap (has_mark e) (sym d) ∙ k.0) ∙ ap (kept o e true 0) (sym d) ∙ k.2) ∙ ap (λ t. take f.0 s ++ kept o e false 0 t) (sym g.3) ∙ ap (λ t. t ++ kept o e false 0 rest) (sym f.2),
      omega (arith, k.1, n, z, l),
    )

pub cut_no_close : (o e s before body : List ℕ) → IsTrue (is_opener o) → SplitsAtFirst o s (Some (before, body)) → SplitsAtFirst e body None → kept o e false 0 s ≡ s
cut_no_close o e s before body p f g =
    let b = before_open o e s f.0 f.1 in
    let d : body ≡ drop (length o) (drop f.0 s) = f.3 ∙ drop_drop f.0 (length o) s in
    b.2 ∙ ap (λ t. take f.0 s ++ t) (kept_open o e (drop f.0 s) p b.1 (ap (has_mark e) (sym d) ∙ no_close e body g)) ∙ front_back f.0 s

-- ---- the code's searches
pub after_turn : (p q t u : List ℕ) (x c : ℕ) → q ≡ x ∷ p → t ≡ c ∷ u → stands_for x c ≡ true → begins_mark q t ≡ begins_mark p u
after_turn p q t u x c e f h = ap (λ z. begins_mark z t) e ∙ ap (begins_mark (x ∷ p)) f ∙ ap (λ z. z && begins_mark p u) h

-- ---- the last pass by itself
abbrev untagged : Bool → List ℕ → List ℕ
untagged inside [] = []
untagged true (c ∷ s) = untagged (if eqb c 62 then false else true) s
untagged false (c ∷ s) = if eqb c 60 && has_close s then untagged true s else c ∷ untagged false s

alike_is60 : (c : ℕ) → stands_for 60 c ≡ eqb c 60
alike_is60 c = grind (arith, nat_tests)

alike_is62 : (c : ℕ) → stands_for 62 c ≡ eqb c 62
alike_is62 c = grind (arith, nat_tests)

and_true : (b : Bool) → (b && true) ≡ b
and_true true = refl
and_true false = refl

has_is : (s : List ℕ) → has_mark (62 ∷ []) s ≡ has_close s
has_is [] = refl
has_is (c ∷ s) = ap (λ t. t || has_mark (62 ∷ []) s) (and_true (stands_for 62 c) ∙ alike_is62 c) ∙ ap (λ t. eqb c 62 || t) (has_is s)

flag_either : (t : Bool) (s : List ℕ) → ((b : Bool) → kept (60 ∷ []) (62 ∷ []) b 0 s ≡ untagged b s) → (if t then kept (60 ∷ []) (62 ∷ []) false 0 s else kept (60 ∷ []) (62 ∷ []) true 0 s) ≡ untagged (if t then false else true) s
flag_either true s h = h false
flag_either false s h = h true

last_is : (b : Bool) (s : List ℕ) → kept (60 ∷ []) (62 ∷ []) b 0 s ≡ untagged b s
last_is b [] = refl
last_is true (c ∷ s) =
    ap (λ t. if t then kept (60 ∷ []) (62 ∷ []) false 0 s else kept (60 ∷ []) (62 ∷ []) true 0 s) (and_true (stands_for 62 c) ∙ alike_is62 c) ∙ flag_either (eqb c 62) s (λ b. last_is b s)
last_is false (c ∷ s) =
    ap (λ t. if t && has_mark (62 ∷ []) s then kept (60 ∷ []) (62 ∷ []) true 0 s else c ∷ kept (60 ∷ []) (62 ∷ []) false 0 s) (and_true (stands_for 60 c) ∙ alike_is60 c)
    ∙ ap (λ t. if eqb c 60 && t then kept (60 ∷ []) (62 ∷ []) true 0 s else c ∷ kept (60 ∷ []) (62 ∷ []) false 0 s) (has_is s)
    ∙ ap (λ t. if eqb c 60 && has_close s then t else c ∷ kept (60 ∷ []) (62 ∷ []) false 0 s) (last_is true s)
    ∙ ap (λ t. if eqb c 60 && has_close s then untagged true s else c ∷ t) (last_is false s)

untag_either : (b : ℕ) (s : List ℕ) (t : Bool) → (eqb b 62) ≡ false → has_close (untagged true s) ≡ false → has_close (untagged false s) ≡ false
    → has_close (if t then untagged true s else b ∷ untagged false s) ≡ false
untag_either b s true e x y = x
untag_either b s false e x y = ap (λ t. t || has_close (untagged false s)) e ∙ y

-- what has_mark no `>` keeps none
closed_kept : (i : Bool) (s : List ℕ) → has_close s ≡ false → has_close (untagged i s) ≡ false
closed_kept i [] h = refl
closed_kept true (b ∷ s) h = let q = or_parts (eqb b 62) (has_close s) h in closed_kept (if eqb b 62 then false else true) s q.1
closed_kept false (b ∷ s) h =
    let q = or_parts (eqb b 62) (has_close s) h in
    untag_either b s (eqb b 60 && has_close s) q.0 (closed_kept true s q.1) (closed_kept false s q.1)

and_no : (a b c : Bool) → (a && b) ≡ false → (b ≡ false → c ≡ false) → (a && c) ≡ false
and_no true b c h f = f h
and_no false b c h f = refl

no_tag_either : (b : ℕ) (s : List ℕ) (t : Bool) → (eqb b 60 && has_close s) ≡ t → HasNoTag (untagged true s) → HasNoTag (untagged false s)
    → HasNoTag (if t then untagged true s else b ∷ untagged false s)
no_tag_either b s true e x y = x
no_tag_either b s false e x y = (and_no (eqb b 60) (has_close s) (has_close (untagged false s)) e (closed_kept false s), y)

-- no tag is left
pub untagged-no_tag : (i : Bool) (s : List ℕ) → HasNoTag (untagged i s)
untagged-no_tag i [] = tt
untagged-no_tag true (b ∷ s) = untagged-no_tag (if eqb b 62 then false else true) s
untagged-no_tag false (b ∷ s) = no_tag_either b s (eqb b 60 && has_close s) refl (untagged-no_tag true s) (untagged-no_tag false s)

-- ---- nothing is left, and a second run changes nothing
pub nothing_left : (s : List ℕ) → HasNoTag (without_tags s)
nothing_left s = let t = without_pairs (codes "<!--") (codes "-->") (without_pairs (codes "<style") (codes "</style>") (without_pairs (codes "<script") (codes "</script>") s)) in
    subst HasNoTag (sym (last_is false t)) (untagged-no_tag false t)

close_drop : (k : ℕ) (s : List ℕ) → has_close s ≡ false → has_close (drop k s) ≡ false
close_drop zero s h = h
close_drop (suc k) [] h = refl
close_drop (suc k) (c ∷ s) h = close_drop k s (or_parts (eqb c 62) (has_close s) h).1

alike_62 : (c : ℕ) → eqb c 62 ≡ false → stands_for 62 c ≡ false
alike_62 c h = alike_is62 c ∙ h

no_opens_at : (y : ℕ) (e : List ℕ) (c : ℕ) (s : List ℕ) (t : Bool) → eqb y 62 ≡ t → (t || list_any (λ z. eqb z 62) e) ≡ true → eqb c 62 ≡ false → (list_any (λ z. eqb z 62) e ≡ true → begins_mark e s ≡ false) → (stands_for y c && begins_mark e s) ≡ false
no_opens_at y e c s true k a h next = let q : y ≡ 62 = grind (arith, nat_tests) in ap (λ z. stands_for z c && begins_mark e s) q ∙ ap (λ t. t && begins_mark e s) (alike_62 c h)
no_opens_at y e c s false k a h next = and_right (stands_for y c) (begins_mark e s) (next a)

no_opens : (e s : List ℕ) → list_any (λ y. eqb y 62) e ≡ true → has_close s ≡ false → begins_mark e s ≡ false
no_opens [] s a h = cc
no_opens (y ∷ e) [] a h = refl
no_opens (y ∷ e) (c ∷ s) a h = no_opens_at y e c s (eqb y 62) refl a (or_parts (eqb c 62) (has_close s) h).0 (λ b. no_opens e s b (or_parts (eqb c 62) (has_close s) h).1)

no_has : (e s : List ℕ) → list_any (λ y. eqb y 62) e ≡ true → has_close s ≡ false → has_mark e s ≡ false
no_has e [] a h = refl
no_has e (c ∷ s) a h = ap (λ t. t || has_mark e s) (no_opens e (c ∷ s) a h) ∙ no_has e s a (or_parts (eqb c 62) (has_close s) h).1

stays_at : (o e s : List ℕ) (c : ℕ) (t : Bool) → is_opener o ≡ true → list_any (λ y. eqb y 62) e ≡ true → eqb c 60 ≡ t → (t && has_close s) ≡ false → (begins_mark o (c ∷ s) && has_mark e (drop (length o) (c ∷ s))) ≡ false
stays_at o e s c false i a k h = let n : c ≢ 60 = (λ z. let u : ⊥ = grind (arith, nat_tests) in u) in ap (λ t. t && has_mark e (drop (length o) (c ∷ s))) (opener_60 o s c i n)
stays_at [] e s c true i a k h = cc
stays_at (x ∷ p) e s c true i a k h = and_right (begins_mark (x ∷ p) (c ∷ s)) (has_mark e (drop (length p) s)) (no_has e (drop (length p) s) a (close_drop (length p) s h))

stays : (o e s : List ℕ) → is_opener o ≡ true → list_any (λ y. eqb y 62) e ≡ true → HasNoTag s → kept o e false 0 s ≡ s
stays o e [] i a h = refl
stays o e (c ∷ s) i a h =
    ap (λ t. if t then kept o e true (length o - 1) s else c ∷ kept o e false 0 s) (stays_at o e s c (eqb c 60) i a refl h.0) ∙ ap (λ t. c ∷ t) (stays o e s i a h.1)

pub no_change : (s : List ℕ) → HasNoTag s → without_tags s ≡ s
no_change s h =
    ap (λ x. without_pairs (codes "<") (codes ">") (without_pairs (codes "<!--") (codes "-->") (without_pairs (codes "<style") (codes "</style>") x))) (stays (codes "<script") (codes "</script>") s refl refl h)
    ∙ ap (λ x. without_pairs (codes "<") (codes ">") (without_pairs (codes "<!--") (codes "-->") x)) (stays (codes "<style") (codes "</style>") s refl refl h)
    ∙ ap (λ x. without_pairs (codes "<") (codes ">") x) (stays (codes "<!--") (codes "-->") s refl refl h)
    ∙ stays (codes "<") (codes ">") s refl refl h

pub twice : (s : List ℕ) → without_tags (without_tags s) ≡ without_tags s
twice s = no_change (without_tags s) (nothing_left s)

drop_at : (s : List ℕ) (i d : ℕ) → i < length s → drop i s ≡ get_or s i d ∷ drop (i + 1) s
drop_at s i d h = let e : suc i ≡ i + 1 = omega arith in drop-cons s i d h ∙ ap (λ n. get_or s i d ∷ drop n s) e

pub after_more : (mark text rest more : List ℕ) (i w f : ℕ) (A : Bool) → i < length mark → w ≡ get_or mark i w → rest ≡ f ∷ more → stands_for w f ≡ true
    → (begins_mark (drop i mark) rest ≡ A) × (rest ≡ drop i text) → (begins_mark (drop (i + 1) mark) more ≡ A) × (more ≡ drop (i + 1) text)
after_more mark text rest more i w f A l e g h inv =
    let d : drop i mark ≡ w ∷ drop (i + 1) mark = drop_at mark i w l ∙ ap (λ z. z ∷ drop (i + 1) mark) (sym e) in
    (sym (after_turn (drop (i + 1) mark) (drop i mark) rest more w f d g h) ∙ inv.0, ap (drop 1) (sym g ∙ inv.1) ∙ sym (drop_drop i 1 text))

abbrev pub Seeks : List ℕ → List ℕ → List ℕ → ℕ → Type 0
Seeks p s rest i = (rest ≡ drop i s) × (i ≤ length s) × (first_mark p s ≡ option_map (λ k. k + i) (first_mark p rest))

plus_map : (o : Option ℕ) (i : ℕ) → option_map (λ k. k + i) (option_map (λ k. k + 1) o) ≡ option_map (λ k. k + (i + 1)) o
plus_map None i = refl
plus_map (Some k) i = ap Some (omega arith)

plus_none : (o : Option ℕ) → o ≡ option_map (λ k. k + 0) o
plus_none None = refl
plus_none (Some k) = ap Some (omega arith)

pub seeks_start : (p s : List ℕ) → Seeks p s s 0
seeks_start p s = (refl, omega arith, plus_none (first_mark p s))

pub seeks_more : (p s rest more : List ℕ) (c i : ℕ) → rest ≡ c ∷ more → begins_mark p rest ≡ false → Seeks p s rest i → Seeks p s more (i + 1)
seeks_more p s rest more c i e f h =
    let n : length rest ≡ length s - i = ap length h.0 ∙ length-drop i s in
    let m : length rest ≡ suc (length more) = ap length e in (
      ap (drop 1) (sym e ∙ h.0) ∙ sym (drop_drop i 1 s),
      omega arith,
      h.2 ∙ ap (λ t. option_map (λ k. k + i) (first_mark p t)) e ∙ ap (λ t. option_map (λ k. k + i) (if t then Some 0 else option_map (λ k. k + 1) (first_mark p more))) (sym (ap (begins_mark p) e) ∙ f) ∙ plus_map (first_mark p more) i,
    )

pub seeks_found : (p s rest more before left : List ℕ) (c i : ℕ) → rest ≡ c ∷ more → begins_mark p rest ≡ true → left ≡ drop (length p) rest → before ≡ take i s → Seeks p s rest i → SplitsAtFirst p s (Some (before, left))
seeks_found p s rest more before left c i e f g b h = (
  i,
  h.2 ∙ ap (λ t. option_map (λ k. k + i) (first_mark p t)) e ∙ ap (λ t. option_map (λ k. k + i) (if t then Some 0 else option_map (λ k. k + 1) (first_mark p more))) (sym (ap (begins_mark p) e) ∙ f) ∙ ap Some (omega arith),
  b,
  g ∙ ap (drop (length p)) h.0 ∙ sym (drop_drop i (length p) s),
)

pub seeks_none : (p s rest : List ℕ) (i : ℕ) → length rest ≡ 0 → Seeks p s rest i → first_mark p s ≡ None
seeks_none p s [] i z h = h.2
seeks_none p s (c ∷ rest) i z h = absurd (omega arith)
