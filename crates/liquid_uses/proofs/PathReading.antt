-- What the paths of uses ask, read back one by one.
use Rattle.std.proofs.Common.{◌≡◌, ℕ, length, Bool, true, false, cond, not, ◌&&◌, ◌||◌, List, [], ◌∷◌, ◌++◌, Option, Some, None, codes, refl, sym, ap, ◌∙◌, append_assoc}
use Rattle.std.proofs.lemmas.List.{append-nil}
use Rattle.std.specs.Prelude.{◌==◌}
use mathlib.Core.Path.{subst}
use Rattle.std.specs.Cmp.Lexicographic.{bytes_decides}
use Rattle.std.specs.List.{list_all}
use Rattle.liquid_model.specs.Data.{Datum, Pairs}
use Rattle.liquid_model.specs.Find.{value_at}
use Rattle.liquid_model.specs.Texts.{Text, same_text}
use Rattle.liquid_model.specs.Uses.{Use, nothing, everything, parts, Fields, no_fields, field, ItemUse, uncounted, up_to, every, there, member, loop_items_of, Pairwise, Alike, AlikeFields, AlikeItems, use_in, asks_whether, has_every}
use Rattle.liquid_model.proofs.Alike.{alike_equal, up_to_all, pairwise_more}
use Rattle.liquid_uses.specs.Paths.{is_word_byte, is_dotted_key, are_words, asks_members, one_path, seen_path, chosen_paths, use_paths, member_paths, item_paths, paths_in}
use Rattle.liquid_uses.specs.PathReading.{fields_after, use_by, use_next, path_fields, AlikeNamed, AlikeInPath, AlikeInPaths, PathsAskAll}

left_true : (a b : Bool) → a && b ≡ true → a ≡ true
left_true true b e = refl
left_true false b e = absurd cc

right_true : (a b : Bool) → a && b ≡ true → b ≡ true
right_true true b e = e
right_true false b e = absurd cc

left_false : (a b : Bool) → a || b ≡ false → a ≡ false
left_false true b e = absurd cc
left_false false b e = refl

right_false : (a b : Bool) → a || b ≡ false → b ≡ false
right_false true b e = absurd cc
right_false false b e = e

-- ---- a word, and what follows it

-- nothing, or a byte that can't stand in a word
abbrev Ends : Text → Type 0
Ends [] = Unit {0}
Ends (b ∷ more) = is_word_byte b ≡ false

past_word : (before w rest : Text) → list_all is_word_byte w ≡ true → fields_after before (w ++ rest) ≡ fields_after (before ++ w) rest
past_word before [] rest h = ap (λ t. fields_after t rest) (sym (append-nil before))
past_word before (c ∷ w) rest h =
    ap (λ b. cond b (fields_after (before ++ c ∷ []) (w ++ rest)) (field before (use_by c (w ++ rest)) no_fields)) (left_true (is_word_byte c) _ h)
    ∙ past_word (before ++ c ∷ []) w rest (right_true (is_word_byte c) _ h)
    ∙ ap (λ t. fields_after t rest) (append_assoc before (c ∷ []) w)

at_end : (before rest : Text) → Ends rest → fields_after before rest ≡ field before (use_next rest) no_fields
at_end before [] h = refl
at_end before (b ∷ more) h = ap (λ x. cond x (fields_after (before ++ b ∷ []) more) (field before (use_by b more) no_fields)) h

-- a name, and what follows it
name_read : (w rest : Text) → is_dotted_key w ≡ true → Ends rest → path_fields (w ++ rest) ≡ field w (use_next rest) no_fields
name_read [] rest h e = absurd cc
name_read (c ∷ w) rest h e = past_word (c ∷ []) w rest (right_true (is_word_byte c) _ (right_true (not (length (c ∷ w) == 0)) _ h)) ∙ at_end (c ∷ w) rest e

-- a key after a dot
key_read : (key rest : Text) → is_dotted_key key ≡ true → Ends rest → use_next (46 ∷ (key ++ rest)) ≡ parts (field key (use_next rest) no_fields) uncounted
key_read [] rest h e = absurd cc
key_read (c ∷ key) rest h e = ap (λ ms. parts ms uncounted) (name_read (c ∷ key) rest h e)

-- ---- what nobody asks for

unasked : (u : Use) (o p : Option Datum) → asks_whether u ≡ false → Alike u o p
unasked nothing o p e = tt
unasked everything o p e = absurd cc
unasked (parts ms ts) o p e = absurd cc

unasked_fields : (ms : Fields) (o p : Option Datum) → asks_members ms ≡ false → AlikeFields ms o p
unasked_fields no_fields o p e = tt
unasked_fields (field key u more) o p e =
    (unasked u (member key o) (member key p) (left_false (asks_whether u) _ e), unasked_fields more o p (right_false (asks_whether u) _ e))

unasked_items : (ts : ItemUse) (o p : Option Datum) → has_every ts ≡ false → AlikeItems ts o p
unasked_items uncounted o p e = tt
unasked_items (up_to n u) o p e = absurd cc

pairwise_both : {A : Type 0} (R S T : A → A → Type 0) → ((x y : A) → R x y → S x y → T x y) → (xs ys : List A) → Pairwise R xs ys → Pairwise S xs ys → Pairwise T xs ys
pairwise_both R S T k [] [] a b = tt
pairwise_both R S T k [] (y ∷ ys) a b = absurd a
pairwise_both R S T k (x ∷ xs) [] a b = absurd a
pairwise_both R S T k (x ∷ xs) (y ∷ ys) a b = (k x y a.0 b.0, pairwise_both R S T k xs ys a.1 b.1)

-- ---- what holds of two uses holds of one that asks no more than both

abbrev Joins : (Use → Type 0) → Type 0
Joins P = (u v w : Use) → ((o p : Option Datum) → Alike u o p → Alike v o p → Alike w o p) → P u → P v → P w

abbrev OfMember : Text → (Use → Type 0) → Use → Type 0
OfMember key P u = P (parts (field key u no_fields) uncounted)

abbrev OfItems : (Use → Type 0) → Use → Type 0
OfItems P u = P (parts no_fields (every u))

member_joins : (P : Use → Type 0) (key : Text) → Joins P → Joins (OfMember key P)
member_joins P key j u v w k a b =
    j (parts (field key u no_fields) uncounted) (parts (field key v no_fields) uncounted) (parts (field key w no_fields) uncounted)
    (λ o p x y. (x.0, ((k (member key o) (member key p) x.1.0.0 y.1.0.0, tt), tt))) a b

items_joins : (P : Use → Type 0) → Joins P → Joins (OfItems P)
items_joins P j u v w k a b =
    j (parts no_fields (every u)) (parts no_fields (every v)) (parts no_fields (every w))
    (λ o p x y. (x.0, (tt, pairwise_both _ _ _ (λ d e g h. k (Some d) (Some e) g h) (loop_items_of o) (loop_items_of p) x.1.1 y.1.1))) a b

less : (P : Use → Type 0) → Joins P → (u w : Use) → ((o p : Option Datum) → Alike u o p → Alike w o p) → P u → P w
less P j u w k a = j u u w (λ o p x y. k o p x) a a

-- A where something holds
abbrev Given : Bool → Type 0 → Type 0
Given true A = A
Given false A = Unit {0}

given_more : (b : Bool) (A B : Type 0) → (A → B) → Given b A → Given b B
given_more true A B k a = k a
given_more false A B k a = tt

-- ---- uses over data

module _ (ps qs : Pairs) where
  abbrev Holds : Text → Type 0
  Holds path = AlikeInPath path ps qs

  first_paths : (xs ys : List Text) → AlikeInPaths (xs ++ ys) ps qs → AlikeInPaths xs ps qs × AlikeInPaths ys ps qs
  first_paths [] ys a = (tt, a)
  first_paths (x ∷ xs) ys a = let rest = first_paths xs ys a.1 in ((a.0, rest.0), rest.1)

  -- what follows this path asks P of the value that it leads to
  abbrev Leads : Text → (Use → Type 0) → Type 0
  Leads path P = (rest : Text) → Ends rest → Holds (path ++ rest) → P (use_next rest)

  member_leads : (P : Use → Type 0) (path key : Text) → is_dotted_key key ≡ true → Leads path P → Leads (path ++ (codes "." ++ key)) (OfMember key P)
  member_leads P path key word l rest e a = subst P (key_read key rest word e) (l (46 ∷ (key ++ rest)) refl (subst Holds (append_assoc path (46 ∷ key) rest) a))

  items_lead : (P : Use → Type 0) (path : Text) → Leads path P → Leads (path ++ codes "[]") (OfItems P)
  items_lead P path l rest e a = l (91 ∷ 93 ∷ rest) refl (subst Holds (append_assoc path (91 ∷ 93 ∷ []) rest) a)

  module _ (P : Use → Type 0) (j : Joins P) (path : Text) (l : Leads path P) where
    whole : Holds path → P everything
    whole a = l [] tt (subst Holds (sym (append-nil path)) a)

    is_there : Holds (path ++ codes "?") → P there
    is_there a = l (63 ∷ []) refl a

    -- a member, and those after it
    with_member : (key : Text) (u : Use) (more : Fields) (b : Bool) → asks_members more ≡ b → OfMember key P u → Given b (P (parts more uncounted)) → P (parts (field key u more) uncounted)
    with_member key u more true e a rest = j (parts (field key u no_fields) uncounted) (parts more uncounted) (parts (field key u more) uncounted) (λ o p x y. (x.0, ((x.1.0.0, y.1.0), tt))) a rest
    with_member key u more false e a rest =
        less P j (parts (field key u no_fields) uncounted) (parts (field key u more) uncounted) (λ o p x. (x.0, ((x.1.0.0, unasked_fields more o p e), tt))) a

    member_by : (key : Text) (u : Use) (more : Fields) (b : Bool) → asks_whether u ≡ b → (b ≡ true → OfMember key P u) → Given (asks_members more) (P (parts more uncounted)) → Given (b || asks_members more) (P (parts (field key u more) uncounted))
    member_by key u more true e first rest = with_member key u more (asks_members more) refl (first refl) rest
    member_by key u more false e first rest =
        given_more (asks_members more) (P (parts more uncounted)) (P (parts (field key u more) uncounted))
        (λ a. less P j (parts more uncounted) (parts (field key u more) uncounted) (λ o p x. (x.0, ((unasked u (member key o) (member key p) e, x.1.0), tt))) a) rest

    -- the items up to a limit
    items_by : (n : Option ℕ) (u : Use) (b : Bool) → asks_whether u ≡ b → (b ≡ true → AlikeInPaths (use_paths (path ++ codes "[]") u) ps qs → OfItems P u)
        → AlikeInPaths (cond b (use_paths (path ++ codes "[]") u) (seen_path (path ++ codes "[]"))) ps qs → P (parts no_fields (up_to n u))
    items_by n u true e each a =
        less P j (parts no_fields (every u)) (parts no_fields (up_to n u)) (λ o p x. (x.0, (tt, up_to_all (λ d e. Alike u (Some d) (Some e)) n (loop_items_of o) (loop_items_of p) x.1.1))) (each refl a)
    items_by n u false e each a =
        less P j (parts no_fields (every there)) (parts no_fields (up_to n u))
        (λ o p x. (x.0, (tt, up_to_all (λ d e. Alike u (Some d) (Some e)) n (loop_items_of o) (loop_items_of p) (pairwise_more (λ d e. Alike there (Some d) (Some e)) (λ d e. Alike u (Some d) (Some e)) (λ d f y. unasked u (Some d) (Some f) e) (loop_items_of o) (loop_items_of p) x.1.1))))
        (items_lead P path l (63 ∷ []) refl a.0)

    both_parts : (ms : Fields) (ts : ItemUse) (b c : Bool) → asks_members ms ≡ b → has_every ts ≡ c → c || b ≡ true → Given b (P (parts ms uncounted)) → Given c (P (parts no_fields ts)) → P (parts ms ts)
    both_parts ms ts true true e f h a g = j (parts ms uncounted) (parts no_fields ts) (parts ms ts) (λ o p x y. (x.0, (x.1.0, y.1.1))) a g
    both_parts ms ts true false e f h a g = less P j (parts ms uncounted) (parts ms ts) (λ o p x. (x.0, (x.1.0, unasked_items ts o p f))) a
    both_parts ms ts false true e f h a g = less P j (parts no_fields ts) (parts ms ts) (λ o p x. (x.0, (unasked_fields ms o p e, x.1.1))) g
    both_parts ms ts false false e f h a g = absurd cc

    parts_by : (ms : Fields) (ts : ItemUse) (words asked : Bool) → are_words ms ≡ words → (has_every ts || asks_members ms) ≡ asked
        → (are_words ms ≡ true → AlikeInPaths (member_paths path ms) ps qs → Given (asks_members ms) (P (parts ms uncounted)))
        → (AlikeInPaths (item_paths path ts) ps qs → Given (has_every ts) (P (parts no_fields ts)))
        → AlikeInPaths (chosen_paths words asked path (member_paths path ms ++ item_paths path ts)) ps qs → P (parts ms ts)
    parts_by ms ts false asked e f first second a = less P j everything (parts ms ts) (λ o p x. alike_equal (parts ms ts) o p x) (whole a.0)
    parts_by ms ts true false e f first second a =
        less P j there (parts ms ts) (λ o p x. (x.0, (unasked_fields ms o p (right_false (has_every ts) _ f), unasked_items ts o p (left_false (has_every ts) _ f)))) (is_there a.0)
    parts_by ms ts true true e f first second a =
        let both = first_paths (member_paths path ms) (item_paths path ts) a in
        both_parts ms ts (asks_members ms) (has_every ts) refl refl f (first e both.0) (second both.1)

  mutual
    unfolding use_paths member_paths item_paths

    ask_use : (P : Use → Type 0) → Joins P → (path : Text) → Leads path P → (u : Use) → asks_whether u ≡ true → AlikeInPaths (use_paths path u) ps qs → P u
    ask_use P j path l nothing w a = absurd cc
    ask_use P j path l everything w a = whole P j path l a.0
    ask_use P j path l (parts ms ts) w a =
        parts_by P j path l ms ts (are_words ms) (has_every ts || asks_members ms) refl refl (λ words h. ask_members P j path l ms words h) (λ h. ask_items P j path l ts h) a

    ask_members : (P : Use → Type 0) → Joins P → (path : Text) → Leads path P → (ms : Fields) → are_words ms ≡ true → AlikeInPaths (member_paths path ms) ps qs → Given (asks_members ms) (P (parts ms uncounted))
    ask_members P j path l no_fields words a = tt
    ask_members P j path l (field key u more) words a =
        let both = first_paths (use_paths (path ++ (codes "." ++ key)) u) (member_paths path more) a in
        let word = left_true (is_dotted_key key) _ words in
        member_by P j path l key u more (asks_whether u) refl
        (λ w. ask_use (OfMember key P) (member_joins P key j) (path ++ (codes "." ++ key)) (member_leads P path key word l) u w both.0)
        (ask_members P j path l more (right_true (is_dotted_key key) _ words) both.1)

    ask_items : (P : Use → Type 0) → Joins P → (path : Text) → Leads path P → (ts : ItemUse) → AlikeInPaths (item_paths path ts) ps qs → Given (has_every ts) (P (parts no_fields ts))
    ask_items P j path l uncounted a = tt
    ask_items P j path l (up_to n u) a =
        items_by P j path l n u (asks_whether u) refl (λ w h. ask_use (OfItems P) (items_joins P j) (path ++ codes "[]") (items_lead P path l) u w h) a

  -- what is asked of a name
  name_by : (name : Text) (u : Use) (b : Bool) → asks_whether u ≡ b → is_dotted_key name ≡ true → AlikeInPaths (use_paths name u) ps qs → Alike u (value_at name ps) (value_at name qs)
  name_by name u false e word a = unasked u (value_at name ps) (value_at name qs) e
  name_by name u true e word a =
      ask_use (λ v. Alike v (value_at name ps) (value_at name qs)) (λ v w x k g h. k (value_at name ps) (value_at name qs) g h) name
      (λ rest ends h. (subst (λ ms. AlikeNamed ms ps qs) (name_read name rest word ends) h).0) u e a

  ask_names : (members : Fields) → are_words members ≡ true → AlikeInPaths (paths_in members) ps qs → (name : Text) → Alike (use_in name members) (value_at name ps) (value_at name qs)
  unfolding paths_in
  ask_names no_fields words a name = tt
  ask_names (field k u more) words a name =
      let both = first_paths (use_paths k u) (paths_in more) a in
      at (same_text k name) refl (name_by k u (asks_whether u) refl (left_true (is_dotted_key k) _ words) both.0) (ask_names more (right_true (is_dotted_key k) _ words) both.1 name)
    where
      at : (b : Bool) → same_text k name ≡ b → Alike u (value_at k ps) (value_at k qs) → Alike (use_in name more) (value_at name ps) (value_at name qs) → Alike (cond b u (use_in name more)) (value_at name ps) (value_at name qs)
      at true e first rest = subst (λ t. Alike u (value_at t ps) (value_at t qs)) ((bytes_decides k name).0 e) first
      at false e first rest = rest

pub paths_ask_all : PathsAskAll
paths_ask_all members ps qs words a name = ask_names ps qs members words a name
