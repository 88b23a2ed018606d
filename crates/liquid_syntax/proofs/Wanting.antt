-- What is settled stays so, and what is asked for is settled.
use Rattle.std.proofs.Common.{◌≡◌, ℕ, suc, ◌+◌, ◌<◌, ◌≤◌, Bool, true, false, ◌||◌, ◌&&◌, T, List, [], ◌∷◌, ◌++◌, length, map, take, drop, get_or, string_bytes, String, Global, refl, sym, ap, subst, ◌∙◌, codes}
use Rattle.std.specs.List.{list_all}
use Rattle.std.specs.BTreeSet.{BTreeSet}
use Rattle.liquid_core.specs.Environment.{Names}
use Rattle.liquid_model.specs.Texts.{Text, same_text}
use Rattle.liquid_model.proofs.Maps.{same_text_equal}
use Rattle.liquid_evaluation.specs.Names.{mentioned}
use Rattle.liquid_evaluation.specs.Tree.{Nodes}
use Rattle.liquid_evaluation.specs.PartialCalls.{PartialCall, of_any_name, of_name, of_name_or_liquid, nodes_calls}
use Rattle.liquid_syntax.specs.NameSets.{mentioned_in_set, added}
use Rattle.liquid_syntax.specs.Reached.{AllFoundOrAsked, StaysAsked, Spreads, Widens, are_settled, found_or_asked, had, is_settled, known_in, partials_settled, waits_in}
use Rattle.liquid_syntax.specs.Templates.{template_nodes, tree_of}
use Rattle.liquid_syntax.specs.inside.Calls.{list_calls, own_calls}
use Rattle.liquid_syntax.specs.inside.OwnNodes.{own_nodes}
use Rattle.liquid_syntax.specs.declared.node.Node.{Node}
use Rattle.liquid_syntax.specs.declared.template.Template.{Template}
use Rattle.liquid_syntax.specs.declared.wanted.Asked.{Asked}
use Rattle.liquid_syntax.specs.declared.wanted.Wanted.{Wanted}
use Rattle.liquid_syntax.proofs.TreeCalls.{template_calls}
use Rattle.std.proofs.lemmas.List.{take_all}
use Rattle.std.proofs.lemmas.List.Folds.{list_all-append, list_all_more}

pub holds : (b : Bool) → T b → b ≡ true
holds true h = refl
holds false h = absurd h

pub held : (b : Bool) → b ≡ true → T b
held true h = tt
held false h = absurd cc

pub left_of : (a b : Bool) → T (a && b) → T a
left_of true b h = tt
left_of false b h = absurd h

pub right_of : (a b : Bool) → T (a && b) → T b
right_of true b h = h
right_of false b h = absurd h

pub both_of : (a b : Bool) → T a → T b → T (a && b)
both_of true b h k = k
both_of false b h k = absurd h

pub or_first : (a b : Bool) → T a → T (a || b)
or_first true b h = tt
or_first false b h = absurd h

pub or_second : (a b : Bool) → T b → T (a || b)
or_second true b h = tt
or_second false b h = h

pub one_of : {R : Type 0} (a b : Bool) → T (a || b) → (T a → R) → (T b → R) → R
one_of true b h k l = k tt
one_of false b h k l = l h

-- a name that a set was given is in it, and the others stay
pub given : (s n : BTreeSet (String Global)) (name : Text) → mentioned_in_set n ≡ added (name ∷ []) (mentioned_in_set s) → T (same_text name name) → mentioned_in_set n name ≡ true
unfolding added
given s n name is same = holds _ (subst (λ f. T (f name)) (sym is) (or_second (mentioned_in_set s name) _ (or_first (same_text name name) false same)))

pub stays : (s n : BTreeSet (String Global)) (name : Text) → mentioned_in_set n ≡ added (name ∷ []) (mentioned_in_set s) → (other : Text) → T (mentioned_in_set s other) → T (mentioned_in_set n other)
unfolding added
stays s n name is other h = subst (λ f. T (f other)) (sym is) (or_first (mentioned_in_set s other) _ h)

pub spreads : (w v : Wanted) (found : Names) → Widens w v → Spreads w found v found
spreads w v found widens = record {
  any = widens.any;
  known = widens.known;
  waiting = λ name h. or_first (waits_in v name) _ (widens.waiting name h);
  had = λ name h. h;
}

module _ (w : Wanted) (found : Names) (v : Wanted) (more : Names) (wide : Spreads w found v more) where
  pub settled_still : (call : PartialCall) → T (is_settled w found call) → T (is_settled v more call)
  settled_still of_any_name h = wide.any h
  settled_still (of_name n) h = wide.known n h
  settled_still (of_name_or_liquid n) h =
      both_of (known_in v.asked n) _ (wide.known n (left_of (known_in w.asked n) _ h))
      (one_of (waits_in w n) _ (right_of (known_in w.asked n) _ h) (wide.waiting n)
      (λ k. or_second (waits_in v n) _ (one_of (found n) _ k (λ l. or_first (more n) _ (wide.had n l)) (λ l. or_second (more n) _ (wide.known (n ++ codes ".liquid") l)))))

  pub all_still : (calls : List PartialCall) → are_settled w found calls ≡ true → are_settled v more calls ≡ true
  all_still [] h = refl
  all_still (call ∷ calls) h =
      let k = held _ h in
      holds _ (both_of (is_settled v more call) _ (settled_still call (left_of (is_settled w found call) _ k)) (held _ (all_still calls (holds _ (right_of (is_settled w found call) _ k)))))

  pub partials_still : (partials : List (Text × Nodes)) → partials_settled w found partials ≡ true → partials_settled v more partials ≡ true
  partials_still [] h = refl
  partials_still (p ∷ ps) h =
      let k = held _ h in
      holds _ (both_of (are_settled v more (nodes_calls p.1)) _ (held _ (all_still (nodes_calls p.1) (holds _ (left_of (are_settled w found (nodes_calls p.1)) _ k)))) (held _ (partials_still ps (holds _ (right_of (are_settled w found (nodes_calls p.1)) _ k)))))

-- the names that waited are found, or asked for with `.liquid`
pub spreads_settled : (w v : Wanted) (found : Names) → (T w.any → T v.any) → StaysAsked w.asked v.asked → AllFoundOrAsked v.asked found w.fallbacks.items → Spreads w found v found
spreads_settled w v found any known all = record {
  any = any;
  known = known;
  waiting = λ name h. or_second (waits_in v name) _ (on w.fallbacks.items all name h);
  had = λ name h. h;
}
  where
    on : (ks : List (String Global)) → list_all (λ k. found_or_asked v.asked found (string_bytes k)) ks ≡ true → (name : Text) → T (mentioned (map string_bytes ks) name) → T (found_or_asked v.asked found name)
    on [] h name m = absurd m
    on (k ∷ ks) h name m =
        let l = held _ h in
        let here : T (found_or_asked v.asked found (string_bytes k)) = left_of (found_or_asked v.asked found (string_bytes k)) _ l in
        let rest = on ks (holds _ (right_of (found_or_asked v.asked found (string_bytes k)) _ l)) name in
        one_of (same_text name (string_bytes k)) _ m (λ same. subst (λ t. T (found_or_asked v.asked found t)) (sym (same_text_equal name (string_bytes k) same)) here) rest

-- the names before one are found or asked for, and so is that one
pub liquid_next : (a b : Asked) (found : Names) (names : List (String Global)) (i : ℕ) (k : String Global) → StaysAsked a b → list_all (λ k. found_or_asked a found (string_bytes k)) (take i names) ≡ true → found_or_asked b found (string_bytes k) ≡ true → k ≡ get_or names i k → i < length names
    → list_all (λ k. found_or_asked b found (string_bytes k)) (take (i + 1) names) ≡ true
liquid_next a b found names i k keeps before now is lt =
    list_all_more (λ k. found_or_asked b found (string_bytes k)) names i k lt
    ∙ holds _ (both_of (list_all (λ k. found_or_asked b found (string_bytes k)) (take i names)) _ (held _ (on (take i names) before)) (held _ (ap (λ l. found_or_asked b found (string_bytes l)) (sym is) ∙ now)))
  where
    on : (ks : List (String Global)) → list_all (λ k. found_or_asked a found (string_bytes k)) ks ≡ true → list_all (λ k. found_or_asked b found (string_bytes k)) ks ≡ true
    on [] h = refl
    on (l ∷ ks) h =
        let m = held _ h in
        let wider : T (found_or_asked b found (string_bytes l)) = one_of (found (string_bytes l)) _ (left_of (found_or_asked a found (string_bytes l)) _ m) (λ n. or_first (found (string_bytes l)) _ n) (λ n. or_second (found (string_bytes l)) _ (keeps (string_bytes l ++ codes ".liquid") n)) in
        holds _ (both_of (found_or_asked b found (string_bytes l)) _ wider (held _ (on ks (holds _ (right_of (found_or_asked a found (string_bytes l)) _ m)))))

pub all_liquid : (a : Asked) (found : Names) (names : List (String Global)) (i : ℕ) → list_all (λ k. found_or_asked a found (string_bytes k)) (take i names) ≡ true → length names ≤ i → AllFoundOrAsked a found names
all_liquid a found names i h le = ap (list_all (λ k. found_or_asked a found (string_bytes k))) (sym (take_all i names le)) ∙ h

-- ---- one more is asked for

pub asked_more : (w : Wanted) (a : Asked) → StaysAsked w.asked a → Widens w (record { any = w.any; asked = a; fallbacks = w.fallbacks })
asked_more w a keeps = record { any = λ h. h; known = keeps; waiting = λ name h. h }

pub widens_itself : (w : Wanted) → Widens w w
widens_itself w = record { any = λ h. h; known = λ name h. h; waiting = λ name h. h }

pub widens_on : (u v w : Wanted) → Widens u v → Widens v w → Widens u w
widens_on u v w a b = record {
  any = λ h. b.any (a.any h);
  known = λ name h. b.known name (a.known name h);
  waiting = λ name h. b.waiting name (a.waiting name h);
}

waits_last : (ks : List (String Global)) (k : String Global) → T (same_text (string_bytes k) (string_bytes k)) → T (mentioned (map string_bytes (ks ++ k ∷ [])) (string_bytes k))
waits_last [] k same = or_first (same_text (string_bytes k) (string_bytes k)) false same
waits_last (l ∷ ks) k same = or_second (same_text (string_bytes k) (string_bytes l)) _ (waits_last ks k same)

-- a name that is asked for, and waits with `.liquid`
pub liquid_settled : (v : Wanted) (found : Names) (ks : List (String Global)) (k : String Global) (name : Text) → v.fallbacks.items ≡ ks ++ k ∷ [] → string_bytes k ≡ name → known_in v.asked name ≡ true → T (same_text name name) → is_settled v found (of_name_or_liquid name) ≡ true
liquid_settled v found ks k name items is known same =
    let waits : T (waits_in v name) = subst (λ l. T (mentioned (map string_bytes l) name)) (sym items) (subst (λ t. T (mentioned (map string_bytes (ks ++ k ∷ [])) t)) is (waits_last ks k (subst (λ t. T (same_text t t)) (sym is) same))) in
    holds _ (both_of (known_in v.asked name) _ (held _ known) (or_first (waits_in v name) _ waits))

-- ---- the nodes of a list

-- the calls of the first nodes are settled
abbrev pub FirstSettled : Wanted → List Node → ℕ → Type 0
FirstSettled w nodes i = (found : Names) → list_all (λ n. are_settled w found (own_calls n)) (take i nodes) ≡ true

pub first_still : (w v : Wanted) (nodes : List Node) (i : ℕ) → Widens w v → FirstSettled w nodes i → FirstSettled v nodes i
first_still w v nodes i widens h found = on (take i nodes) (h found)
  where
    on : (ns : List Node) → list_all (λ n. are_settled w found (own_calls n)) ns ≡ true → list_all (λ n. are_settled v found (own_calls n)) ns ≡ true
    on [] h = refl
    on (n ∷ ns) h =
        let k = held _ h in
        holds _ (both_of (are_settled v found (own_calls n)) _ (held _ (all_still w found v found (spreads w v found widens) (own_calls n) (holds _ (left_of (are_settled w found (own_calls n)) _ k)))) (held _ (on ns (holds _ (right_of (are_settled w found (own_calls n)) _ k)))))

pub next_settled : (w v : Wanted) (nodes : List Node) (i : ℕ) (n : Node) → Widens w v → FirstSettled w nodes i → ((found : Names) → are_settled v found (own_calls n) ≡ true) → n ≡ get_or nodes i n → i < length nodes → FirstSettled v nodes (i + 1)
next_settled w v nodes i n widens h own is lt found =
    list_all_more (λ n. are_settled v found (own_calls n)) nodes i n lt
    ∙ holds _ (both_of (list_all (λ n. are_settled v found (own_calls n)) (take i nodes)) _ (held _ (first_still w v nodes i widens h found)) (held _ (ap (λ m. are_settled v found (own_calls m)) (sym is) ∙ own found)))

each_call : (f : PartialCall → Bool) (ns : List Node) → list_all (λ n. list_all f (own_calls n)) ns ≡ list_all f (list_calls ns)
unfolding nodes_calls own_nodes
each_call f [] = refl
each_call f (n ∷ ns) = ap (λ r. list_all f (own_calls n) && r) (each_call f ns) ∙ sym (list_all-append f (own_calls n) (list_calls ns))

pub template_settled : (w : Wanted) (t : Template) (nodes : List Node) (i : ℕ) → nodes ≡ template_nodes t → FirstSettled w nodes i → length nodes ≤ i → (found : Names) → are_settled w found (nodes_calls (tree_of t)) ≡ true
template_settled w t nodes i is h le found =
    template_calls t (is_settled w found)
    ∙ ap (λ l. list_all (is_settled w found) (list_calls l)) (sym is)
    ∙ sym (each_call (is_settled w found) nodes)
    ∙ ap (list_all (λ n. are_settled w found (own_calls n))) (sym (take_all i nodes le))
    ∙ h found
