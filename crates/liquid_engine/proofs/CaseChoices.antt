-- What a `case` comes to, `when` by `when`.
use Rattle.std.proofs.Common.{◌≡◌, ℕ, ◌+◌, ◌<◌, ◌≤◌, List, [], ◌∷◌, ◌++◌, length, drop, map, get_or, Bool, true, false, cond, Result, Ok, Err, refl, sym, ap, subst, ◌∙◌, arith}
use Rattle.std.proofs.lemmas.List.{drop_more, drop_all}
use Rattle.std.specs.Prelude.{MatchBool, ⊤}
use Rattle.liquid_model.specs.Answer.{Faulted}
use Rattle.liquid_model.specs.Data.{Datum}
use Rattle.liquid_model.specs.Fallible as fallible
use Rattle.liquid_model.specs.Order.{same}
use Rattle.liquid_model.specs.Texts.{Text}
use Rattle.liquid_model.specs.ErrorKinds.{is_memory, is_refusal}
use Rattle.liquid_model.specs.declared.error.Error.{Error}
use Rattle.liquid_model.specs.declared.error.ErrorKind.{ErrorKind}
use Rattle.liquid_core.specs.Environment.{Environment, Names}
use Rattle.liquid_core.specs.Expression.{Expression}
use Rattle.liquid_core.specs.Expressions.{required}
use Rattle.liquid_evaluation.specs.Names.{all_names, expression_names, node_names, nodes_names, whens_names}
use Rattle.liquid_evaluation.specs.Tree as tree
use Rattle.liquid_evaluation.proofs.Calls.{faulted_as, faulted_then}
use Rattle.liquid_syntax.specs.Flats.{Maker, IsForestAt, flats, nodes_of, values_in}
use Rattle.liquid_syntax.specs.Forest.{Forest}
use Rattle.liquid_syntax.specs.declared.node.Arm.{Arm}
use Rattle.liquid_syntax.specs.declared.node.Node.{Node}
use Rattle.liquid_syntax.proofs.Places.{Stands-le}
use Rattle.liquid_engine.specs.inside.Choices.{Meant, Chosen, Refused, ComesTo, CaseLeft, CaseStands, equal_among}
use Rattle.liquid_engine.proofs.Choices.{node_meant}
use Rattle.liquid_meaning.specs.Meaning.{Setting, has_equal, nodes_meaning, whens_meaning}
use Rattle.liquid_meaning.specs.Runs.{Nothing, Outcome, Run, done, evaluate, go_on, ◌>>=◌}
use Rattle.liquid_meaning.specs.Within.{Within}
use Rattle.liquid_meaning.proofs.Rules.{case_rule, whens_none, whens_more}
use Rattle.liquid_meaning.proofs.Steps.{bind_ok, bind_fault}
use Rattle.liquid_meaning.proofs.Within.{left, right}

-- ---- the values of a `when`

abbrev answered : Environment → Result Bool ErrorKind → Outcome Bool
answered e r = record { text = []; environment = e; end = r }

among_next : (target : Datum) (xs : List Expression) (e : Environment) → has_equal target xs e ≡ answered e (equal_among target xs e) → (b : Bool)
    → (cond b (done true) (has_equal target xs)) e ≡ answered e (cond b (Ok true) (equal_among target xs e))
unfolding done
among_next target xs e more true = refl
among_next target xs e more false = more

among_from : (target : Datum) (xs : List Expression) (e : Environment) → has_equal target xs e ≡ answered e (equal_among target xs e) → (r : Result Datum ErrorKind)
    → go_on (λ d. cond (same target d) (done true) (has_equal target xs)) [] e r ≡ answered e (fallible.◌>>=◌ r (λ d. cond (same target d) (Ok true) (equal_among target xs e)))
unfolding go_on
among_from target xs e more (Ok d) = among_next target xs e more (same target d)
among_from target xs e more (Err kind) = refl

-- they are only read
pub among_is : (target : Datum) (xs : List Expression) (e : Environment) → has_equal target xs e ≡ answered e (equal_among target xs e)
unfolding has_equal equal_among done evaluate ◌>>=◌
among_is target [] e = refl
among_is target (x ∷ xs) e = among_from target xs e (among_is target xs e) (required x e)

hit_met : (target : Datum) (xs : List Expression) (k : Bool → Run Nothing) (e : Environment) (b : Bool) → equal_among target xs e ≡ Ok b → (has_equal target xs >>= k) e ≡ k b e
unfolding ◌>>=◌ go_on
hit_met target xs k e b is = ap (λ (o : Outcome Bool). go_on k o.text o.environment o.end) (among_is target xs e) ∙ ap (go_on k [] e) is

hit_faulted : (target : Datum) (xs : List Expression) (k : Bool → Run Nothing) (e : Environment) (kind : ErrorKind) → equal_among target xs e ≡ Err kind → (has_equal target xs >>= k) e ≡ record { text = []; environment = e; end = Err kind }
unfolding ◌>>=◌ go_on
hit_faulted target xs k e kind is = ap (λ (o : Outcome Bool). go_on k o.text o.environment o.end) (among_is target xs e) ∙ ap (go_on k [] e) is

-- ---- the places of its parts

pub case_le : (ns : List Node) (from : ℕ) (arms : List Arm) (last : ℕ) (ws : tree.Whens) (o : tree.Nodes) → CaseStands ns from arms last ws o → from ≤ last
case_le ns from [] last tree.no_whens o (f, stands, is) = Stands-le (flats ns) from f last stands
case_le ns from [] last (tree.when values body ws) o s = absurd s
case_le ns from (arm ∷ arms) last tree.no_whens o s = absurd s
case_le ns from (arm ∷ arms) last (tree.when values body ws) o (f, stands, vs, is, more) =
    let first = Stands-le (flats ns) from f arm.end stands in
    let rest = case_le ns arm.end arms last ws o more in
    (let x : from ≤ last = omega arith in x)

-- ---- what is left of a `case` whose target has a value

-- with nothing else meant
pub left_itself : (ns : List Node) (e : Environment) (target : Datum) (arms : List Arm) (from last : ℕ) (ws : tree.Whens) (o : tree.Nodes) → CaseStands ns from arms last ws o
    → CaseLeft ns e (whens_names ws ++ nodes_names o) (λ setting deeper. whens_meaning setting deeper ws target (nodes_meaning setting deeper o)) target arms from last
left_itself ns e target arms from last ws o stands = record {
  whens = ws;
  otherwise = o;
  stands = stands;
  within = λ N h. (left N (whens_names ws) (nodes_names o) h, right N (whens_names ws) (nodes_names o) h);
  same = λ setting deeper. refl;
}

module _ (ns : List Node) (e : Environment) (target : Expression) (ws : tree.Whens) (o : tree.Nodes) where
  abbrev the_case : tree.Node
  the_case = tree.case_of target ws o

  case_names : (N : Names) → Within N (node_names the_case) → Within N (whens_names ws) × Within N (nodes_names o)
  unfolding node_names
  case_names N h =
      let parts = right N (expression_names target) (whens_names ws ++ nodes_names o) h in
      (left N (whens_names ws) (nodes_names o) parts, right N (whens_names ws) (nodes_names o) parts)

  pub case_begins : (d : Datum) (arms : List Arm) (from last : ℕ) → CaseStands ns from arms last ws o → required target e ≡ Ok d → CaseLeft ns e (node_names the_case) (node_meant the_case) d arms from last
  unfolding evaluate
  case_begins d arms from last stands is = record {
    whens = ws;
    otherwise = o;
    stands = stands;
    within = case_names;
    same = λ setting deeper. (λ i. case_rule setting deeper target ws o i e) ∙ bind_ok (evaluate (required target)) (λ d. whens_meaning setting deeper ws d (nodes_meaning setting deeper o)) e d is;
  }

  pub case_refused : (x : Error) → Faulted x.kind (required target e) → ComesTo ns e (node_names the_case) (node_meant the_case) (Err x)
  unfolding evaluate
  case_refused x h = on (is_memory x.kind) h
    where
      on : (memory : Bool) → MatchBool memory ⊤ ((required target e ≡ Err x.kind) × (is_refusal x.kind ≡ false)) → MatchBool memory ⊤ (Refused e (node_meant the_case) x.kind × (is_refusal x.kind ≡ false))
      on true k = k
      on false k = ((λ setting deeper. (λ i. case_rule setting deeper target ws o i e) ∙ bind_fault (evaluate (required target)) (λ d. whens_meaning setting deeper ws d (nodes_meaning setting deeper o)) e x.kind k.0), k.1)

-- ---- one `when`

module _ (ns : List Node) (e : Environment) (names : List Text) (meant : Meant) (target : Datum) (arm : Arm) (arms : List Arm) (from last : ℕ) where
  -- what is left begins with this part
  pub record Part : Type 0 where
    pub values : List Expression
    pub body : tree.Nodes
    pub more : tree.Whens
    pub otherwise : tree.Nodes
    pub nodes : Forest Maker
    pub stands : IsForestAt ns from nodes arm.end
    pub its_values : values ≡ values_in arm
    pub its_body : body ≡ nodes_of nodes
    pub after : CaseStands ns arm.end arms last more otherwise
    pub within : (N : Names) → Within N names → Within N (whens_names (tree.when values body more)) × Within N (nodes_names otherwise)
    pub same : (setting : Setting) (deeper : tree.Nodes → Run Nothing) → meant setting deeper e ≡ whens_meaning setting deeper (tree.when values body more) target (nodes_meaning setting deeper otherwise) e

  the_part : CaseLeft ns e names meant target (arm ∷ arms) from last → Part
  the_part x = on x.whens x.stands x.within x.same
    where
      on : (ws : tree.Whens) → CaseStands ns from (arm ∷ arms) last ws x.otherwise → ((N : Names) → Within N names → Within N (whens_names ws) × Within N (nodes_names x.otherwise))
          → ((setting : Setting) (deeper : tree.Nodes → Run Nothing) → meant setting deeper e ≡ whens_meaning setting deeper ws target (nodes_meaning setting deeper x.otherwise) e) → Part
      on tree.no_whens s within same = absurd s
      on (tree.when values body more) (f, stands, vs, is, after) within same = record { values = values; body = body; more = more; otherwise = x.otherwise; nodes = f; stands = stands; its_values = vs; its_body = is; after = after; within = within; same = same }

  module _ (x : CaseLeft ns e names meant target (arm ∷ arms) from last) where
    part : Part
    part = the_part x

    by_hit : Setting → (tree.Nodes → Run Nothing) → Bool → Run Nothing
    by_hit setting deeper hit = cond hit (nodes_meaning setting deeper part.body) (whens_meaning setting deeper part.more target (nodes_meaning setting deeper part.otherwise))

    -- what is meant goes by whether a value of the part equals the target
    by_part : (setting : Setting) (deeper : tree.Nodes → Run Nothing) → meant setting deeper e ≡ (has_equal target (values_in arm) >>= by_hit setting deeper) e
    unfolding by_hit
    by_part setting deeper =
        part.same setting deeper ∙ (λ i. whens_more setting deeper part.values part.body part.more target (nodes_meaning setting deeper part.otherwise) i e)
        ∙ ap (λ vs. (has_equal target vs >>= by_hit setting deeper) e) part.its_values

    part_names : (N : Names) → Within N names → Within N (nodes_names part.body) × Within N (whens_names part.more)
    unfolding whens_names
    part_names N h =
        let both = right N (all_names part.values) (nodes_names part.body ++ whens_names part.more) (part.within N h).0 in
        (left N (nodes_names part.body) (whens_names part.more) both, right N (nodes_names part.body) (whens_names part.more) both)

    pub arm_ordered : (from ≤ arm.end) × (arm.end ≤ last)
    arm_ordered = (Stands-le (flats ns) from part.nodes arm.end part.stands, case_le ns arm.end arms last part.more part.otherwise part.after)

    -- none of its values does: on with the next part
    pub arm_passed : equal_among target (values_in arm) e ≡ Ok false → CaseLeft ns e names meant target arms arm.end last
    unfolding by_hit
    arm_passed is = record {
      whens = part.more;
      otherwise = part.otherwise;
      stands = part.after;
      within = λ N h. ((part_names N h).1, (part.within N h).1);
      same = λ setting deeper. by_part setting deeper ∙ hit_met target (values_in arm) (by_hit setting deeper) e false is;
    }

    -- one of them does: its body
    pub arm_taken : equal_among target (values_in arm) e ≡ Ok true → Chosen ns e names meant from arm.end
    unfolding by_hit
    arm_taken is = record {
      nodes = part.nodes;
      stands = part.stands;
      within = λ N h. subst (λ b. Within N (nodes_names b)) part.its_body (part_names N h).0;
      same = λ setting deeper. by_part setting deeper ∙ hit_met target (values_in arm) (by_hit setting deeper) e true is ∙ ap (λ b. nodes_meaning setting deeper b e) part.its_body;
    }

    -- one of them ends by a fault
    pub arm_refused : (y : Error) → Faulted y.kind (equal_among target (values_in arm) e) → ComesTo ns e names meant (Err y)
    arm_refused y h = on (is_memory y.kind) h
      where
        on : (memory : Bool) → MatchBool memory ⊤ ((equal_among target (values_in arm) e ≡ Err y.kind) × (is_refusal y.kind ≡ false)) → MatchBool memory ⊤ (Refused e meant y.kind × (is_refusal y.kind ≡ false))
        on true k = k
        on false k = ((λ setting deeper. by_part setting deeper ∙ hit_faulted target (values_in arm) (by_hit setting deeper) e y.kind k.0), k.1)

-- ---- no further `when`

pub arms_over : (ns : List Node) (e : Environment) (names : List Text) (meant : Meant) (target : Datum) (from last : ℕ) → CaseLeft ns e names meant target [] from last → Chosen ns e names meant from last
arms_over ns e names meant target from last x = on x.whens x.stands x.within x.same
  where
    on : (ws : tree.Whens) → CaseStands ns from [] last ws x.otherwise → ((N : Names) → Within N names → Within N (whens_names ws) × Within N (nodes_names x.otherwise))
        → ((setting : Setting) (deeper : tree.Nodes → Run Nothing) → meant setting deeper e ≡ whens_meaning setting deeper ws target (nodes_meaning setting deeper x.otherwise) e) → Chosen ns e names meant from last
    on tree.no_whens (f, stands, is) within same = record {
      nodes = f;
      stands = stands;
      within = λ N h. subst (λ b. Within N (nodes_names b)) is (within N h).1;
      same = λ setting deeper. same setting deeper ∙ (λ i. whens_none setting deeper target (nodes_meaning setting deeper x.otherwise) i e) ∙ ap (λ b. nodes_meaning setting deeper b e) is;
    }
    on (tree.when values body more) s within same = absurd s

-- ---- the walk along the parts, by their place

pub left_next : (ns : List Node) (e : Environment) (names : List Text) (meant : Meant) (target : Datum) (arms : List Arm) (i : ℕ) (arm : Arm) (from last : ℕ) → i < length arms → arm ≡ get_or arms i arm
    → CaseLeft ns e names meant target (drop i arms) from last → CaseLeft ns e names meant target (arm ∷ drop (i + 1) arms) from last
left_next ns e names meant target arms i arm from last lt is x =
    subst (λ rest. CaseLeft ns e names meant target rest from last) (drop_more arms i arm lt ∙ ap (λ a. a ∷ drop (i + 1) arms) (sym is)) x

pub left_none : (ns : List Node) (e : Environment) (names : List Text) (meant : Meant) (target : Datum) (arms : List Arm) (i from last : ℕ) → length arms ≤ i
    → CaseLeft ns e names meant target (drop i arms) from last → CaseLeft ns e names meant target [] from last
left_none ns e names meant target arms i from last le x = subst (λ rest. CaseLeft ns e names meant target rest from last) (drop_all i arms le) x

-- ---- the values of a part, by their place

next_value : {X : Type 0} (f : X → Expression) (target : Datum) (e : Environment) (xs : List X) (i : ℕ) (x : X) → i < length xs → x ≡ get_or xs i x
    → equal_among target (map f (drop i xs)) e ≡ fallible.◌>>=◌ (required (f x) e) (λ d. cond (same target d) (Ok true) (equal_among target (map f (drop (i + 1) xs)) e))
unfolding equal_among
next_value f target e xs i x lt is = ap (λ y. equal_among target (map f y) e) (drop_more xs i x lt ∙ ap (λ y. y ∷ drop (i + 1) xs) (sym is))

module _ {X : Type 0} (f : X → Expression) (target : Datum) (e : Environment) (xs : List X) (i : ℕ) (x : X) (lt : i < length xs) (is : x ≡ get_or xs i x)
    (so_far : equal_among target (map f xs) e ≡ equal_among target (map f (drop i xs)) e) where
  abbrev from_value : Result Datum ErrorKind → Result Bool ErrorKind
  from_value r = fallible.◌>>=◌ r (λ d. cond (same target d) (Ok true) (equal_among target (map f (drop (i + 1) xs)) e))

  pub value_equal : (d : Datum) → required (f x) e ≡ Ok d → same target d ≡ true → equal_among target (map f xs) e ≡ Ok true
  value_equal d v hit = so_far ∙ next_value f target e xs i x lt is ∙ ap from_value v ∙ ap (λ b. cond b (Ok true) (equal_among target (map f (drop (i + 1) xs)) e)) hit

  pub value_other : (d : Datum) → required (f x) e ≡ Ok d → same target d ≡ false → equal_among target (map f xs) e ≡ equal_among target (map f (drop (i + 1) xs)) e
  value_other d v miss = so_far ∙ next_value f target e xs i x lt is ∙ ap from_value v ∙ ap (λ b. cond b (Ok true) (equal_among target (map f (drop (i + 1) xs)) e)) miss

  pub value_refused : (kind : ErrorKind) → Faulted kind (required (f x) e) → Faulted kind (equal_among target (map f xs) e)
  value_refused kind v =
      faulted_as kind _ _ (so_far ∙ next_value f target e xs i x lt is)
      (faulted_then kind (required (f x) e) (λ d. cond (same target d) (Ok true) (equal_among target (map f (drop (i + 1) xs)) e)) v)

pub values_over : {X : Type 0} (f : X → Expression) (target : Datum) (e : Environment) (xs : List X) (i : ℕ) → length xs ≤ i → equal_among target (map f xs) e ≡ equal_among target (map f (drop i xs)) e → equal_among target (map f xs) e ≡ Ok false
unfolding equal_among
values_over f target e xs i le so_far = so_far ∙ ap (λ y. equal_among target (map f y) e) (drop_all i xs le)
