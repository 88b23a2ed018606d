-- A host's tag or block is read just where the grammar says so: a tag as the output that it stands for, a block with its call.
use Rattle.std.proofs.Common.{◌≡◌, ℕ, List, [], ◌∷◌, ◌++◌, length, Bool, true, false, bytes_eq, cond, Option, Some, None, refl, sym, ap, subst, ◌∙◌}
use Rattle.std.proofs.lemmas.List.{append-nil}
use Rattle.std.proofs.lemmas.Option.{cond_some}
use Rattle.std.proofs.lemmas.Slice.Eq.{bytes_eq-Decides}
use Rattle.std.specs.Option.{option_and_then, option_map}
use Rattle.liquid_model.specs.Maps.{listed}
use Rattle.liquid_model.specs.Texts.{Text}
use Rattle.liquid_model.proofs.WordLaws.{bind_some, map_some, from_some}
use Rattle.liquid_core.specs.Expression.{Expression}
use Rattle.liquid_evaluation.specs.Tree.{Chain, Filter, FilterCall, Node, Nodes, comment, no_nodes, output}
use Rattle.liquid_lexer.specs.Items.{Item}
use Rattle.liquid_lexer.specs.Pieces as pieces
use Rattle.liquid_lexer.specs.Tokens.{Token, symbol, tokens_of, value, word}
use Rattle.liquid_lexer.specs.declared.symbol.Symbol.TheVariants.{Bar}
use Rattle.liquid_language.specs.Controls.{control_of, end_word}
use Rattle.liquid_language.specs.HostTags.{BlockCall, TagCall, block_at, call_at, end_in, numbers_of}
use Rattle.liquid_language.specs.Languages.{kinds_of}
use Rattle.liquid_language.specs.Registered.{registered_counts, registered_in}
use Rattle.liquid_language.specs.Roles.{host_role, registered, role_of, tag_or_block, word_or}
use Rattle.liquid_language.specs.declared.block.Block.TheVariants.{Host}
use Rattle.liquid_language.specs.declared.block.BlockContext.{BlockContext}
use Rattle.liquid_language.specs.declared.block.BlockContext.TheVariants.{Outside, InBody, InLast}
use Rattle.liquid_language.specs.declared.block.Control.{Control}
use Rattle.liquid_language.specs.declared.block.Role.{Role}
use Rattle.liquid_language.specs.declared.block.Role.TheVariants.{End, HostBlock, HostTag}
use Rattle.liquid_language.specs.declared.host_tags.HostKind.{HostKind}
use Rattle.liquid_language.specs.declared.host_tags.HostKind.TheVariants as kinds
use Rattle.liquid_language.specs.declared.registered_filter.RegisteredFilter.{RegisteredFilter}
use Rattle.liquid_language.specs.declared.registry.BlockKind.{BlockKind}
use Rattle.liquid_language.specs.declared.registry.Language.{Language}
use Rattle.liquid_language.specs.declared.registry.TagKind.{TagKind}
use Rattle.liquid_parser.specs.ChainReading.{accepted_call, call_with, called_of, chain_of, filters_of}
use Rattle.liquid_parser.specs.Chains.{Filters, arguments, called_as, none}
use Rattle.liquid_parser.specs.Classification.{leaf_or, one_or, reads, tag_statement}
use Rattle.liquid_parser.specs.HostTags.{AreTagValues, no_values, tag_values, IsHostCall, host_call, IsHostChain, host_chain, call_requiring, chain_of_call, requiring, call_given, host_call_of, host_chain_of, through_call}
use Rattle.liquid_parser.specs.Nesting.{Statement, begins, leaf, of_one}
use Rattle.liquid_parser.specs.Outputs.{as_it_is, output_of}
use Rattle.liquid_parser.specs.ValueLists.{any_values_of, values_of}
use Rattle.liquid_parser.specs.declared.value_items.Separators.TheVariants.{OptionalCommas}
use Rattle.liquid_parser.proofs.ItemLaws.{values_takes, values_again}
use Rattle.liquid_parser.proofs.OutputLaws.{output_as_it_is}
use Rattle.liquid_parser.proofs.Printed.{called_again, filters_again}

-- ---- values

values_are : (ts : List Token) (xs : List Expression) → any_values_of OptionalCommas ts ≡ Some xs → AreTagValues xs ts
values_are [] xs h = subst (λ (xs : List Expression). AreTagValues xs []) (from_some h) no_values
values_are (t ∷ ts) xs h = tag_values (values_takes OptionalCommas xs (t ∷ ts) h)

some_again : (ts : List Token) (xs : List Expression) → values_of OptionalCommas ts ≡ Some xs → any_values_of OptionalCommas ts ≡ Some xs
some_again [] xs h = absurd cc
some_again (t ∷ ts) xs h = h

tag_values_again : (ts : List Token) (xs : List Expression) → AreTagValues xs ts → any_values_of OptionalCommas ts ≡ Some xs
tag_values_again ts xs no_values = refl
tag_values_again ts xs (tag_values is) = some_again ts xs (values_again OptionalCommas xs ts is)

-- ---- the call

accepted_is : (known : Filters) (name : Text) (given xs : List Expression) (ts : List Token) (call : FilterCall) (o : Option RegisteredFilter) → listed known name ≡ o
    → option_map (requiring (length xs)) (accepted_call name o (xs ++ given)) ≡ Some call → AreTagValues xs ts → IsHostCall known name given call ts
accepted_is known name given xs ts call None e h is = absurd cc
accepted_is known name given xs ts call (Some filter) e h is =
    let (accepted, counted, same) = map_some (accepted_call name (Some filter) (xs ++ given)) (requiring (length xs)) call h in
    let (counts, alike) = cond_some (registered_counts filter (length (xs ++ given))) _ accepted counted in
    subst (λ (call : FilterCall). IsHostCall known name given call ts) (ap (requiring (length xs)) alike ∙ same) (host_call e counts is)

pub host_call_takes : (known : Filters) (name : Text) (given : List Expression) (call : FilterCall) (ts : List Token) → host_call_of known name given ts ≡ Some call → IsHostCall known name given call ts
host_call_takes known name given call ts h =
    let (xs, read, accepted) = bind_some (any_values_of OptionalCommas ts) (call_given known name given) call h in
    accepted_is known name given xs ts call (listed known name) refl accepted (values_are ts xs read)

pub host_call_again : (known : Filters) (name : Text) (given : List Expression) (call : FilterCall) (ts : List Token) → IsHostCall known name given call ts → host_call_of known name given ts ≡ Some call
host_call_again known name given call ts (host_call {filter = filter} {xs = xs} is counts values) =
    ap (option_and_then (call_given known name given)) (tag_values_again ts xs values)
    ∙ ap (λ (o : Option RegisteredFilter). option_map (requiring (length xs)) (accepted_call name o (xs ++ given))) is
    ∙ ap (λ (b : Bool). option_map (requiring (length xs)) (cond b (Some (call_requiring (called_as name filter) (length (xs ++ given)) (xs ++ given))) None)) counts

-- ---- the chain

pub host_takes : (known : Filters) (called : TagCall) (c : Chain) (ts : List Token) → host_chain_of known called ts ≡ Some c → IsHostChain known called c ts
host_takes known called c ts h =
    let (call, read, same) = map_some (host_call_of known called.filter called.given ts) (chain_of_call called) c h in
    subst (λ (c : Chain). IsHostChain known called c ts) same (host_chain (host_call_takes known called.filter called.given call ts read))

pub host_again : (known : Filters) (called : TagCall) (c : Chain) (ts : List Token) → IsHostChain known called c ts → host_chain_of known called ts ≡ Some c
host_again known called c ts (host_chain {call = call} is) = ap (option_map (chain_of_call called)) (host_call_again known called.filter called.given call ts is)

-- ---- the output

-- a value that goes through one call
with_entry : Expression → FilterCall → Chain
with_entry v call = record { entry = v; filters = call ∷ [] }

made_alone : (v : Expression) (o : Option FilterCall) → option_map (λ calls. record { entry = v; filters = calls }) (option_map (λ call. call ∷ []) o) ≡ option_map (with_entry v) o
unfolding with_entry
made_alone v None = refl
made_alone v (Some call) = refl

called_alone : (known : Filters) (xs : List Expression) → called_of known (arguments xs) ≡ Some (xs, [])
called_alone known xs = ap (called_of known) (sym (append-nil (arguments xs))) ∙ called_again known xs none (filters_again known none)

one_call : (known : Filters) (name : Text) (xs : List Expression) → filters_of known (symbol Bar ∷ word name ∷ arguments xs) ≡ option_map (λ call. call ∷ []) (accepted_call name (listed known name) xs)
unfolding filters_of
one_call known name xs = ap (option_and_then (call_with known name)) (called_alone known xs)

chain_alone : (known : Filters) (v : Expression) (name : Text) (xs : List Expression) → chain_of known (value v ∷ symbol Bar ∷ word name ∷ arguments xs) ≡ option_map (with_entry v) (accepted_call name (listed known name) xs)
unfolding chain_of
chain_alone known v name xs = ap (option_map (λ calls. record { entry = v; filters = calls })) (one_call known name xs) ∙ made_alone v (accepted_call name (listed known name) xs)

output_read : (l : Language) (x : BlockContext) (v : Expression) (name : Text) (xs : List Expression) (os : List Item) → tokens_of os ≡ as_it_is l (value v ∷ symbol Bar ∷ word name ∷ arguments xs)
    → reads l x (pieces.output os) ≡ leaf_or (option_map output (option_map (with_entry v) (accepted_call name (listed (registered_in l.filters) name) xs)))
output_read l x v name xs os spelled =
    let known = registered_in l.filters in
    ap (λ (ts : List Token). leaf_or (output_of l ts)) spelled
    ∙ ap leaf_or (output_as_it_is l (value v ∷ symbol Bar ∷ word name ∷ arguments xs))
    ∙ ap (λ (o : Option Chain). leaf_or (option_map output o)) (chain_alone known v name xs)

call_read : (known : Filters) (name : Text) (given xs : List Expression) (ts : List Token) → AreTagValues xs ts → host_call_of known name given ts ≡ call_given known name given xs
call_read known name given xs ts values = ap (option_and_then (call_given known name given)) (tag_values_again ts xs values)

tag_read : (l : Language) (x : BlockContext) (w : Text) (n : ℕ) (called : TagCall) (xs : List Expression) (is : List Item) → role_of l x w ≡ Some (HostTag n) → call_at l n ≡ Some called → AreTagValues xs (tokens_of is)
    → reads l x (pieces.tag w is) ≡ leaf_or (option_map output (option_map (with_entry called.input) (call_given (registered_in l.filters) called.filter called.given xs)))
unfolding with_entry
tag_read l x w n called xs is role at values =
    let known = registered_in l.filters in
    ap (tag_statement l x is (tokens_of is)) role
    ∙ ap (λ (o : Option TagCall). leaf_or (option_and_then (λ called. option_map output (host_chain_of known called (tokens_of is))) o)) at
    ∙ ap (λ (o : Option FilterCall). leaf_or (option_map output (option_map (chain_of_call called) o))) (call_read known called.filter called.given xs (tokens_of is) values)

-- ---- the block

block_read : (l : Language) (x : BlockContext) (w : Text) (n : ℕ) (called : BlockCall) (xs : List Expression) (is : List Item) → role_of l x w ≡ Some (HostBlock n) → block_at l n ≡ Some called → AreTagValues xs (tokens_of is)
    → reads l x (pieces.tag w is) ≡ one_or (Host n) (option_map through_call (call_given (registered_in l.filters) called.filter called.given xs))
block_read l x w n called xs is role at values =
    let known = registered_in l.filters in
    ap (tag_statement l x is (tokens_of is)) role
    ∙ ap (λ (o : Option BlockCall). one_or (Host n) (option_and_then (λ called. option_map through_call (host_call_of known called.filter called.given (tokens_of is))) o)) at
    ∙ ap (λ (o : Option FilterCall). one_or (Host n) (option_map through_call o)) (call_read known called.filter called.given xs (tokens_of is) values)

-- the node that a statement makes of no body
made_of : Statement → Node
made_of (begins (of_one b make)) = make no_nodes
made_of (leaf n) = n
made_of s = comment

same_call : (a b : FilterCall) (f : Nodes) → through_call a f ≡ through_call b f → a ≡ b
same_call a b f h = cc

calls_in : Node → List FilterCall
calls_in (output c) = c.filters
calls_in n = []

same_output : (v : Expression) (a b : FilterCall) → output (with_entry v a) ≡ output (with_entry v b) → a ≡ b
unfolding with_entry calls_in
same_output v a b h = let e : a ∷ [] ≡ b ∷ [] = ap calls_in h in cc

-- of the call that an output has, and of that which requires less
shown : Expression → Option FilterCall → Statement
shown v o = leaf_or (option_map output (option_map (with_entry v) o))

begun : ℕ → Option FilterCall → Statement
begun n o = one_or (Host n) (option_map through_call o)

module _ (v : Expression) (n k m : ℕ) (f : Filter) (ys : List Expression) where
  same_filter : (g : Filter) → call_requiring g k ys ≡ call_requiring f k ys → g ≡ f
  same_filter g h = ap (λ call. call.filter) h

  same_whole : (g : Filter) → call_requiring g m ys ≡ call_requiring f m ys → g ≡ f
  same_whole g h = ap (λ call. call.filter) h

  -- the filter of one is that of the other, with a different number required
  from_tag : (b : Bool) (g : Filter) → shown v (option_map (requiring k) (cond b (Some (call_requiring g m ys)) None)) ≡ leaf (output (with_entry v (call_requiring f k ys)))
      → shown v (cond b (Some (call_requiring g m ys)) None) ≡ leaf (output (with_entry v (call_requiring f m ys)))
  unfolding shown made_of
  from_tag false g h = absurd cc
  from_tag true g h = ap (λ g. leaf (output (with_entry v (call_requiring g m ys)))) (same_filter g (same_output v _ _ (ap made_of h)))

  to_tag : (b : Bool) (g : Filter) → shown v (cond b (Some (call_requiring g m ys)) None) ≡ leaf (output (with_entry v (call_requiring f m ys)))
      → shown v (option_map (requiring k) (cond b (Some (call_requiring g m ys)) None)) ≡ leaf (output (with_entry v (call_requiring f k ys)))
  unfolding shown made_of
  to_tag false g h = absurd cc
  to_tag true g h = ap (λ g. leaf (output (with_entry v (call_requiring g k ys)))) (same_whole g (same_output v _ _ (ap made_of h)))

  from_block : (b : Bool) (g : Filter) → begun n (option_map (requiring k) (cond b (Some (call_requiring g m ys)) None)) ≡ begins (of_one (Host n) (through_call (call_requiring f k ys)))
      → shown v (cond b (Some (call_requiring g m ys)) None) ≡ leaf (output (with_entry v (call_requiring f m ys)))
  unfolding shown begun made_of
  from_block false g h = absurd cc
  from_block true g h = ap (λ g. leaf (output (with_entry v (call_requiring g m ys)))) (same_filter g (same_call _ _ no_nodes (ap made_of h)))

  to_block : (b : Bool) (g : Filter) → shown v (cond b (Some (call_requiring g m ys)) None) ≡ leaf (output (with_entry v (call_requiring f m ys)))
      → begun n (option_map (requiring k) (cond b (Some (call_requiring g m ys)) None)) ≡ begins (of_one (Host n) (through_call (call_requiring f k ys)))
  unfolding shown begun made_of
  to_block false g h = absurd cc
  to_block true g h = ap (λ g. begins (of_one (Host n) (through_call (call_requiring g k ys)))) (same_whole g (same_output v _ _ (ap made_of h)))

-- where no filter of the name is registered there is neither
module _ (name : Text) (v : Expression) (n k : ℕ) (f : Filter) (ys : List Expression) where
  tag_as_shown : (o : Option RegisteredFilter) → shown v (option_map (requiring k) (accepted_call name o ys)) ≡ leaf (output (with_entry v (call_requiring f k ys)))
      → shown v (accepted_call name o ys) ≡ leaf (output (with_entry v (call_requiring f (length ys) ys)))
  unfolding shown begun with_entry
  tag_as_shown None h = let e : leaf_or None ≡ leaf (output (with_entry v (call_requiring f k ys))) = h in absurd cc
  tag_as_shown (Some filter) h = from_tag v n k (length ys) f ys (registered_counts filter (length ys)) (called_as name filter) h

  shown_as_tag : (o : Option RegisteredFilter) → shown v (accepted_call name o ys) ≡ leaf (output (with_entry v (call_requiring f (length ys) ys)))
      → shown v (option_map (requiring k) (accepted_call name o ys)) ≡ leaf (output (with_entry v (call_requiring f k ys)))
  unfolding shown begun with_entry
  shown_as_tag None h = let e : leaf_or None ≡ leaf (output (with_entry v (call_requiring f (length ys) ys))) = h in absurd cc
  shown_as_tag (Some filter) h = to_tag v n k (length ys) f ys (registered_counts filter (length ys)) (called_as name filter) h

  block_as_shown : (o : Option RegisteredFilter) → begun n (option_map (requiring k) (accepted_call name o ys)) ≡ begins (of_one (Host n) (through_call (call_requiring f k ys)))
      → shown v (accepted_call name o ys) ≡ leaf (output (with_entry v (call_requiring f (length ys) ys)))
  unfolding shown begun with_entry
  block_as_shown None h = let e : one_or (Host n) None ≡ begins (of_one (Host n) (through_call (call_requiring f k ys))) = h in absurd cc
  block_as_shown (Some filter) h = from_block v n k (length ys) f ys (registered_counts filter (length ys)) (called_as name filter) h

  shown_as_block : (o : Option RegisteredFilter) → shown v (accepted_call name o ys) ≡ leaf (output (with_entry v (call_requiring f (length ys) ys)))
      → begun n (option_map (requiring k) (accepted_call name o ys)) ≡ begins (of_one (Host n) (through_call (call_requiring f k ys)))
  unfolding shown begun with_entry
  shown_as_block None h = let e : leaf_or None ≡ leaf (output (with_entry v (call_requiring f (length ys) ys))) = h in absurd cc
  shown_as_block (Some filter) h = to_block v n k (length ys) f ys (registered_counts filter (length ys)) (called_as name filter) h

module _ (l : Language) (x : BlockContext) (w : Text) (n : ℕ) (called : TagCall) (xs : List Expression) (is os : List Item) (f : Filter) (role : role_of l x w ≡ Some (HostTag n)) (at : call_at l n ≡ Some called)
    (values : AreTagValues xs (tokens_of is)) (spelled : tokens_of os ≡ as_it_is l (value called.input ∷ symbol Bar ∷ word called.filter ∷ arguments (xs ++ called.given))) where
  pub tag_as_output : reads l x (pieces.tag w is) ≡ leaf (output (chain_of_call called (call_requiring f (length xs) (xs ++ called.given))))
      → reads l x (pieces.output os) ≡ leaf (output (chain_of_call called (call_requiring f (length (xs ++ called.given)) (xs ++ called.given))))
  unfolding with_entry shown
  tag_as_output h = output_read l x called.input called.filter (xs ++ called.given) os spelled
      ∙ tag_as_shown called.filter called.input n (length xs) f (xs ++ called.given) (listed (registered_in l.filters) called.filter) (sym (tag_read l x w n called xs is role at values) ∙ h)

  pub output_as_tag : reads l x (pieces.output os) ≡ leaf (output (chain_of_call called (call_requiring f (length (xs ++ called.given)) (xs ++ called.given))))
      → reads l x (pieces.tag w is) ≡ leaf (output (chain_of_call called (call_requiring f (length xs) (xs ++ called.given))))
  unfolding with_entry shown
  output_as_tag h = tag_read l x w n called xs is role at values
      ∙ shown_as_tag called.filter called.input n (length xs) f (xs ++ called.given) (listed (registered_in l.filters) called.filter) (sym (output_read l x called.input called.filter (xs ++ called.given) os spelled) ∙ h)

module _ (l : Language) (x : BlockContext) (w : Text) (n : ℕ) (called : BlockCall) (xs : List Expression) (v : Expression) (is os : List Item) (f : Filter) (role : role_of l x w ≡ Some (HostBlock n)) (at : block_at l n ≡ Some called)
    (values : AreTagValues xs (tokens_of is)) (spelled : tokens_of os ≡ as_it_is l (value v ∷ symbol Bar ∷ word called.filter ∷ arguments (xs ++ called.given))) where
  pub block_as_output : reads l x (pieces.tag w is) ≡ begins (of_one (Host n) (through_call (call_requiring f (length xs) (xs ++ called.given))))
      → reads l x (pieces.output os) ≡ leaf (output (record { entry = v; filters = call_requiring f (length (xs ++ called.given)) (xs ++ called.given) ∷ [] }))
  unfolding with_entry shown begun
  block_as_output h = output_read l x v called.filter (xs ++ called.given) os spelled
      ∙ block_as_shown called.filter v n (length xs) f (xs ++ called.given) (listed (registered_in l.filters) called.filter) (sym (block_read l x w n called xs is role at values) ∙ h)

  pub output_as_block : reads l x (pieces.output os) ≡ leaf (output (record { entry = v; filters = call_requiring f (length (xs ++ called.given)) (xs ++ called.given) ∷ [] }))
      → reads l x (pieces.tag w is) ≡ begins (of_one (Host n) (through_call (call_requiring f (length xs) (xs ++ called.given))))
  unfolding with_entry shown begun
  output_as_block h = block_read l x w n called xs is role at values
      ∙ shown_as_block called.filter v n (length xs) f (xs ++ called.given) (listed (registered_in l.filters) called.filter) (sym (output_read l x v called.filter (xs ++ called.given) os spelled) ∙ h)

-- the tag of its end's name ends a host's block
pub block_ends : (l : Language) (n : ℕ) → role_of l (InLast (Host n)) (end_in l.host_tags n) ≡ Some End
block_ends l n = ap (λ (b : Bool). cond b (Some End) (registered l (end_in l.host_tags n))) ((bytes_eq-Decides (end_in l.host_tags n) (end_in l.host_tags n)).1 refl)

-- ---- where none is registered

no_host : (a : Option TagKind) (b : Option BlockKind) (o : Option HostKind) (kind : HostKind) → o ≡ None → tag_or_block a b o ≡ Some (host_role kind) → ⊥
no_host (Some k) b o (kinds.Tag n) e h = absurd cc
no_host (Some k) b o (kinds.Block n) e h = absurd cc
no_host None (Some k) o (kinds.Tag n) e h = absurd cc
no_host None (Some k) o (kinds.Block n) e h = absurd cc
no_host None None (Some k) kind e h = absurd cc
no_host None None None kind e h = absurd cc

none_after : (k : Option Control) (o : Option Role) (kind : HostKind) → (o ≡ Some (host_role kind) → ⊥) → word_or k o ≡ Some (host_role kind) → ⊥
none_after (Some k) o (kinds.Tag n) without h = absurd cc
none_after (Some k) o (kinds.Block n) without h = absurd cc
none_after None o kind without h = without h

none_inside : (b : Bool) (o : Option Role) (kind : HostKind) → (o ≡ Some (host_role kind) → ⊥) → cond b (Some End) o ≡ Some (host_role kind) → ⊥
none_inside true o (kinds.Tag n) without h = absurd cc
none_inside true o (kinds.Block n) without h = absurd cc
none_inside false o kind without h = without h

pub no_host_role : (l : Language) (x : BlockContext) (w : Text) (kind : HostKind) → numbers_of l.host_tags ≡ [] → role_of l x w ≡ Some (host_role kind) → ⊥
unfolding listed
no_host_role l x w kind e h = on x h
  where
    unregistered : registered l w ≡ Some (host_role kind) → ⊥
    unregistered h = no_host (listed (kinds_of l.tags) w) (listed (kinds_of l.blocks) w) (listed (numbers_of l.host_tags) w) kind (ap (λ (es : List (Text × HostKind)). listed es w) e) h

    on : (x : BlockContext) → role_of l x w ≡ Some (host_role kind) → ⊥
    on Outside h = unregistered h
    on (InBody b) h = none_inside (bytes_eq w (end_word l b)) _ kind (λ h. none_after (control_of b w) _ kind unregistered h) h
    on (InLast b) h = none_inside (bytes_eq w (end_word l b)) _ kind unregistered h
