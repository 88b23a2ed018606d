-- Templates without the white space of blocks that write nothing.
--     writes_nothing n      a node that writes white space at most, whatever the data are: such a
--       text, a comment, an `assign`, a `capture`, and a block with nothing else in its bodies
--     without_blanks ns      the nodes, in which each text of an `if`, `unless`, `case` or `for`
--       that writes nothing is empty. An `if` with its `elsif` parts counts as one block
use Rattle.std.specs.Char.{is_ascii_whitespace}
use Rattle.std.specs.List.{list_all}
use Rattle.std.specs.Prelude.{◌&&◌, ◌||◌, ℕ, Bool, true, false, [], cond, length, nat_eq}
use Rattle.liquid_model.specs.Texts.{Text}
use Rattle.liquid_evaluation.specs.Tree.{Node, Nodes, Whens, no_nodes, node, no_whens, when}
use Rattle.liquid_evaluation.specs.Tree.{plain, raw, comment, output, assign, increment, decrement}
use Rattle.liquid_evaluation.specs.Tree.{break_loop, continue_loop, cycle, if_true, unless, case_of}
use Rattle.liquid_evaluation.specs.Tree.{for_each, tablerow, capture, ifchanged, filtered, include}
use Rattle.liquid_evaluation.specs.Tree.{jekyll_include, render}

-- white space as Liquid for Ruby has it: that of ASCII, and a vertical tab
abbrev pub is_blank_byte : ℕ → Bool
is_blank_byte b = is_ascii_whitespace b || nat_eq b 11

-- a text of white space alone
abbrev pub is_blank_text : Text → Bool
is_blank_text t = list_all is_blank_byte t

abbrev mutual
  pub writes_nothing : Node → Bool
  writes_nothing (plain t) = is_blank_text t
  writes_nothing (raw t) = nat_eq (length t) 0
  writes_nothing comment = true
  writes_nothing (assign name chain) = true
  writes_nothing (capture name ns) = true
  writes_nothing (if_true condition ns others) = write_nothing ns && write_nothing others
  writes_nothing (unless condition ns others) = write_nothing ns && write_nothing others
  writes_nothing (case_of target ws others) = whens_write_nothing ws && write_nothing others
  writes_nothing (for_each name source window ns others) =
      write_nothing ns && write_nothing others
  writes_nothing (tablerow name source window cols ns) = write_nothing ns
  writes_nothing (ifchanged ns) = write_nothing ns
  writes_nothing (filtered filters ns) = false
  writes_nothing (output chain) = false
  writes_nothing (increment name) = false
  writes_nothing (decrement name) = false
  writes_nothing break_loop = false
  writes_nothing continue_loop = false
  writes_nothing (cycle group values) = false
  writes_nothing (include name bindings) = false
  writes_nothing (jekyll_include name bindings) = false
  writes_nothing (render name each bindings) = false

  pub write_nothing : Nodes → Bool
  write_nothing no_nodes = true
  write_nothing (node n ns) = writes_nothing n && write_nothing ns

  pub whens_write_nothing : Whens → Bool
  whens_write_nothing no_whens = true
  whens_write_nothing (when values ns ws) = write_nothing ns && whens_write_nothing ws

abbrev pub is_no_nodes : Nodes → Bool
is_no_nodes no_nodes = true
is_no_nodes (node n ns) = false

-- the nodes of a body without blanks; its own texts are empty too where drop is true. Where
-- as_elsif is true, an `if` that is alone there loses its texts as the block around it does
abbrev mutual
  pub node_without : Bool → Bool → Node → Node
  node_without drop as_elsif (plain t) = plain (cond drop [] t)
  node_without drop as_elsif (if_true condition ns others) =
      let silent = cond as_elsif drop (writes_nothing (if_true condition ns others)) in
      if_true condition (nodes_without silent false ns) (nodes_without silent true others)
  node_without drop as_elsif (unless condition ns others) =
      let silent = writes_nothing (unless condition ns others) in
      unless condition (nodes_without silent false ns) (nodes_without silent false others)
  node_without drop as_elsif (case_of target ws others) =
      let silent = writes_nothing (case_of target ws others) in
      case_of target (whens_without silent ws) (nodes_without silent false others)
  node_without drop as_elsif (for_each name source window ns others) =
      let silent = writes_nothing (for_each name source window ns others) in
      for_each name source window (nodes_without silent false ns)
      (nodes_without silent false others)
  node_without drop as_elsif (tablerow name source window cols ns) =
      tablerow name source window cols (nodes_without false false ns)
  node_without drop as_elsif (capture name ns) = capture name (nodes_without false false ns)
  node_without drop as_elsif (ifchanged ns) = ifchanged (nodes_without false false ns)
  node_without drop as_elsif (filtered filters ns) =
      filtered filters (nodes_without false false ns)
  node_without drop as_elsif (raw t) = raw t
  node_without drop as_elsif comment = comment
  node_without drop as_elsif (output chain) = output chain
  node_without drop as_elsif (assign name chain) = assign name chain
  node_without drop as_elsif (increment name) = increment name
  node_without drop as_elsif (decrement name) = decrement name
  node_without drop as_elsif break_loop = break_loop
  node_without drop as_elsif continue_loop = continue_loop
  node_without drop as_elsif (cycle group values) = cycle group values
  node_without drop as_elsif (include name bindings) = include name bindings
  node_without drop as_elsif (jekyll_include name bindings) = jekyll_include name bindings
  node_without drop as_elsif (render name each bindings) = render name each bindings

  pub nodes_without : Bool → Bool → Nodes → Nodes
  nodes_without drop as_elsif no_nodes = no_nodes
  nodes_without drop as_elsif (node n ns) =
      node (node_without drop (as_elsif && is_no_nodes ns) n) (nodes_without drop false ns)

  pub whens_without : Bool → Whens → Whens
  whens_without drop no_whens = no_whens
  whens_without drop (when values ns ws) =
      when values (nodes_without drop false ns) (whens_without drop ws)

abbrev pub without_blanks : Nodes → Nodes
without_blanks ns = nodes_without false false ns
