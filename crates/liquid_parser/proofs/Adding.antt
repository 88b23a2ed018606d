-- The next piece, on the code's stack of open blocks.
use Rattle.std.proofs.Common.{◌≡◌, ◌<◌, ℕ, nat_le, arith, List, [], ◌∷◌, Bool, true, false, cond, Option, Some, None, Result, Ok, Err, OnOk, sym, ap, ◌∙◌}
use Rattle.std.proofs.lemmas.Bool.Decides.{nat_tests}
use Rattle.liquid_lexer.specs.declared.fault.ParseError.{ParseError}
use Rattle.liquid_lexer.specs.declared.fault.ParseError.TheVariants as errors
use Rattle.liquid_evaluation.specs.Tree.{Nodes, no_nodes}
use Rattle.liquid_parser.specs.Nesting.{Opening}
use Rattle.liquid_parser.specs.OpenBlocks.{State, begun, ended, Level, level, block_depth, deeper, with_node, close, to_begin}
use Rattle.liquid_parser.specs.inside.Building.{Begins, AdvancesTo, IsBuilding, IsMemory, IsStack, Closes, opening}
use Rattle.liquid_language.specs.declared.block.Block.{Block}
use Rattle.liquid_parser.specs.declared.build.Builder.{Builder}
use Rattle.liquid_parser.specs.declared.build.Stage.TheVariants.{First}
use Rattle.liquid_syntax.specs.declared.node.Node as code
use Rattle.liquid_parser.proofs.NestingLaws.{some_room}

-- one block of a chain of `elsif` has ended
pub chain_step : (b : Builder) (chained around : Bool) (ls ms : List Level) (cur now : Nodes) → chained ≡ true → close true ls cur ≡ close chained ms now → block_depth ls ≡ deeper chained (block_depth ms) → Closes ms now b (Some around)
    → (ns : List Level) × (later : Nodes) × IsStack b ns later × (close true ls cur ≡ close around ns later) × (block_depth ls ≡ deeper around (block_depth ns))
chain_step b chained around ls [] cur now t e d h = absurd h
chain_step b chained around ls (level r f k ∷ ms) cur now t e d h =
    let c = with_node f (ended r now) in
    let e' : close true ls cur ≡ close k ms c = e ∙ ap (λ (x : Bool). close x (level r f k ∷ ms) now) t in
    let d' : block_depth ls ≡ deeper k (block_depth ms) = d ∙ ap (λ (x : Bool). deeper x (deeper k (block_depth ms))) t in
    (ms, c, h.1, e' ∙ ap (λ (x : Bool). close x ms c) (sym h.0), d' ∙ ap (λ (x : Bool). deeper x (block_depth ms)) (sym h.0))

pub chain_none : (b : Builder) (chained : Bool) (ls ms : List Level) (cur now : Nodes) → chained ≡ true → close true ls cur ≡ close chained ms now → Closes ms now b None → close true ls cur ≡ None
chain_none b chained ls [] cur now t e h = e ∙ ap (λ (x : Bool). close x [] now) t
chain_none b chained ls (level r f k ∷ ms) cur now t e h = absurd h

pub begins_step : (o : Opening) (ls : List Level) (cur : Nodes) → block_depth ls < 200 → to_begin o ls cur ≡ Some (level (begun o) cur false ∷ ls, no_nodes)
begins_step o ls cur room = ap (λ (x : Bool). cond x (Some (level (begun o) cur false ∷ ls, no_nodes)) None) (some_room (block_depth ls) room)

-- a block that is opened after an `elsif`
pub elsif_opens : (r : Result (Unit {0}) ParseError) (b was : Builder) (block : Block) (n : code.Node) (read : Option State) (s : State) → IsMemory r → read ≡ Some (level (begun (opening block First n)) s.1 true ∷ s.0, no_nodes)
    → OnOk r (b.depth ≡ was.depth) → OnOk r ((ls : List Level) (cur : Nodes) → IsStack was ls cur → Begins block First true n ls cur b) → IsBuilding was s.0 s.1 → AdvancesTo read b r
elsif_opens (Ok u) b was block n read s memory is deep opens built = ((level (begun (opening block First n)) s.1 true ∷ s.0, no_nodes), is, (opens s.0 s.1 built.0, deep ∙ built.1))
elsif_opens (Err errors.Memory) b was block n read s memory is deep opens built = tt
elsif_opens (Err (errors.Fault f)) b was block n read s memory is deep opens built = absurd cc

-- a builder that isn't full has room for a block
pub has_room : (n m : ℕ) (full : Bool) → full ≡ nat_le 200 n → full ≡ false → n ≡ m → m < 200
has_room n m full is off same = let l : nat_le 200 n ≡ false = sym is ∙ off in let k : n < 200 = grind (arith, nat_tests) in omega (arith, k, same)
