-- The warnings of a file put together, and those of all files.
use Rattle.std.proofs.Common.{◌≡◌, ℕ, List, [], ◌∷◌, ◌++◌, ◌+◌, ◌<◌, ◌≤◌, length, get_or, take, drop, Option, Some, None, refl, sym, ap, subst, ◌∙◌}
use Rattle.std.proofs.lemmas.List.{append-nil, append_assoc, drop_all, drop_more, map-append, take-map}
use Rattle.liquid_warnings.specs.Remarks.{Said, all_said, remark_view}
use Rattle.std.specs.Prelude.{option_map, slice_get, IfSome, MatchOption}
use Rattle.std.proofs.lemmas.Option.{slice_get_past, slice_get_read}
use Rattle.liquid_syntax.specs.declared.node.Node.{Node}
use Rattle.liquid_syntax.specs.declared.positions.Position.{Position}
use Rattle.liquid_warnings.specs.Warnings.{AreWarned, IsWarned, nodes_said, said_at, with_said}
use Rattle.liquid_warnings.specs.inside.Added.{maybe_said}
use Rattle.liquid_warnings.specs.declared.remark.Remark.{Remark}
use Rattle.liquid_warnings.specs.declared.warnings.CheckedFile.{CheckedFile}
use Rattle.liquid_warnings.specs.declared.warnings.Given.{Given}
use Rattle.liquid_warnings.specs.declared.written_for.WrittenFor.{WrittenFor}

-- three lists, of which the first hundred are kept
pub together : (source nodes others all : List Remark) (said : List Said) → all_said nodes ≡ said → all ≡ take 100 ((source ++ nodes) ++ others)
    → all_said all ≡ take 100 (all_said source ++ (said ++ all_said others))
together source nodes others all said same cut =
    ap all_said cut ∙ sym (take-map remark_view 100 ((source ++ nodes) ++ others))
    ∙ ap (take 100) (ap all_said (append_assoc source nodes others) ∙ map-append remark_view source (nodes ++ others)
    ∙ ap (λ l. all_said source ++ l) (map-append remark_view nodes others ∙ ap (λ l. l ++ all_said others) same))

abbrev pub Covers : Given → List CheckedFile → List CheckedFile → List (List Remark) → Type 0
Covers given files left lists = (rest : List (List Remark)) → AreWarned given left rest → AreWarned given files (lists ++ rest)

-- the list of one more file
pub one_more : (given : Given) (files : List CheckedFile) (i : ℕ) (x : CheckedFile) (lists new : List (List Remark)) (w : List Remark) → Covers given files (drop i files) lists → IsWarned given x w
    → new ≡ lists ++ w ∷ [] → x ≡ get_or files i x → i < length files → Covers given files (drop (i + 1) files) new
one_more given files i x lists new w covers is added at within rest h =
    let first : drop i files ≡ x ∷ drop (i + 1) files = drop_more files i x within ∙ ap (λ z. z ∷ drop (i + 1) files) (sym at) in
    subst (λ l. AreWarned given files (l ++ rest)) (sym added)
    (subst (AreWarned given files) (sym (append_assoc lists (w ∷ []) rest)) (covers (w ∷ rest) (subst (λ l. AreWarned given l (w ∷ rest)) (sym first) (is, h))))

-- no file is left
pub all_warned : (given : Given) (files : List CheckedFile) (i : ℕ) (lists : List (List Remark)) → Covers given files (drop i files) lists → length files ≤ i → AreWarned given files lists
all_warned given files i lists covers past =
    subst (AreWarned given files) (append-nil lists) (covers [] (subst (λ l. AreWarned given l []) (sym (drop_all i files past)) tt))

-- ---- nodes

-- what one more node says
pub one_node : (e : WrittenFor) (nodes : List Node) (positions : List Position) (i : ℕ) (x : Node) (position : Option Position) (all old new : List Said)
    → all ≡ old ++ nodes_said e i (drop i nodes) positions → new ≡ old ++ said_at e position x → position ≡ slice_get positions i
    → x ≡ get_or nodes i x → i < length nodes → all ≡ new ++ nodes_said e (i + 1) (drop (i + 1) nodes) positions
one_node e nodes positions i x position all old new so_far added same at within =
    let more = nodes_said e (i + 1) (drop (i + 1) nodes) positions in
    so_far ∙ ap (λ l. old ++ nodes_said e i l positions) (drop_more nodes i x within ∙ ap (λ z. z ∷ drop (i + 1) nodes) (sym at))
    ∙ ap (λ p. old ++ (said_at e p x ++ more)) (sym same)
    ∙ sym (append_assoc old (said_at e position x) more) ∙ ap (λ l. l ++ more) (sym added)

maybe_is : (r : Option Remark) (o : Option Said) → option_map remark_view r ≡ o → maybe_said r ≡ with_said o []
maybe_is None o is = ap (λ p. with_said p []) is
maybe_is (Some r) o is = ap (λ p. with_said p []) is

said_before : (s : Option Said) (more : List Said) → with_said s [] ++ more ≡ with_said s more
said_before None more = refl
said_before (Some s) more = refl

-- the two that a node may have
pub two_said : (a b : Option Said) (r s : Option Remark) (old first new : List Said) → option_map remark_view r ≡ a → option_map remark_view s ≡ b
    → first ≡ old ++ maybe_said r → new ≡ first ++ maybe_said s → new ≡ old ++ with_said a (with_said b [])
two_said a b r s old first new is also one two =
    two ∙ ap (λ l. l ++ maybe_said s) one ∙ append_assoc old (maybe_said r) (maybe_said s)
    ∙ ap (λ l. old ++ (l ++ maybe_said s)) (maybe_is r a is) ∙ ap (λ l. old ++ (with_said a [] ++ l)) (maybe_is s b also)
    ∙ ap (λ l. old ++ l) (said_before a (with_said b []))

-- what a slice has at a place, which a look into it finds
pub found_at : {B X : Type 0} (now : B → X) (P : B → Type 0) (xs : List X) (i : ℕ) (o : Option B) → IfSome o (λ b. now b ≡ get_or xs i (now b))
    → MatchOption o (length xs ≤ i) (λ b. (i < length xs) × P b) → option_map now o ≡ slice_get xs i
found_at now P xs i None is at = sym (slice_get_past xs i at)
found_at now P xs i (Some b) is at = sym (slice_get_read xs (length xs) i (now b) refl at.0 is)
