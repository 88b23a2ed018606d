-- Remarks added to remarks, one sort after another.
use Rattle.std.proofs.Common.{◌≡◌, Bool, true, false, List, [], ◌∷◌, ◌++◌, Option, Some, None, Result, refl, sym, ap, subst, ◌∙◌}
use Rattle.std.specs.Prelude.{All, IfOk, IfSome, codes}
use Rattle.liquid_model.specs.Data.{Datum}
use Rattle.std.proofs.lemmas.List.{append-nil, append_assoc, map-append}
use Rattle.std.proofs.lemmas.Option.{IfSome_then}
use Rattle.std.proofs.lemmas.Result.{IfOk-weaker}
use Rattle.std.proofs.lemmas.List.Elements.{All-nil, All-cons, All-append}
use Rattle.liquid_model.specs.Texts.{Text}
use Rattle.liquid_syntax.specs.declared.positions.Position.{Position}
use Rattle.liquid_warnings.specs.Remarks.{Said, all_said, remark_view, warning, warning_at}
use Rattle.liquid_warnings.specs.Sorts.{InOrder, IsUnescaped, IsUnlisted, OnlyWhere, WarnsOf}
use Rattle.liquid_warnings.specs.Messages.{in_data, kind_word, value_message}
use Rattle.liquid_warnings.specs.Warnings.{AreOfSource}
use Rattle.liquid_model.specs.declared.origin.Location.{Location}
use Rattle.liquid_warnings.specs.inside.Added.{AddsRemarks, maybe_said, said_at, said_at_each}
use Rattle.liquid_warnings.specs.declared.remark.Remark.{Remark}

-- none
pub adds_none : (P : List Said → Type 0) (rs : List Remark) → P [] → AddsRemarks P rs rs
adds_none P rs none = record { added = []; grown = sym (append-nil (all_said rs)); is = none }

pub adds_no_more : (p : Said → Type 0) (rs : List Remark) → AddsRemarks (All p) rs rs
adds_no_more p rs = adds_none (All p) rs (All-nil p)

-- some more of one sort
pub adds_more : (p : Said → Type 0) (a b c : List Remark) (more : List Said) → AddsRemarks (All p) a b → all_said c ≡ all_said b ++ more → All p more → AddsRemarks (All p) a c
adds_more p a b c more f grown are = record {
  added = f.added ++ more;
  grown = grown ∙ ap (λ l. l ++ more) f.grown ∙ append_assoc (all_said a) f.added more;
  is = All-append p f.added more f.is are;
}

-- more of the same sort
pub adds_all_more : (p : Said → Type 0) (a b c : List Remark) → AddsRemarks (All p) a b → AddsRemarks (All p) b c → AddsRemarks (All p) a c
adds_all_more p a b c f g = adds_more p a b c g.added f g.grown g.is

-- one more
pub adds_one : (p : Said → Type 0) (a b c : List Remark) (r : Remark) → AddsRemarks (All p) a b → c ≡ b ++ r ∷ [] → p (remark_view r) → AddsRemarks (All p) a c
adds_one p a b c r f pushed is =
    adds_more p a b c (remark_view r ∷ []) f (ap all_said pushed ∙ map-append remark_view b (r ∷ [])) (All-cons p (remark_view r) [] is (All-nil p))

-- those of one sort, and then those of another
pub adds_then : (P Q : List Said → Type 0) (a b c : List Remark) → AddsRemarks P a b → AddsRemarks Q b c → AddsRemarks (InOrder P Q) a c
adds_then P Q a b c f g = record {
  added = f.added ++ g.added;
  grown = g.grown ∙ ap (λ l. l ++ g.added) f.grown ∙ append_assoc (all_said a) f.added g.added;
  is = record { first = f.added; more = g.added; whole = refl; first_are = f.is; more_are = g.is };
}

-- what is found, if something is
pub adds_found : (p : Said → Type 0) (a b c : List Remark) (found : Option Remark) → AddsRemarks (All p) a b → all_said c ≡ all_said b ++ maybe_said found → IfSome found (λ w. p (remark_view w)) → AddsRemarks (All p) a c
adds_found p a b c None f grown is = adds_more p a b c [] f grown (All-nil p)
adds_found p a b c (Some r) f grown is = adds_more p a b c (remark_view r ∷ []) f grown (All-cons p (remark_view r) [] is (All-nil p))

-- what is kept of what was found
pub kept_found : (p : Said → Type 0) (found kept : Option Remark) → IfSome found (λ w. p (remark_view w)) → IfSome kept (λ s. Some s ≡ found) → IfSome kept (λ w. p (remark_view w))
kept_found p found None is same = tt
kept_found p found (Some s) is same = subst (λ o. IfSome o (λ w. p (remark_view w))) (sym same) is

-- what is found of one sort is also of each sort that has it
pub found_of : {E : Type 0} (p q : Said → Type 0) (found : Result (Option Remark) E) → ((s : Said) → p s → q s) → IfOk found (λ r. IfSome r (λ w. p (remark_view w)))
    → IfOk found (λ r. IfSome r (λ w. q (remark_view w)))
found_of p q found more is = IfOk-weaker found _ _ (λ r one. IfSome_then r one (λ w. more (remark_view w))) is

-- ---- at each of some places

-- what is said so far and what is left to say make all, with one more said
pub said_one_more : (a : List Said) (b c : List Remark) (r : Remark) (kind message : Text) (place : Location) (places : List Location)
    → a ≡ all_said b ++ said_at_each kind message (place ∷ places) → c ≡ b ++ r ∷ [] → remark_view r ≡ said_at kind message place → a ≡ all_said c ++ said_at_each kind message places
said_one_more a b c r kind message place places before pushed is =
    let left = said_at_each kind message places in
    before ∙ ap (λ w. all_said b ++ (w ∷ left)) (sym is) ∙ sym (append_assoc (all_said b) (remark_view r ∷ []) left)
    ∙ ap (λ l. l ++ left) (sym (ap all_said pushed ∙ map-append remark_view b (r ∷ [])))

at_each : (kind message : Text) (places : List Location) → All (WarnsOf kind message) (said_at_each kind message places)
at_each kind message [] = All-nil (WarnsOf kind message)
at_each kind message (p ∷ ps) = All-cons (WarnsOf kind message) (said_at kind message p) (said_at_each kind message ps) (p.line, p.column, refl) (at_each kind message ps)

-- those at places are of the sort that says this
pub adds_at_each : (kind message : Text) (places : List Location) (a c : List Remark) → all_said c ≡ all_said a ++ said_at_each kind message places → AddsRemarks (All (WarnsOf kind message)) a c
adds_at_each kind message places a c grown = record { added = said_at_each kind message places; grown = grown; is = at_each kind message places }

-- ---- those of a sort that is looked for, or not

pub adds_where : (b : Bool) (P : List Said → Type 0) (a c : List Remark) → b ≡ true → AddsRemarks P a c → AddsRemarks (OnlyWhere b P) a c
adds_where b P a c is f = subst (λ t. AddsRemarks (OnlyWhere t P) a c) (sym is) f

pub adds_nowhere : (b : Bool) (P : List Said → Type 0) (rs : List Remark) → b ≡ false → AddsRemarks (OnlyWhere b P) rs rs
adds_nowhere b P rs is = subst (λ t. AddsRemarks (OnlyWhere t P) rs rs) (sym is) (adds_none (OnlyWhere false P) rs refl)

pub none_where : (b : Bool) (p : Said → Type 0) → OnlyWhere b (All p) []
none_where true p = All-nil p
none_where false p = refl

pub adds_none_where : (b : Bool) (p : Said → Type 0) (rs : List Remark) → AddsRemarks (OnlyWhere b (All p)) rs rs
adds_none_where b p rs = adds_none (OnlyWhere b (All p)) rs (none_where b p)

-- none of each sort
pub none_in_order : (P Q : List Said → Type 0) → P [] → Q [] → InOrder P Q []
none_in_order P Q p q = record { first = []; more = []; whole = refl; first_are = p; more_are = q }

pub adds_neither : (b : Bool) (p q r : Said → Type 0) (rs : List Remark) → AddsRemarks (InOrder (OnlyWhere b (All p)) (InOrder (All q) (All r))) rs rs
adds_neither b p q r rs =
    adds_none (InOrder (OnlyWhere b (All p)) (InOrder (All q) (All r))) rs (none_in_order (OnlyWhere b (All p)) (InOrder (All q) (All r)) (none_where b p) (none_in_order (All q) (All r) (All-nil q) (All-nil r)))

-- of a file without a text
pub none_of_source : (b : Bool) (rs : List Remark) → rs ≡ [] → AreOfSource b (all_said rs)
none_of_source b rs none = subst (λ l. AreOfSource b (all_said l)) (sym none) (none_in_order _ _ (All-nil _) (none_where b IsUnescaped))

-- all that was added to nothing
pub added_to_none : (P : List Said → Type 0) (a b : List Remark) → a ≡ [] → AddsRemarks P a b → P (all_said b)
added_to_none P a b none f = subst P (sym (f.grown ∙ ap (λ l. all_said l ++ f.added) none)) f.is

-- a warning that says this
pub warns : (s : Said) (position : Position) (kind said message : Text) → s ≡ warning position kind said → said ≡ message → WarnsOf kind message s
warns s position kind said message is same = (position.line, position.column, is ∙ ap (warning position kind) same)

pub unlisted : (s : Said) (position : Position) (words path : Text) (d : Datum) → s ≡ warning position (codes "NoList") (value_message words (kind_word d)) → words ≡ in_data path → IsUnlisted s
unlisted s position words path d is same =
    (path, d, warns s position (codes "NoList") _ _ is (ap (λ t. value_message t (kind_word d)) same))
