-- Texts that are written piece by piece.
use Rattle.std.proofs.Common.{◌≡◌, List, [], ◌++◌, Result, Ok, Err, inl, inr, refl, sym, ap, subst, ◌∙◌, ◌∷◌, append_assoc, String, Global, string_bytes}
use Rattle.liquid_model.specs.Data.{text_of, pairs_text}
use Rattle.liquid_model.specs.View.{view, pairs_view}
use Rattle.liquid_model.specs.declared.value.Value.{Value}
use Rattle.liquid_model.specs.Texts.{Text}
use Rattle.liquid_model.specs.declared.error.Error.{Error}
use Rattle.liquid_model.specs.declared.error.ErrorKind.{ErrorKind}
use Rattle.liquid_core.specs.Environment.{Environment}
use Rattle.liquid_meaning.specs.Runs.{Nothing, Outcome}
use Rattle.liquid_engine.specs.Sinks.{Sink}
use Rattle.liquid_engine.specs.Performs.{MeetsAt, WritesText, unit}
use Rattle.liquid_engine.proofs.Sinks.{Adds-nil, AddsPart-longer}
use Rattle.liquid_engine.proofs.Joined.{after_met}

wrote : Text → Environment → Outcome Nothing
wrote t e = record { text = t; environment = e; end = Ok tt }

pub writes_nothing : (value : Unit {0}) (s : Sink) → WritesText (Ok value) [] s s
writes_nothing value s e = inl (record { end = refl; within = refl; adds = Adds-nil s; none_failed = refl; same = refl })

-- a piece, and then the others
pub writes_then : (value : Unit {0}) (r : Result (Unit {0}) Error) (first more : Text) (s t u : Sink) → WritesText (Ok value) first s t → WritesText r more t u → WritesText r (first ++ more) s u
unfolding wrote
writes_then value r first more s t u p q e = on (p e)
  where
    on : MeetsAt unit (Ok value) (wrote first e) s t e → MeetsAt unit r (wrote (first ++ more) e) s u e
    on (inl x) = after_met unit unit value r (wrote first e) (wrote more e) s t u e e x (q e)
    on (inr x) = absurd x.cause

no_value : (kind : ErrorKind) → (let done : Result Nothing ErrorKind = Ok tt in Err kind ≡ done) → ⊥
no_value kind h = cc

-- a piece that wasn't written whole
pub writes_stop : (x : Error) (first more : Text) (s t : Sink) → WritesText (Err x) first s t → WritesText (Err x) (first ++ more) s t
unfolding wrote
writes_stop x first more s t p e = on (p e)
  where
    on : MeetsAt unit (Err x) (wrote first e) s t e → MeetsAt unit (Err x) (wrote (first ++ more) e) s t e
    on (inl y) = absurd (no_value x.kind y.end)
    on (inr y) = inr (record { cause = y.cause; adds = AddsPart-longer s t first more y.adds })

pub writes_as : (r : Result (Unit {0}) Error) (t u : Text) (old new : Sink) → t ≡ u → WritesText r t old new → WritesText r u old new
writes_as r t u old new is h = subst (λ x. WritesText r x old new) is h

-- ---- what is left of some pieces does from here what all of them did from the start
abbrev pub GoesOn : Text → Sink → Text → Sink → Type 0
GoesOn rest here all start = (r : Result (Unit {0}) Error) (after : Sink) → WritesText r rest here after → WritesText r all start after

pub goes_on : (value : Unit {0}) (piece rest all : Text) (start here next : Sink) → GoesOn (piece ++ rest) here all start → WritesText (Ok value) piece here next → GoesOn rest next all start
goes_on value piece rest all start here next so_far p r after q = so_far r after (writes_then value r piece rest here next after p q)

pub goes_wrong : (x : Error) (piece rest all : Text) (start here next : Sink) → GoesOn (piece ++ rest) here all start → WritesText (Err x) piece here next → WritesText (Err x) all start next
goes_wrong x piece rest all start here next so_far p = so_far (Err x) next (writes_stop x piece rest here next p)

pub goes_to_end : (value : Unit {0}) (rest all : Text) (start here : Sink) → rest ≡ [] → GoesOn rest here all start → WritesText (Ok value) all start here
goes_to_end value rest all start here none so_far = so_far (Ok value) here (writes_as (Ok value) [] rest here here (sym none) (writes_nothing value here))

-- a pair is its key and then its value
pub next_pair : (es : List (String Global × Value)) (key : String Global) (value : Value) (more : List (String Global × Value)) (all : Text) (start here : Sink) → es ≡ (key, value) ∷ more
    → GoesOn (pairs_text (pairs_view es)) here all start → GoesOn (string_bytes key ++ (text_of (view value) ++ pairs_text (pairs_view more))) here all start
next_pair es key value more all start here is so_far =
    subst (λ t. GoesOn t here all start) (ap (λ l. pairs_text (pairs_view l)) is ∙ append_assoc (string_bytes key) (text_of (view value)) (pairs_text (pairs_view more))) so_far
