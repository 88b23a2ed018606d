-- Texts that are appended part by part.
use Rattle.std.proofs.Common.{◌≡◌, List, [], ◌∷◌, ◌++◌, String, Global, string_bytes, Result, Ok, Err, refl, sym, ap, subst, ◌∙◌, append_assoc}
use Rattle.std.proofs.lemmas.List.{append-nil}
use Rattle.liquid_model.specs.Texts.{Text}
use Rattle.liquid_model.specs.Appended.{Begun, Appended}
use Rattle.liquid_model.specs.Data.{text_of, pairs_text}
use Rattle.liquid_model.specs.View.{view, pairs_view}
use Rattle.liquid_model.specs.declared.value.Value.{Value}
use Rattle.liquid_model.specs.declared.error.Error.{Error}

-- here is what was there with a part of the text after it, and rest is what is left of the text
pub record Going (old here text rest : Text) : Type 0 where
  pub front : Text
  pub whole : front ++ rest ≡ text
  pub stands : here ≡ old ++ front

pub going_from : (old text : Text) → Going old old text text
going_from old text = record { front = []; whole = refl; stands = sym (append-nil old) }

pub going_on : (old here next text part rest : Text) → Going old here text (part ++ rest) → next ≡ here ++ part → Going old next text rest
going_on old here next text part rest g more = record {
  front = g.front ++ part;
  whole = append_assoc g.front part rest ∙ g.whole;
  stands = more ∙ ap (λ t. t ++ part) g.stands ∙ append_assoc old g.front part;
}

pub going_wrong : (old here next text part rest : Text) → Going old here text (part ++ rest) → Begun here next part → Begun old next text
going_wrong old here next text part rest g b = record {
  front = g.front ++ b.front;
  rest = b.rest ++ rest;
  whole = append_assoc g.front b.front (b.rest ++ rest)
      ∙ ap (λ t. g.front ++ t) (sym (append_assoc b.front b.rest rest) ∙ ap (λ t. t ++ rest) b.whole)
      ∙ g.whole;
  stands = b.stands ∙ ap (λ t. t ++ b.front) g.stands ∙ append_assoc old g.front b.front;
}

-- a pair is its key and then its value
pub next_pair : (es : List (String Global × Value)) (key : String Global) (value : Value) (more : List (String Global × Value)) (old here text : Text) → es ≡ (key, value) ∷ more
    → Going old here text (pairs_text (pairs_view es)) → Going old here text (string_bytes key ++ (text_of (view value) ++ pairs_text (pairs_view more)))
next_pair es key value more old here text is g =
    subst (λ t. Going old here text t) (ap (λ l. pairs_text (pairs_view l)) is ∙ append_assoc (string_bytes key) (text_of (view value)) (pairs_text (pairs_view more))) g

-- a part, and then the rest
pub appended_then : {X : Type 0} (r : Result X Error) (old here new first more : Text) → here ≡ old ++ first → Appended r here new more → Appended r old new (first ++ more)
appended_then (Ok x) old here new first more there h = h ∙ ap (λ t. t ++ more) there ∙ append_assoc old first more
appended_then (Err e) old here new first more there h =
    (h.0, going_wrong old here new (first ++ more) more [] (record { front = first; whole = ap (λ t. first ++ t) (append-nil more); stands = there }) h.1)

-- a part that wasn't appended whole
pub appended_stop : (e : Error) (old new first more : Text) → Appended {X = Unit {0}} (Err e) old new first → Appended {X = Unit {0}} (Err e) old new (first ++ more)
appended_stop e old new first more h = (h.0, going_wrong old old new (first ++ more) first more (going_from old (first ++ more)) h.1)
