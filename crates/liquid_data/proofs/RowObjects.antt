-- The objects of a list: signs, heads, and the braces that close an object.
use Rattle.std.specs.Prelude.{◌≡◌, ⊤, ℕ, ◌+◌, ◌==◌, cond, min, not, Bool, true, false, List, [], ◌∷◌, ◌++◌, Option, Some, None, IfSome, Result, Ok, Err, IfOk, if◌then◌else◌}
use Rattle.std.proofs.Common.{subst}
use Rattle.std.specs.Io.BufRead.{drop_through, take_through}
use mathlib.Core.Path.{refl, sym, ap, ◌∙◌}
use Rattle.liquid_data.specs.Braces.{braces_after, after_all, after_object, after_sign, if_closed, in_text, is_closed, one_closed}
use Rattle.liquid_data.specs.Lists.{HeadIs, HeadLeads, ListHead, ListStep, Reaches, SignIs, ListSteps, broken, end, faulted, is_end, list_end, object, one_object, sign_in, list_step_at, step_of}
use Rattle.liquid_data.specs.declared.braces.Braces.{Braces}
use Rattle.liquid_data.specs.declared.braces.Braces.TheVariants.{Between, Closed, Escaped, InText}
use Rattle.liquid_data.specs.declared.list_objects.Head.{Head}
use Rattle.liquid_data.specs.declared.list_objects.Head.TheVariants as head
use Rattle.liquid_data.specs.declared.list_objects.ListFault.{ListFault}
use Rattle.liquid_data.specs.declared.list_objects.ListObjects.{ListObjects}
use Rattle.liquid_data.specs.declared.list_objects.Place.{Place}
use Rattle.liquid_data.specs.declared.list_objects.Place.TheVariants.{Front, Over, Within}

-- what a sign leads to is what the text leads to
pub by_sign : (old mid new : Option (List ℕ)) (b : ℕ) (h : Head) (more : List ℕ → ListHead) (wanted : Option (ℕ × List ℕ) → ListHead) → ((p : ℕ × List ℕ) → b ≡ p.0 → wanted (Some p) ≡ more p.1) → IfSome old (λ t. SignIs (Some b) mid (sign_in t))
    → IfSome mid (λ t. HeadIs h new (more t)) → IfSome old (λ t. HeadIs h new (wanted (sign_in t)))
by_sign None mid new b h more wanted same found next = tt
by_sign (Some text) mid new b h more wanted same found next = at (sign_in text) found
  where
    at : (o : Option (ℕ × List ℕ)) → SignIs (Some b) mid o → HeadIs h new (wanted o)
    at None f = absurd f
    at (Some p) f = subst (HeadIs h new) (sym (same p f.0)) (subst (λ m. IfSome m (λ t. HeadIs h new (more t))) f.1 next)

-- a head that is found leads where the text leads to
pub stepped : {R : Type 0} (remaining : R → Option (List ℕ)) (place : Place) (new : ListObjects R) (old mid : Option (List ℕ)) (h : Head) (wanted : List ℕ → ListHead) → IfSome old (λ t. HeadIs h mid (wanted t)) → HeadLeads remaining h mid place new
    → IfSome old (λ t. Reaches remaining place new (step_of (wanted t)))
stepped remaining place new None mid h wanted f g = tt
stepped remaining place new (Some text) mid h wanted f g = at h (wanted text) f g
  where
    at : (k : Head) (w : ListHead) → HeadIs k mid w → HeadLeads remaining k mid place new → Reaches remaining place new (step_of w)
    at head.Object (object t) f g = subst (λ m. HeadLeads remaining head.Object m place new) f g
    at head.Object (end t) f g = absurd f
    at head.Object (faulted x) f g = absurd f
    at head.End (object t) f g = absurd f
    at head.End (end t) f g = subst (λ m. HeadLeads remaining head.End m place new) f g
    at head.End (faulted x) f g = absurd f
    at (head.Faulted x) (object t) f g = absurd f
    at (head.Faulted x) (end t) f g = absurd f
    at (head.Faulted x) (faulted y) f g = g ∙ ap (λ z. Over (Some z)) f

-- the same of what was read after the head, at the place that the list was read at
pub goes_on : {R E : Type 0} (remaining : R → Option (List ℕ)) (place : Place) (new : ListObjects R) (old mid : Option (List ℕ)) (h : Head) (wanted : List ℕ → ListHead) (r : Result Place E) → ((t : List ℕ) → step_of (wanted t) ≡ list_step_at place t)
    → IfSome old (λ t. HeadIs h mid (wanted t)) → IfOk r (λ p. HeadLeads remaining h mid p new) → IfOk r (λ p. IfSome old (λ t. Reaches remaining p new (list_step_at place t)))
goes_on remaining place new old mid h wanted (Err e) same f g = tt
goes_on remaining place new None mid h wanted (Ok p) same f g = tt
goes_on remaining place new (Some text) mid h wanted (Ok p) same f g = subst (Reaches remaining p new) (same text) (stepped remaining p new (Some text) mid h wanted f g)

-- after the list nothing is next
pub stays_over : {R : Type 0} (remaining : R → Option (List ℕ)) (new : ListObjects R) (old : Option (List ℕ)) (place : Place) (fault : Option ListFault) → place ≡ Over fault → IfSome old (λ t. Reaches remaining (Over None) new (list_step_at place t))
stays_over remaining new None place fault is = tt
stays_over remaining new (Some text) place fault is = subst (λ p. Reaches remaining (Over None) new (list_step_at p text)) (sym is) refl

-- what a place that is reached says of the record
pub reached : {R : Type 0} (remaining : R → Option (List ℕ)) (found : Bool) (place : Place) (new now : ListObjects R) (old : Option (List ℕ)) (step : List ℕ → ListStep) → now ≡ record new { place = place } → found ≡ not (is_end place)
    → IfSome old (λ t. Reaches remaining place new (step t)) → IfSome old (λ t. ListSteps remaining found now (step t))
reached remaining found place new now None step is so reaches = tt
reached remaining found place new now (Some text) step is so reaches = subst (λ n. ListSteps remaining found n (step text)) (sym is) (at (step text) reaches)
  where
    at : (s : ListStep) → Reaches remaining place new s → ListSteps remaining found (record new { place = place }) s
    at (one_object t rest) r = (so ∙ ap (λ p. not (is_end p)) r.0, r.0, r.1)
    at (broken fault) r = (so ∙ ap (λ p. not (is_end p)) r, r)
    at list_end r = so ∙ ap (λ p. not (is_end p)) r

-- where braces are open, a byte that is no closing brace closes none
stays_open : (s : Braces) (b : ℕ) → is_closed s ≡ false → (b == 125) ≡ false → is_closed (braces_after s b) ≡ false
stays_open Closed b unclosed other = cc
stays_open (Between n) b unclosed other = at (b == 34) (b == 123) (b == 125) other
  where
    at : (q o c : Bool) → c ≡ false → is_closed (cond q (InText n) (cond o (Between (min (n + 1) 18446744073709551615)) (cond c (one_closed n) (Between n)))) ≡ false
    at true o c e = refl
    at false true c e = refl
    at false false false e = refl
    at false false true e = cc
stays_open (InText n) b unclosed other = at (b == 34) (b == 92)
  where
    at : (q e : Bool) → is_closed (cond q (Between n) (cond e (Escaped n) (InText n))) ≡ false
    at true e = refl
    at false true = refl
    at false false = refl
stays_open (Escaped n) b unclosed other = refl

pub open_goes_on : (s : Braces) (bs : List ℕ) (more : Option (List ℕ)) → is_closed s ≡ false → if_closed s bs more ≡ more
open_goes_on Closed bs more e = cc
open_goes_on (Between n) bs more e = refl
open_goes_on (InText n) bs more e = refl
open_goes_on (Escaped n) bs more e = refl

-- up to the next closing brace
pub through_brace : (s : Braces) (text : List ℕ) → is_closed s ≡ false
    → after_object s text ≡ if_closed (after_all s (take_through 125 text)) (drop_through 125 text) (after_object (after_all s (take_through 125 text)) (drop_through 125 text))
through_brace s [] unclosed = sym (open_goes_on s [] None unclosed)
through_brace s (b ∷ bs) unclosed = at (b == 125) refl (through_brace (braces_after s b) bs)
  where
    at : (t : Bool) → (b == 125) ≡ t
        → (is_closed (braces_after s b) ≡ false → after_object (braces_after s b) bs ≡ if_closed (after_all (braces_after s b) (take_through 125 bs)) (drop_through 125 bs) (after_object (after_all (braces_after s b) (take_through 125 bs)) (drop_through 125 bs)))
        → after_object s (b ∷ bs) ≡ if_closed (after_all s (if t then b ∷ [] else b ∷ take_through 125 bs)) (if t then bs else drop_through 125 bs) (after_object (after_all s (if t then b ∷ [] else b ∷ take_through 125 bs)) (if t then bs else drop_through 125 bs))
    at true e next = refl
    at false e next = let still = stays_open s b unclosed e in open_goes_on (braces_after s b) bs (after_object (braces_after s b) bs) still ∙ next still
