-- What is read as a value stands in the grammar, and what stands in the grammar is read.
use Rattle.std.proofs.Common.{◌≡◌, ℕ, zero, suc, ◌-◌, ◌<◌, ◌≤◌, List, [], ◌∷◌, ◌++◌, length, get_or, eqb, Bool, true, false, ◌||◌, ◌&&◌, ◌⊎◌, inl, inr, cond, subst, sym, ap, ◌∙◌, arith, refl, Option, Some, None}
use Rattle.std.specs.Option.{option_map}
use Rattle.liquid_model.specs.Data.{Datum, text}
use Rattle.liquid_core.specs.Expression.{Expression, literal, Steps, step}
use Rattle.liquid_model.specs.Bytes.{is_letter, is_digit, in_word}
use Rattle.liquid_model.specs.Words.{passes, begins_with, Blank, Word, Quoted}
use Rattle.liquid_lexer.specs.Values.{WordKind, name, constant, state, word_kind, dotted, step_begins, IsMemberName, without_mark, with_mark, IsValue, is_text, is_number, is_constant, is_variable, AreSteps, no_step, is_member, is_index}
use Rattle.liquid_lexer.specs.ValueReading.{member_at, member_name, member_name_at, member_word_at, member_step, marked, index_at, step_by, step_at, more_steps, steps_at, word_value, value_by, expression_at, inner_of}
use Rattle.liquid_model.specs.Front.{Reads, past_white, past_byte, word_at, quoted_at, integer_at, literal_by, literal_at}
use Rattle.liquid_model.proofs.WordLaws.{opens_value, bind_some, map_some, guard_none, from_some, blank_takes, blank_again, word_takes, word_again, quoted_takes, quoted_again, number_takes, number_again, number_front, byte_some, blank_shorter, word_shorter, quoted_shorter, number_shorter, number_no_quote, number_no_word, either}
use Rattle.std.proofs.lemmas.List.{length-append}
use Rattle.std.proofs.lemmas.Bool.{ne_eqb, or_left, or_right, or_from, or_parts}
use Rattle.std.proofs.Common.{append_assoc}

-- ---- the names of members

pub member_shorter : {w bs rest : List ℕ} → IsMemberName w bs rest → length rest ≤ length bs
member_shorter (without_mark w h) = word_shorter w
member_shorter (with_mark w) = omega (arith, word_shorter w)

mutual
  pub value_shorter : {d : ℕ} {x : Expression} {bs rest : List ℕ} → IsValue d x bs rest → length rest ≤ length bs
  value_shorter (is_text q) = quoted_shorter q
  value_shorter (is_number n) = omega (arith, number_shorter n)
  value_shorter (is_constant w k e) = word_shorter w
  value_shorter (is_variable w k ss) = omega (arith, word_shorter w, steps_shorter ss)

  pub steps_shorter : {d : ℕ} {xs : Steps} {bs rest : List ℕ} → AreSteps d xs bs rest → length rest ≤ length bs
  steps_shorter (no_step h) = omega arith
  steps_shorter (is_member w ss) = omega (arith, member_shorter w, steps_shorter ss)
  steps_shorter (is_index a v b ss) = omega (arith, blank_shorter a, value_shorter v, blank_shorter b, steps_shorter ss)

-- ---- values: what is read stands in the grammar

none_by : {A : Type 0} (b : Bool) (x : A) → cond b (Some x) None ≡ None → b ≡ false
none_by true x h = absurd cc
none_by false x h = refl

byte_none : (q : ℕ) (b : ℕ) (bs : List ℕ) → past_byte q (b ∷ bs) ≡ None → eqb b q ≡ false
byte_none q b bs h = none_by (eqb b q) bs h

-- a step, or none
Stepped : ℕ → List ℕ → Option (Expression × List ℕ) → Type 0
Stepped d bs None = step_begins bs ≡ false
Stepped d bs (Some v) = ((vs : Steps) (rest : List ℕ) → AreSteps d vs v.1 rest → AreSteps d (step v.0 vs) bs rest) × (length v.1 < length bs)

-- what may stand between brackets, which aren't there at 0
Inside : ℕ → Expression → List ℕ → List ℕ → Type 0
Inside zero v bs rest = ⊥
Inside (suc d) v bs rest = IsValue d v bs rest

bracketed : (d : ℕ) (v : Expression) (inside from until after : List ℕ) → Blank inside from → Inside d v from until → Blank until (93 ∷ after) → Stepped d (91 ∷ inside) (Some (v, after))
unfolding Stepped Inside
bracketed zero v inside from until after a i b = absurd i
bracketed (suc d) v inside from until after a i b = ((λ vs rest s. is_index a i b s), omega (arith, blank_shorter a, value_shorter i, blank_shorter b))

no_letter_front : (from : List ℕ) → word_at from ≡ None → is_letter (get_or from 0 0) ≡ false
unfolding word_at
no_letter_front from h = none_by (is_letter (get_or from 0 0)) _ h

no_mark_front : (bs : List ℕ) → past_byte 63 bs ≡ None → begins_with 63 bs ≡ false
no_mark_front [] h = refl
no_mark_front (b ∷ bs) h = byte_none 63 b bs h

-- a word, and a `?` after it, is the name of a member
named_by : (w bs rest : List ℕ) (o : Option (List ℕ)) → Word w bs rest → past_byte 63 rest ≡ o → IsMemberName (marked w rest o).0 bs (marked w rest o).1
named_by w bs rest None h e = without_mark h (no_mark_front rest e)
named_by w bs rest (Some after) h e = with_mark (subst (Word w bs) (byte_some 63 rest after e) h)

member_is : (w : List ℕ × List ℕ) (bs : List ℕ) → Word w.0 bs w.1 → IsMemberName (member_name w).0 bs (member_name w).1
member_is w bs h = named_by w.0 bs w.1 (past_byte 63 w.1) h refl

dot_takes : (d : ℕ) (from : List ℕ) (x : Option (Expression × List ℕ)) (o : Option (List ℕ × List ℕ)) → word_at from ≡ o → option_map member_step (option_map member_name o) ≡ x → Stepped d (46 ∷ from) x
unfolding Stepped
dot_takes d from x None e h = subst (Stepped d (46 ∷ from)) h (no_letter_front from e)
dot_takes d from x (Some w) e h = let m = member_is w from (word_takes from w e) in subst (Stepped d (46 ∷ from)) h ((λ vs rest s. is_member m s), omega (arith, member_shorter m))

module _ (d : ℕ) (inner : Reads Expression) (inner_takes : (bs : List ℕ) (x : Expression × List ℕ) → inner bs ≡ Some x → Inside d x.0 bs x.1) where
  index_takes : (bs : List ℕ) (x : Expression × List ℕ) → index_at inner bs ≡ Some x → Stepped d (91 ∷ bs) (Some x)
  unfolding index_at
  index_takes bs x h =
      let a = bind_some (inner (past_white bs)) _ x h in
      let b = bind_some (past_byte 93 (past_white a.0.1)) _ x a.2 in
      subst (λ (x : Expression × List ℕ). Stepped d (91 ∷ bs) (Some x)) (from_some b.2)
      (bracketed d a.0.0 bs (past_white bs) a.0.1 b.0 (blank_takes bs) (inner_takes (past_white bs) a.0 a.1)
      (subst (Blank a.0.1) (byte_some 93 _ b.0 b.1) (blank_takes a.0.1)))

  member_takes : (bs : List ℕ) (x : Option (Expression × List ℕ)) (o : Option (List ℕ)) → past_byte 91 bs ≡ None → past_byte 46 bs ≡ o → member_at o ≡ x → Stepped d bs x
  unfolding Stepped member_name_at member_word_at
  member_takes [] x o k e h = subst (Stepped d []) (ap member_at e ∙ h) refl
  member_takes (b ∷ bs) x None k e h = subst (Stepped d (b ∷ bs)) h (or_from _ _ (byte_none 91 b bs k) (rw (byte_none 46 b bs e)))
  member_takes (b ∷ bs) x (Some from) k e h = subst (λ (l : List ℕ). Stepped d l x) (sym (byte_some 46 (b ∷ bs) from e)) (dot_takes d from x (word_at from) refl h)

  stepped : (bs : List ℕ) (x : Option (Expression × List ℕ)) (o : Option (List ℕ)) → past_byte 91 bs ≡ o → step_by inner bs o ≡ Some x → Stepped d bs x
  stepped bs x None e h = member_takes bs x (past_byte 46 bs) e refl (from_some h)
  stepped bs x (Some inside) e h =
      let i = map_some (index_at inner inside) _ x h in
      subst (Stepped d bs) i.2 (subst (λ (l : List ℕ). Stepped d l (Some i.0)) (sym (byte_some 91 bs inside e)) (index_takes inside i.0 i.1))

  step_takes : (bs : List ℕ) (x : Option (Expression × List ℕ)) → step_at inner bs ≡ Some x → Stepped d bs x
  unfolding step_at
  step_takes bs x h = stepped bs x (past_byte 91 bs) refl h

  on_takes : (more : Reads Steps) → ((bs : List ℕ) (x : Steps × List ℕ) → more bs ≡ Some x → AreSteps d x.0 bs x.1) → (bs : List ℕ) (o : Option (Expression × List ℕ)) (x : Steps × List ℕ)
      → Stepped d bs o → more_steps inner more bs o ≡ Some x → AreSteps d x.0 bs x.1
  unfolding Stepped
  on_takes more takes bs None x s h = subst (λ (x : Steps × List ℕ). AreSteps d x.0 bs x.1) (from_some h) (no_step s)
  on_takes more takes bs (Some v) x s h =
      let m = map_some (more v.1) _ x h in
      subst (λ (x : Steps × List ℕ). AreSteps d x.0 bs x.1) m.2 (s.0 m.0.0 m.0.1 (takes v.1 m.0 m.1))

  steps_takes : (n : ℕ) (bs : List ℕ) (x : Steps × List ℕ) → steps_at inner n bs ≡ Some x → AreSteps d x.0 bs x.1
  unfolding steps_at
  steps_takes zero bs x h = let s = bind_some (step_at inner bs) _ x h in on_takes (λ bs. None) (λ bs x h. absurd cc) bs s.0 x (step_takes bs s.0 s.1) s.2
  steps_takes (suc n) bs x h = let s = bind_some (step_at inner bs) _ x h in on_takes (steps_at inner n) (steps_takes n) bs s.0 x (step_takes bs s.0 s.1) s.2

  literal_takes_by : (bs : List ℕ) (o : Option (List ℕ × List ℕ)) (x : Datum × List ℕ) → quoted_at bs ≡ o → literal_by bs o ≡ Some x → IsValue d (literal x.0) bs x.1
  literal_takes_by bs (Some s) x e h = subst (λ (x : Datum × List ℕ). IsValue d (literal x.0) bs x.1) (from_some h) (is_text (quoted_takes bs s e))
  literal_takes_by bs None x e h = let n = map_some (integer_at bs) _ x h in subst (λ (x : Datum × List ℕ). IsValue d (literal x.0) bs x.1) n.2 (is_number (number_takes bs n.0 n.1))

  literal_takes : (bs : List ℕ) (x : Datum × List ℕ) → literal_at bs ≡ Some x → IsValue d (literal x.0) bs x.1
  unfolding literal_at
  literal_takes bs x h = literal_takes_by bs (quoted_at bs) x refl h

  named_takes : (w bs rest : List ℕ) (k : WordKind) (x : Expression × List ℕ) → Word w bs rest → word_kind w ≡ k → word_value inner w rest k ≡ Some x → IsValue d x.0 bs x.1
  named_takes w bs rest name x o e h =
      let s = map_some (steps_at inner (length rest) rest) _ x h in
      subst (λ (x : Expression × List ℕ). IsValue d x.0 bs x.1) s.2 (is_variable o e (steps_takes (length rest) rest s.0 s.1))
  named_takes w bs rest (constant v) x o e h =
      let g = guard_none (dotted rest) (Some (literal v, rest)) x h in
      subst (λ (x : Expression × List ℕ). IsValue d x.0 bs x.1) (from_some g.1) (is_constant o e g.0)
  named_takes w bs rest state x o e h = absurd cc

  value_by_takes : (bs : List ℕ) (o : Option (List ℕ × List ℕ)) (x : Expression × List ℕ) → word_at bs ≡ o → value_by inner bs o ≡ Some x → IsValue d x.0 bs x.1
  value_by_takes bs None x e h =
      let s = map_some (literal_at bs) _ x h in
      subst (λ (x : Expression × List ℕ). IsValue d x.0 bs x.1) s.2 (literal_takes bs s.0 s.1)
  value_by_takes bs (Some w) x e h = named_takes w.0 bs w.1 (word_kind w.0) x (word_takes bs w e) refl h

inner_takes : (d : ℕ) (bs : List ℕ) (x : Expression × List ℕ) → inner_of d bs ≡ Some x → Inside d x.0 bs x.1
unfolding inner_of Inside
inner_takes zero bs x h = absurd cc
inner_takes (suc d) bs x h = value_by_takes d (inner_of d) (inner_takes d) bs (word_at bs) x refl h

pub value_takes : (d : ℕ) (bs : List ℕ) (x : Expression × List ℕ) → expression_at d bs ≡ Some x → IsValue d x.0 bs x.1
unfolding expression_at
value_takes d bs x h = value_by_takes d (inner_of d) (inner_takes d) bs (word_at bs) x refl h

-- ---- values: what stands in the grammar is read

no_member : (t : Bool) (bs : List ℕ) → (t && is_letter (get_or bs 0 0)) ≡ false → member_at (cond t (Some bs) None) ≡ None
unfolding word_at member_name_at member_word_at
no_member true bs h = rw h
no_member false bs h = refl

no_step_again : (inner : Reads Expression) (bs : List ℕ) → step_begins bs ≡ false → step_at inner bs ≡ Some None
unfolding step_at
no_step_again inner [] h = refl
no_step_again inner (b ∷ bs) h = let n = or_parts (eqb b 91) (eqb b 46 && is_letter (get_or bs 0 0)) h in rw (n.0, no_member (eqb b 46) bs n.1)

no_mark_again : (bs : List ℕ) → begins_with 63 bs ≡ false → past_byte 63 bs ≡ None
no_mark_again [] h = refl
no_mark_again (b ∷ bs) h = rw h

name_again : (w bs rest : List ℕ) → IsMemberName w bs rest → member_name_at bs ≡ Some (literal (text w), rest)
unfolding member_name_at member_word_at
name_again w bs rest (without_mark h e) = rw (word_again w bs rest h, no_mark_again rest e)
name_again _ bs rest (with_mark {w = w} h) = rw (word_again w bs (63 ∷ rest) h)

member_again : (inner : Reads Expression) (w from after : List ℕ) → IsMemberName w from after → step_at inner (46 ∷ from) ≡ Some (Some (literal (text w), after))
unfolding step_at
member_again inner w from after h = rw (name_again w from after h)

index_again : (inner : Reads Expression) (v : Expression) (inside from until after : List ℕ) → Blank inside from → inner from ≡ Some (v, until) → Blank until (93 ∷ after) → step_at inner (91 ∷ inside) ≡ Some (Some (v, after))
unfolding step_at index_at
index_again inner v inside from until after a i b = rw (blank_again inside from a, i, blank_again until (93 ∷ after) b)

no_letter : (q : ℕ) → (q ≡ 34) ⊎ (q ≡ 39) → is_letter q ≡ false
no_letter q (inl e) = rw e
no_letter q (inr e) = rw e

no_word : (s bs rest : List ℕ) → Quoted s bs rest → word_at bs ≡ None
unfolding word_at
no_word s bs rest h =
    let e : is_letter (get_or bs 0 0) ≡ false = ap (λ (l : List ℕ). is_letter (get_or l 0 0)) h.joined ∙ no_letter h.quote h.double_or_single in rw e

mutual
  unfolding steps_at inner_of expression_at literal_at

  pub value_again : {d : ℕ} {x : Expression} {bs rest : List ℕ} → IsValue d x bs rest → expression_at d bs ≡ Some (x, rest)
  value_again (is_text q) = rw (no_word _ _ _ q, quoted_again _ _ _ q)
  value_again (is_number n) = rw (number_no_word _ _ _ n, number_no_quote _ _ _ n, number_again _ _ _ n)
  value_again (is_constant w k e) = rw (word_again _ _ _ w, k, e)
  value_again (is_variable {after = after} w k ss) = rw (word_again _ _ _ w, k, steps_again ss (length after) (omega arith))

  steps_again : {d : ℕ} {xs : Steps} {bs rest : List ℕ} → AreSteps d xs bs rest → (n : ℕ) → length bs ≤ n → steps_at (inner_of d) n bs ≡ Some (xs, rest)
  steps_again (no_step h) zero l = rw (no_step_again _ _ h)
  steps_again (no_step h) (suc n) l = rw (no_step_again _ _ h)
  steps_again (is_member w ss) zero l = absurd (omega arith)
  steps_again (is_member w ss) (suc n) l = rw (member_again _ _ _ _ w, steps_again ss n (omega (arith, member_shorter w)))
  steps_again (is_index a v b ss) zero l = absurd (omega arith)
  steps_again (is_index a v b ss) (suc n) l = rw (index_again _ _ _ _ _ _ a (value_again v) b, steps_again ss n (omega (arith, blank_shorter a, value_shorter v, blank_shorter b)))

-- a step takes a byte at least
pub step_shorter : (d : ℕ) (bs : List ℕ) (v : Expression × List ℕ) → step_at (inner_of d) bs ≡ Some (Some v) → length v.1 < length bs
unfolding Stepped
step_shorter d bs v h = (step_takes d (inner_of d) (inner_takes d) bs (Some v) h).1

pub inner_is : (d : ℕ) (bs : List ℕ) → 0 < d → inner_of d bs ≡ expression_at (d - 1) bs
unfolding inner_of expression_at
inner_is zero bs h = absurd (omega arith)
inner_is (suc d) bs h = ap (λ k. value_by (inner_of k) bs (word_at bs)) (omega arith)

pub inner_none : (d : ℕ) (bs : List ℕ) → d ≡ 0 → inner_of d bs ≡ None
unfolding inner_of
inner_none zero bs h = refl
inner_none (suc d) bs h = absurd (omega arith)

-- ---- what opens a value

letter_opens : (b : ℕ) → is_letter b ≡ true → opens_value b ≡ true
unfolding opens_value
letter_opens b h = rw h

quote_opens : (q : ℕ) → (q ≡ 34) ⊎ (q ≡ 39) → opens_value q ≡ true
unfolding opens_value
quote_opens q (inl e) = rw e
quote_opens q (inr e) = rw e

number_opens : (b : ℕ) → (is_digit b [] || (eqb b 43 || eqb b 45)) ≡ true → opens_value b ≡ true
unfolding opens_value
number_opens b h = or_right (is_letter b) _ (elim (either (is_digit b []) (eqb b 43 || eqb b 45) h) [ inl e ↦ or_left (is_digit b []) _ e | inr e ↦ or_right (is_digit b []) _ (or_right (eqb b 34 || eqb b 39) _ e) ])

pub value_opens : {d : ℕ} {x : Expression} {bs rest : List ℕ} → IsValue d x bs rest → opens_value (get_or bs 0 0) ≡ true
value_opens (is_text {bs = bs} q) = ap (λ (l : List ℕ). opens_value (get_or l 0 0)) q.joined ∙ quote_opens q.quote q.double_or_single
value_opens (is_number {n = n} {bs = bs} {rest = rest} h) = number_opens (get_or bs 0 0) (number_front n bs rest h)
value_opens (is_constant {bs = bs} w k e) = letter_opens (get_or bs 0 0) w.begins
value_opens (is_variable {bs = bs} w k ss) = letter_opens (get_or bs 0 0) w.begins

-- ---- a value takes a byte at least

pub apart : (t : ℕ → Bool) (b q : ℕ) → t b ≡ true → t q ≡ false → b ≡ q → ⊥
apart t b q h k e = let g : true ≡ false = sym h ∙ ap t e ∙ k in absurd cc

letter_goes : (b : ℕ) (bs : List ℕ) → is_letter b ≡ true → in_word b bs ≡ true
unfolding in_word
letter_goes b bs h = rw (h, ne_eqb b 45 (apart is_letter b 45 h refl))

pub word_some : (w bs rest : List ℕ) → Word w bs rest → 0 < length w
word_some [] [] rest h = absurd cc
word_some [] (b ∷ bs) rest h = let g : in_word b bs ≡ false = ap (passes in_word) h.joined ∙ h.run in let k : true ≡ false = sym (letter_goes b bs h.begins) ∙ g in absurd cc
word_some (c ∷ w) bs rest h = omega arith

pub word_shrinks : {w bs rest : List ℕ} → Word w bs rest → length rest < length bs
word_shrinks {w} {bs} {rest} h = let some = word_some w bs rest h in let e = simp length-append at (ap (length {A = ℕ}) h.joined) in omega (arith, some, e)

pub value_shrinks : {d : ℕ} {x : Expression} {bs rest : List ℕ} → IsValue d x bs rest → length rest < length bs
value_shrinks (is_text q) = rw q.joined (simp length-append (omega arith))
value_shrinks (is_number n) = number_shorter n
value_shrinks (is_constant w k e) = word_shrinks w
value_shrinks (is_variable w k ss) = omega (arith, word_shrinks w, steps_shorter ss)

-- ---- a value is what its text has before the rest

pub Front : List ℕ → List ℕ → Type 0
Front bs rest = (front : List ℕ) × (bs ≡ front ++ rest)

front_cons : (b : ℕ) (bs rest : List ℕ) → Front bs rest → Front (b ∷ bs) rest
unfolding Front
front_cons b bs rest f = (b ∷ f.0, ap (λ (l : List ℕ). b ∷ l) f.1)

front_join : (bs after rest : List ℕ) → Front bs after → Front after rest → Front bs rest
unfolding Front
front_join bs after rest f g = (f.0 ++ g.0, f.1 ∙ ap (λ (l : List ℕ). f.0 ++ l) g.1 ∙ sym (append_assoc f.0 g.0 rest))

front_none : (rest : List ℕ) → Front rest rest
unfolding Front
front_none rest = ([], refl)

front_of : (front bs rest : List ℕ) → bs ≡ front ++ rest → Front bs rest
unfolding Front
front_of front bs rest e = (front, e)

member_front : {w bs rest : List ℕ} → IsMemberName w bs rest → Front bs rest
member_front (without_mark {w = w} {bs = bs} {rest = rest} o h) = front_of w bs rest o.joined
member_front (with_mark {w = w} {bs = bs} {rest = rest} o) = front_join bs (63 ∷ rest) rest (front_of w bs (63 ∷ rest) o.joined) (front_cons 63 rest rest (front_none rest))

mutual
  value_front : {d : ℕ} {x : Expression} {bs rest : List ℕ} → IsValue d x bs rest → Front bs rest
  value_front (is_text {s = s} {bs = bs} {rest = rest} q) = front_of (q.quote ∷ (s ++ (q.quote ∷ []))) bs rest (q.joined ∙ ap (λ (l : List ℕ). q.quote ∷ l) (sym (append_assoc s (q.quote ∷ []) rest)))
  value_front (is_number {bs = bs} {rest = rest} n) = front_of n.spelling bs rest n.joined
  value_front (is_constant {w = w} {bs = bs} {rest = rest} o k e) = front_of w bs rest o.joined
  value_front (is_variable {w = w} {bs = bs} {after = after} {rest = rest} o k ss) = front_join bs after rest (front_of w bs after o.joined) (steps_front ss)

  steps_front : {d : ℕ} {xs : Steps} {bs rest : List ℕ} → AreSteps d xs bs rest → Front bs rest
  steps_front (no_step {rest = rest} h) = front_none rest
  steps_front (is_member {w = w} {from = from} {after = after} {rest = rest} o ss) = front_cons 46 from rest (front_join from after rest (member_front o) (steps_front ss))
  steps_front (is_index {inside = inside} {from = from} {until = until} {after = after} {rest = rest} a v b ss) =
      front_cons 91 inside rest (front_join inside from rest (front_of a.blank inside from a.joined) (front_join from until rest (value_front v)
      (front_join until (93 ∷ after) rest (front_of b.blank until (93 ∷ after) b.joined) (front_cons 93 after rest (steps_front ss)))))

pub value_at_front : (d : ℕ) (bs : List ℕ) (x : Expression × List ℕ) → expression_at d bs ≡ Some x → (front : List ℕ) × (bs ≡ front ++ x.1)
unfolding Front
value_at_front d bs x h = value_front (value_takes d bs x h)
