-- What is read as a path is written as one, and what is written as one is read.
use Rattle.std.proofs.Common.{◌≡◌, inl, inr, refl, sym, ap, subst, ◌∙◌, ℕ, zero, suc, ◌≤◌, List, [], ◌∷◌, length, Option, Some, None, Err, arith}
use Rattle.liquid_model.specs.Answer.{IsTheOne}
use Rattle.liquid_model.specs.Data.{Datum, text}
use Rattle.liquid_model.specs.Fallible.{◌>>=◌}
use Rattle.liquid_model.specs.Texts.{Text}
use Rattle.liquid_model.specs.declared.error.ErrorKind.TheVariants.{InvalidArgument}
use Rattle.liquid_model.specs.Arguments.{Answer}
use Rattle.liquid_model.proofs.Ones.{one}
use Rattle.liquid_model.specs.Front.{literal_at, literal_by, integer_at, past_byte, quoted_at, word_at}
use Rattle.liquid_model.proofs.WordLaws.{number_no_quote}
use Rattle.liquid_model.proofs.WordLaws.{bind_some, byte_some, from_some, map_some, number_again, number_shorter, number_takes, quoted_again, quoted_shorter, quoted_takes, word_again, word_shorter, word_takes}
use Rattle.liquid_filters.specs.JekyllLaws.{AtPath, PathIsRead}
use Rattle.liquid_filters.specs.Path.{bracketed_at, closed, path_member, path, path_by, path_step, path_step_by, steps_in}
use Rattle.liquid_filters.specs.JekyllSorting.{or_no_path, path_given}
use Rattle.liquid_filters.specs.WrittenPaths.{ArePathSteps, IsLiteral, IsPath, is_index, is_member, is_number, is_path, is_text, no_step}

-- ---- what is read is written so

literal_takes_by : (bs : List ℕ) (o : Option (List ℕ × List ℕ)) (x : Datum × List ℕ) → quoted_at bs ≡ o → literal_by bs o ≡ Some x → IsLiteral x.0 bs x.1
literal_takes_by bs (Some s) x e h = subst (λ (x : Datum × List ℕ). IsLiteral x.0 bs x.1) (from_some h) (is_text (quoted_takes bs s e))
literal_takes_by bs None x e h = let n = map_some (integer_at bs) _ x h in subst (λ (x : Datum × List ℕ). IsLiteral x.0 bs x.1) n.2 (is_number (number_takes bs n.0 n.1))

literal_takes : (bs : List ℕ) (x : Datum × List ℕ) → literal_at bs ≡ Some x → IsLiteral x.0 bs x.1
unfolding literal_at
literal_takes bs x h = literal_takes_by bs (quoted_at bs) x refl h

-- with the steps after it
abbrev Leads : List ℕ → Datum × List ℕ → Type 0
Leads s x = (ds : List Datum) → ArePathSteps ds x.1 → ArePathSteps (x.0 ∷ ds) s

closed_takes : (inside : List ℕ) (o : Option (Datum × List ℕ)) (x : Datum × List ℕ) → literal_at inside ≡ o → closed o ≡ Some x → Leads (91 ∷ inside) x
closed_takes inside None x e h = absurd (let u : ⊥ = cc in u)
closed_takes inside (Some y) x e h =
    let m = map_some (past_byte 93 y.1) _ x h in
    let stands = subst (λ r. IsLiteral y.0 inside r) (byte_some 93 y.1 m.0 m.1) (literal_takes inside y e) in
    subst (Leads (91 ∷ inside)) m.2 (λ ds more. is_index stands more)

index_takes : (inside : List ℕ) (x : Datum × List ℕ) → bracketed_at inside ≡ Some x → Leads (91 ∷ inside) x
unfolding bracketed_at
index_takes inside x h = closed_takes inside (literal_at inside) x refl h

member_takes : (from : List ℕ) (x : Datum × List ℕ) → path_member from ≡ Some x → Leads (46 ∷ from) x
unfolding path_member
member_takes from x h =
    let m = map_some (word_at from) _ x h in
    subst (Leads (46 ∷ from)) m.2 (λ ds more. is_member (word_takes from m.0 m.1) more)

step_takes_by : (s : List ℕ) (o p : Option (List ℕ)) (x : Datum × List ℕ) → past_byte 91 s ≡ o → past_byte 46 s ≡ p → path_step_by o p ≡ Some x → Leads s x
step_takes_by s (Some inside) p x e f h = subst (λ l. Leads l x) (sym (byte_some 91 s inside e)) (index_takes inside x h)
step_takes_by s None (Some from) x e f h = subst (λ l. Leads l x) (sym (byte_some 46 s from f)) (member_takes from x h)
step_takes_by s None None x e f h = absurd (let u : ⊥ = cc in u)

step_takes : (s : List ℕ) (x : Datum × List ℕ) → path_step s ≡ Some x → Leads s x
unfolding path_step
step_takes s x h = step_takes_by s (past_byte 91 s) (past_byte 46 s) x refl refl h

steps_take : (n : ℕ) (s : List ℕ) (ds : List Datum) → steps_in n s ≡ Some ds → ArePathSteps ds s
unfolding steps_in
steps_take zero [] ds h = subst (λ l. ArePathSteps l []) (from_some h) no_step
steps_take (suc n) [] ds h = subst (λ l. ArePathSteps l []) (from_some h) no_step
steps_take zero (b ∷ s) ds h = absurd (let u : ⊥ = cc in u)
steps_take (suc n) (b ∷ s) ds h =
    let x = bind_some (path_step (b ∷ s)) _ ds h in
    let m = map_some (steps_in n x.0.1) _ ds x.2 in
    subst (λ l. ArePathSteps l (b ∷ s)) m.2 (step_takes (b ∷ s) x.0 x.1 m.0 (steps_take n x.0.1 m.0 m.1))

path_takes_by : (s : List ℕ) (o : Option (List ℕ × List ℕ)) (p : List Datum) → word_at s ≡ o → path_by o ≡ Some p → IsPath p s
path_takes_by s None p e h = absurd (let u : ⊥ = cc in u)
path_takes_by s (Some w) p e h =
    let m = map_some (steps_in (length w.1) w.1) _ p h in
    subst (λ l. IsPath l s) m.2 (is_path (word_takes s w e) (steps_take (length w.1) w.1 m.0 m.1))

path_takes : (s : Text) (p : List Datum) → path s ≡ Some p → IsPath p s
unfolding path
path_takes s p h = path_takes_by s (word_at s) p refl h

-- ---- what is written so is read

literal_again : {d : Datum} {bs rest : List ℕ} → IsLiteral d bs rest → literal_at bs ≡ Some (d, rest)
unfolding literal_at
literal_again (is_text {s} {bs} {rest} q) = rw (quoted_again s bs rest q) refl
literal_again (is_number {n} {bs} {rest} h) = rw (number_no_quote n bs rest h, number_again n bs rest h) refl

literal_shorter : {d : Datum} {bs rest : List ℕ} → IsLiteral d bs rest → length rest ≤ length bs
literal_shorter (is_text q) = quoted_shorter q
literal_shorter (is_number h) = omega (arith, number_shorter h)

member_again : (w from rest : List ℕ) → word_at from ≡ Some (w, rest) → path_step (46 ∷ from) ≡ Some (text w, rest)
unfolding path_step path_member
member_again w from rest h = rw h refl

index_again : (d : Datum) (from rest : List ℕ) → literal_at from ≡ Some (d, 93 ∷ rest) → path_step (91 ∷ from) ≡ Some (d, rest)
unfolding path_step bracketed_at
index_again d from rest h = rw h refl

steps_again : {ds : List Datum} {s : List ℕ} → ArePathSteps ds s → (n : ℕ) → length s ≤ n → steps_in n s ≡ Some ds
unfolding steps_in
steps_again no_step zero l = refl
steps_again no_step (suc n) l = refl
steps_again (is_member w more) zero l = absurd (omega arith)
steps_again (is_member {w} {from} {rest} h more) (suc n) l = rw (member_again w from rest (word_again w from rest h), steps_again more n (omega (arith, l, word_shorter h))) refl
steps_again (is_index i more) zero l = absurd (omega arith)
steps_again (is_index {d} {from} {rest} i more) (suc n) l = rw (index_again d from rest (literal_again i), steps_again more n (omega (arith, l, literal_shorter i))) refl

path_again : {p : List Datum} {s : Text} → IsPath p s → path s ≡ Some p
unfolding path
path_again (is_path {w} {bs} {rest} h more) = rw (word_again w bs rest h, steps_again more (length rest) (omega arith)) refl

pub path_is_read : PathIsRead
path_is_read s p = (path_again, path_takes s p)

-- ---- what is done with a path

none_some : {X : Type 0} (x : X) → None ≡ Some x → ⊥
none_some x e = cc

pub path_one : (s : Text) (R : List Datum → Answer → Type 0) (f : List Datum → Answer) → ((p : List Datum) → IsTheOne (R p) (f p)) → IsTheOne (AtPath s R) (path_given s >>= f)
path_one s R f ones = by (path s) refl
  where
    by : (o : Option (List Datum)) → path s ≡ o → IsTheOne (AtPath s R) (or_no_path o >>= f)
    by None e = one (AtPath s R) (Err InvalidArgument) (inr ((λ p is. none_some p (sym e ∙ path_again is)), refl)) unique
      where
        unique : (a : Answer) → AtPath s R a → a ≡ Err InvalidArgument
        unique a (inl (p, is, r)) = absurd (none_some p (sym e ∙ path_again is))
        unique a (inr (none, same)) = same
    by (Some p) e = one (AtPath s R) (f p) (inl (p, path_takes s p e, (ones p (f p)).1 refl)) unique
      where
        unique : (a : Answer) → AtPath s R a → a ≡ f p
        unique a (inl (q, is, r)) = (ones q a).0 r ∙ ap f (from_some (sym (path_again is) ∙ e))
        unique a (inr (none, same)) = absurd (none p (path_takes s p e))
