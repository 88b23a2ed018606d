-- The loop over a piece's items, a turn at a time.
use Rattle.std.proofs.Common.{◌≡◌, ℕ, zero, suc, ◌-◌, ◌<◌, List, [], ◌∷◌, ◌++◌, refl, ap, ◌∙◌, Bool, Option, Some, None, arith, sym, append_assoc, append-nil}
use Rattle.std.specs.Option.{option_and_then, option_map}
use Rattle.liquid_model.specs.Front.{past_white}
use Rattle.liquid_lexer.specs.Items.{Item}
use Rattle.liquid_lexer.specs.ItemReading.{ReadItems, lexed_item, closer_at, items_by, items_at}
use Rattle.liquid_lexer.specs.Readers.{Fails}
use Rattle.liquid_lexer.specs.declared.item.Delimiter.{Delimiter}
use Rattle.liquid_lexer.specs.declared.fault.ParseError.{ParseError}
use Rattle.liquid_lexer.specs.declared.fault.ParseError.TheVariants as errors

-- what was read, after the items done
pub with_front : List Item → Option ReadItems → Option ReadItems
with_front is o = option_map (λ r. (is ++ r.0, r.1, r.2)) o

pub after_nothing : (o : Option ReadItems) → o ≡ with_front [] o
unfolding with_front
after_nothing None = refl
after_nothing (Some x) = refl

after_last : (is : List Item) (i : Item) (o : Option ReadItems) → with_front is (option_map (λ r. (i ∷ r.0, r.1, r.2)) o) ≡ with_front (is ++ (i ∷ [])) o
unfolding with_front
after_last is i None = refl
after_last is i (Some x) = ap (λ js. Some (js, x.1, x.2)) (sym (append_assoc is (i ∷ []) x.0))

module _ (k : Delimiter) where
  Turn : (List ℕ → Option ReadItems) → List Item → List ℕ → Option ReadItems
  Turn again is bs = with_front is (items_by k again (past_white bs) (closer_at k (past_white bs)))

  turned : (again : List ℕ → Option ReadItems) (is : List Item) (bs : List ℕ) (i : Item × List ℕ) → closer_at k (past_white bs) ≡ None → lexed_item (past_white bs) ≡ Some i → Turn again is bs ≡ with_front (is ++ (i.0 ∷ [])) (again i.1)
  unfolding Turn
  turned again is bs i c h =
      ap (λ o. with_front is (items_by k again (past_white bs) o)) c
      ∙ ap (λ o. with_front is (option_and_then (λ i. option_map (λ r. (i.0 ∷ r.0, r.1, r.2)) (again i.1)) o)) h
      ∙ after_last is i.0 (again i.1)

  ended : (again : List ℕ → Option ReadItems) (is : List Item) (bs : List ℕ) (x : Bool × List ℕ) → closer_at k (past_white bs) ≡ Some x → Turn again is bs ≡ Some (is, x.0, x.1)
  unfolding Turn with_front
  ended again is bs x c = ap (λ o. with_front is (items_by k again (past_white bs) o)) c ∙ ap (λ js. Some (js, x.0, x.1)) (append-nil is)

  stuck : (again : List ℕ → Option ReadItems) (is : List Item) (bs : List ℕ) → closer_at k (past_white bs) ≡ None → lexed_item (past_white bs) ≡ None → Turn again is bs ≡ None
  unfolding Turn with_front
  stuck again is bs c h =
      ap (λ o. with_front is (items_by k again (past_white bs) o)) c
      ∙ ap (λ o. with_front is (option_and_then (λ i. option_map (λ r. (i.0 ∷ r.0, r.1, r.2)) (again i.1)) o)) h

  pub one_more : (n : ℕ) (is : List Item) (bs : List ℕ) (i : Item × List ℕ) → 0 < n → closer_at k (past_white bs) ≡ None → lexed_item (past_white bs) ≡ Some i → with_front is (items_at k n bs) ≡ with_front (is ++ (i.0 ∷ [])) (items_at k (n - 1) i.1)
  unfolding items_at Turn
  one_more zero is bs i some c h = absurd (omega arith)
  one_more (suc n) is bs i some c h = turned (items_at k n) is bs i c h ∙ ap (λ m. with_front (is ++ (i.0 ∷ [])) (items_at k m i.1)) (omega arith)

  pub no_more : (n : ℕ) (is : List Item) (bs : List ℕ) (x : Bool × List ℕ) → closer_at k (past_white bs) ≡ Some x → with_front is (items_at k n bs) ≡ Some (is, x.0, x.1)
  unfolding items_at Turn
  no_more zero is bs x c = ended (λ bs. None) is bs x c
  no_more (suc n) is bs x c = ended (items_at k n) is bs x c

  failed : (n : ℕ) (is : List Item) (bs : List ℕ) → closer_at k (past_white bs) ≡ None → lexed_item (past_white bs) ≡ None → with_front is (items_at k n bs) ≡ None
  unfolding items_at Turn
  failed zero is bs c h = stuck (λ bs. None) is bs c h
  failed (suc n) is bs c h = stuck (items_at k n) is bs c h

  pub item_refused : (e : ParseError) (n : ℕ) (is : List Item) (bs : List ℕ) (whole : Option ReadItems) → closer_at k (past_white bs) ≡ None → Fails e (lexed_item (past_white bs)) → whole ≡ with_front is (items_at k n bs) → Fails e whole
  item_refused errors.Memory n is bs whole c h g = tt
  item_refused (errors.Fault f) n is bs whole c h g = g ∙ failed n is bs c h
