-- What is read after a tag's name stands in the grammar of its style, and what stands in the grammar is read.
use Rattle.std.proofs.Common.{◌≡◌, ℕ, ◌≤◌, List, [], ◌∷◌, ◌++◌, length, take, drop, Bool, true, false, Option, Some, None, refl, ap, subst, ◌∙◌, sym, arith}
use Rattle.std.specs.Option.{option_map}
use Rattle.std.proofs.lemmas.List.{take-append-drop, length-append}
use Rattle.std.proofs.Math.Seq.{take-append_seam, drop-append_seam}
use Rattle.liquid_model.specs.Words.{Blank, IsRun, passes}
use Rattle.liquid_model.specs.Front.{run_len, past_white}
use Rattle.liquid_lexer.specs.Items.{Item, AreItems, dash_if}
use Rattle.liquid_lexer.specs.ItemReading.{ReadItems, closer_at}
use Rattle.liquid_lexer.specs.ValueReading.{without_trailing_white}
use Rattle.liquid_lexer.specs.Styles.{in_path, in_tag_text, text_item, text_items, AreStyled, are_items, is_path, no_path, is_text}
use Rattle.liquid_lexer.specs.StyleReading.{tag_items, front_path, past_path, path_or_items, front_text, past_text, one_text, styled_at}
use Rattle.liquid_lexer.specs.declared.item.Delimiter.TheVariants.{Tag}
use Rattle.liquid_lexer.specs.declared.style.Style.{Style}
use Rattle.liquid_lexer.specs.declared.style.Style.TheVariants.{Items, PathFirst, Text}
use Rattle.liquid_model.proofs.WordLaws.{map_some, run_front, run_len_is, blank_takes, blank_again, blank_shorter}
use Rattle.liquid_lexer.proofs.ItemLaws.{items_takes, items_again, items_shorter, closer_takes, closer_again}

tag_takes : (bs : List ℕ) (x : ReadItems) → tag_items bs ≡ Some x → AreItems Tag x.0 x.1 bs x.2
tag_takes bs x h = items_takes Tag (length bs) bs x h

path_takes : (bs from : List ℕ) (o : Bool) (x : ReadItems) → Blank bs from → passes in_path from ≡ o → path_or_items bs from o ≡ Some x → AreStyled PathFirst x.0 x.1 bs x.2
path_takes bs from true x b e h =
    let r = map_some (tag_items (past_path from)) _ x h in
    subst (λ (x : ReadItems). AreStyled PathFirst x.0 x.1 bs x.2) r.2
    (is_path (front_path from) b e (sym (take-append-drop (run_len in_path from) from)) (run_front in_path from) (tag_takes (past_path from) r.0 r.1))
path_takes bs from false x b e h = no_path b e (tag_takes bs x h)

text_takes : (bs from : List ℕ) (x : ReadItems) → Blank bs from → one_text from ≡ Some x → AreStyled Text x.0 x.1 bs x.2
text_takes bs from x b h =
    let c = map_some (closer_at Tag (past_text from)) _ x h in
    subst (λ (x : ReadItems). AreStyled Text x.0 x.1 bs x.2) c.2
    (is_text (front_text from) b (sym (take-append-drop (run_len in_tag_text from) from)) (run_front in_tag_text from) (closer_takes Tag (past_text from) c.0 c.1))

pub styled_takes : (s : Style) (bs : List ℕ) (x : ReadItems) → styled_at s bs ≡ Some x → AreStyled s x.0 x.1 bs x.2
unfolding styled_at
styled_takes Items bs x h = are_items (tag_takes bs x h)
styled_takes PathFirst bs x h = path_takes bs (past_white bs) (passes in_path (past_white bs)) x (blank_takes bs) refl h
styled_takes Text bs x h = text_takes bs (past_white bs) x (blank_takes bs) h

front_is : (t : ℕ → List ℕ → Bool) (p next : List ℕ) → IsRun t p next → take (run_len t (p ++ next)) (p ++ next) ≡ p
front_is t p next h = ap (λ n. take n (p ++ next)) (run_len_is t p next h) ∙ take-append_seam p next

past_is : (t : ℕ → List ℕ → Bool) (p next : List ℕ) → IsRun t p next → drop (run_len t (p ++ next)) (p ++ next) ≡ next
past_is t p next h = ap (λ n. drop n (p ++ next)) (run_len_is t p next h) ∙ drop-append_seam p next

path_again : (bs from p next : List ℕ) (is : List Item) (d : Bool) (rest : List ℕ) → from ≡ p ++ next → IsRun in_path p next → AreItems Tag is d next rest → path_or_items bs from true ≡ Some (text_item p ∷ is, d, rest)
path_again bs from p next is d rest e run items =
    ap (λ l. path_or_items bs l true) e
    ∙ ap (λ (l : List ℕ). option_map (λ r. (text_item l ∷ r.0, r.1, r.2)) (tag_items (past_path (p ++ next)))) (front_is in_path p next run)
    ∙ ap (λ (l : List ℕ). option_map (λ r. (text_item p ∷ r.0, r.1, r.2)) (tag_items l)) (past_is in_path p next run)
    ∙ ap (option_map (λ r. (text_item p ∷ r.0, r.1, r.2))) (items_again items (length next) (omega arith))

text_again : (from t next : List ℕ) (d : Bool) (rest : List ℕ) → from ≡ t ++ next → IsRun in_tag_text t next → next ≡ dash_if d ++ (37 ∷ 125 ∷ rest) → one_text from ≡ Some (text_items (without_trailing_white t), d, rest)
text_again from t next d rest e run c =
    ap one_text e
    ∙ ap (λ (l : List ℕ). option_map (λ c. (text_items (without_trailing_white l), c.0, c.1)) (closer_at Tag (past_text (t ++ next)))) (front_is in_tag_text t next run)
    ∙ ap (λ (l : List ℕ). option_map (λ c. (text_items (without_trailing_white t), c.0, c.1)) (closer_at Tag l)) (past_is in_tag_text t next run ∙ c)
    ∙ ap (option_map (λ c. (text_items (without_trailing_white t), c.0, c.1))) (closer_again Tag d rest)

pub styled_again : {s : Style} {is : List Item} {d : Bool} {bs rest : List ℕ} → AreStyled s is d bs rest → styled_at s bs ≡ Some (is, d, rest)
unfolding styled_at
styled_again (are_items {bs = bs} items) = items_again items (length bs) (omega arith)
styled_again (is_path {is = is} {d = d} {bs = bs} {from = from} {next = next} {rest = rest} p b o e run items) =
    ap (λ l. path_or_items bs l (passes in_path l)) (blank_again bs from b) ∙ ap (path_or_items bs from) o ∙ path_again bs from p next is d rest e run items
styled_again (no_path {bs = bs} {from = from} b o items) =
    ap (λ l. path_or_items bs l (passes in_path l)) (blank_again bs from b) ∙ ap (path_or_items bs from) o ∙ items_again items (length bs) (omega arith)
styled_again (is_text {d = d} {bs = bs} {from = from} {next = next} {rest = rest} t b e run c) =
    ap one_text (blank_again bs from b) ∙ text_again from t next d rest e run c

pub styled_shorter : {s : Style} {is : List Item} {d : Bool} {bs rest : List ℕ} → AreStyled s is d bs rest → length rest ≤ length bs
styled_shorter (are_items items) = items_shorter items
styled_shorter (is_path {next = next} p b o e run items) =
    let l = ap (length {A = ℕ}) e ∙ length-append p next in omega (arith, blank_shorter b, l, items_shorter items)
styled_shorter (no_path b o items) = items_shorter items
styled_shorter (is_text {d = d} {next = next} {rest = rest} t b e run c) =
    let l = ap (length {A = ℕ}) e ∙ length-append t next in
    let m = ap (length {A = ℕ}) c ∙ length-append (dash_if d) (37 ∷ 125 ∷ rest) in
    omega (arith, blank_shorter b, l, m)
