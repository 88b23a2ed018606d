-- The names of a list, line by line.
use Rattle.std.specs.Prelude.{◌≡◌, ◌==◌, ℕ, Bool, true, false, cond, List, [], ◌∷◌, ◌++◌, length, map, Option, Some, None, Result, Ok, Err}
use Rattle.std.specs.Borrow.{Bor}
use Rattle.std.proofs.Common.{append_assoc, append-nil}
use mathlib.Core.Path.{refl, sym, ap, ◌∙◌}
use Rattle.liquid_model.specs.Texts.{Text}
use Rattle.liquid_site_build.specs.Written.{is_written_name}
use Rattle.liquid_site_round.specs.WrittenNames.{list_text, names_among, name_first}
use Rattle.liquid_yaml.specs.Bytes.{first_part, first_part_view, left_view, parts_left}
use Rattle.liquid_yaml.proofs.Turns.{parts_cut}

abbrev pub words : List (Bor Text) → List Text
words ns = map (λ n. n.now) ns

abbrev pub Cut : Type 0
Cut = Bor Text × Option (Bor Text)

abbrev pub with_names : List Text → Result (List Text) Text → Result (List Text) Text
with_names [] r = r
with_names (n ∷ ns) r = name_first n (with_names ns r)

with_pushed : (ns : List (Bor Text)) (n : Bor Text) (r : Result (List Text) Text) → with_names (words (ns ++ n ∷ [])) r ≡ with_names (words ns) (name_first n.now r)
with_pushed [] n r = refl
with_pushed (m ∷ ns) n r = ap (name_first m.now) (with_pushed ns n r)

with_refused : (ns : List Text) (line : Text) → with_names ns (Err line) ≡ Err line
with_refused [] line = refl
with_refused (n ∷ ns) line = ap (name_first n) (with_refused ns line)

with_none : (ns : List Text) → with_names ns (Ok []) ≡ Ok ns
with_none [] = refl
with_none (n ∷ ns) = ap (name_first n) (with_none ns)

-- what is read of the first line that is left
cut : (left : Option (Bor Text)) (text : Bor Text) (p : Cut) → left ≡ Some text → first_part_view p ≡ first_part 10 text.now → names_among (parts_left 10 (left_view left))
    ≡ cond (length p.0.now == 0) (names_among (parts_left 10 (left_view p.1))) (cond (is_written_name p.0.now) (name_first p.0.now (names_among (parts_left 10 (left_view p.1)))) (Err p.0.now))
cut left text p e f = ap names_among (parts_cut 10 left text p e f)

pub names_over : (ns : List (Bor Text)) (left : Option (Bor Text)) (text : Bor Text) (p : Cut) (whole : Result (List Text) Text) → left ≡ Some text → first_part_view p ≡ first_part 10 text.now → (length p.0.now == 0) ≡ true
    → with_names (words ns) (names_among (parts_left 10 (left_view left))) ≡ whole → with_names (words ns) (names_among (parts_left 10 (left_view p.1))) ≡ whole
names_over ns left text p whole e f empty inv = sym (ap (with_names (words ns)) (cut left text p e f ∙ ap (λ b. cond b (names_among (parts_left 10 (left_view p.1))) (cond (is_written_name p.0.now) (name_first p.0.now (names_among (parts_left 10 (left_view p.1)))) (Err p.0.now))) empty)) ∙ inv

pub names_kept : (ns new : List (Bor Text)) (left : Option (Bor Text)) (text : Bor Text) (p : Cut) (whole : Result (List Text) Text) → left ≡ Some text → first_part_view p ≡ first_part 10 text.now → (length p.0.now == 0) ≡ false
    → is_written_name p.0.now ≡ true → new ≡ ns ++ p.0 ∷ [] → with_names (words ns) (names_among (parts_left 10 (left_view left))) ≡ whole → with_names (words new) (names_among (parts_left 10 (left_view p.1))) ≡ whole
names_kept ns new left text p whole e f full is push inv =
    let rest = names_among (parts_left 10 (left_view p.1)) in
    ap (λ l. with_names (words l) rest) push ∙ with_pushed ns p.0 rest
    ∙ sym (ap (with_names (words ns)) (cut left text p e f ∙ (λ i. cond (full i) rest (cond (is i) (name_first p.0.now rest) (Err p.0.now))))) ∙ inv

pub names_refused : (ns : List (Bor Text)) (left : Option (Bor Text)) (text : Bor Text) (p : Cut) (whole : Result (List Text) Text) → left ≡ Some text → first_part_view p ≡ first_part 10 text.now → (length p.0.now == 0) ≡ false
    → is_written_name p.0.now ≡ false → with_names (words ns) (names_among (parts_left 10 (left_view left))) ≡ whole → Err p.0.now ≡ whole
names_refused ns left text p whole e f full isnt inv =
    let rest = names_among (parts_left 10 (left_view p.1)) in
    sym (with_refused (words ns) p.0.now) ∙ sym (ap (with_names (words ns)) (cut left text p e f ∙ (λ i. cond (full i) rest (cond (isnt i) (name_first p.0.now rest) (Err p.0.now))))) ∙ inv

pub names_end : (ns : List (Bor Text)) (left : Option (Bor Text)) (whole : Result (List Text) Text) → left ≡ None → with_names (words ns) (names_among (parts_left 10 (left_view left))) ≡ whole → Ok (words ns) ≡ whole
names_end ns left whole e inv = sym (with_none (words ns)) ∙ sym (ap (λ o. with_names (words ns) (names_among (parts_left 10 (left_view o)))) e) ∙ inv

-- ---- the text of a list

pub text_both : (ns ms : List Text) → list_text (ns ++ ms) ≡ list_text ns ++ list_text ms
text_both [] ms = refl
text_both (n ∷ ns) ms = ap (λ t. n ++ 10 ∷ t) (text_both ns ms) ∙ sym (append_assoc n (10 ∷ list_text ns) (list_text ms))

-- a name that is added is the first of those that are left
pub text_turn : (old new name : Text) (left rest : List Text) (whole : Text) → left ≡ name ∷ rest → new ≡ old ++ (name ++ 10 ∷ []) → old ++ list_text left ≡ whole → new ++ list_text rest ≡ whole
text_turn old new name left rest whole split push inv =
    ap (λ t. t ++ list_text rest) push ∙ append_assoc old (name ++ 10 ∷ []) (list_text rest) ∙ ap (λ t. old ++ t) (append_assoc name (10 ∷ []) (list_text rest))
    ∙ sym (ap (λ l. old ++ list_text l) split) ∙ inv

pub text_end : (text : Text) (left : List Text) (whole : Text) → left ≡ [] → text ++ list_text left ≡ whole → text ≡ whole
text_end text left whole none inv = sym (append-nil text) ∙ sym (ap (λ l. text ++ list_text l) none) ∙ inv
