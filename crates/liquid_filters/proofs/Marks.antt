-- Marks in a text: their first character is looked for by its byte, and the rest of them character by character.
use Rattle.std.proofs.Common.{◌≡◌, ℕ, ◌+◌, ◌-◌, ◌<◌, Bool, true, false, ◌&&◌, ◌||◌, ◌==◌, List, [], ◌∷◌, ◌++◌, length, take, drop, Some, None, ap, ap₂, subst, refl, sym, ◌∙◌, arith, append_assoc, append-nil, codes}
use Rattle.std.proofs.Math.Seq.{take-append_seam}
use Rattle.std.proofs.lemmas.Bool.Decides.{nat_tests}
use Rattle.std.proofs.lemmas.List.{take-append-drop, length-append}
use Rattle.std.proofs.lemmas.Str.{encode_ascii, len_utf8_ascii, encodes-append, encodes-chars, chars-append, chars-nil, chars_past_char, chars_from_encodes, chars-encodes, scalars-chars, IsUtf8-append, IsUtf8-from_ascii, IsUtf8-nil, IsUtf8-drop, IsUtf8-take, IsUtf8-past_char, IsCharBoundary-before_ascii, IsCharBoundary-at_seam}
use Rattle.std.proofs.lemmas.Str.Ascii.{IsAscii-cons, IsAscii-nil}
use Rattle.std.specs.Str.{chars, encode_utf8_all, IsCharBoundary, IsUtf8, NoCharPasses, NonePass}
use Rattle.std.specs.Str.Pattern.{FindsChar, SplitsAroundMatch}
use Rattle.std.proofs.lemmas.Bool.{and_right}
use lib.Utf8.{scalars}
use Rattle.liquid_filters.specs.Tags.{SplitsAtFirst, begins_mark, first_mark, is_mark, stands_for, strip_html, without_pairs}
use Rattle.liquid_filters.proofs.HtmlLaws.{kept_scalars}
use Rattle.liquid_filters.specs.HtmlLaws.{HasNoTag, has_close}
use Rattle.liquid_filters.proofs.Tags.{Seeks, no_change, seeks_start, seeks_more, seeks_found, seeks_none}

-- ---- a mark's first character
-- it is ASCII, and stands for itself alone
abbrev IsAlone : ℕ → Type 0
IsAlone x = (x < 128) × (stands_for x x ≡ true) × ((c : ℕ) → (c == x) ≡ false → stands_for x c ≡ false)

alone_60 : IsAlone 60
alone_60 = (omega arith, refl, λ c h. grind (arith, nat_tests))

alone_45 : IsAlone 45
alone_45 = (omega arith, refl, λ c h. grind (arith, nat_tests))

alone_62 : IsAlone 62
alone_62 = (omega arith, refl, λ c h. grind (arith, nat_tests))

alone_at : (x : ℕ) (s t u : Bool) → (x == 60) ≡ s → (x == 45) ≡ t → (x == 62) ≡ u → (s || t || u) ≡ true → IsAlone x
alone_at x true t u e f g h = let k : x ≡ 60 = grind (arith, nat_tests) in subst IsAlone (sym k) alone_60
alone_at x false true u e f g h = let k : x ≡ 45 = grind (arith, nat_tests) in subst IsAlone (sym k) alone_45
alone_at x false false true e f g h = let k : x ≡ 62 = grind (arith, nat_tests) in subst IsAlone (sym k) alone_62
alone_at x false false false e f g h = let u : ⊥ = cc in absurd u

pub alone : (mark others : List ℕ) (x : ℕ) → mark ≡ x ∷ others → is_mark mark ≡ true → IsAlone x
alone mark others x e h = alone_at x (x == 60) (x == 45) (x == 62) refl refl refl (subst (λ m. is_mark m ≡ true) e h)

-- ---- a text cut at the first place of an ASCII character
pub record Cut (c : ℕ) (rest run after : List ℕ) : Type 0 where
  pub whole : rest ≡ run ++ (c ∷ after)
  pub run_utf8 : IsUtf8 run
  pub after_utf8 : IsUtf8 after
  pub none : NonePass (λ d. d == c) (chars run)

none_pass : (c : ℕ) (run : List ℕ) → IsUtf8 run → NoCharPasses (λ d. d == c) run → NonePass (λ d. d == c) (chars run)
none_pass c run u h = subst (NonePass (λ d. d == c)) (chars_from_encodes h.0 run u h.1) h.2

pub cut_of : (c : ℕ) (rest run after : List ℕ) → c < 128 → IsUtf8 rest → SplitsAroundMatch (FindsChar c) rest run after → Cut c rest run after
cut_of c rest run after small u h =
    let i = h.0 in
    let at = h.2.1 in
    let split : drop i rest ≡ c ∷ after = at.split ∙ ap₂ (λ x y. x ++ y) (encode_ascii c small) (sym h.4) in
    let shorter : i + length after < length rest = let n = h.7 in let m : h.1 ≡ i + 1 = at.ends ∙ ap (λ k. i + k) (len_utf8_ascii c small) in omega (arith, n, m) in
    let boundary : IsCharBoundary rest i = IsCharBoundary-before_ascii rest i (omega (arith, shorter)) (subst (λ b. b < 128) (sym (at.byte small)) small) in
    let front : IsUtf8 run = subst IsUtf8 (sym h.3) (IsUtf8-take rest i u boundary) in
    record {
      whole = sym (take-append-drop i rest) ∙ ap₂ (λ x y. x ++ y) (sym h.3) split;
      run_utf8 = front;
      after_utf8 = IsUtf8-past_char (drop i rest) after c (IsUtf8-drop rest i u boundary) (split ∙ ap (λ t. t ++ after) (sym (encode_ascii c small)));
      none = none_pass c run front (subst (NoCharPasses (λ d. d == c)) (sym h.3) h.2.0);
    }

one_utf8 : (c : ℕ) → c < 128 → IsUtf8 (c ∷ [])
one_utf8 c small = IsUtf8-from_ascii (c ∷ []) (IsAscii-cons c [] small IsAscii-nil)

chars_cons : (c : ℕ) (after : List ℕ) → c < 128 → IsUtf8 after → chars (c ∷ after) ≡ c ∷ chars after
chars_cons c after small u = chars_past_char (c ∷ after) after c (IsUtf8-append (c ∷ []) after (one_utf8 c small) u) (ap (λ t. t ++ after) (sym (encode_ascii c small)))

-- ---- the search
-- what stands before `rest` has no place of the mark
pub record Searched (mark text rest : List ℕ) : Type 0 where
  pub front : List ℕ
  pub whole : text ≡ front ++ rest
  pub front_utf8 : IsUtf8 front
  pub rest_utf8 : IsUtf8 rest
  pub seeks : Seeks mark (chars text) (chars rest) (length (chars front))

pub searched_start : (mark text : List ℕ) → IsUtf8 text → Searched mark text text
searched_start mark text u =
    record { front = []; whole = refl; front_utf8 = IsUtf8-nil; rest_utf8 = u; seeks = subst (λ n. Seeks mark (chars text) (chars text) n) (ap length (sym chars-nil)) (seeks_start mark (chars text)) }

module _ (x : ℕ) (q : List ℕ) (a : IsAlone x) where
  begins_not : (c : ℕ) (s : List ℕ) → (c == x) ≡ false → begins_mark (x ∷ q) (c ∷ s) ≡ false
  begins_not c s h = ap (λ t. t && begins_mark q s) (a.2 c h)

  begins_by : (s : List ℕ) → begins_mark (x ∷ q) (x ∷ s) ≡ begins_mark q s
  begins_by s = ap (λ t. t && begins_mark q s) a.1

  over_run : (s cs more : List ℕ) (i : ℕ) → NonePass (λ d. d == x) cs → Seeks (x ∷ q) s (cs ++ more) i → Seeks (x ∷ q) s more (i + length cs)
  over_run s [] more i h k = subst (λ n. Seeks (x ∷ q) s more n) (omega arith) k
  over_run s (c ∷ cs) more i h k =
      let next = seeks_more (x ∷ q) s (c ∷ cs ++ more) (cs ++ more) c i refl (begins_not c (cs ++ more) h.0) k in
      subst (λ n. Seeks (x ∷ q) s more n) (omega arith) (over_run s cs more (i + 1) h.1 next)

  -- up to the first place of the character
  pub record Reached (text after : List ℕ) : Type 0 where
    pub front : List ℕ
    pub whole : text ≡ front ++ (x ∷ after)
    pub front_utf8 : IsUtf8 front
    pub after_utf8 : IsUtf8 after
    pub seeks : Seeks (x ∷ q) (chars text) (x ∷ chars after) (length (chars front))

  pub reached : (text rest run after : List ℕ) → Searched (x ∷ q) text rest → Cut x rest run after → Reached text after
  reached text rest run after s c =
      let seen : chars rest ≡ chars run ++ (x ∷ chars after) = ap chars c.whole ∙ chars-append run (x ∷ after) c.run_utf8 ∙ ap (λ t. chars run ++ t) (chars_cons x after a.0 c.after_utf8) in
      let length_is : length (chars s.front) + length (chars run) ≡ length (chars (s.front ++ run)) = sym (ap length (chars-append s.front run s.front_utf8) ∙ length-append (chars s.front) (chars run)) in
      record {
        front = s.front ++ run;
        whole = s.whole ∙ ap (λ t. s.front ++ t) c.whole ∙ sym (append_assoc s.front run (x ∷ after));
        front_utf8 = IsUtf8-append s.front run s.front_utf8 c.run_utf8;
        after_utf8 = c.after_utf8;
        seeks = subst (λ n. Seeks (x ∷ q) (chars text) (x ∷ chars after) n) length_is
            (over_run (chars text) (chars run) (x ∷ chars after) (length (chars s.front)) c.none (subst (λ t. Seeks (x ∷ q) (chars text) t (length (chars s.front))) seen s.seeks));
      }

  pub passed : (text after : List ℕ) → Reached text after → begins_mark q (chars after) ≡ false → Searched (x ∷ q) text after
  passed text after r h =
      let one = one_utf8 x a.0 in
      let front_is : chars (r.front ++ (x ∷ [])) ≡ chars r.front ++ (x ∷ []) = chars-append r.front (x ∷ []) r.front_utf8 ∙ ap (λ t. chars r.front ++ t) (chars_cons x [] a.0 IsUtf8-nil ∙ ap (λ t. x ∷ t) chars-nil) in
      let length_is : length (chars r.front) + 1 ≡ length (chars (r.front ++ (x ∷ []))) = sym (ap length front_is ∙ length-append (chars r.front) (x ∷ [])) in
      record {
        front = r.front ++ (x ∷ []);
        whole = r.whole ∙ sym (append_assoc r.front (x ∷ []) after);
        front_utf8 = IsUtf8-append r.front (x ∷ []) r.front_utf8 one;
        rest_utf8 = r.after_utf8;
        seeks = subst (λ n. Seeks (x ∷ q) (chars text) (chars after) n) length_is (seeks_more (x ∷ q) (chars text) (x ∷ chars after) (chars after) x (length (chars r.front)) refl (begins_by (chars after) ∙ h) r.seeks);
      }

  pub found : (text after left before : List ℕ) → (r : Reached text after) → begins_mark q (chars after) ≡ true → chars left ≡ drop (length q) (chars after) → before ≡ r.front → SplitsAtFirst (x ∷ q) (chars text) (Some (chars before, chars left))
  found text after left before r h l b =
      let whole : chars text ≡ chars r.front ++ chars (x ∷ after) = ap chars r.whole ∙ chars-append r.front (x ∷ after) r.front_utf8 in
      seeks_found (x ∷ q) (chars text) (x ∷ chars after) (chars after) (chars before) (chars left) x (length (chars r.front)) refl (begins_by (chars after) ∙ h) l
      (ap chars b ∙ sym (take-append_seam (chars r.front) (chars (x ∷ after))) ∙ ap (take (length (chars r.front))) (sym whole)) r.seeks

  pub nowhere : (text rest : List ℕ) → Searched (x ∷ q) text rest → NoCharPasses (λ d. d == x) rest → first_mark (x ∷ q) (chars text) ≡ None
  nowhere text rest s h =
      let none = none_pass x rest s.rest_utf8 h in
      seeks_none (x ∷ q) (chars text) [] (length (chars s.front) + length (chars rest)) refl
      (over_run (chars text) (chars rest) [] (length (chars s.front)) none (subst (λ t. Seeks (x ∷ q) (chars text) t (length (chars s.front))) (sym (append-nil (chars rest))) s.seeks))

-- ---- the same of a mark that is this character and the others
module _ (mark q : List ℕ) (x : ℕ) (e : mark ≡ x ∷ q) (h : is_mark mark ≡ true) (text rest run after : List ℕ) (s : Searched mark text rest) (f : SplitsAroundMatch (FindsChar x) rest run after) where
  at : Reached x q (alone mark q x e h) text after
  at = let a = alone mark q x e h in reached x q a text rest run after (subst (λ m. Searched m text rest) e s) (cut_of x rest run after a.0 s.rest_utf8 f)

  seam : length text - length after - 1 ≡ length at.front
  seam = let n : length text ≡ length at.front + length (x ∷ after) = ap length at.whole ∙ length-append at.front (x ∷ after) in omega (arith, n)

  pub mark_passed : begins_mark q (chars after) ≡ false → Searched mark text after
  mark_passed b = subst (λ m. Searched m text after) (sym e) (passed x q (alone mark q x e h) text after at b)

  pub mark_boundary : IsCharBoundary text (length text - length after - 1)
  mark_boundary = subst (IsCharBoundary text) (sym seam) (IsCharBoundary-at_seam text at.front (x ∷ after) at.whole (IsUtf8-append (x ∷ []) after (one_utf8 x (alone mark q x e h).0) at.after_utf8))

  pub mark_found : (left before : List ℕ) → begins_mark q (chars after) ≡ true → chars left ≡ drop (length q) (chars after) → before ≡ take (length text - length after - 1) text → SplitsAtFirst mark (chars text) (Some (chars before, chars left))
  mark_found left before b l t =
      let front_is : before ≡ at.front = t ∙ ap (λ n. take n text) seam ∙ ap (take (length at.front)) at.whole ∙ take-append_seam at.front (x ∷ after) in
      subst (λ m. SplitsAtFirst m (chars text) (Some (chars before, chars left))) (sym e) (found x q (alone mark q x e h) text after left before at b l front_is)

pub mark_nowhere : (mark q : List ℕ) (x : ℕ) → mark ≡ x ∷ q → is_mark mark ≡ true → (text rest : List ℕ) → Searched mark text rest → NoCharPasses (λ d. d == x) rest → first_mark mark (chars text) ≡ None
mark_nowhere mark q x e h text rest s n = ap (λ m. first_mark m (chars text)) e ∙ nowhere x q (alone mark q x e h) text rest (subst (λ m. Searched m text rest) e s) n

pub mark_long : (e : List ℕ) → is_mark e ≡ true → 0 < length e
mark_long [] h = let u : ⊥ = cc in absurd u
mark_long (x ∷ p) h = omega arith

-- ---- a text without `>`
no_close : (cs : List ℕ) → NonePass (λ d. d == 62) cs → has_close cs ≡ false
no_close [] h = refl
no_close (c ∷ cs) h = ap (λ t. t || has_close cs) h.0 ∙ no_close cs h.1

no_tag : (cs : List ℕ) → NonePass (λ d. d == 62) cs → HasNoTag cs
no_tag [] h = tt
no_tag (c ∷ cs) h = (and_right (c == 60) (has_close cs) (no_close cs h.1), no_tag cs h.1)

pub without_close : (s : List ℕ) → IsUtf8 s → NoCharPasses (λ d. d == 62) s → s ≡ strip_html s
without_close s u h = sym (ap encode_utf8_all (no_change (chars s) (no_tag (chars s) (none_pass 62 s u h))) ∙ encodes-chars s u)

-- ---- the passes
module _ (o e : List ℕ) where
  abbrev Left : List ℕ → List ℕ
  Left s = encode_utf8_all (without_pairs o e (chars s))

  left_whole : (s : List ℕ) → IsUtf8 s → without_pairs o e (chars s) ≡ chars s → Left s ≡ s
  left_whole s u h = ap encode_utf8_all h ∙ encodes-chars s u

  left_cut : (s before after : List ℕ) → IsUtf8 before → without_pairs o e (chars s) ≡ chars before ++ without_pairs o e (chars after) → Left s ≡ before ++ Left after
  left_cut s before after u h = ap encode_utf8_all h ∙ encodes-append (chars before) (without_pairs o e (chars after)) ∙ ap (λ t. t ++ Left after) (encodes-chars before u)

  pub pass_none : (s : List ℕ) → IsUtf8 s → without_pairs o e (chars s) ≡ chars s → s ≡ Left s
  pass_none s u h = sym (left_whole s u h)

  pub pass_turn : (s before after out next all : List ℕ) → IsUtf8 before → without_pairs o e (chars s) ≡ chars before ++ without_pairs o e (chars after) → next ≡ out ++ before → all ≡ out ++ Left s → all ≡ next ++ Left after
  pass_turn s before after out next all u h n inv = inv ∙ ap (λ t. out ++ t) (left_cut s before after u h) ∙ sym (append_assoc out before (Left after)) ∙ ap (λ t. t ++ Left after) (sym n)

  pub pass_end : (s out next all : List ℕ) → IsUtf8 s → without_pairs o e (chars s) ≡ chars s → next ≡ out ++ s → all ≡ out ++ Left s → next ≡ all
  pass_end s out next all u h n inv = n ∙ ap (λ t. out ++ t) (sym (left_whole s u h)) ∙ sym inv

  pub pass_first : (s before after none out all : List ℕ) → IsUtf8 before → without_pairs o e (chars s) ≡ chars before ++ without_pairs o e (chars after) → none ≡ [] → out ≡ none ++ before → all ≡ out ++ Left after → all ≡ Left s
  pass_first s before after none out all u h z n l = l ∙ ap (λ t. t ++ Left after) (n ∙ ap (λ t. t ++ before) z) ∙ sym (left_cut s before after u h)

  -- a pass over characters leaves characters
  left_chars : (cs : List ℕ) → scalars cs ≡ true → chars (encode_utf8_all (without_pairs o e cs)) ≡ without_pairs o e cs
  left_chars cs h = chars-encodes (without_pairs o e cs) (kept_scalars o e false 0 cs h)

pub four_passes : (s a b c d a2 b2 c2 : List ℕ) → IsUtf8 s → a ≡ Left (codes "<script") (codes "</script>") s → a2 ≡ a → b ≡ Left (codes "<style") (codes "</style>") a2 → b2 ≡ b → c ≡ Left (codes "<!--") (codes "-->") b2 → c2 ≡ c → d ≡ Left (codes "<") (codes ">") c2 → d ≡ strip_html s
four_passes s a b c d a2 b2 c2 u ha ha2 hb hb2 hc hc2 hd =
    let one = without_pairs (codes "<script") (codes "</script>") (chars s) in
    let two = without_pairs (codes "<style") (codes "</style>") one in
    let three = without_pairs (codes "<!--") (codes "-->") two in
    let k0 = scalars-chars s u in
    let k1 = kept_scalars (codes "<script") (codes "</script>") false 0 (chars s) k0 in
    let k2 = kept_scalars (codes "<style") (codes "</style>") false 0 one k1 in
    let c1 : chars a2 ≡ one = ap chars (ha2 ∙ ha) ∙ left_chars (codes "<script") (codes "</script>") (chars s) k0 in
    let c2s : chars b2 ≡ two = ap chars (hb2 ∙ hb ∙ ap (λ t. encode_utf8_all (without_pairs (codes "<style") (codes "</style>") t)) c1) ∙ left_chars (codes "<style") (codes "</style>") one k1 in
    let c3 : chars c2 ≡ three = ap chars (hc2 ∙ hc ∙ ap (λ t. encode_utf8_all (without_pairs (codes "<!--") (codes "-->") t)) c2s) ∙ left_chars (codes "<!--") (codes "-->") two k2 in
    hd ∙ ap (λ t. encode_utf8_all (without_pairs (codes "<") (codes ">") t)) c3
