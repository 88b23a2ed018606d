-- What is read as a source stands in the grammar, and what stands in the grammar is read.
use Rattle.std.proofs.Common.{◌≡◌, ℕ, zero, suc, ◌≤◌, List, [], ◌∷◌, ◌++◌, length, take, drop, Bool, true, false, eqb, not, ◌&&◌, append-nil, Option, Some, None, refl, ap, subst, ◌∙◌, sym, arith}
use Rattle.std.specs.Option.{option_and_then}
use Rattle.std.proofs.lemmas.Bool.{eqb-true}
use Rattle.std.proofs.lemmas.List.{take-append-drop, length-append}
use Rattle.std.proofs.Math.Seq.{take-append_seam, drop-append_seam}
use Rattle.liquid_model.specs.Bytes.{plain, opens}
use Rattle.liquid_model.specs.Words.{IsRun, passes}
use Rattle.liquid_lexer.specs.ValueReading.{text_at}
use Rattle.liquid_model.specs.Front.{run_len, past_byte, past_white, word_at}
use Rattle.liquid_lexer.specs.Items.{Item, AreItems}
use Rattle.liquid_lexer.specs.ItemReading.{items_at}
use Rattle.liquid_lexer.specs.Openers.{opener, IsOpener}
use Rattle.liquid_lexer.specs.Pieces.{Piece, text, output, tag, raw, comment, stripped, IsTag, is_tag, IsMarkup, is_output, is_plain_tag, is_raw, is_comment, content, IsSource, last, more}
use Rattle.liquid_lexer.specs.SourceReading.{name_inside, name_at, style_by, skip_dash, raw_at, comment_at, opener_by, opener_at, Markup, inside_of, markup_at, body_at, wanted_body, all_steps, text_step, Goes, marked, turn, source_at, Wanted, TakesWanted}
use Rattle.liquid_lexer.specs.declared.item.Delimiter.{Delimiter}
use Rattle.liquid_lexer.specs.declared.item.Delimiter.TheVariants.{Output, Tag}
use Rattle.liquid_lexer.specs.declared.piece.Body.{Body}
use Rattle.liquid_lexer.specs.declared.piece.Body.TheVariants.{Raw, Comment}
use Rattle.liquid_model.proofs.WordLaws.{bind_some, map_some, from_some, byte_some, run_front, run_len_is, run_stops, blank_shorter, blank_takes, blank_again, word_takes, word_again, word_shorter}
use Rattle.liquid_lexer.proofs.ItemLaws.{items_takes, items_again, items_shorter}
use Rattle.liquid_lexer.proofs.StyleLaws.{styled_takes, styled_again, styled_shorter}
use Rattle.liquid_lexer.specs.Styles.{FollowsName, styled, only_items, AreStyled, are_items}
use Rattle.liquid_lexer.specs.StyleReading.{styled_at}
use Rattle.liquid_lexer.specs.declared.style.Style.{Style}
use Rattle.liquid_lexer.specs.declared.style.Style.TheVariants.{Items}
use Rattle.liquid_lexer.proofs.MarkLaws.{dash_takes, opener_again, opener_shorter, raw_takes, raw_again, raw_shorter}
use Rattle.liquid_lexer.proofs.CommentLaws.{comment_takes, comment_again, comment_shorter}

-- ---- one output or tag, without a body

opener_takes_by : (bs : List ℕ) (o : Option (List ℕ)) (k : Delimiter × List ℕ) → past_byte 123 bs ≡ o → opener_by bs o ≡ Some k → bs ≡ opener k.0 ∷ k.1
opener_takes_by bs (Some r) k e h = subst (λ (k : Delimiter × List ℕ). bs ≡ opener k.0 ∷ k.1) (from_some h) (byte_some 123 bs r e)
opener_takes_by bs None k e h = let r = map_some (past_byte 37 bs) _ k h in subst (λ (k : Delimiter × List ℕ). bs ≡ opener k.0 ∷ k.1) r.2 (byte_some 37 bs r.0 r.1)

opener_takes : (bs : List ℕ) (k : Delimiter × List ℕ) → opener_at bs ≡ Some k → bs ≡ opener k.0 ∷ k.1
opener_takes bs k h = opener_takes_by bs (past_byte 123 bs) k refl h

-- what stands after a `{`, before it is known whether a body follows
Opened : (List ℕ → Style) → Bool → Piece → Bool → List ℕ → List ℕ → Type 0
Opened style before (output is) after bs rest = (inside : List ℕ) × IsOpener Output before bs inside × AreItems Output is after inside rest
Opened style before (tag w is) after bs rest = IsTag (styled style) before w is after bs rest
Opened style before (text t) after bs rest = ⊥
Opened style before (raw w t) after bs rest = ⊥
Opened style before (comment w) after bs rest = ⊥

Marked : (List ℕ → Style) → List ℕ → Markup × List ℕ → Type 0
Marked style bs m = Opened style m.0.before m.0.piece m.0.after bs m.1

inside_takes : (style : List ℕ → Style) (k : Delimiter) (bs : List ℕ) (d : Bool × List ℕ) (x : Markup × List ℕ) → IsOpener k d.0 bs d.1 → inside_of style k d ≡ Some x → Marked style bs x
unfolding Marked Opened
inside_takes style Output bs d x o h = let r = map_some (items_at Output (length d.1) d.1) _ x h in subst (Marked style bs) r.2 (d.1, o, items_takes Output (length d.1) d.1 r.0 r.1)
inside_takes style Tag bs d x o h =
    let w = bind_some (word_at (past_white d.1)) _ x h in
    let r = map_some (styled_at (style w.0.0) w.0.1) _ x w.2 in
    subst (Marked style bs) r.2 (is_tag o (blank_takes d.1) (word_takes (past_white d.1) w.0 w.1) (styled_takes (style w.0.0) w.0.1 r.0 r.1))

markup_takes : (style : List ℕ → Style) (bs : List ℕ) (x : Markup × List ℕ) → markup_at style bs ≡ Some x → Marked style bs x
unfolding markup_at
markup_takes style bs x h =
    let k = bind_some (opener_at bs) _ x h in
    inside_takes style k.0.0 bs (skip_dash k.0.1 (past_byte 45 k.0.1)) x
    (subst (λ (l : List ℕ). IsOpener k.0.0 (skip_dash k.0.1 (past_byte 45 k.0.1)).0 l (skip_dash k.0.1 (past_byte 45 k.0.1)).1) (sym (opener_takes bs k.0 k.1)) (dash_takes k.0.0 k.0.1 (past_byte 45 k.0.1) refl)) k.2

opener_is : (k : Delimiter) (cs : List ℕ) → opener_at (opener k ∷ cs) ≡ Some (k, cs)
opener_is Output cs = refl
opener_is Tag cs = refl

inside_again : (style : List ℕ → Style) (k : Delimiter) (before : Bool) (bs inside : List ℕ) → IsOpener k before bs inside → markup_at style bs ≡ inside_of style k (before, inside)
unfolding markup_at
inside_again style k before bs inside o =
    let a = opener_again o in
    ap (λ (l : List ℕ). option_and_then (λ k. inside_of style k.0 (skip_dash k.1 (past_byte 45 k.1))) (opener_at l)) a.1
    ∙ ap (option_and_then (λ k. inside_of style k.0 (skip_dash k.1 (past_byte 45 k.1)))) (opener_is k a.0) ∙ ap (inside_of style k) a.2

abbrev markup : Bool → Piece → Bool → Markup
markup before p after = record { before = before; piece = p; after = after }

output_again : (style : List ℕ → Style) → {before after : Bool} {is : List Item} {bs inside rest : List ℕ} → IsOpener Output before bs inside → AreItems Output is after inside rest → markup_at style bs ≡ Some (markup before (output is) after, rest)
output_again style {before} {after} {is} {bs} {inside} {rest} o items = inside_again style Output before bs inside o ∙ rw (items_again items (length inside) (omega arith)) refl

tag_again : (style : List ℕ → Style) → {before after : Bool} {w : List ℕ} {is : List Item} {bs rest : List ℕ} → IsTag (styled style) before w is after bs rest → markup_at style bs ≡ Some (markup before (tag w is) after, rest)
tag_again style (is_tag {before = before} {w = w} {bs = bs} {inside = inside} {from = from} {next = next} o b n items) =
    inside_again style Tag before bs inside o ∙ rw (blank_again inside from b, word_again w from next n, styled_again items) refl

tag_shorter : (style : List ℕ → Style) → {before after : Bool} {w : List ℕ} {is : List Item} {bs rest : List ℕ} → IsTag (styled style) before w is after bs rest → length rest ≤ length bs
tag_shorter style (is_tag o b n items) = omega (arith, opener_shorter o, blank_shorter b, word_shorter n, styled_shorter items)

-- ---- with its body

Whole : (List ℕ → Style) → List ℕ → Markup × List ℕ → Type 0
Whole style bs x = IsMarkup (styled style) x.0.before x.0.piece x.0.after bs x.1

tag_body_takes : (style : List ℕ → Style) (o : Option Body) (before : Bool) (w : List ℕ) (front : Bool) (bs rest : List ℕ) (x : Markup × List ℕ) → IsTag (styled style) before w [] front bs rest → body_at o (markup before (tag w []) front) rest ≡ Some x → Whole style bs x
unfolding Whole
tag_body_takes style None before w front bs rest x t h = subst (λ (x : Markup × List ℕ). IsMarkup (styled style) x.0.before x.0.piece x.0.after bs x.1) (from_some h) (is_plain_tag t)
tag_body_takes style (Some Raw) before w front bs rest x t h =
    let r = map_some (raw_at rest) _ x h in
    subst (λ (x : Markup × List ℕ). IsMarkup (styled style) x.0.before x.0.piece x.0.after bs x.1) r.2 (is_raw r.0.0 t (raw_takes rest r.0 r.1))
tag_body_takes style (Some Comment) before w front bs rest x t h =
    let r = map_some (comment_at (length rest) 0 rest) _ x h in
    subst (λ (x : Markup × List ℕ). IsMarkup (styled style) x.0.before x.0.piece x.0.after bs x.1) r.2 (is_comment t (comment_takes (length rest) 0 rest r.0 r.1))

body_takes_by : (style : List ℕ → Style) (wants : List ℕ → Option Body) (before : Bool) (p : Piece) (after : Bool) (bs rest : List ℕ) (x : Markup × List ℕ) → Opened style before p after bs rest
    → body_at (wanted_body wants p) (markup before p after) rest ≡ Some x → Whole style bs x
unfolding Opened Whole
body_takes_by style wants before (output is) after bs rest x o h = subst (λ (x : Markup × List ℕ). IsMarkup (styled style) x.0.before x.0.piece x.0.after bs x.1) (from_some h) (is_output o.1 o.2)
body_takes_by style wants before (tag w []) after bs rest x o h = tag_body_takes style (wants w) before w after bs rest x o h
body_takes_by style wants before (tag w (i ∷ is)) after bs rest x o h = subst (λ (x : Markup × List ℕ). IsMarkup (styled style) x.0.before x.0.piece x.0.after bs x.1) (from_some h) (is_plain_tag o)
body_takes_by style wants before (text t) after bs rest x o h = absurd o
body_takes_by style wants before (raw w t) after bs rest x o h = absurd o
body_takes_by style wants before (comment w) after bs rest x o h = absurd o

pub body_takes : (style : List ℕ → Style) (wants : List ℕ → Option Body) (bs : List ℕ) (m x : Markup × List ℕ) → markup_at style bs ≡ Some m → body_at (wanted_body wants m.0.piece) m.0 m.1 ≡ Some x → IsMarkup (styled style) x.0.before x.0.piece x.0.after bs x.1
unfolding Marked Whole
body_takes style wants bs m x e h = body_takes_by style wants m.0.before m.0.piece m.0.after bs m.1 x (markup_takes style bs m e) h

wanted_none : (wants : List ℕ → Option Body) (w : List ℕ) (is : List Item) → Wanted wants (tag w is) → wanted_body wants (tag w is) ≡ None
wanted_none wants w [] h = h
wanted_none wants w (i ∷ is) h = refl

body_keeps : (o : Option Body) (m : Markup) (rest : List ℕ) (x : Markup × List ℕ) → body_at o m rest ≡ Some x → m.before ≡ x.0.before
body_keeps None m rest x h = ap (λ (x : Markup × List ℕ). x.0.before) (from_some h)
body_keeps (Some Raw) m rest x h = let r = map_some (raw_at rest) _ x h in ap (λ (x : Markup × List ℕ). x.0.before) r.2
body_keeps (Some Comment) m rest x h = let r = map_some (comment_at (length rest) 0 rest) _ x h in ap (λ (x : Markup × List ℕ). x.0.before) r.2

-- the opener, name and items of a piece, and then its body
pub markup_again : (style : List ℕ → Style) → {before after : Bool} {p : Piece} {bs rest : List ℕ} → IsMarkup (styled style) before p after bs rest → (wants : List ℕ → Option Body) → Wanted wants p
    → (m : Markup × List ℕ) × (markup_at style bs ≡ Some m) × (m.0.before ≡ before) × (body_at (wanted_body wants m.0.piece) m.0 m.1 ≡ Some (record { before = before; piece = p; after = after }, rest))
markup_again style (is_output {before = before} {after = after} {is = is} {rest = rest} o items) wants h = ((markup before (output is) after, rest), output_again style o items, refl, refl)
markup_again style (is_plain_tag {before = before} {after = after} {w = w} {is = is} {rest = rest} t) wants h =
    ((markup before (tag w is) after, rest), tag_again style t, refl, ap (λ o. body_at o (markup before (tag w is) after) rest) (wanted_none wants w is h))
markup_again style (is_raw {before = before} {front = front} {back = back} {after = after} {w = w} {body = body} {rest = rest} s t r) wants h =
    ((markup before (tag w []) front, body), tag_again style t, refl, rw (h, raw_again r) refl)
markup_again style (is_comment {before = before} {front = front} {after = after} {w = w} {body = body} {rest = rest} t k) wants h =
    ((markup before (tag w []) front, body), tag_again style t, refl, rw (h, comment_again k (length body) (omega arith)) refl)

pub markup_shorter : (style : List ℕ → Style) → {before after : Bool} {p : Piece} {bs rest : List ℕ} → IsMarkup (styled style) before p after bs rest → length rest ≤ length bs
markup_shorter style (is_output o items) = omega (arith, opener_shorter o, items_shorter items)
markup_shorter style (is_plain_tag t) = tag_shorter style t
markup_shorter style (is_raw s t r) = omega (arith, tag_shorter style t, raw_shorter r)
markup_shorter style (is_comment t k) = omega (arith, tag_shorter style t, comment_shorter k)

-- ---- texts

first_of_both : (a c : Bool) (b : ℕ) → not (a && c) ≡ false → eqb b 123 ≡ a → b ≡ 123
first_of_both true c b h e = eqb-true b 123 e
first_of_both false c b h e = absurd cc

pub not_plain : (b : ℕ) (bs : List ℕ) → plain b bs ≡ false → b ≡ 123
unfolding plain
not_plain b bs h = first_of_both (eqb b 123) (opens bs) b h refl

text_again : (s r : List ℕ) → IsRun plain s r → text_at (s ++ r) ≡ (s, r)
text_again s r h = rw (run_len_is plain s r h, take-append_seam, drop-append_seam)

last_again : (s : List ℕ) → IsRun plain s [] → text_at s ≡ (s, [])
last_again s h = ap text_at (sym (append-nil s)) ∙ text_again s [] h

-- ---- the whole

module _ {S : Type 0} (style : List ℕ → Style) (wants : S → List ℕ → Option Body) (step : S → Piece → Option S) where
  -- a text is a piece, where it isn't empty
  text_run : (t : List ℕ) (ps : List Piece) (s : S) → all_steps step (content t ps) s ≡ option_and_then (all_steps step ps) (text_step step t s)
  text_run [] ps s = refl
  text_run (b ∷ bs) ps s = refl

  Found : Bool → S → List ℕ → S → Type 0
  Found front s bs x = (ps : List Piece) × IsSource (styled style) front ps bs × (all_steps step ps s ≡ Some x)

  Taking : Goes style wants step → Type 0
  Taking again = (front : Bool) (s : S) (bs : List ℕ) (x : S) → again front s bs ≡ Some x → Found front s bs x

  last_text : (o : Option S) (x : S) → o ≡ Some x → option_and_then (all_steps step []) o ≡ Some x
  last_text None x h = absurd cc
  last_text (Some y) x h = h

  text_then : (t : List ℕ) (ps : List Piece) (s now x : S) → text_step step t s ≡ Some now → all_steps step ps now ≡ Some x → all_steps step (content t ps) s ≡ Some x
  text_then t ps s now x e h = text_run t ps s ∙ ap (option_and_then (all_steps step ps)) e ∙ h

  piece_then : (p : Piece) (ps : List Piece) (s next x : S) → step s p ≡ Some next → all_steps step ps next ≡ Some x → all_steps step (p ∷ ps) s ≡ Some x
  piece_then p ps s next x e h = ap (option_and_then (all_steps step ps)) e ∙ h

  found_last : (front : Bool) (s : S) (t : List ℕ) (x : S) → IsRun plain t [] → text_step step (stripped front t false) s ≡ Some x → Found front s (t ++ []) x
  unfolding Found
  found_last front s t x run h = (
    content (stripped front t false) [],
    subst (IsSource (styled style) front (content (stripped front t false) [])) (sym (append-nil t)) (last run),
    text_run (stripped front t false) [] s ∙ last_text (text_step step (stripped front t false) s) x h,
  )

  found_more : (front : Bool) (s now next x : S) (t : List ℕ) (b : ℕ) (bs rest : List ℕ) (before : Bool) (p : Piece) (after : Bool) → IsRun plain t (b ∷ bs) → b ≡ 123 → IsMarkup (styled style) before p after bs rest
      → text_step step (stripped front t before) s ≡ Some now → step now p ≡ Some next → Found after next rest x → Found front s (t ++ (b ∷ bs)) x
  unfolding Found
  found_more front s now next x t b bs rest before p after run e is texted stepped later = (
    content (stripped front t before) (p ∷ later.0),
    subst (λ (c : ℕ). IsSource (styled style) front (content (stripped front t before) (p ∷ later.0)) (t ++ (c ∷ bs))) (sym e) (more t before (subst (λ (c : ℕ). IsRun plain t (c ∷ bs)) e run) is later.1),
    text_then (stripped front t before) (p ∷ later.0) s now x texted (piece_then p later.0 now next x stepped later.2),
  )

  turn_takes : (again : Goes style wants step) → Taking again → (front : Bool) (s : S) (t r : List ℕ) (x : S) → IsRun plain t r → passes plain r ≡ false → turn style wants step again front s (t, r) ≡ Some x → Found front s (t ++ r) x
  unfolding Taking
  turn_takes again takes front s t [] x run stop h = found_last front s t x run h
  turn_takes again takes front s t (b ∷ bs) x run stop h =
      let m = bind_some (markup_at style bs) _ x h in
      let now = bind_some (text_step step (stripped front t m.0.0.before) s) (λ now. marked style wants step again now m.0) x m.2 in
      let whole = bind_some (body_at (wanted_body (wants now.0) m.0.0.piece) m.0.0 m.0.1) (λ whole. option_and_then (λ next. again whole.0.after next whole.1) (step now.0 whole.0.piece)) x now.2 in
      let next = bind_some (step now.0 whole.0.0.piece) (λ next. again whole.0.0.after next whole.0.1) x whole.2 in
      let is = body_takes style (wants now.0) bs m.0 whole.0 m.1 whole.1 in
      let same = body_keeps (wanted_body (wants now.0) m.0.0.piece) m.0.0 m.0.1 whole.0 whole.1 in
      found_more front s now.0 next.0 x t b bs whole.0.1 m.0.0.before whole.0.0.piece whole.0.0.after run (not_plain b bs stop)
      (subst (λ (d : Bool). IsMarkup (styled style) d whole.0.0.piece whole.0.0.after bs whole.0.1) (sym same) is) now.1 next.1 (takes whole.0.0.after next.0 whole.0.1 x next.2)

  whole_takes : (again : Goes style wants step) → Taking again → (front : Bool) (s : S) (bs : List ℕ) (x : S) → turn style wants step again front s (text_at bs) ≡ Some x → Found front s bs x
  unfolding Found
  whole_takes again takes front s bs x h =
      let f = turn_takes again takes front s (take (run_len plain bs) bs) (drop (run_len plain bs) bs) x (run_front plain bs) (run_stops plain bs) h in
      subst (λ (l : List ℕ). (ps : List Piece) × IsSource (styled style) front ps l × (all_steps step ps s ≡ Some x)) (take-append-drop (run_len plain bs) bs) f

  pub source_takes : (n : ℕ) (front : Bool) (s : S) (bs : List ℕ) (x : S) → source_at style wants step n front s bs ≡ Some x → (ps : List Piece) × IsSource (styled style) front ps bs × (all_steps step ps s ≡ Some x)
  unfolding source_at Taking Found
  source_takes zero front s bs x h = whole_takes (λ front s bs. None) (λ front s bs x h. absurd cc) front s bs x h
  source_takes (suc n) front s bs x h = whole_takes (source_at style wants step n) (source_takes n) front s bs x h

  -- ---- again

  module _ (agrees : TakesWanted wants step) where
    text_first : (t : List ℕ) (ps : List Piece) (s x : S) → all_steps step (content t ps) s ≡ Some x → (now : S) × (text_step step t s ≡ Some now) × (all_steps step ps now ≡ Some x)
    text_first t ps s x h = let b = bind_some (text_step step t s) (all_steps step ps) x (sym (text_run t ps s) ∙ h) in (b.0, b.1, b.2)

    turn_again : (again : Goes style wants step) (front : Bool) (t : List ℕ) (before : Bool) (p : Piece) (after : Bool) (bs rest : List ℕ) (ps : List Piece) (s x : S)
        → IsMarkup (styled style) before p after bs rest → ((s : S) → all_steps step ps s ≡ Some x → again after s rest ≡ Some x) → all_steps step (content (stripped front t before) (p ∷ ps)) s ≡ Some x
        → turn style wants step again front s (t, 123 ∷ bs) ≡ Some x
    turn_again again front t before p after bs rest ps s x k f h =
        let now = text_first (stripped front t before) (p ∷ ps) s x h in
        let next = bind_some (step now.0 p) (all_steps step ps) x now.2 in
        let m = markup_again style k (wants now.0) (agrees now.0 next.0 p next.1) in
        let texted : text_step step (stripped front t m.0.0.before) s ≡ Some now.0 = ap (λ (d : Bool). text_step step (stripped front t d) s) m.2 ∙ now.1 in
        ap (option_and_then (λ (m : Markup × List ℕ). option_and_then (λ now. marked style wants step again now m) (text_step step (stripped front t m.0.before) s))) m.1
        ∙ ap (option_and_then (λ (now : S). marked style wants step again now m.0)) texted
        ∙ ap (option_and_then (λ (whole : Markup × List ℕ). option_and_then (λ next. again whole.0.after next whole.1) (step now.0 whole.0.piece))) m.3
        ∙ ap (option_and_then (λ (next : S). again after next rest)) next.1 ∙ f next.0 next.2

  pub source_again : TakesWanted wants step → {front : Bool} {ps : List Piece} {bs : List ℕ} → IsSource (styled style) front ps bs → (n : ℕ) → length bs ≤ n → (s x : S) → all_steps step ps s ≡ Some x → source_at style wants step n front s bs ≡ Some x
  unfolding source_at
  source_again agrees (last {front = front} {t = t} h) zero l s x r = let a = text_first agrees (stripped front t false) [] s x r in ap (turn style wants step (λ front s bs. None) front s) (last_again t h) ∙ a.1 ∙ a.2
  source_again agrees (last {front = front} {t = t} h) (suc n) l s x r = let a = text_first agrees (stripped front t false) [] s x r in ap (turn style wants step (source_at style wants step n) front s) (last_again t h) ∙ a.1 ∙ a.2
  source_again agrees (more {bs = bs} t before h m src) zero l s x r = let e = simp length-append at l in absurd (omega (arith, e))
  source_again agrees (more {front = front} {after = after} {bs = bs} {rest = rest} {p = p} {ps = ps} t before h m src) (suc n) l s x r =
      let e = simp length-append at l in
      let short : length rest ≤ n = omega (arith, e, markup_shorter style m) in
      ap (turn style wants step (source_at style wants step n) front s) (text_again t (123 ∷ bs) h)
      ∙ turn_again agrees (source_at style wants step n) front t before p after bs rest ps s x m (λ s g. source_again agrees src n short s x g) r

-- ---- the style of the name that stands there is all that matters

inside_styled : (style : List ℕ → Style) (x : Bool × List ℕ) (o : Option (List ℕ × List ℕ)) → word_at (past_white x.1) ≡ o → inside_of style Tag x ≡ inside_of (λ w. style_by style (name_inside Tag x)) Tag x
inside_styled style x None e = rw e refl
inside_styled style x (Some w) e = rw e refl

markup_styled_by : (style : List ℕ → Style) (bs : List ℕ) (o : Option (Delimiter × List ℕ)) → opener_at bs ≡ o → markup_at style bs ≡ markup_at (λ w. style_by style (name_at bs)) bs
unfolding markup_at name_at
markup_styled_by style bs None e = rw e refl
markup_styled_by style bs (Some (Output, r)) e = rw e refl
markup_styled_by style bs (Some (Tag, r)) e = rw e (inside_styled style (skip_dash r (past_byte 45 r)) (word_at (past_white (skip_dash r (past_byte 45 r)).1)) refl)

pub markup_styled : (style : List ℕ → Style) (bs : List ℕ) → markup_at style bs ≡ markup_at (λ w. style_by style (name_at bs)) bs
markup_styled style bs = markup_styled_by style bs (opener_at bs) refl

-- ---- what may follow a name, exchanged

module _ (f g : FollowsName) (to : (w : List ℕ) (is : List Item) (d : Bool) (bs rest : List ℕ) → f w is d bs rest → g w is d bs rest) where
  tag_to : {before after : Bool} {w : List ℕ} {is : List Item} {bs rest : List ℕ} → IsTag f before w is after bs rest → IsTag g before w is after bs rest
  tag_to (is_tag {after = after} {w = w} {is = is} {next = next} {rest = rest} o b n items) = is_tag o b n (to w is after next rest items)

  markup_to : {before after : Bool} {p : Piece} {bs rest : List ℕ} → IsMarkup f before p after bs rest → IsMarkup g before p after bs rest
  markup_to (is_output o items) = is_output o items
  markup_to (is_plain_tag t) = is_plain_tag (tag_to t)
  markup_to (is_raw s t r) = is_raw s (tag_to t) r
  markup_to (is_comment t k) = is_comment (tag_to t) k

  pub source_to : {front : Bool} {ps : List Piece} {bs : List ℕ} → IsSource f front ps bs → IsSource g front ps bs
  source_to (last h) = last h
  source_to (more t before h m src) = more t before h (markup_to m) (source_to src)

items_of : {is : List Item} {d : Bool} {bs rest : List ℕ} → AreStyled Items is d bs rest → AreItems Tag is d bs rest
items_of (are_items items) = items

module _ (style : List ℕ → Style) (items : (w : List ℕ) → style w ≡ Items) where
  items_from : (w : List ℕ) (is : List Item) (d : Bool) (bs rest : List ℕ) → styled style w is d bs rest → only_items w is d bs rest
  items_from w is d bs rest h = items_of (subst (λ s. AreStyled s is d bs rest) (items w) h)

  items_into : (w : List ℕ) (is : List Item) (d : Bool) (bs rest : List ℕ) → only_items w is d bs rest → styled style w is d bs rest
  items_into w is d bs rest h = subst (λ s. AreStyled s is d bs rest) (sym (items w)) (are_items h)

  pub items_only : (front : Bool) (ps : List Piece) (bs : List ℕ) → IsSource (styled style) front ps bs → IsSource only_items front ps bs
  items_only front ps bs h = source_to (styled style) only_items items_from h

  pub items_styled : (front : Bool) (ps : List Piece) (bs : List ℕ) → IsSource only_items front ps bs → IsSource (styled style) front ps bs
  items_styled front ps bs h = source_to only_items (styled style) items_into h
