-- What is read as a source, as functions. What is read next may depend on the language: it tells
-- where a tag has a verbatim body.
use Rattle.std.specs.Prelude.{◌≡◌, ℕ, zero, suc, List, [], ◌∷◌, length, take, drop, Bool, true}
use Rattle.std.specs.Prelude.{false, not, cond, ◌&&◌, codes, bytes_eq, Option, Some, None}
use Rattle.std.specs.Option.{option_and_then, option_map}
use Rattle.liquid_model.specs.Bytes.{dash, open_brace, percent}
use Rattle.liquid_lexer.specs.ValueReading.{◌>>=◌}
use Rattle.liquid_model.specs.Front.{Reads, run_len, past_white, past_byte, word_at}
use Rattle.liquid_lexer.specs.ValueReading.{text_at}
use Rattle.liquid_lexer.specs.ItemReading.{closer_at, items_at}
use Rattle.liquid_lexer.specs.StyleReading.{styled_at}
use Rattle.liquid_lexer.specs.declared.style.Style.{Style}
use Rattle.liquid_lexer.specs.declared.style.Style.TheVariants.{Items}
use Rattle.liquid_lexer.specs.Pieces.{Piece, text, output, tag, raw, comment, stripped}
use Rattle.liquid_lexer.specs.declared.item.Delimiter.{Delimiter}
use Rattle.liquid_lexer.specs.declared.item.Delimiter.TheVariants.{Output, Tag}
use Rattle.liquid_lexer.specs.declared.piece.Body.{Body}
use Rattle.liquid_lexer.specs.declared.piece.Body.TheVariants.{Raw, Comment}

-- ---- marks, and bodies that aren't read

abbrev pub skip_dash : List ℕ → Option (List ℕ) → Bool × List ℕ
skip_dash bs None = (false, bs)
skip_dash bs (Some rest) = (true, rest)

-- a mark's name, and whether its dashes strip
pub record Mark : Type 0 where
  pub name : List ℕ
  pub before : Bool
  pub after : Bool

abbrev pub mark_after : Bool × List ℕ → Option (Mark × List ℕ)
mark_after d = do
  w ← word_at (past_white d.1)
  c ← closer_at Tag (past_white w.1)
  Some (record { name = w.0; before = d.0; after = c.0 }, c.1)

-- a mark of any name
unfoldable pub mark_at : Reads Mark
mark_at bs = do
  brace ← past_byte open_brace bs
  inside ← past_byte percent brace
  mark_after (skip_dash inside (past_byte dash inside))

abbrev pub is_named : List ℕ → Option (Mark × List ℕ) → Bool
is_named w None = false
is_named w (Some m) = bytes_eq m.0.name w

-- no mark `endraw` begins at b, before bs
unfoldable pub in_raw : ℕ → List ℕ → Bool
in_raw b bs = not (is_named (codes "endraw") (mark_at (b ∷ bs)))

-- the text up to the first mark `endraw`, that mark, and what follows it
unfoldable pub raw_at : List ℕ → Option (List ℕ × Mark × List ℕ)
raw_at bs = option_map (λ m. (take (run_len in_raw bs) bs, m.0, m.1))
    (mark_at (drop (run_len in_raw bs) bs))

-- none of the three marks that count in a comment begins at b, before bs
unfoldable pub in_comment : ℕ → List ℕ → Bool
in_comment b bs = not (is_named (codes "comment") (mark_at (b ∷ bs))) &&
    (not (is_named (codes "raw") (mark_at (b ∷ bs))) &&
    not (is_named (codes "endcomment") (mark_at (b ∷ bs))))

-- no mark that counts in the body stands at the front
abbrev pub goes_on : Body → List ℕ → Bool
goes_on Raw bs = not (is_named (codes "endraw") (mark_at bs))
goes_on Comment bs = not (is_named (codes "comment") (mark_at bs)) &&
    (not (is_named (codes "raw") (mark_at bs)) &&
    not (is_named (codes "endcomment") (mark_at bs)))

-- the body goes on over b, before bs
abbrev pub in_body : Body → ℕ → List ℕ → Bool
in_body Raw b bs = in_raw b bs
in_body Comment b bs = in_comment b bs

-- in a comment, with a number of open inner ones: whether its last closer has a dash, and what
-- follows it
abbrev pub Skips : Type 0
Skips = ℕ → List ℕ → Option (Bool × List ℕ)

abbrev pub comment_ends : Skips → ℕ → Mark × List ℕ → Option (Bool × List ℕ)
comment_ends again zero m = Some (m.0.after, m.1)
comment_ends again (suc n) m = again n m.1

abbrev pub past_mark : Skips → ℕ → Mark × List ℕ → Option (Bool × List ℕ)
past_mark again n m =
    cond (bytes_eq m.0.name (codes "comment")) (again (suc n) m.1)
    (cond (bytes_eq m.0.name (codes "raw")) (option_and_then (λ r. again n r.2) (raw_at m.1))
    (comment_ends again n m))

-- The first number bounds the marks. The count of the bytes is always enough.
unfoldable pub comment_at : ℕ → Skips
comment_at zero n bs = option_and_then (past_mark (λ n bs. None) n)
    (mark_at (drop (run_len in_comment bs) bs))
comment_at (suc turns) n bs = option_and_then (past_mark (comment_at turns) n)
    (mark_at (drop (run_len in_comment bs) bs))

-- ---- outputs and tags

abbrev pub opener_by : List ℕ → Option (List ℕ) → Option (Delimiter × List ℕ)
opener_by bs (Some rest) = Some (Output, rest)
opener_by bs None = option_map (λ rest. (Tag, rest)) (past_byte percent bs)

abbrev pub opener_at : List ℕ → Option (Delimiter × List ℕ)
opener_at bs = opener_by bs (past_byte open_brace bs)

pub record Markup : Type 0 where
  pub before : Bool
  pub piece : Piece
  pub after : Bool

-- after an opener, a tag by the style of its name
abbrev pub inside_of : (List ℕ → Style) → Delimiter → Bool × List ℕ → Option (Markup × List ℕ)
inside_of style Output x = option_map (λ r. (
  record {
    before = x.0;
    piece = output r.0;
    after = r.1;
  },
  r.2,
)) (items_at Output (length x.1) x.1)
inside_of style Tag x =
    option_and_then (λ w. option_map (λ r. (
      record {
        before = x.0;
        piece = tag w.0 r.0;
        after = r.1;
      },
      r.2,
    )) (styled_at (style w.0) w.1)) (word_at (past_white x.1))

-- after the `{` of an opener
unfoldable pub markup_at : (List ℕ → Style) → Reads Markup
markup_at style bs =
    option_and_then (λ k. inside_of style k.0 (skip_dash k.1 (past_byte dash k.1))) (opener_at bs)

abbrev pub name_inside : Delimiter → Bool × List ℕ → Option (List ℕ)
name_inside Output x = None
name_inside Tag x = option_map (λ w. w.0) (word_at (past_white x.1))

-- the name of a tag, after the `{` of its opener
unfoldable pub name_at : List ℕ → Option (List ℕ)
name_at bs = option_and_then (λ k. name_inside k.0 (skip_dash k.1 (past_byte dash k.1)))
    (opener_at bs)

-- the style in which the piece is read; without a name it doesn't matter
abbrev pub style_by : (List ℕ → Style) → Option (List ℕ) → Style
style_by style None = Items
style_by style (Some w) = style w

abbrev pub tag_name : Piece → List ℕ
tag_name (tag w is) = w
tag_name _ = []

-- a tag with the body after it, where it is to have one
abbrev pub body_at : Option Body → Markup → Reads Markup
body_at None m bs = Some (m, bs)
body_at (Some Raw) m bs = option_map (λ r. (
  record {
    before = m.before;
    piece = raw (tag_name m.piece) (stripped m.after r.0 r.1.before);
    after = r.1.after;
  },
  r.2,
)) (raw_at bs)
body_at (Some Comment) m bs = option_map (λ r. (
  record {
    before = m.before;
    piece = comment (tag_name m.piece);
    after = r.0;
  },
  r.1,
)) (comment_at (length bs) 0 bs)

-- the name of a tag without items: no other piece has a body
abbrev pub bare_name : Piece → Option (List ℕ)
bare_name (tag w []) = Some w
bare_name _ = None

abbrev pub wanted_body : (List ℕ → Option Body) → Piece → Option Body
wanted_body wants p = option_and_then wants (bare_name p)

-- ---- a source, read by a machine that takes one piece after another and changes its state

module _ {S : Type 0} (step : S → Piece → Option S) where
  -- the state after all pieces
  abbrev pub all_steps : List Piece → S → Option S
  all_steps [] s = Some s
  all_steps (p ∷ ps) s = option_and_then (all_steps ps) (step s p)

  -- a text left empty is no piece
  abbrev pub text_step : List ℕ → S → Option S
  text_step [] s = Some s
  text_step (b ∷ bs) s = step s (text (b ∷ bs))

-- in which style tags of the name are read, and which body the machine wants after a tag of the
-- name, in a state
module _ {S : Type 0} (style : List ℕ → Style) (wants : S → List ℕ → Option Body)
    (step : S → Piece → Option S) where
  abbrev pub Goes : Type 0
  Goes = Bool → S → List ℕ → Option S

  abbrev pub marked : Goes → S → Markup × List ℕ → Option S
  marked again s m = do
    whole ← body_at (wanted_body (wants s) m.0.piece) m.0 m.1
    next ← step s whole.0.piece
    again whole.0.after next whole.1

  abbrev pub turn : Goes → Bool → S → List ℕ × List ℕ → Option S
  turn again front s (t, []) = text_step step (stripped front t false) s
  turn again front s (t, b ∷ bs) = do
    m ← markup_at style bs
    now ← text_step step (stripped front t m.0.before) s
    marked again now m

  -- The number bounds the pieces. The count of the bytes is always enough.
  unfoldable pub source_at : ℕ → Goes
  source_at zero front s bs = turn (λ front s bs. None) front s (text_at bs)
  source_at (suc n) front s bs = turn (source_at n) front s (text_at bs)

-- the machine takes a tag and its body only as it wants them
abbrev pub Wanted : (List ℕ → Option Body) → Piece → Type 0
Wanted wants (tag w []) = wants w ≡ None
Wanted wants (raw w t) = wants w ≡ Some Raw
Wanted wants (comment w) = wants w ≡ Some Comment
Wanted wants _ = Unit {0}

abbrev pub TakesWanted : {S : Type 0} → (S → List ℕ → Option Body) → (S → Piece → Option S) → Type 0
TakesWanted {S} wants step = (s next : S) (p : Piece) → step s p ≡ Some next → Wanted (wants s) p
