-- The written grammar of bodies that aren't read: those of `raw` and of `comment`, by the marks
-- that end them.
use Rattle.std.specs.Prelude.{codes, ℕ, suc, List, [], ◌∷◌, Bool}
use Rattle.liquid_model.specs.Bytes.{open_brace}
use Rattle.liquid_model.specs.Words.{Blank, Word}
use Rattle.liquid_lexer.specs.Items.{IsCloser}
use Rattle.liquid_lexer.specs.Openers.{IsOpener}
use Rattle.liquid_lexer.specs.declared.item.Delimiter.TheVariants.{Tag}

-- `{%` or `{%-`, the word w, `-%}` or `%}`, with whitespace between them. The truth values: whether
-- each of the two has a dash
pub data IsMark : List ℕ → Bool → Bool → List ℕ → List ℕ → Type 0 where
  is_mark : {before after : Bool} {w bs inside from next until rest : List ℕ}
      → IsOpener Tag before bs inside → Blank inside from → Word w from next → Blank next until →
      IsCloser Tag after until rest → IsMark w before after (open_brace ∷ bs) rest

abbrev pub NoMark : List ℕ → List ℕ → Type 0
NoMark w bs = (before after : Bool) (rest : List ℕ) → IsMark w before after bs rest → ⊥

-- the text up to the first mark `endraw`, and that mark
pub data IsRaw : List ℕ → Bool → Bool → List ℕ → List ℕ → Type 0 where
  ends : {before after : Bool} {bs rest : List ℕ} → IsMark (codes "endraw") before after bs rest →
      IsRaw [] before after bs rest
  goes_on : {before after : Bool} {b : ℕ} {t bs rest : List ℕ} → NoMark (codes "endraw") (b ∷ bs) →
      IsRaw t before after bs rest → IsRaw (b ∷ t) before after (b ∷ bs) rest

-- the rest of a comment in which n inner comments are open: the leftmost of three marks counts each
-- time. The truth value: whether its last closer has a dash
pub data IsComment : ℕ → Bool → List ℕ → List ℕ → Type 0 where
  skipped : {n b : ℕ} {after : Bool} {bs rest : List ℕ} → NoMark (codes "comment") (b ∷ bs) →
      NoMark (codes "raw") (b ∷ bs) → NoMark (codes "endcomment") (b ∷ bs)
      → IsComment n after bs rest → IsComment n after (b ∷ bs) rest
  inner : {n : ℕ} {before closing after : Bool} {bs next rest : List ℕ} →
      IsMark (codes "comment") before closing bs next → IsComment (suc n) after next rest →
      IsComment n after bs rest
  raw_inside : {n : ℕ} {before closing back front after : Bool} {t bs next until rest : List ℕ}
      → IsMark (codes "raw") before closing bs next → IsRaw t back front next until →
      IsComment n after until rest → IsComment n after bs rest
  inner_ends : {n : ℕ} {before closing after : Bool} {bs next rest : List ℕ} →
      IsMark (codes "endcomment") before closing bs next → IsComment n after next rest →
      IsComment (suc n) after bs rest
  ends : {before after : Bool} {bs rest : List ℕ} →
      IsMark (codes "endcomment") before after bs rest → IsComment 0 after bs rest
