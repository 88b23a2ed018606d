-- Marks and the bodies that run up to them: what is read stands in the grammar, and what stands in the grammar is read.
use Rattle.std.proofs.Common.{◌≡◌, ℕ, suc, ◌<◌, ◌≤◌, List, [], ◌∷◌, length, take, drop, Bool, true, false, cond, eqb, not, codes, bytes_eq, Option, Some, None, refl, ap, subst, ◌∙◌, sym, arith}
use Rattle.std.specs.Option.{option_map}
use Rattle.std.proofs.lemmas.Slice.Eq.{bytes_eq-Decides}
use Rattle.std.proofs.lemmas.List.{length-append}
use Rattle.std.proofs.lemmas.Option.{none-some}
use Rattle.std.proofs.lemmas.Bool.{false_from_ne_true}
use Rattle.liquid_model.specs.Words.{begins_with}
use Rattle.liquid_model.specs.Front.{run_len, past_white, past_byte, word_at}
use Rattle.liquid_lexer.specs.Items.{dash_if}
use Rattle.liquid_lexer.specs.ItemReading.{closer_at}
use Rattle.liquid_lexer.specs.Openers.{opener, IsOpener, with_dash, no_dash}
use Rattle.liquid_lexer.specs.Verbatim.{IsMark, is_mark, NoMark, IsRaw, ends, goes_on}
use Rattle.liquid_lexer.specs.SourceReading.{skip_dash, Mark, mark_after, mark_at, is_named, in_raw, raw_at}
use Rattle.liquid_lexer.specs.declared.item.Delimiter.{Delimiter}
use Rattle.liquid_lexer.specs.declared.item.Delimiter.TheVariants.{Tag}
use Rattle.liquid_model.proofs.WordLaws.{bind_some, map_some, from_some, byte_some, blank_takes, blank_again, blank_shorter, word_takes, word_again, word_shorter}
use Rattle.liquid_lexer.proofs.ItemLaws.{closer_takes, closer_again}
use Rattle.liquid_model.proofs.Maps.{same_key}

-- ---- openers

no_byte : (q : ℕ) (bs : List ℕ) → past_byte q bs ≡ None → begins_with q bs ≡ false
no_byte q [] h = refl
no_byte q (b ∷ bs) h = by_test (eqb b q) h
  where
    by_test : (c : Bool) → cond c (Some bs) None ≡ None → c ≡ false
    by_test true h = absurd (none-some bs (sym h))
    by_test false h = refl

no_byte_again : (q : ℕ) (bs : List ℕ) → begins_with q bs ≡ false → past_byte q bs ≡ None
no_byte_again q [] h = refl
no_byte_again q (b ∷ bs) h = rw h

pub dash_takes : (k : Delimiter) (bs : List ℕ) (o : Option (List ℕ)) → past_byte 45 bs ≡ o → IsOpener k (skip_dash bs o).0 (opener k ∷ bs) (skip_dash bs o).1
dash_takes k bs None h = no_dash (no_byte 45 bs h)
dash_takes k bs (Some r) h = subst (λ (l : List ℕ). IsOpener k true (opener k ∷ l) r) (sym (byte_some 45 bs r h)) with_dash

pub opener_again : {k : Delimiter} {before : Bool} {bs inside : List ℕ} → IsOpener k before bs inside → (cs : List ℕ) × (bs ≡ opener k ∷ cs) × (skip_dash cs (past_byte 45 cs) ≡ (before, inside))
opener_again (with_dash {rest = rest}) = (45 ∷ rest, refl, refl)
opener_again (no_dash {rest = rest} h) = (rest, refl, ap (skip_dash rest) (no_byte_again 45 rest h))

pub opener_shorter : {k : Delimiter} {d : Bool} {bs inside : List ℕ} → IsOpener k d bs inside → length inside ≤ length bs
opener_shorter with_dash = omega arith
opener_shorter (no_dash h) = omega arith

-- ---- marks

mark_after_takes : (bs : List ℕ) (d : Bool × List ℕ) (x : Mark × List ℕ) → IsOpener Tag d.0 bs d.1 → mark_after d ≡ Some x → IsMark x.0.name x.0.before x.0.after (123 ∷ bs) x.1
mark_after_takes bs d x o h =
    let w = bind_some (word_at (past_white d.1)) _ x h in
    let c = bind_some (closer_at Tag (past_white w.0.1)) _ x w.2 in
    subst (λ (x : Mark × List ℕ). IsMark x.0.name x.0.before x.0.after (123 ∷ bs) x.1) (from_some c.2)
    (is_mark o (blank_takes d.1) (word_takes (past_white d.1) w.0 w.1) (blank_takes w.0.1) (closer_takes Tag (past_white w.0.1) c.0 c.1))

pub mark_takes : (bs : List ℕ) (x : Mark × List ℕ) → mark_at bs ≡ Some x → IsMark x.0.name x.0.before x.0.after bs x.1
unfolding mark_at
mark_takes bs x h =
    let a = bind_some (past_byte 123 bs) _ x h in
    let b = bind_some (past_byte 37 a.0) _ x a.2 in
    let e : bs ≡ 123 ∷ 37 ∷ b.0 = byte_some 123 bs a.0 a.1 ∙ ap (λ (l : List ℕ). 123 ∷ l) (byte_some 37 a.0 b.0 b.1) in
    subst (λ (l : List ℕ). IsMark x.0.name x.0.before x.0.after l x.1) (sym e)
    (mark_after_takes (37 ∷ b.0) (skip_dash b.0 (past_byte 45 b.0)) x (dash_takes Tag b.0 (past_byte 45 b.0) refl) b.2)

mark_opened : (cs : List ℕ) → mark_at (123 ∷ 37 ∷ cs) ≡ mark_after (skip_dash cs (past_byte 45 cs))
unfolding mark_at
mark_opened cs = refl

pub mark_again : {w bs rest : List ℕ} {before after : Bool} → IsMark w before after bs rest → mark_at bs ≡ Some (record { name = w; before = before; after = after }, rest)
mark_again (is_mark {before = before} {after = after} {w = w} {bs = bs} {inside = inside} {from = from} {next = next} {until = until} {rest = rest} o a n b c) =
    let f = opener_again o in
    ap (λ (l : List ℕ). mark_at (123 ∷ l)) f.1 ∙ mark_opened f.0 ∙ ap mark_after f.2
    ∙ rw (blank_again inside from a, word_again w from next n, blank_again next until b, c, closer_again Tag after rest) refl

pub mark_shorter : {w bs rest : List ℕ} {before after : Bool} → IsMark w before after bs rest → length rest < length bs
mark_shorter (is_mark {after = after} {rest = rest} o a n b c) =
    let l = opener_shorter o in
    let e = ap (length {A = ℕ}) c ∙ length-append (dash_if after) (37 ∷ 125 ∷ rest) in
    omega (arith, l, blank_shorter a, word_shorter n, blank_shorter b, e)

-- ---- marks of a name

equal_bytes : (v w : List ℕ) → bytes_eq v w ≡ true → v ≡ w
equal_bytes v w h = (bytes_eq-Decides v w).0 h

pub named_again : {w bs rest : List ℕ} {before after : Bool} → IsMark w before after bs rest → is_named w (mark_at bs) ≡ true
named_again {w} h = ap (is_named w) (mark_again h) ∙ same_key w

pub no_mark_takes : (w bs : List ℕ) → is_named w (mark_at bs) ≡ false → NoMark w bs
no_mark_takes w bs h before after rest m = let g : true ≡ false = sym (named_again m) ∙ h in absurd cc

named_mark : (w bs : List ℕ) (o : Option (Mark × List ℕ)) → mark_at bs ≡ o → is_named w o ≡ true → NoMark w bs → ⊥
named_mark w bs None e h none = absurd cc
named_mark w bs (Some m) e h none = none m.0.before m.0.after m.1 (subst (λ (v : List ℕ). IsMark v m.0.before m.0.after bs m.1) (equal_bytes m.0.name w h) (mark_takes bs m e))

pub no_mark_again : (w bs : List ℕ) → NoMark w bs → is_named w (mark_at bs) ≡ false
no_mark_again w bs none = false_from_ne_true _ (λ h. named_mark w bs (mark_at bs) refl h none)

-- the mark that is read, where it has the name
pub mark_named : (w bs : List ℕ) (m : Mark × List ℕ) → mark_at bs ≡ Some m → bytes_eq m.0.name w ≡ true → IsMark w m.0.before m.0.after bs m.1
mark_named w bs m e h = subst (λ (v : List ℕ). IsMark v m.0.before m.0.after bs m.1) (equal_bytes m.0.name w h) (mark_takes bs m e)

-- ---- the body of `raw`

endraw : List ℕ
endraw = codes "endraw"

pub un_not : (b c : Bool) → not b ≡ c → b ≡ not c
un_not true c h = ap not h
un_not false c h = ap not h

abbrev with_body : List ℕ → Mark × List ℕ → List ℕ × Mark × List ℕ
with_body t m = (t, m.0, m.1)

Read : List ℕ → List ℕ × Mark × List ℕ → Type 0
Read bs x = IsRaw x.0 x.1.before x.1.after bs x.2

raw_by : (b : ℕ) (bs : List ℕ) (c : Bool) (x : List ℕ × Mark × List ℕ) → in_raw b bs ≡ c → ((y : List ℕ × Mark × List ℕ) → raw_at bs ≡ Some y → Read bs y)
    → option_map (with_body (take (cond c (suc (run_len in_raw bs)) 0) (b ∷ bs))) (mark_at (drop (cond c (suc (run_len in_raw bs)) 0) (b ∷ bs))) ≡ Some x → Read (b ∷ bs) x
unfolding in_raw raw_at Read
raw_by b bs true x e more h =
    let m = map_some (mark_at (drop (run_len in_raw bs) bs)) _ x h in
    let none : is_named (codes "endraw") (mark_at (b ∷ bs)) ≡ false = un_not _ true e in
    subst (λ (x : List ℕ × Mark × List ℕ). IsRaw x.0 x.1.before x.1.after (b ∷ bs) x.2) m.2
    (goes_on (no_mark_takes (codes "endraw") (b ∷ bs) none) (more (take (run_len in_raw bs) bs, m.0.0, m.0.1) (ap (option_map (with_body (take (run_len in_raw bs) bs))) m.1)))
raw_by b bs false x e more h =
    let m = map_some (mark_at (b ∷ bs)) _ x h in
    let yes : is_named (codes "endraw") (mark_at (b ∷ bs)) ≡ true = un_not _ false e in
    subst (λ (x : List ℕ × Mark × List ℕ). IsRaw x.0 x.1.before x.1.after (b ∷ bs) x.2) m.2
    (ends (mark_named (codes "endraw") (b ∷ bs) m.0 m.1 (sym (ap (is_named (codes "endraw")) m.1) ∙ yes)))

pub nothing_marked : mark_at [] ≡ None
unfolding mark_at
nothing_marked = refl

pub raw_takes : (bs : List ℕ) (x : List ℕ × Mark × List ℕ) → raw_at bs ≡ Some x → IsRaw x.0 x.1.before x.1.after bs x.2
unfolding raw_at Read
raw_takes [] x h = let m = map_some (mark_at []) _ x h in absurd (none-some m.0 (sym nothing_marked ∙ m.1))
raw_takes (b ∷ bs) x h = raw_by b bs (in_raw b bs) x refl (raw_takes bs) h

raw_stop : (bs : List ℕ) (m : Mark × List ℕ) → mark_at bs ≡ Some m → is_named (codes "endraw") (mark_at bs) ≡ true → raw_at bs ≡ Some ([], m.0, m.1)
unfolding raw_at in_raw
raw_stop [] m e h = absurd (none-some m (sym nothing_marked ∙ e))
raw_stop (b ∷ bs) m e h = rw (h, e) refl

joined_raw : (b : ℕ) (t : List ℕ) (o : Option (Mark × List ℕ)) (x : List ℕ × Mark × List ℕ) → option_map (with_body t) o ≡ Some x → option_map (with_body (b ∷ t)) o ≡ Some (b ∷ x.0, x.1, x.2)
joined_raw b t None x h = absurd (none-some x h)
joined_raw b t (Some m) x h = ap (λ (x : List ℕ × Mark × List ℕ). Some (b ∷ x.0, x.1, x.2)) (from_some h)

raw_more : (b : ℕ) (bs : List ℕ) (x : List ℕ × Mark × List ℕ) → is_named (codes "endraw") (mark_at (b ∷ bs)) ≡ false → raw_at bs ≡ Some x → raw_at (b ∷ bs) ≡ Some (b ∷ x.0, x.1, x.2)
unfolding raw_at in_raw
raw_more b bs x none h = rw none (joined_raw b (take (run_len in_raw bs) bs) (mark_at (drop (run_len in_raw bs) bs)) x h)

pub raw_again : {t bs rest : List ℕ} {before after : Bool} → IsRaw t before after bs rest → raw_at bs ≡ Some (t, record { name = codes "endraw"; before = before; after = after }, rest)
raw_again (ends {bs = bs} m) = raw_stop bs _ (mark_again m) (named_again m)
raw_again (goes_on {b = b} {bs = bs} none r) = raw_more b bs _ (no_mark_again (codes "endraw") (b ∷ bs) none) (raw_again r)

pub raw_shorter : {t bs rest : List ℕ} {before after : Bool} → IsRaw t before after bs rest → length rest < length bs
raw_shorter (ends m) = mark_shorter m
raw_shorter (goes_on none r) = let l = raw_shorter r in omega (arith, l)
