-- The body of `comment`: what is read stands in the grammar, and what stands in the grammar is read.
use Rattle.std.proofs.Common.{◌≡◌, ℕ, zero, suc, ◌<◌, ◌≤◌, List, [], ◌∷◌, length, drop, Bool, true, false, cond, not, ◌&&◌, codes, bytes_eq, Option, Some, None, refl, ap, subst, ◌∙◌, sym, arith}
use Rattle.std.specs.Option.{option_and_then}
use Rattle.std.proofs.lemmas.Bool.{and_parts}
use Rattle.std.proofs.lemmas.Option.{none-some}
use Rattle.liquid_model.specs.Words.{passes}
use Rattle.liquid_model.specs.Front.{run_len}
use Rattle.liquid_lexer.specs.Verbatim.{IsMark, NoMark, IsComment, skipped, inner, raw_inside, inner_ends, ends}
use Rattle.liquid_lexer.specs.SourceReading.{Mark, mark_at, is_named, raw_at, in_comment, Skips, comment_ends, past_mark, comment_at}
use Rattle.liquid_model.proofs.WordLaws.{bind_some, from_some, run_stops}
use Rattle.liquid_lexer.proofs.MarkLaws.{un_not, nothing_marked, mark_again, mark_shorter, mark_named, no_mark_takes, no_mark_again, raw_takes, raw_again, raw_shorter}

-- ---- what is read stands in the grammar

skip_by : (n : ℕ) (after : Bool) (rest : List ℕ) (b : ℕ) (bs : List ℕ) (c : Bool) → in_comment b bs ≡ c → (IsComment n after (drop (run_len in_comment bs) bs) rest → IsComment n after bs rest)
    → IsComment n after (drop (cond c (suc (run_len in_comment bs)) 0) (b ∷ bs)) rest → IsComment n after (b ∷ bs) rest
unfolding in_comment
skip_by n after rest b bs true e more h =
    let p = and_parts _ _ e in
    let q = and_parts _ _ p.1 in
    skipped (no_mark_takes (codes "comment") (b ∷ bs) (un_not _ true p.0)) (no_mark_takes (codes "raw") (b ∷ bs) (un_not _ true q.0)) (no_mark_takes (codes "endcomment") (b ∷ bs) (un_not _ true q.1)) (more h)
skip_by n after rest b bs false e more h = h

skip_takes : (n : ℕ) (after : Bool) (rest bs : List ℕ) → IsComment n after (drop (run_len in_comment bs) bs) rest → IsComment n after bs rest
skip_takes n after rest [] h = h
skip_takes n after rest (b ∷ bs) h = skip_by n after rest b bs (in_comment b bs) refl (skip_takes n after rest bs) h

third_by : (a b c : Bool) → (not a && (not b && not c)) ≡ false → a ≡ false → b ≡ false → c ≡ true
third_by true b c h e f = absurd cc
third_by false true c h e f = absurd cc
third_by false false true h e f = refl
third_by false false false h e f = absurd cc

-- a mark that ends a run in a comment and is none of the first two is the third
third_mark : (bs : List ℕ) (m : Mark × List ℕ) → passes in_comment bs ≡ false → mark_at bs ≡ Some m → bytes_eq m.0.name (codes "comment") ≡ false → bytes_eq m.0.name (codes "raw") ≡ false
    → bytes_eq m.0.name (codes "endcomment") ≡ true
unfolding in_comment
third_mark [] m stop e f g = absurd (none-some m (sym nothing_marked ∙ e))
third_mark (b ∷ bs) m stop e f g =
    sym (ap (is_named (codes "endcomment")) e)
    ∙ third_by (is_named (codes "comment") (mark_at (b ∷ bs))) (is_named (codes "raw") (mark_at (b ∷ bs))) (is_named (codes "endcomment") (mark_at (b ∷ bs))) stop (ap (is_named (codes "comment")) e ∙ f) (ap (is_named (codes "raw")) e ∙ g)

Taking : Skips → Type 0
Taking again = (n : ℕ) (bs : List ℕ) (x : Bool × List ℕ) → again n bs ≡ Some x → IsComment n x.0 bs x.1

ends_takes : (again : Skips) → Taking again → (n : ℕ) (bs : List ℕ) (m : Mark × List ℕ) (x : Bool × List ℕ) → IsMark (codes "endcomment") m.0.before m.0.after bs m.1 → comment_ends again n m ≡ Some x → IsComment n x.0 bs x.1
unfolding Taking
ends_takes again takes zero bs m x k h = subst (λ (x : Bool × List ℕ). IsComment 0 x.0 bs x.1) (from_some h) (ends k)
ends_takes again takes (suc n) bs m x k h = inner_ends k (takes n m.1 x h)

past_by : (again : Skips) → Taking again → (n : ℕ) (bs : List ℕ) (m : Mark × List ℕ) (x : Bool × List ℕ) (c d : Bool) → passes in_comment bs ≡ false → mark_at bs ≡ Some m
    → bytes_eq m.0.name (codes "comment") ≡ c → bytes_eq m.0.name (codes "raw") ≡ d
    → cond c (again (suc n) m.1) (cond d (option_and_then (λ r. again n r.2) (raw_at m.1)) (comment_ends again n m)) ≡ Some x → IsComment n x.0 bs x.1
unfolding Taking
past_by again takes n bs m x true d stop e f g h = inner (mark_named (codes "comment") bs m e f) (takes (suc n) m.1 x h)
past_by again takes n bs m x false true stop e f g h =
    let r = bind_some (raw_at m.1) _ x h in
    raw_inside (mark_named (codes "raw") bs m e g) (raw_takes m.1 r.0 r.1) (takes n r.0.2 x r.2)
past_by again takes n bs m x false false stop e f g h = ends_takes again takes n bs m x (mark_named (codes "endcomment") bs m e (third_mark bs m stop e f g)) h

turn_takes : (again : Skips) → Taking again → (n : ℕ) (bs : List ℕ) (x : Bool × List ℕ) → option_and_then (past_mark again n) (mark_at (drop (run_len in_comment bs) bs)) ≡ Some x → IsComment n x.0 bs x.1
turn_takes again takes n bs x h =
    let m = bind_some (mark_at (drop (run_len in_comment bs) bs)) (past_mark again n) x h in
    skip_takes n x.0 x.1 bs (past_by again takes n (drop (run_len in_comment bs) bs) m.0 x (bytes_eq m.0.0.name (codes "comment")) (bytes_eq m.0.0.name (codes "raw")) (run_stops in_comment bs) m.1 refl refl m.2)

pub comment_takes : (turns n : ℕ) (bs : List ℕ) (x : Bool × List ℕ) → comment_at turns n bs ≡ Some x → IsComment n x.0 bs x.1
unfolding comment_at Taking
comment_takes zero n bs x h = turn_takes (λ n bs. None) (λ n bs x h. absurd cc) n bs x h
comment_takes (suc turns) n bs x h = turn_takes (comment_at turns) (comment_takes turns) n bs x h

-- ---- what stands in the grammar is read

pub comment_shorter : {n : ℕ} {after : Bool} {bs rest : List ℕ} → IsComment n after bs rest → length rest < length bs
comment_shorter (skipped a b c k) = let l = comment_shorter k in omega (arith, l)
comment_shorter (inner m k) = omega (arith, mark_shorter m, comment_shorter k)
comment_shorter (raw_inside m r k) = omega (arith, mark_shorter m, raw_shorter r, comment_shorter k)
comment_shorter (inner_ends m k) = omega (arith, mark_shorter m, comment_shorter k)
comment_shorter (ends m) = mark_shorter m

skip_again : (b : ℕ) (bs : List ℕ) → in_comment b bs ≡ true → (turns n : ℕ) → comment_at turns n (b ∷ bs) ≡ comment_at turns n bs
unfolding comment_at
skip_again b bs e zero n = rw e refl
skip_again b bs e (suc turns) n = rw e refl

none_counts : (b : ℕ) (bs : List ℕ) → NoMark (codes "comment") (b ∷ bs) → NoMark (codes "raw") (b ∷ bs) → NoMark (codes "endcomment") (b ∷ bs) → in_comment b bs ≡ true
unfolding in_comment
none_counts b bs f g h = rw (no_mark_again (codes "comment") (b ∷ bs) f, no_mark_again (codes "raw") (b ∷ bs) g, no_mark_again (codes "endcomment") (b ∷ bs) h) refl

-- a turn that begins with a mark that counts
Counts : List ℕ → Type 0
Counts bs = drop (run_len in_comment bs) bs ≡ bs

stops_here : (b : ℕ) (bs : List ℕ) → in_comment b bs ≡ false → Counts (b ∷ bs)
unfolding Counts
stops_here b bs e = rw e refl

counts_by : (m : Mark × List ℕ) (bs : List ℕ) → mark_at bs ≡ Some m → ((o : Option (Mark × List ℕ)) → o ≡ Some m → (not (is_named (codes "comment") o) && (not (is_named (codes "raw") o) && not (is_named (codes "endcomment") o))) ≡ false) → Counts bs
unfolding in_comment
counts_by m [] e h = absurd (none-some m (sym nothing_marked ∙ e))
counts_by m (b ∷ bs) e h = stops_here b bs (h (mark_at (b ∷ bs)) e)

turn_again : (again : Skips) (n : ℕ) (bs : List ℕ) (m : Mark × List ℕ) → mark_at bs ≡ Some m → Counts bs → option_and_then (past_mark again n) (mark_at (drop (run_len in_comment bs) bs)) ≡ past_mark again n m
unfolding Counts
turn_again again n bs m e c = ap (λ (l : List ℕ). option_and_then (past_mark again n) (mark_at l)) c ∙ ap (option_and_then (past_mark again n)) e

at_mark : (turns n : ℕ) (bs : List ℕ) (m : Mark × List ℕ) → mark_at bs ≡ Some m → Counts bs → comment_at (suc turns) n bs ≡ past_mark (comment_at turns) n m
unfolding comment_at
at_mark turns n bs m e c = turn_again (comment_at turns) n bs m e c

pub comment_again : {n : ℕ} {after : Bool} {bs rest : List ℕ} → IsComment n after bs rest → (turns : ℕ) → length bs ≤ turns → comment_at turns n bs ≡ Some (after, rest)
comment_again (skipped {n = n} {b = b} {bs = bs} f g h k) turns l = skip_again b bs (none_counts b bs f g h) turns n ∙ comment_again k turns (omega (arith, l))
comment_again (inner m k) zero l = absurd (omega (arith, l, mark_shorter m))
comment_again (inner {n = n} {bs = bs} m k) (suc turns) l =
    at_mark turns n bs _ (mark_again m) (counts_by _ bs (mark_again m) (λ o e. rw e refl)) ∙ comment_again k turns (omega (arith, l, mark_shorter m))
comment_again (raw_inside m r k) zero l = absurd (omega (arith, l, mark_shorter m))
comment_again (raw_inside {n = n} {bs = bs} m r k) (suc turns) l =
    at_mark turns n bs _ (mark_again m) (counts_by _ bs (mark_again m) (λ o e. rw e refl))
    ∙ ap (option_and_then (λ r. comment_at turns n r.2)) (raw_again r) ∙ comment_again k turns (omega (arith, l, mark_shorter m, raw_shorter r))
comment_again (inner_ends m k) zero l = absurd (omega (arith, l, mark_shorter m))
comment_again (inner_ends {n = n} {bs = bs} m k) (suc turns) l =
    at_mark turns (suc n) bs _ (mark_again m) (counts_by _ bs (mark_again m) (λ o e. rw e refl)) ∙ comment_again k turns (omega (arith, l, mark_shorter m))
comment_again (ends m) zero l = absurd (omega (arith, l, mark_shorter m))
comment_again (ends {bs = bs} m) (suc turns) l = at_mark turns 0 bs _ (mark_again m) (counts_by _ bs (mark_again m) (λ o e. rw e refl))
