-- What an output still comes to, step after step.
use Rattle.std.proofs.Common.{◌≡◌, ℕ, ◌+◌, ◌-◌, ◌≤◌, List, [], ◌++◌, length, Option, Some, None, is_some, sym, ap, subst, ◌∙◌, String, Global}
use Rattle.std.proofs.Common.{arith}
use Rattle.std.proofs.lemmas.Bool.{true≢false}
use Rattle.std.proofs.lemmas.List.{length-append}
use Rattle.std.specs.String.{string_bytes}
use Rattle.std.specs.Option.{option_map}
use Rattle.liquid_engine.specs.Limits.{Takes, TakesBytes, TakesTurns}
use Rattle.liquid_engine.specs.inside.Reserves.{are_limited, bytes_held, limited_in, reserve_in, reserve_of}
use Rattle.liquid_engine.specs.declared.limits.Limits.{Limits}
use Rattle.liquid_engine.specs.declared.output.Output.{Output}

pub no_less : {a : ℕ} → a ≤ a
no_less = omega arith

pub less_then : {a b c : ℕ} → c ≤ b → b ≤ a → c ≤ a
less_then p q = omega (arith, p, q)

-- what is taken isn't added
pub takes_reserve : (buffer : Option (List ℕ)) (n : ℕ) (old new : Option ℕ) → Takes n old new → reserve_of buffer new ≤ reserve_of buffer old
takes_reserve buffer n None new p = subst (λ x. reserve_of buffer x ≤ 0) (sym p) (omega arith)
takes_reserve buffer n (Some left) new p =
    let less : bytes_held buffer + (left - n) ≤ bytes_held buffer + left = omega arith in
    subst (λ x. reserve_of buffer x ≤ bytes_held buffer + left) (sym p.1) less

pub same_left : (buffer : Option (List ℕ)) (old new : Limits) → new ≡ old → reserve_of buffer new.bytes ≤ reserve_of buffer old.bytes
same_left buffer old new same = subst (λ (l : Limits). reserve_of buffer l.bytes ≤ reserve_of buffer old.bytes) (sym same) no_less

-- a text that took its bytes was added
pub takes_text : (front text : List ℕ) (old new : Option ℕ) → Takes (length text) old new → reserve_of (Some (front ++ text)) new ≤ reserve_of (Some front) old
takes_text front text None new p = subst (λ x. reserve_of (Some (front ++ text)) x ≤ 0) (sym p) (omega arith)
takes_text front text (Some left) new p =
    let bound : length text ≤ left = p.0 in
    let sum : (length front + length text) + (left - length text) ≤ length front + left = omega (arith, bound) in
    subst (λ x. reserve_of (Some (front ++ text)) x ≤ length front + left) (sym p.1)
    (subst (λ k. k + (left - length text) ≤ length front + left) (sym (length-append front text)) sum)

-- what a buffer within it takes leaves it no more
pub shrinks : (buffer : Option (List ℕ)) (text : List ℕ) (old new : Option ℕ) → is_some new ≡ is_some old → reserve_of (Some text) new ≤ reserve_of (Some []) old → reserve_of buffer new ≤ reserve_of buffer old
shrinks buffer text None None same less = omega arith
shrinks buffer text None (Some more) same less = absurd (true≢false same)
shrinks buffer text (Some left) None same less = omega arith
shrinks buffer text (Some left) (Some more) same less = omega (arith, less)

takes_whether : (n : ℕ) (old new : Option ℕ) → Takes n old new → is_some new ≡ is_some old
takes_whether n None new p = ap is_some p
takes_whether n (Some left) new p = ap is_some p.1

both_limited : (a b : Limits) → is_some b.bytes ≡ is_some a.bytes → is_some b.turns ≡ is_some a.turns → are_limited b ≡ are_limited a
both_limited a b p q = λ i. (p i, q i)

pub bytes_limited : (n : ℕ) (a b : Limits) → TakesBytes n a b → are_limited b ≡ are_limited a
bytes_limited n a b p = both_limited a b (takes_whether n a.bytes b.bytes p.0) (ap is_some p.1)

pub turns_limited : (n : ℕ) (a b : Limits) → TakesTurns n a b → are_limited b ≡ are_limited a
turns_limited n a b p = both_limited a b (ap is_some p.1) (takes_whether n a.turns b.turns p.0)

module _ {W : Type 0} (left : W → Limits) (old new : Output W) where
  pub kept_reserve : new.buffer ≡ old.buffer → left new.writer.now ≡ left old.writer.now → reserve_in left new ≤ reserve_in left old
  unfolding reserve_in
  kept_reserve buffer kept =
      let same : reserve_of (option_map string_bytes new.buffer) (left new.writer.now).bytes ≡ reserve_of (option_map string_bytes old.buffer) (left old.writer.now).bytes = λ i. reserve_of (option_map string_bytes (buffer i)) (kept i).bytes in
      omega (arith, same)

  pub kept_limited : left new.writer.now ≡ left old.writer.now → limited_in left new ≡ limited_in left old
  unfolding limited_in
  kept_limited kept = ap are_limited kept

  pub held_reserve : (n : ℕ) → option_map string_bytes new.buffer ≡ option_map string_bytes old.buffer → TakesBytes n (left old.writer.now) (left new.writer.now) → reserve_in left new ≤ reserve_in left old
  unfolding reserve_in
  held_reserve n buffer p =
      subst (λ b. reserve_of b (left new.writer.now).bytes ≤ reserve_of (option_map string_bytes old.buffer) (left old.writer.now).bytes) (sym buffer)
      (takes_reserve (option_map string_bytes old.buffer) n _ _ p.0)

  pub bytes_reserve : (n : ℕ) → new.buffer ≡ old.buffer → TakesBytes n (left old.writer.now) (left new.writer.now) → reserve_in left new ≤ reserve_in left old
  bytes_reserve n buffer p = held_reserve n (ap (option_map string_bytes) buffer) p

  pub turns_reserve : (n : ℕ) → new.buffer ≡ old.buffer → TakesTurns n (left old.writer.now) (left new.writer.now) → reserve_in left new ≤ reserve_in left old
  unfolding reserve_in
  turns_reserve n buffer p =
      let same : reserve_of (option_map string_bytes new.buffer) (left new.writer.now).bytes ≡ reserve_of (option_map string_bytes old.buffer) (left old.writer.now).bytes = λ i. reserve_of (option_map string_bytes (buffer i)) (p.1 i) in
      omega (arith, same)

  pub text_reserve : (front text : List ℕ) → option_map string_bytes old.buffer ≡ Some front → option_map string_bytes new.buffer ≡ Some (front ++ text)
      → TakesBytes (length text) (left old.writer.now) (left new.writer.now) → reserve_in left new ≤ reserve_in left old
  unfolding reserve_in
  text_reserve front text before after p =
      subst (λ b. reserve_of b (left new.writer.now).bytes ≤ reserve_of (option_map string_bytes old.buffer) (left old.writer.now).bytes) (sym after)
      (subst (λ b. reserve_of (Some (front ++ text)) (left new.writer.now).bytes ≤ reserve_of b (left old.writer.now).bytes) (sym before) (takes_text front text _ _ p.0))

  pub bytes_are_limited : (n : ℕ) → TakesBytes n (left old.writer.now) (left new.writer.now) → limited_in left new ≡ limited_in left old
  unfolding limited_in
  bytes_are_limited n p = bytes_limited n _ _ p

  pub turns_are_limited : (n : ℕ) → TakesTurns n (left old.writer.now) (left new.writer.now) → limited_in left new ≡ limited_in left old
  unfolding limited_in
  turns_are_limited n p = turns_limited n _ _ p

  pub are_limited_in : are_limited (left new.writer.now) ≡ are_limited (left old.writer.now) → limited_in left new ≡ limited_in left old
  unfolding limited_in
  are_limited_in p = p

  pub none_reserve : option_map string_bytes old.buffer ≡ None → new.buffer ≡ old.buffer → reserve_of None (left new.writer.now).bytes ≤ reserve_of None (left old.writer.now).bytes → reserve_in left new ≤ reserve_in left old
  unfolding reserve_in
  none_reserve none buffer less =
      let before = subst (λ b. reserve_of None (left new.writer.now).bytes ≤ reserve_of b (left old.writer.now).bytes) (sym none) less in
      subst (λ b. reserve_of b (left new.writer.now).bytes ≤ reserve_of (option_map string_bytes old.buffer) (left old.writer.now).bytes) (sym (ap (option_map string_bytes) buffer ∙ none)) before

-- an output before its buffer is opened, with the buffer open, after the body, and with it closed
module _ {W : Type 0} (left : W → Limits) (before opened ran closed : Output W) (outer : Option (String Global)) (text : String Global) where
  pub around_limited : opened.writer ≡ before.writer → closed.writer ≡ ran.writer → limited_in left ran ≡ limited_in left opened → limited_in left closed ≡ limited_in left before
  unfolding limited_in
  around_limited writer_in writer_out same =
      ap (λ w. are_limited (left w.now)) writer_out ∙ same ∙ ap (λ w. are_limited (left w.now)) writer_in

  pub around_bounded : outer ≡ before.buffer → option_map string_bytes opened.buffer ≡ Some [] → opened.writer ≡ before.writer → ran.buffer ≡ Some text → closed.buffer ≡ outer → closed.writer ≡ ran.writer
      → limited_in left ran ≡ limited_in left opened → reserve_in left ran ≤ reserve_in left opened → reserve_in left closed ≤ reserve_in left before
  unfolding reserve_in limited_in
  around_bounded was empty writer_in holds back writer_out same less =
      let in_buffer = subst (λ b. reserve_of (option_map string_bytes b) (left ran.writer.now).bytes ≤ reserve_of (option_map string_bytes opened.buffer) (left opened.writer.now).bytes) holds less in
      let from_none = subst (λ b. reserve_of (Some (string_bytes text)) (left ran.writer.now).bytes ≤ reserve_of b (left opened.writer.now).bytes) empty in_buffer in
      let shrunk = shrinks (option_map string_bytes before.buffer) (string_bytes text) (left opened.writer.now).bytes (left ran.writer.now).bytes (ap (λ p. p.0) same) from_none in
      let over = subst (λ w. reserve_of (option_map string_bytes before.buffer) (left ran.writer.now).bytes ≤ reserve_of (option_map string_bytes before.buffer) (left w.now).bytes) writer_in shrunk in
      let after = subst (λ w. reserve_of (option_map string_bytes before.buffer) (left w.now).bytes ≤ reserve_of (option_map string_bytes before.buffer) (left before.writer.now).bytes) (sym writer_out) over in
      subst (λ b. reserve_of (option_map string_bytes b) (left closed.writer.now).bytes ≤ reserve_of (option_map string_bytes before.buffer) (left before.writer.now).bytes) (sym (back ∙ was)) after

-- the text of a buffer that was opened for a whole run, and the writer after it
module _ {W : Type 0} (left : W → Limits) (opened ran : Output W) (text : String Global) (writer : W) where
  pub text_bounded : reserve_in left ran ≤ reserve_in left opened → option_map string_bytes opened.buffer ≡ Some [] → ran.buffer ≡ Some text → writer ≡ ran.writer.now
      → reserve_of (Some (string_bytes text)) (left writer).bytes ≤ reserve_of (Some []) (left opened.writer.now).bytes
  unfolding reserve_in
  text_bounded less empty holds is =
      let in_buffer = subst (λ b. reserve_of (option_map string_bytes b) (left ran.writer.now).bytes ≤ reserve_of (option_map string_bytes opened.buffer) (left opened.writer.now).bytes) holds less in
      let from_none = subst (λ b. reserve_of (Some (string_bytes text)) (left ran.writer.now).bytes ≤ reserve_of b (left opened.writer.now).bytes) empty in_buffer in
      subst (λ w. reserve_of (Some (string_bytes text)) (left w).bytes ≤ reserve_of (Some []) (left opened.writer.now).bytes) (sym is) from_none

  pub text_limited : limited_in left ran ≡ limited_in left opened → writer ≡ ran.writer.now → are_limited (left writer) ≡ are_limited (left opened.writer.now)
  unfolding limited_in
  text_limited same is = ap (λ w. are_limited (left w)) is ∙ same
