-- How what was added is put together, and an output around a buffer.
use Rattle.std.proofs.Common.{◌≡◌, ℕ, List, [], ◌++◌, Option, Some, IsSome, is_some, refl, sym, ap, subst, ◌∙◌, append_assoc, String, Global, string_bytes}
use Rattle.std.specs.Io.KnownBytes.{Appends}
use Rattle.std.proofs.KnownBytes.{Appends-trans, Appends-nil}
use Rattle.std.specs.Option.{option_map}
use Rattle.liquid_engine.specs.Sinks.{Sink, sink_of, growing_contents, held_in, Adds, AddsPart}
use Rattle.liquid_engine.specs.declared.output.Output.{Output}

pub Adds-nil : (s : Sink) → Adds s s []
Adds-nil s = record { added = Appends-nil (growing_contents s); same_place = refl; unwritten = λ _. refl }

IsSome-same : {A : Type 0} (a b : Option A) → is_some b ≡ is_some a → IsSome a → IsSome b
IsSome-same a b e h = cc

pub Adds-trans : (s t u : Sink) (xs ys : List ℕ) → Adds s t xs → Adds t u ys → Adds s u (xs ++ ys)
Adds-trans s t u xs ys p q = record {
  added = Appends-trans (growing_contents s) (growing_contents t) (growing_contents u) xs ys p.added q.added;
  same_place = q.same_place ∙ p.same_place;
  unwritten = λ inside. q.unwritten (IsSome-same s.buffer t.buffer p.same_place inside) ∙ p.unwritten inside;
}

pub AddsPart-after : (s t u : Sink) (xs ys : List ℕ) → Adds s t xs → AddsPart t u ys → AddsPart s u (xs ++ ys)
AddsPart-after s t u xs ys p q = record {
  front = xs ++ q.front;
  rest = q.rest;
  whole = append_assoc xs q.front q.rest ∙ ap (λ l. xs ++ l) q.whole;
  adds = Adds-trans s t u xs q.front p q.adds;
}

pub AddsPart-longer : (s t : Sink) (xs ys : List ℕ) → AddsPart s t xs → AddsPart s t (xs ++ ys)
AddsPart-longer s t xs ys p = record {
  front = p.front;
  rest = p.rest ++ ys;
  whole = sym (append_assoc p.front p.rest ys) ∙ ap (λ l. l ++ ys) p.whole;
  adds = p.adds;
}

-- nothing is a beginning of any text
pub AddsPart-none : (s : Sink) (xs : List ℕ) → AddsPart s s xs
AddsPart-none s xs = record { front = []; rest = xs; whole = refl; adds = Adds-nil s }

-- an output as it was
pub Adds-same : (s u : Sink) → u.buffer ≡ s.buffer → u.contents ≡ s.contents → Adds s u []
Adds-same s u b k = record {
  added = subst (λ v. Appends (growing_contents s) v []) (ap (λ x. held_in x s.contents) (sym b) ∙ ap (held_in u.buffer) (sym k)) (Appends-nil (growing_contents s));
  same_place = ap is_some b;
  unwritten = λ inside. k;
}

-- s before a buffer is opened, p with the empty buffer, q after the body, u with the buffer closed
pub record Around (s p q u : Sink) (text : List ℕ) : Type 0 where
  pub opened : p.buffer ≡ Some []
  pub closed : q.buffer ≡ Some text
  pub back : u.buffer ≡ s.buffer
  pub contents_in : p.contents ≡ s.contents
  pub contents_out : u.contents ≡ q.contents
  pub failures_in : p.failures ≡ s.failures
  pub failures_out : u.failures ≡ q.failures

-- an output before its buffer is opened, with the buffer open, after the body, and with it closed
pub around_buffer : {W : Type 0} (contents : W → Option (List ℕ)) (failure_count : W → ℕ) (before opened ran closed : Output W) (outer : Option (String Global)) (text : String Global)
    → outer ≡ before.buffer → option_map string_bytes opened.buffer ≡ Some [] → opened.writer ≡ before.writer → ran.buffer ≡ Some text → closed.buffer ≡ outer → closed.writer ≡ ran.writer
    → Around (sink_of contents failure_count before) (sink_of contents failure_count opened) (sink_of contents failure_count ran) (sink_of contents failure_count closed) (string_bytes text)
around_buffer contents failure_count before opened ran closed outer text was empty writer_in holds back writer_out = record {
  opened = empty;
  closed = ap (option_map string_bytes) holds;
  back = ap (option_map string_bytes) (back ∙ was);
  contents_in = ap (λ w. contents w.now) writer_in;
  contents_out = ap (λ w. contents w.now) writer_out;
  failures_in = ap (λ w. failure_count w.now) writer_in;
  failures_out = ap (λ w. failure_count w.now) writer_out;
}

IsSome-of : {A : Type 0} (o : Option A) (x : A) → o ≡ Some x → IsSome o
IsSome-of o x e = ap is_some e

pub around-adds : (s p q u : Sink) (text front : List ℕ) → Around s p q u text → Adds p q front → Adds s u []
around-adds s p q u text front around a =
    let inside = a.unwritten (IsSome-of p.buffer [] around.opened) in
    Adds-same s u around.back (around.contents_out ∙ inside ∙ around.contents_in)

pub around-text : (s p q u : Sink) (text front : List ℕ) → Around s p q u text → Adds p q front → text ≡ front
around-text s p q u text front around a =
    let there = subst (λ b. Appends (held_in b p.contents) (growing_contents q) front) around.opened a.added in
    subst (λ b. Appends (Some []) (held_in b q.contents) front) around.closed there

pub part-of_none : (s u : Sink) (text : List ℕ) → Adds s u [] → AddsPart s u text
part-of_none s u text a = record { front = []; rest = text; whole = refl; adds = a }
