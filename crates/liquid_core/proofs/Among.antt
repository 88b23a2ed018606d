-- Where a loop that was found stands.
use Rattle.std.proofs.Common.{◌≡◌, ◌<◌, ◌++◌, ◌∷◌, ◌+◌, List, [], Option, Some, None, IfSome, ℕ, get_or, map, reverse, length, take, drop, sym, ap, ◌∙◌}
use Rattle.std.proofs.lemmas.List.{append_assoc, drop_more, take-append-drop}
use Rattle.std.specs.Option.{option_map}
use Rattle.liquid_model.specs.Data.{Datum}
use Rattle.liquid_core.specs.Environment.{local_of}
use Rattle.liquid_core.specs.Held.{Outer, held}
use Rattle.liquid_core.specs.Resolved.{IsAmong, IsHeld, resolved_view}
use Rattle.liquid_core.specs.States.{loops_of, FindsLoop, IsPlain}
use Rattle.liquid_core.specs.LoopFrames.{scope_maps, frame_object}
use Rattle.liquid_core.specs.declared.resolved.Resolved.{Resolved}
use Rattle.liquid_core.specs.declared.resolved.Resolved.TheVariants.{Borrowed, Local, Loop}
use Rattle.liquid_core.specs.declared.state.State.{State}
use Rattle.liquid_core.specs.declared.frame.Scope.{Scope}
use Rattle.liquid_core.specs.declared.frame.Scope.TheVariants as variants

-- where no loop is under way, no look-up finds one
pub plain_finds_none : (s : State) (found : Option Datum) → IsPlain s → FindsLoop s found → ⊥
plain_finds_none s found plain finds = none finds.below (sym plain ∙ finds.among)
  where
    none : (below : List Scope) → [] ≡ below ++ variants.LoopFrame finds.loop ∷ finds.above → ⊥
    none [] e = cc
    none (b ∷ bs) e = cc

-- what is among the lower scopes is among all of them
wider : (scopes below above : List Scope) (outer : List Outer) (x : Resolved) → scopes ≡ below ++ above → IsAmong below outer x → IsAmong scopes outer x
wider scopes below above outer (Borrowed f) e h = tt
wider scopes below above outer (Local f) e h = tt
wider scopes below above outer (Loop frame enclosing) e h =
    (h.0 ++ above, (e ∙ ap (λ l. l ++ above) h.1.0 ∙ append_assoc enclosing.frames.now (variants.LoopFrame frame.now ∷ h.0) above, h.1.1))

each_wider : (scopes below above : List Scope) (outer : List Outer) (o : Option Resolved) → scopes ≡ below ++ above → IfSome o (IsAmong below outer) → IfSome o (IsAmong scopes outer)
each_wider scopes below above outer None e h = tt
each_wider scopes below above outer (Some x) e h = wider scopes below above outer x e h

-- what is found at a place is among all
pub found_at : (scopes : List Scope) (i : ℕ) (s d : Scope) (outer : List Outer) (o : Option Resolved) → i < length scopes → s ≡ get_or scopes i d → IfSome o (IsAmong (take i scopes ++ s ∷ []) outer) → IfSome o (IsAmong scopes outer)
found_at scopes i s d outer o within at h = each_wider scopes (take i scopes ++ s ∷ []) (drop (i + 1) scopes) outer o parts h
  where
    parts : scopes ≡ (take i scopes ++ s ∷ []) ++ drop (i + 1) scopes
    parts =
        sym (take-append-drop i scopes)
        ∙ ap (λ l. take i scopes ++ l) (drop_more scopes i d within ∙ ap (λ x. x ∷ drop (i + 1) scopes) (sym at))
        ∙ sym (append_assoc (take i scopes) (s ∷ []) (drop (i + 1) scopes))

-- a loop's object that is found is the object of a loop that is under way
pub held_unless_loop : (s : State) (x : Resolved) → IsAmong (loops_of s) s.scopes.items x → (FindsLoop s (Some (resolved_view x)) → ⊥) → IsHeld x
held_unless_loop s (Borrowed f) a none = tt
held_unless_loop s (Local f) a none = tt
held_unless_loop s (Loop frame enclosing) a none = none (record {
  loop = frame.now;
  below = enclosing.frames.now;
  above = a.0;
  among = a.1.0;
  whole = ap (λ o. Some (frame_object frame.now (local_of (scope_maps enclosing.frames.now (reverse (map held o)))))) a.1.1;
})

pub each_held : (s : State) (o : Option Resolved) (d : Option Datum) → option_map resolved_view o ≡ d → IfSome o (IsAmong (loops_of s) s.scopes.items) → (FindsLoop s d → ⊥) → IfSome o IsHeld
each_held s None d e a none = tt
each_held s (Some x) d e a none = held_unless_loop s x a (rw e none)
