-- The loop over a source's pieces, a turn at a time.
use Rattle.std.proofs.Common.{◌≡◌, ℕ, zero, suc, ◌-◌, ◌<◌, ◌≤◌, List, [], ◌∷◌, ◌++◌, length, Bool, false, Option, Some, None, refl, sym, ap, ◌∙◌, arith}
use Rattle.std.specs.Option.{option_and_then}
use Rattle.std.proofs.lemmas.List.{take-append-drop, length-append}
use Rattle.std.proofs.lemmas.Option.{none-some}
use Rattle.liquid_model.specs.Bytes.{plain}
use Rattle.liquid_model.specs.Words.{passes}
use Rattle.liquid_lexer.specs.ValueReading.{text_at}
use Rattle.liquid_model.specs.Front.{run_len, past_byte}
use Rattle.liquid_lexer.specs.Pieces.{Piece, stripped}
use Rattle.liquid_lexer.specs.SourceReading.{Markup, markup_at, body_at, wanted_body, text_step, Goes, marked, turn, source_at}
use Rattle.liquid_lexer.specs.declared.piece.Body.{Body}
use Rattle.liquid_model.proofs.WordLaws.{byte_some, byte_again, run_stops}
use Rattle.liquid_lexer.proofs.SourceLaws.{not_plain, body_takes, markup_shorter}
use Rattle.liquid_lexer.specs.declared.style.Style.{Style}

nothing_after : (following : List ℕ) → passes plain following ≡ false → past_byte 123 following ≡ None → following ≡ []
nothing_after [] s h = refl
nothing_after (b ∷ bs) s h = absurd (none-some bs (sym h ∙ ap (λ (c : ℕ). past_byte 123 (c ∷ bs)) (not_plain b bs s) ∙ byte_again 123 bs))

-- the text `t` up to the leftmost opener of bs, and what stands after it
module _ (bs t following : List ℕ) (cut : (t, following) ≡ text_at bs) where
  following_stops : passes plain following ≡ false
  following_stops = ap (λ (x : List ℕ × List ℕ). passes plain x.1) cut ∙ run_stops plain bs

  following_shorter : length following ≤ length bs
  following_shorter =
      let l = ap (λ (x : List ℕ × List ℕ). length (x.0 ++ x.1)) cut ∙ ap (length {A = ℕ}) (take-append-drop (run_len plain bs) bs) in
      omega (arith, l, length-append t following)

  module _ {S : Type 0} (style : List ℕ → Style) (wants : S → List ℕ → Option Body) (step : S → Piece → Option S) (n : ℕ) (front : Bool) (s : S) where
    a_turn : (again : Goes style wants step) × (source_at style wants step n front s bs ≡ turn style wants step again front s (t, following)) × (0 < n → again ≡ source_at style wants step (n - 1))
    unfolding source_at
    a_turn = by_bound n
      where
        by_bound : (n : ℕ) → (again : Goes style wants step) × (source_at style wants step n front s bs ≡ turn style wants step again front s (t, following)) × (0 < n → again ≡ source_at style wants step (n - 1))
        by_bound zero = ((λ front s bs. None), ap (turn style wants step (λ front s bs. None) front s) (sym cut), λ h. absurd (omega (arith, h)))
        by_bound (suc n) = (source_at style wants step n, ap (turn style wants step (source_at style wants step n) front s) (sym cut), λ h. ap (source_at style wants step) (omega arith))

    -- no opener follows: the text is the last piece
    pub last_turn : past_byte 123 following ≡ None → source_at style wants step n front s bs ≡ text_step step (stripped front t false) s
    last_turn h = a_turn.1 ∙ ap (λ (l : List ℕ). turn style wants step a_turn.0 front s (t, l)) (nothing_after following following_stops h)

    module _ (inside : List ℕ) (opened : past_byte 123 following ≡ Some inside) where
      at_markup : (o : Option (Markup × List ℕ)) → markup_at style inside ≡ o
          → source_at style wants step n front s bs ≡ option_and_then (λ m. option_and_then (λ now. marked style wants step a_turn.0 now m) (text_step step (stripped front t m.0.before) s)) o
      at_markup o e =
          a_turn.1 ∙ ap (λ (l : List ℕ). turn style wants step a_turn.0 front s (t, l)) (byte_some 123 following inside opened)
          ∙ ap (option_and_then (λ m. option_and_then (λ now. marked style wants step a_turn.0 now m) (text_step step (stripped front t m.0.before) s))) e

      -- no output and no tag is read after the opener
      pub no_markup : markup_at style inside ≡ None → source_at style wants step n front s bs ≡ None
      no_markup h = at_markup None h

      module _ (m : Markup × List ℕ) (found : markup_at style inside ≡ Some m) where
        at_text : (o : Option S) → text_step step (stripped front t m.0.before) s ≡ o → source_at style wants step n front s bs ≡ option_and_then (λ now. marked style wants step a_turn.0 now m) o
        at_text o e = at_markup (Some m) found ∙ ap (option_and_then (λ now. marked style wants step a_turn.0 now m)) e

        -- the text is refused
        pub no_text : text_step step (stripped front t m.0.before) s ≡ None → source_at style wants step n front s bs ≡ None
        no_text h = at_text None h

        module _ (now : S) (texted : text_step step (stripped front t m.0.before) s ≡ Some now) where
          at_body : (o : Option (Markup × List ℕ)) → body_at (wanted_body (wants now) m.0.piece) m.0 m.1 ≡ o
              → source_at style wants step n front s bs ≡ option_and_then (λ whole. option_and_then (λ next. a_turn.0 whole.0.after next whole.1) (step now whole.0.piece)) o
          at_body o e = at_text (Some now) texted ∙ ap (option_and_then (λ whole. option_and_then (λ next. a_turn.0 whole.0.after next whole.1) (step now whole.0.piece))) e

          -- a body without its end
          pub no_body : body_at (wanted_body (wants now) m.0.piece) m.0 m.1 ≡ None → source_at style wants step n front s bs ≡ None
          no_body h = at_body None h

          module _ (whole : Markup × List ℕ) (closed : body_at (wanted_body (wants now) m.0.piece) m.0 m.1 ≡ Some whole) where
            at_step : (o : Option S) → step now whole.0.piece ≡ o → source_at style wants step n front s bs ≡ option_and_then (λ next. a_turn.0 whole.0.after next whole.1) o
            at_step o e = at_body (Some whole) closed ∙ ap (option_and_then (λ next. a_turn.0 whole.0.after next whole.1)) e

            -- the piece is refused
            pub no_step : step now whole.0.piece ≡ None → source_at style wants step n front s bs ≡ None
            no_step h = at_step None h

            pub turn_shorter : length whole.1 < length bs
            turn_shorter =
                let b = ap (length {A = ℕ}) (byte_some 123 following inside opened) in
                let c = markup_shorter style (body_takes style (wants now) inside m whole found closed) in
                omega (arith, following_shorter, b, c)

            -- the piece is taken
            pub next_turn : length bs ≤ n → (next : S) → step now whole.0.piece ≡ Some next → source_at style wants step n front s bs ≡ source_at style wants step (n - 1) whole.0.after next whole.1
            next_turn l next h =
                let some : 0 < n = omega (arith, l, turn_shorter) in
                at_step (Some next) h ∙ ap (λ (again : Goes style wants step). again whole.0.after next whole.1) (a_turn.2 some)
