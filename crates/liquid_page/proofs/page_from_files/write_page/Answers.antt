-- What a page that is written through a buffer leaves at the writer.
use Rattle.std.proofs.Common.{◌≡◌, [], false, sym, subst, ◌∙◌}
use Rattle.liquid_engine.specs.Performs.{is_refused}
use Rattle.std.specs.Io.KnownBytes.{Keeps, append_known}
use Rattle.liquid_files.specs.Buffering.{buffered_contents}
use Rattle.liquid_page.specs.Written.{IsBegun, IsPageWritten}
use Rattle.liquid_page_texts.specs.Page.{PageTexts, sources_of}
use Rattle.liquid_page.proofs.Begun.{after_begun, after_success, after_written, refused_write}
use Rattle.liquid_page.proofs.page_from_files.write_page.Goals as goal
use Rattle.liquid_page.proofs.page_from_files.write_page.Goals.{in-Ok-answer, in-Err-answer, in-Ok-flushed, in-Err-flushed}

-- src/page_from_files.rt:140:1
pub returns-clause-begun : goal.returns-clause-begun
returns-clause-begun g c =
    let contents = g.W.Write.contents in
    let texts : PageTexts = record { template = c.args.template.now; «data» = c.args.«data».now; partials = sources_of c.args.partials.now } in
    let start = subst (λ b. Keeps (contents c.args.writer) (buffered_contents contents b)) (sym c.new-counted.ensures.writer) c.in-Ok.ensures.held in
    let flushed : Keeps (buffered_contents contents c.into_inner-buffered.result) (buffered_contents contents c.match-answer.buffered) =
    elim c.match-answer.branch [
      | in-Ok-answer w ↦ subst (λ b. Keeps (buffered_contents contents c.into_inner-buffered.result) (buffered_contents contents b)) (sym w.buffered-is) w.flush-flushed.ensures.bytes
      | in-Err-answer w ↦ subst (λ b. Keeps (buffered_contents contents c.into_inner-buffered.result) (buffered_contents contents b)) (sym w.buffered-is) w.flush_buffer-flushed.ensures.bytes
    ] in
    let kept = subst (λ b. Keeps (buffered_contents contents b) (buffered_contents contents c.match-answer.buffered)) c.into_inner-buffered.ensures flushed in
    subst (λ w. IsBegun texts (contents c.args.writer) (contents w)) (sym c.into_inner.ensures) (after_begun texts _ _ _ _ _ c.match-answer.buffered.held.items start c.run_without_cleanup-answer.ensures.page kept)

-- src/page_from_files.rt:183:1
pub returns-clause-page : goal.returns-clause-page
returns-clause-page g c within =
    let contents = g.W.Write.contents in
    let texts : PageTexts = record { template = c.args.template.now; «data» = c.args.«data».now; partials = sources_of c.args.partials.now } in
    let start = subst (λ b. Keeps (contents c.args.writer) (buffered_contents contents b)) (sym c.new-counted.ensures.writer) c.in-Ok.ensures.held in
    elim c.match-flushed.branch [
      | in-Ok-flushed w ↦
          let done = buffered_contents contents c.into_inner-buffered.result in
          let kept : Keeps (buffered_contents contents c.into_inner-buffered.result) (append_known (contents c.match-answer.buffered.writer) []) =
          elim c.match-answer.branch [
            | in-Ok-answer v ↦ subst (λ b. Keeps done (append_known (contents b.writer) [])) (sym v.buffered-is)
                (subst (λ xs. Keeps done (append_known (contents v.flush-flushed.new.self.writer) xs)) (after_success _ _ (sym v.flushed-is ∙ w.in-Ok-flushed.is) v.flush-flushed.ensures.empty) v.flush-flushed.ensures.bytes)
            | in-Err-answer v ↦ subst (λ b. Keeps done (append_known (contents b.writer) [])) (sym v.buffered-is)
                (subst (λ xs. Keeps done (append_known (contents v.flush_buffer-flushed.new.self.writer) xs)) (after_success _ _ (sym v.flushed-is ∙ w.in-Ok-flushed.is) v.flush_buffer-flushed.ensures.empty) v.flush_buffer-flushed.ensures.bytes)
          ] in
          subst (λ r. IsPageWritten texts r (contents c.args.writer) (contents c.into_inner.result)) (sym w.answer2-is)
          (subst (λ x. IsPageWritten texts c.run_without_cleanup-answer.result (contents c.args.writer) (contents x)) (sym c.into_inner.ensures)
          (after_written texts _ _ _ _ _ start c.run_without_cleanup-answer.ensures.page (subst (λ b. Keeps (buffered_contents contents b) (append_known (contents c.match-answer.buffered.writer) [])) c.into_inner-buffered.ensures kept) (subst (λ r. is_refused r ≡ false) w.answer2-is within)))
      | in-Err-flushed w ↦ absurd (refused_write w.new-in-Err-flushed.result.kind w.new-in-Err-flushed.ensures.kind_or_memory (subst (λ r. is_refused r ≡ false) w.answer2-is within))
    ]
