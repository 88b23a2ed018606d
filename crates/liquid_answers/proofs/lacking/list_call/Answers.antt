use Rattle.liquid_answers.proofs.Listed.{listed_more}
use Rattle.liquid_answers.proofs.lacking.list_call.Goals.{then-may_add+in_ok-add, else-may_add+in-Text-1, else-may_add+in-Array-1, else-may_add+in-Object-1, else-may_add+in-Nil-1}
use Rattle.liquid_answers.proofs.lacking.list_call.Goals as goal

pub returns-clause-listed : goal.returns-clause-listed
returns-clause-listed c = λ are. elim c.if-may_add.branch [
  | then-may_add+in_ok-add w ↦
      let may = c.may_add.ensures in
      rw w.listed-is (listed_more c.args.table.now c.args.listed.now w.add.new.self c.args.call are w.in_ok-add.ensures.calls w.in_ok-add.ensures.text (may.few w.if-may_add.true) (may.bytes w.if-may_add.true) (may.after w.if-may_add.true) (may.lacking w.if-may_add.true))
  | else-may_add+in-Text-1 w ↦ rw w.listed-is are
  | else-may_add+in-Array-1 w ↦ rw w.listed-is are
  | else-may_add+in-Object-1 w ↦ rw w.listed-is are
  | else-may_add+in-Nil-1 w ↦ rw w.listed-is are
]
