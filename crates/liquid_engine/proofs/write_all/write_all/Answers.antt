use Rattle.std.proofs.Common.{◌≡◌, ◌<◌, ◌++◌, None, length, take, ap, ◌∙◌, rules}
use Rattle.std.proofs.KnownBytes.{Appends-trans}
use Rattle.liquid_engine.specs.Failures.{raised}
use Rattle.liquid_engine.proofs.Added.{begun, begun_before, moves_front, none_taken_counts, taken_counts_none}
use Rattle.liquid_engine.specs.inside.Reserves.{are_limited}
use Rattle.liquid_engine.proofs.Reserves.{bytes_limited, less_then, same_left, takes_reserve}
use Rattle.liquid_engine.proofs.Taken.{TakesBytes-front}
use Rattle.liquid_engine.proofs.write_all.write_all.Goals as goal

pub loop-rest-preserved : goal.loop-rest-preserved
loop-rest-preserved g c =
    let (done, split, appended, takes) = c.loop-rest.invariant.taken in
    let rest = c.loop-rest.rest.now in
    let n = c.in-Ok.n in
    record {
      taken = (done ++ take n rest, moves_front _ done rest n split, Appends-trans _ _ _ _ _ appended c.in-Ok.ensures.bytes, TakesBytes-front done rest n _ _ _ takes c.in-Ok.ensures.bound c.in-Ok.ensures.takes);
      none_failed = taken_counts_none _ _ _ _ c.in-Ok.n-test.1 c.in-Ok.ensures.counted ∙ c.loop-rest.invariant.none_failed;
    }

pub returns-in-Ok-eq0-clause-part : goal.returns-in-Ok-eq0-clause-part
returns-in-Ok-eq0-clause-part g c =
    let (done, split, appended, takes) = c.loop-rest.invariant.taken in
    begun _ _ _ _ done c.loop-rest.rest.now c.in-Ok-eq0.field-0 split appended c.in-Ok-eq0.ensures.bytes

pub returns-in-Ok-eq0-clause-failed : goal.returns-in-Ok-eq0-clause-failed
returns-in-Ok-eq0-clause-failed g c =
    let some : 0 < length c.loop-rest.rest.now = search rules in
    let none : c.in-Ok-eq0.field-0 ≡ 0 = search rules in
    none_taken_counts c.in-Ok-eq0.field-0 (g.W.CountedWrite.failure_count c.loop-rest.writer) (g.W.CountedWrite.failure_count c.write.new.self) c.loop-rest.rest.now none some c.in-Ok-eq0.ensures.counted ∙ ap raised c.loop-rest.invariant.none_failed

pub returns-in-Err-clause-part : goal.returns-in-Err-clause-part
returns-in-Err-clause-part g c =
    let (done, split, appended, takes) = c.loop-rest.invariant.taken in
    begun_before _ _ _ _ done c.loop-rest.rest.now split appended c.in-Err.ensures.bytes

pub returns-in-Err-clause-failed : goal.returns-in-Err-clause-failed
returns-in-Err-clause-failed g c = c.in-Err.ensures.counted ∙ ap raised c.loop-rest.invariant.none_failed

pub returns-in-Ok-eq0-clause-bounded : goal.returns-in-Ok-eq0-clause-bounded
returns-in-Ok-eq0-clause-bounded g c =
    let (done, split, appended, takes) = c.loop-rest.invariant.taken in
    less_then (takes_reserve None c.in-Ok-eq0.field-0 _ _ c.in-Ok-eq0.ensures.takes.0) (takes_reserve None (length done) _ _ takes.0)

pub returns-in-Ok-eq0-clause-limited : goal.returns-in-Ok-eq0-clause-limited
returns-in-Ok-eq0-clause-limited g c =
    let (done, split, appended, takes) = c.loop-rest.invariant.taken in
    bytes_limited c.in-Ok-eq0.field-0 _ _ c.in-Ok-eq0.ensures.takes ∙ bytes_limited (length done) _ _ takes

pub returns-in-Err-clause-bounded : goal.returns-in-Err-clause-bounded
returns-in-Err-clause-bounded g c =
    let (done, split, appended, takes) = c.loop-rest.invariant.taken in
    less_then (same_left None _ _ c.in-Err.ensures.takes) (takes_reserve None (length done) _ _ takes.0)

pub returns-in-Err-clause-limited : goal.returns-in-Err-clause-limited
returns-in-Err-clause-limited g c =
    let (done, split, appended, takes) = c.loop-rest.invariant.taken in
    ap are_limited c.in-Err.ensures.takes ∙ bytes_limited (length done) _ _ takes

pub returns-clause-bounded : goal.returns-clause-bounded
returns-clause-bounded g c =
    let (done, split, appended, takes) = c.loop-rest.invariant.taken in
    takes_reserve None (length done) _ _ takes.0

pub returns-clause-limited : goal.returns-clause-limited
returns-clause-limited g c =
    let (done, split, appended, takes) = c.loop-rest.invariant.taken in
    bytes_limited (length done) _ _ takes
