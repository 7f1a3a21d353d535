use Rattle.std.proofs.Common.{◌≡◌, nat_lt, true, false, Ok, Err, arith}
use Rattle.std.proofs.lemmas.Bool.Decides.{nat_tests}
use Rattle.eh_bytes.specs.Memory.{part_of}
use Rattle.table_forms.specs.Seen.{fault_of}
use Rattle.frame_read.specs.Seen.{instruction_seen}
use Rattle.frame_read.proofs.OnWay.{goes_on, ends, is_done}
use Rattle.debug_frames.proofs.Walked.{walk_rest, walk_fails, walk_more, walk_end}
use Rattle.debug_frames.proofs.fde.walked.Goals as goal

pub returns-in-Err : goal.returns-in-Err
returns-in-Err c =
    let s = part_of c.args.section.now in let stop = c.args.stop in let p = c.instructions.place in
    let inside : nat_lt p stop ≡ true = grind (arith, nat_tests, c.instructions-test.true) in
    ends (walk_rest s stop) stop (walk_rest s stop stop c.args.first) (Err (fault_of c.in-Err.e)) p c.instructions-test.true
    (λ n. walk_fails s stop p n (fault_of c.in-Err.e) inside c.in-Err.ensures.reads) c.instructions.invariant.1

pub instructions-preserved : goal.instructions-preserved
instructions-preserved c =
    let s = part_of c.args.section.now in let stop = c.args.stop in let p = c.instructions.place in
    let inside : nat_lt p stop ≡ true = grind (arith, nat_tests, c.instructions-test.true) in (
      c.in-Ok.ensures.inside,
      goes_on (walk_rest s stop) (walk_rest s stop) stop (walk_rest s stop stop c.args.first) p c.in-Ok.next
          c.in-Ok.ensures.on c.instructions-test.true
          (λ n. walk_more s stop p n (instruction_seen c.in-Ok.field-0-0) c.in-Ok.next inside c.in-Ok.ensures.reads) c.instructions.invariant.1,
    )

pub returns : goal.returns
returns c =
    let s = part_of c.args.section.now in let stop = c.args.stop in let p = c.instructions.place in
    let outside : nat_lt p stop ≡ false = grind (arith, nat_tests, c.instructions-test.false) in
    is_done (walk_rest s stop) stop (walk_rest s stop stop c.args.first) (Ok true) p (walk_end s stop p outside) c.instructions.invariant.1
