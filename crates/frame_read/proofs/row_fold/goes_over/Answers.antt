use Rattle.std.proofs.Common.{◌≡◌, nat_lt, true, false, not, Ok, ap, sym, ◌∙◌, arith}
use Rattle.std.proofs.lemmas.Bool.Decides.{nat_tests}
use Rattle.eh_bytes.specs.Memory.{part_of}
use Rattle.table_forms.specs.Instructions.{instructions_at}
use Rattle.arrayvec.specs.ArrayVec.{array_vec_len}
use Rattle.table_forms.specs.Seen.{fault_of}
use Rattle.frame_read.specs.Seen.{coding_seen, instruction_seen}
use Rattle.frame_read.proofs.Folds.{whole_counts, goes_some, goes_whole, goes_on, goes_off, goes_out}
use Rattle.frame_read.proofs.row_fold.goes_over.Goals as goal

pub returns-in-Err-clause-seen : goal.returns-in-Err-clause-seen
returns-in-Err-clause-seen c =
    let inside : nat_lt c.instructions.place c.args.stop ≡ true = grind (arith, nat_tests, c.instructions-test.true) in
    absurd (goes_whole (fault_of c.in-Err.field-0) c.instructions-test.true inside c.in-Err.ensures.reads c.instructions.invariant.3)

pub returns-in-Err-clause-kept : goal.returns-in-Err-clause-kept
returns-in-Err-clause-kept c =
    let inside : nat_lt c.instructions.place c.args.stop ≡ true = grind (arith, nat_tests, c.instructions-test.true) in
    absurd (goes_whole (fault_of c.in-Err.field-0) c.instructions-test.true inside c.in-Err.ensures.reads c.instructions.invariant.3)

pub steps-requires-clause-kept : goal.steps-requires-clause-kept
steps-requires-clause-kept c =
    let inside : nat_lt c.instructions.place c.args.stop ≡ true = grind (arith, nat_tests, c.instructions-test.true) in
    goes_some (instruction_seen c.in-Ok.instruction) c.in-Ok.next c.instructions-test.true inside c.in-Ok.ensures.reads c.instructions.invariant.3

pub returns-then-not-steps-clause-seen : goal.returns-then-not-steps-clause-seen
returns-then-not-steps-clause-seen c =
    let inside : nat_lt c.instructions.place c.args.stop ≡ true = grind (arith, nat_tests, c.instructions-test.true) in
    let stopped = ap (λ s. s.stopped) (sym c.steps.ensures.seen) ∙ c.steps.ensures.stopped ∙ ap not c.if-not-steps.true in
    c.steps.ensures.seen ∙
    sym (goes_off c.args.pc (instruction_seen c.in-Ok.instruction) c.in-Ok.next c.instructions-test.true inside c.in-Ok.ensures.on c.in-Ok.ensures.reads stopped c.instructions.invariant.3)

pub instructions-preserved : goal.instructions-preserved
instructions-preserved c =
    let inside : nat_lt c.instructions.place c.args.stop ≡ true = grind (arith, nat_tests, c.instructions-test.true) in
    let on = goes_on (instruction_seen c.in-Ok.instruction) c.in-Ok.next (array_vec_len c.steps.new.self.states) c.instructions-test.true inside c.in-Ok.ensures.on c.in-Ok.ensures.reads
    (c.steps.ensures.kept c.if-not-steps.false) c.instructions.invariant.3 in (
      c.in-Ok.ensures.inside,
      c.steps.ensures.stopped ∙ ap not c.if-not-steps.false,
      c.steps.ensures.below,
      rw c.steps.ensures.seen on,
    )

pub returns-clause-seen : goal.returns-clause-seen
returns-clause-seen c =
    let outside : nat_lt c.instructions.place c.args.stop ≡ false = grind (arith, nat_tests, c.instructions-test.false) in
    sym (goes_out outside c.instructions.invariant.3).0

pub returns-clause-kept : goal.returns-clause-kept
returns-clause-kept c = λ goes.
    let outside : nat_lt c.instructions.place c.args.stop ≡ false = grind (arith, nat_tests, c.instructions-test.false) in
    let read = instructions_at (coding_seen c.args.coding) (part_of c.args.segment.now) c.args.stop c.args.first (array_vec_len c.args.folding.now.states) in
    whole_counts read c.requires.whole ∙ ap Ok (goes_out outside c.instructions.invariant.3).1
