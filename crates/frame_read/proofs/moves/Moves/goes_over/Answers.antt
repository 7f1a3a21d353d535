use Rattle.std.proofs.Common.{◌≡◌, nat_lt, true, false, refl, ◌∙◌, arith}
use Rattle.std.proofs.lemmas.Bool.Decides.{nat_tests}
use Rattle.eh_bytes.specs.Memory.{part_of}
use Rattle.table_forms.specs.Seen.{fault_of}
use Rattle.frame_read.specs.Seen.{coding_seen, instruction_seen}
use Rattle.frame_read.proofs.Moved.{pass_begins, pass_on, pass_whole, pass_ends}
use Rattle.frame_read.proofs.moves.Moves.goes_over.Goals as goal

pub returns-in-Err-clause-moves : goal.returns-in-Err-clause-moves
returns-in-Err-clause-moves c = λ location states after left at is.
    let inside : nat_lt c.instructions.place c.args.stop ≡ true = grind (arith, nat_tests, c.instructions-test.true) in
    absurd (pass_whole (fault_of c.in-Err.field-0) c.instructions-test.true inside c.in-Err.ensures.reads (c.instructions.invariant.3 location states after left at is))

pub instructions-init : goal.instructions-init
instructions-init c = (
  c.requires.first,
  refl,
  c.requires.low,
  λ location states after left at is. pass_begins (coding_seen c.args.coding) (part_of c.args.segment.now) c.args.stop states c.args.first c.args.self.now location left after at is,
)

pub instructions-preserved : goal.instructions-preserved
instructions-preserved c =
    let inside : nat_lt c.instructions.place c.args.stop ≡ true = grind (arith, nat_tests, c.instructions-test.true) in (
      c.in-Ok.ensures.inside,
      c.takes.ensures.region ∙ c.instructions.invariant.1,
      c.in_ok-takes-in-Ok.ensures.low,
      λ location states after left at is.
          pass_on (instruction_seen c.in-Ok.instruction) c.in-Ok.next c.takes.new.self c.instructions-test.true inside c.in-Ok.ensures.on c.in-Ok.ensures.reads c.instructions.invariant.1
          c.in_ok-takes-in-Ok.ensures.moves (c.instructions.invariant.3 location states after left at is),
    )

pub returns-clause-moves : goal.returns-clause-moves
returns-clause-moves c = λ location states after left at is.
    let outside : nat_lt c.instructions.place c.args.stop ≡ false = grind (arith, nat_tests, c.instructions-test.false) in
    pass_ends outside (c.instructions.invariant.3 location states after left at is)
