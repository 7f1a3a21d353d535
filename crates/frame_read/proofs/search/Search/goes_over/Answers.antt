use Rattle.std.proofs.Common.{◌≡◌, nat_lt, true, false, refl, sym, ◌∙◌, arith}
use Rattle.std.proofs.lemmas.Bool.Decides.{nat_tests}
use Rattle.eh_bytes.specs.Memory.{part_of}
use Rattle.table_forms.specs.Seen.{fault_of}
use Rattle.frame_read.specs.Seen.{coding_seen, instruction_seen}
use Rattle.frame_read.proofs.Searched.{begins_way, way_on, way_whole, way_out}
use Rattle.frame_read.proofs.search.Search.goes_over.Goals as goal

pub returns-in-Err-clause-seen : goal.returns-in-Err-clause-seen
returns-in-Err-clause-seen c = λ states whole.
    let inside : nat_lt c.instructions.place c.args.stop ≡ true = grind (arith, nat_tests, c.instructions-test.true) in
    absurd (way_whole (fault_of c.in-Err.field-0) c.instructions-test.true inside c.in-Err.ensures.reads (c.instructions.invariant.3 states whole))

pub instructions-init : goal.instructions-init
instructions-init c = (
  c.requires.first,
  refl,
  c.requires.low,
  λ states whole. begins_way (coding_seen c.args.coding) (part_of c.args.segment.now) c.args.stop c.args.first states c.args.self.now whole,
)

pub instructions-preserved : goal.instructions-preserved
instructions-preserved c =
    let inside : nat_lt c.instructions.place c.args.stop ≡ true = grind (arith, nat_tests, c.instructions-test.true) in (
      c.in-Ok.ensures.inside,
      c.takes.ensures.region ∙ c.instructions.invariant.1,
      c.takes.ensures.low,
      λ states whole. rw c.takes.ensures.seen (way_on (instruction_seen c.in-Ok.instruction) c.in-Ok.next c.instructions-test.true inside c.in-Ok.ensures.on c.in-Ok.ensures.reads
          (c.instructions.invariant.3 states whole)),
    )

pub returns-clause-seen : goal.returns-clause-seen
returns-clause-seen c = λ states whole.
    let outside : nat_lt c.instructions.place c.args.stop ≡ false = grind (arith, nat_tests, c.instructions-test.false) in
    sym (way_out outside (c.instructions.invariant.3 states whole))
