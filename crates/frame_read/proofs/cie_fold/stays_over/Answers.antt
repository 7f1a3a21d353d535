use Rattle.std.proofs.Common.{◌≡◌, nat_lt, true, false, refl, ap, sym, ◌∙◌, subst, arith}
use Rattle.std.specs.Prelude.{IsSome}
use Rattle.std.proofs.lemmas.Bool.Decides.{nat_tests}
use Rattle.arrayvec.specs.ArrayVec.{array_vec_len}
use Rattle.eh_bytes.specs.Memory.{part_of}
use Rattle.table_forms.specs.Row.{Folding}
use Rattle.table_forms.specs.Seen.{fault_of}
use Rattle.frame_read.specs.Seen.{coding_seen, instruction_seen}
use Rattle.frame_read.specs.SeenRow.{folding_seen}
use Rattle.frame_read.proofs.Room.{has_room}
use Rattle.frame_read.proofs.RowWalks.{after_goes, left_behind}
use Rattle.frame_read.proofs.Stays.{stay_begins, stay_on, stay_ends, stay_not, stay_whole, stays_at}
use Rattle.frame_read.proofs.cie_fold.stays_over.Goals as goal

pub instructions-init : goal.instructions-init
instructions-init c = (
  c.requires.first,
  c.requires.goes,
  c.requires.low,
  λ left behind is. stay_begins (coding_seen c.args.coding) (part_of c.args.segment.now) c.args.stop (array_vec_len c.args.folding.now.states) c.args.first (folding_seen c.args.folding.now) left behind is,
)

pub takes-requires-clause-low : goal.takes-requires-clause-low
takes-requires-clause-low c =
    let same = stays_at (instruction_seen c.in-Ok.instruction) c.instructions.folding.location (sym c.stays.ensures ∙ c.if-not-stays.false) in
    let small = c.instructions.invariant.2 in
    omega (arith, same, small)

pub takes-requires-clause-room : goal.takes-requires-clause-room
takes-requires-clause-room c =
    let inside : nat_lt c.instructions.place c.args.stop ≡ true = grind (arith, nat_tests, c.instructions-test.true) in
    let i = instruction_seen c.in-Ok.instruction in
    let whole = c.instructions.invariant.3 c.requires.whole.0 c.requires.whole.1 c.requires.whole.2 in
    let first = left_behind i c.in-Ok.next c.instructions-test.true inside c.in-Ok.ensures.on c.in-Ok.ensures.reads whole.is in
    has_room c.in-Ok.instruction (array_vec_len c.instructions.folding.states) (subst (λ o. IsSome o) (sym first.counts) refl)

pub instructions-preserved : goal.instructions-preserved
instructions-preserved c =
    let inside : nat_lt c.instructions.place c.args.stop ≡ true = grind (arith, nat_tests, c.instructions-test.true) in
    let i = instruction_seen c.in-Ok.instruction in
    let old = folding_seen c.instructions.folding in
    let stay = sym c.stays.ensures ∙ c.if-not-stays.false in
    let whole = c.instructions.invariant.3 c.requires.whole.0 c.requires.whole.1 c.requires.whole.2 in
    let first = left_behind i c.in-Ok.next c.instructions-test.true inside c.in-Ok.ensures.on c.in-Ok.ensures.reads whole.is in
    let same = stays_at i c.instructions.folding.location stay in
    let small = c.instructions.invariant.2 in
    let below = c.takes.ensures.below in
    let kept = c.takes.ensures.kept (subst (λ o. IsSome o) (sym first.counts) refl) in (
      c.in-Ok.ensures.inside,
      ap (λ (s : Folding). s.stopped) c.takes.ensures.seen ∙ after_goes old i ∙ c.instructions.invariant.1,
      omega (arith, same, small, below),
      λ left behind is.
          stay_on i c.in-Ok.next (array_vec_len c.takes.new.self.states) (folding_seen c.takes.new.self) c.instructions-test.true inside c.in-Ok.ensures.on c.in-Ok.ensures.reads kept stay
          c.takes.ensures.seen (c.instructions.invariant.3 left behind is),
    )

pub returns-clause-over : goal.returns-clause-over
returns-clause-over c = λ all left behind is.
    let outside : nat_lt c.instructions.place c.args.stop ≡ false = grind (arith, nat_tests, c.instructions-test.false) in
    stay_ends outside (c.instructions.invariant.3 left behind is)

pub returns-in-Err-clause-moves : goal.returns-in-Err-clause-moves
returns-in-Err-clause-moves c = λ e left behind is stay.
    let inside : nat_lt c.instructions.place c.args.stop ≡ true = grind (arith, nat_tests, c.instructions-test.true) in
    stay_whole (fault_of c.in-Err.field-0) c.instructions-test.true inside c.in-Err.ensures.reads (c.instructions.invariant.3 left behind is)

pub returns-then-not-stays-clause-moves : goal.returns-then-not-stays-clause-moves
returns-then-not-stays-clause-moves c = λ e left behind is stay.
    let inside : nat_lt c.instructions.place c.args.stop ≡ true = grind (arith, nat_tests, c.instructions-test.true) in
    stay_not (instruction_seen c.in-Ok.instruction) c.in-Ok.next c.instructions-test.true inside c.in-Ok.ensures.on c.in-Ok.ensures.reads (sym c.stays.ensures ∙ c.if-not-stays.true)
    (c.instructions.invariant.3 left behind is) stay
