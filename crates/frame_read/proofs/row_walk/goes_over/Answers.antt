use Rattle.std.proofs.Common.{◌≡◌, nat_lt, true, false, refl, ap, sym, ◌∙◌, subst, arith}
use Rattle.std.specs.Prelude.{IsSome}
use Rattle.std.proofs.lemmas.Bool.Decides.{nat_tests}
use Rattle.arrayvec.specs.ArrayVec.{array_vec_len}
use Rattle.table_forms.specs.Row.{Folding}
use Rattle.table_forms.specs.Seen.{fault_of}
use Rattle.frame_read.specs.Seen.{instruction_seen}
use Rattle.frame_read.specs.SeenRow.{folding_seen}
use Rattle.frame_read.proofs.Room.{has_room}
use Rattle.frame_read.proofs.RowWalks.{after_goes, comes_on, left_behind, left_none, left_whole}
use Rattle.frame_read.proofs.row_walk.goes_over.Goals as goal

pub returns-in-Err-clause-left : goal.returns-in-Err-clause-left
returns-in-Err-clause-left c = λ left after is.
    let inside : nat_lt c.instructions.place c.args.stop ≡ true = grind (arith, nat_tests, c.instructions-test.true) in
    let come = c.instructions.invariant.3 left after is in
    absurd (left_whole (fault_of c.in-Err.field-0) c.instructions-test.true inside c.in-Err.ensures.reads come.is)

pub returns-then-location-pc-clause-left : goal.returns-then-location-pc-clause-left
returns-then-location-pc-clause-left c = λ left after is.
    let inside : nat_lt c.instructions.place c.args.stop ≡ true = grind (arith, nat_tests, c.instructions-test.true) in
    let i = instruction_seen c.in-Ok.instruction in
    let come = c.instructions.invariant.3 left after is in
    let l = left_behind i c.in-Ok.next c.instructions-test.true inside c.in-Ok.ensures.on c.in-Ok.ensures.reads come.is in
    (come, (i, l.rest, l.first, sym c.location_after-location.ensures, c.if-location-pc.true))

pub takes-requires-clause-room : goal.takes-requires-clause-room
takes-requires-clause-room c =
    let inside : nat_lt c.instructions.place c.args.stop ≡ true = grind (arith, nat_tests, c.instructions-test.true) in
    let i = instruction_seen c.in-Ok.instruction in
    let come = c.instructions.invariant.3 c.requires.whole.0 c.requires.whole.1 c.requires.whole.2 in
    let l = left_behind i c.in-Ok.next c.instructions-test.true inside c.in-Ok.ensures.on c.in-Ok.ensures.reads come.is in
    has_room c.in-Ok.instruction (array_vec_len c.instructions.folding.states) (subst (λ o. IsSome o) (sym l.counts) refl)

pub instructions-preserved : goal.instructions-preserved
instructions-preserved c =
    let inside : nat_lt c.instructions.place c.args.stop ≡ true = grind (arith, nat_tests, c.instructions-test.true) in
    let i = instruction_seen c.in-Ok.instruction in
    let old = folding_seen c.instructions.folding in
    let low = c.if-location-pc.false in
    let moves = c.location_after-location.ensures in
    let below = c.takes.ensures.below in
    let whole = c.instructions.invariant.3 c.requires.whole.0 c.requires.whole.1 c.requires.whole.2 in
    let first = left_behind i c.in-Ok.next c.instructions-test.true inside c.in-Ok.ensures.on c.in-Ok.ensures.reads whole.is in
    let kept = c.takes.ensures.kept (subst (λ o. IsSome o) (sym first.counts) refl) in (
      c.in-Ok.ensures.inside,
      ap (λ (s : Folding). s.stopped) c.takes.ensures.seen ∙ after_goes old i ∙ c.instructions.invariant.1,
      omega (arith, low, moves, below),
      λ left after is.
          comes_on i c.in-Ok.next (array_vec_len c.takes.new.self.states) (folding_seen c.takes.new.self) c.instructions-test.true inside c.in-Ok.ensures.on c.in-Ok.ensures.reads kept
          c.instructions.invariant.1 (omega (arith, low, moves)) c.takes.ensures.seen (c.instructions.invariant.3 left after is),
    )

pub returns-clause-left : goal.returns-clause-left
returns-clause-left c = λ left after is.
    let outside : nat_lt c.instructions.place c.args.stop ≡ false = grind (arith, nat_tests, c.instructions-test.false) in
    let come = c.instructions.invariant.3 left after is in
    (come, ((left_none outside come.is).0, omega (arith, c.instructions-test.false)))
