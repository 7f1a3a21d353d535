use Rattle.std.proofs.Common.{◌≡◌, ℕ, nat_lt, true, false, fold, Ok, refl, ap, sym, subst, ◌∙◌, arith}
use Rattle.std.proofs.lemmas.Bool.Decides.{nat_tests}
use Rattle.eh_bytes.specs.Memory.{part_of}
use Rattle.table_forms.specs.Instructions.{instructions_at}
use Rattle.table_forms.specs.Row.{Folding, stepped}
use Rattle.table_forms.proofs.RowFold.{stepped_on, stepped_off}
use Rattle.frame_read.specs.Seen.{coding_seen, instruction_seen}
use Rattle.frame_read.specs.Plain.{plain_seen}
use Rattle.frame_read.specs.States.{list_of}
use Rattle.frame_read.proofs.Folds.{Folds, count_of, starts, whole_counts, goes_on, goes_off, goes_out}
use Rattle.frame_read.proofs.plain.goes_over.Goals as goal

pub instructions-init : goal.instructions-init
instructions-init c =
    let co = coding_seen c.args.coding in let part = part_of c.args.segment.now in
    let read = instructions_at co part c.args.stop c.args.first 0 in
    (c.requires.first, c.requires.below, starts (stepped c.args.pc) co part c.args.stop (plain_seen false c.args.plain.now) 0 c.args.first (count_of read) (whole_counts read c.requires.whole))

pub returns-then-location-pc-clause-seen : goal.returns-then-location-pc-clause-seen
returns-then-location-pc-clause-seen c =
    let inside : nat_lt c.instructions.place c.args.stop ≡ true = grind (arith, nat_tests, c.instructions-test.true) in
    let i = instruction_seen c.in-Ok.instruction in
    let s = plain_seen false c.instructions.plain in
    let above : nat_lt c.args.pc c.location_after-location.result ≡ true = grind (arith, nat_tests, c.if-location-pc.true) in
    let off = stepped_off c.args.pc s i refl (subst (λ (l : ℕ). nat_lt c.args.pc l ≡ true) c.location_after-location.ensures above) in
    sym off ∙ sym (goes_off c.args.pc i c.in-Ok.next c.instructions-test.true inside c.in-Ok.ensures.on c.in-Ok.ensures.reads (ap (λ (x : Folding). x.stopped) off) c.instructions.invariant.2)

pub instructions-preserved : goal.instructions-preserved
instructions-preserved c =
    let inside : nat_lt c.instructions.place c.args.stop ≡ true = grind (arith, nat_tests, c.instructions-test.true) in
    let i = instruction_seen c.in-Ok.instruction in
    let s = plain_seen false c.instructions.plain in
    let co = coding_seen c.args.coding in let part = part_of c.args.segment.now in
    let read = instructions_at co part c.args.stop c.args.first 0 in
    let low = c.if-location-pc.false in
    let moves = c.location_after-location.ensures in
    let went = c.if-not-takes.false in
    let below = c.takes.ensures.below went in
    let under : nat_lt c.args.pc c.location_after-location.result ≡ false = grind (arith, nat_tests, low) in
    let on = stepped_on c.args.pc s i refl (subst (λ (l : ℕ). nat_lt c.args.pc l ≡ false) moves under) in
    let goes = goes_on i c.in-Ok.next 0 c.instructions-test.true inside c.in-Ok.ensures.on c.in-Ok.ensures.reads (c.takes.ensures.none went) c.instructions.invariant.2 in (
      c.in-Ok.ensures.inside,
      omega (arith, low, moves, below),
      subst (λ (x : Folding). Folds (stepped c.args.pc) (fold (stepped c.args.pc) (plain_seen false c.args.plain.now) (list_of read)) (count_of read) co part c.args.stop x 0 c.in-Ok.next)
          (on ∙ sym (c.takes.ensures.seen went)) goes,
    )

pub returns-clause-seen : goal.returns-clause-seen
returns-clause-seen c =
    let outside : nat_lt c.instructions.place c.args.stop ≡ false = grind (arith, nat_tests, c.instructions-test.false) in
    sym (goes_out outside c.instructions.invariant.2).0

pub returns-clause-kept : goal.returns-clause-kept
returns-clause-kept c = λ goes.
    let outside : nat_lt c.instructions.place c.args.stop ≡ false = grind (arith, nat_tests, c.instructions-test.false) in
    let read = instructions_at (coding_seen c.args.coding) (part_of c.args.segment.now) c.args.stop c.args.first 0 in
    whole_counts read c.requires.whole ∙ ap Ok (goes_out outside c.instructions.invariant.2).1
