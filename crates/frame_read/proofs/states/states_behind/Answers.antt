use Rattle.std.proofs.Common.{rules, ◌≡◌, ◌+◌, nat_lt, true, false, None, Ok, Err, ap, sym, ◌∙◌, arith}
use Rattle.std.proofs.lemmas.Bool.Decides.{nat_tests}
use Rattle.eh_bytes.specs.Memory.{part_of}
use Rattle.table_forms.specs.declared.reason.Reason.TheVariants.{StateStack}
use Rattle.table_forms.specs.Fault.{fault}
use Rattle.table_forms.specs.Seen.{fault_of}
use Rattle.frame_read.specs.Seen.{coding_seen, instruction_seen}
use Rattle.frame_read.specs.States.{states_rest}
use Rattle.frame_read.proofs.OnWay.{goes_on, ends, is_done}
use Rattle.frame_read.proofs.Stepped.{states_go, states_refused, states_fail, states_end}
use Rattle.frame_read.proofs.states.states_behind.Goals as goal

pub returns-in-Err-clause-reads : goal.returns-in-Err-clause-reads
returns-in-Err-clause-reads c =
    let co = coding_seen c.args.coding in let s = part_of c.args.segment.now in let stop = c.args.stop in let p = c.instructions.place in
    let inside : nat_lt p stop ≡ true = grind (arith, nat_tests, c.instructions-test.true) in
    ends (states_rest co s stop c.instructions.states) stop (states_rest co s stop c.args.remembered stop c.args.first) (Err (fault_of c.in-Err.e)) p c.instructions-test.true
    (λ n. states_fail co s stop c.instructions.states p n (fault_of c.in-Err.e) inside c.in-Err.ensures.reads) c.instructions.invariant.2

pub returns-in_default-clause-reads : goal.returns-in_default-clause-reads
returns-in_default-clause-reads c =
    let co = coding_seen c.args.coding in let s = part_of c.args.segment.now in let stop = c.args.stop in let p = c.instructions.place in
    let inside : nat_lt p stop ≡ true = grind (arith, nat_tests, c.instructions-test.true) in
    let none : c.states_after.result ≡ None = search rules in
    ends (states_rest co s stop c.instructions.states) stop (states_rest co s stop c.args.remembered stop c.args.first) (Err (fault StateStack (s.file_at + p))) p c.instructions-test.true
    (λ n. states_refused co s stop c.instructions.states p n (instruction_seen c.in-Ok.instruction) c.in-Ok.next inside c.in-Ok.ensures.reads
    (sym c.states_after.ensures.after ∙ none)) c.instructions.invariant.2 ∙
    ap Err (sym c.refused.ensures)

pub instructions-preserved : goal.instructions-preserved
instructions-preserved c =
    let co = coding_seen c.args.coding in let s = part_of c.args.segment.now in let stop = c.args.stop in let p = c.instructions.place in
    let inside : nat_lt p stop ≡ true = grind (arith, nat_tests, c.instructions-test.true) in (
      c.in-Ok.ensures.inside,
      c.in-Some.ensures.few,
      goes_on (states_rest co s stop c.instructions.states) (states_rest co s stop c.in-Some.kept) stop (states_rest co s stop c.args.remembered stop c.args.first) p c.in-Ok.next
          c.in-Ok.ensures.on c.instructions-test.true
          (λ n. states_go co s stop c.instructions.states p n (instruction_seen c.in-Ok.instruction) c.in-Ok.next c.in-Some.kept inside c.in-Ok.ensures.reads (sym c.in-Some.ensures.after)) c.instructions.invariant.2,
    )

pub returns-clause-reads : goal.returns-clause-reads
returns-clause-reads c =
    let co = coding_seen c.args.coding in let s = part_of c.args.segment.now in let stop = c.args.stop in let p = c.instructions.place in
    let outside : nat_lt p stop ≡ false = grind (arith, nat_tests, c.instructions-test.false) in
    is_done (states_rest co s stop c.instructions.states) stop (states_rest co s stop c.args.remembered stop c.args.first) (Ok c.instructions.states) p
    (states_end co s stop c.instructions.states p outside) c.instructions.invariant.2
