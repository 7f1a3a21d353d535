use Rattle.std.proofs.Common.{rules, ◌≡◌, ◌+◌, drop, get_or, Some, None, sym, ◌∙◌, arith}
use Rattle.std.proofs.lemmas.List.{drop_all, length-set}
use Rattle.table_forms.specs.declared.found.Rule.TheVariants as found
use Rattle.frame_walk.specs.Registers.{register_of}
use Rattle.frame_walk.proofs.Rules.{are_changed, unchanged, next_left, one_set, all_set, not_read, small_at}
use Rattle.frame_walk.proofs.registers.registers_of.Goals as goal

pub changed-init : goal.changed-init
changed-init c =
    let regs = c.args.regs.now in (
      length-set regs 2 c.args.cfa ∙ c.told-regs,
      unchanged c.args.machine.now c.args.cfa regs c.args.rules.now c.args.changed.now c.told-regs (are_changed c.args.rules.now c.args.changed.now c.requires),
    )

pub bounds-rules-number : goal.bounds-rules-number
bounds-rules-number c = small_at c.args.rules.now c.args.changed.now c.changed.at c.requires c.changed-test.true

pub bounds-outward-number : goal.bounds-outward-number
bounds-outward-number c = small_at c.args.rules.now c.args.changed.now c.changed.at c.requires c.changed-test.true

pub returns-in_err-outward : goal.returns-in_err-outward
returns-in_err-outward c =
    let number = get_or c.args.changed.now c.changed.at 0 in
    let many = c.told-rules in let small = small_at c.args.rules.now c.args.changed.now c.changed.at c.requires c.changed-test.true in
    let none : c.from_residual.result ≡ None = search rules in
    let read : register_of c.args.machine.now c.args.cfa c.args.regs.now number (get_or c.args.rules.now number found.Unspecified) ≡ None = search rules in
    none ∙ sym (not_read c.args.machine.now c.args.cfa c.args.regs.now c.args.rules.now number (omega (arith, many, small)) read)

pub changed-preserved : goal.changed-preserved
changed-preserved c =
    let all = c.args.changed.now in let number = get_or all c.changed.at 0 in
    let small = small_at c.args.rules.now all c.changed.at c.requires c.changed-test.true in
    let read : register_of c.args.machine.now c.args.cfa c.args.regs.now number (get_or c.args.rules.now number found.Unspecified) ≡ Some c.in_ok-outward.field-0 = search rules in (
      length-set c.changed.outward number c.in_ok-outward.field-0 ∙ c.changed.invariant.0,
      one_set c.args.machine.now c.args.cfa c.args.regs.now c.args.rules.now (drop c.changed.at all) (drop (c.changed.at + 1) all) c.changed.outward number c.in_ok-outward.field-0 c.changed.invariant.0 small
          (next_left all c.changed.at 0 c.changed-test.true) read c.changed.invariant.1,
    )

pub returns : goal.returns
returns c =
    let all = c.args.changed.now in let ended = c.changed-test.false in
    sym (all_set c.args.machine.now c.args.cfa c.args.regs.now c.args.rules.now (drop c.changed.at all) c.changed.outward c.told-rules c.changed.invariant.0
    (drop_all c.changed.at all ended) c.changed.invariant.1)
