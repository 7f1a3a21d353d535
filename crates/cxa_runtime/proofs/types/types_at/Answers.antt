use Rattle.std.proofs.Common.{◌≡◌, ◌≢◌, ◌∙◌, sym, ap, subst, refl, arith, ◌==◌, Some, None, option_map, false}
use Rattle.std.proofs.lemmas.Bool.Decides.{nat_tests}
use Rattle.personality.specs.Seen.{types_of}
use Rattle.cxa_runtime.specs.Types.{base_of, records_within}
use Rattle.cxa_runtime.proofs.Records.{ReadSoFar, read_first, read_broken, read_last, read_on, read_all}
use Rattle.cxa_runtime.proofs.types.types_at.Goals as goal

pub records-init : goal.records-init
records-init c = read_first c.args.machine.now _ c.args.address refl

pub returns-in_err-base : goal.returns-in_err-base
returns-in_err-base c =
    let s = c.args.machine.now in
    let broken : base_of s c.records.record ≡ None = sym c.base_of.ensures ∙ c.in_err-base.was {u = tt} in
    ap (option_map types_of) c.from_residual.ensures
    ∙ read_broken s (records_within 64 s c.args.address) c.records.records c.records.count c.records.record c.records-test.true c.records.invariant broken

pub returns-then-base-eq0 : goal.returns-then-base-eq0
returns-then-base-eq0 c =
    let s = c.args.machine.now in
    let last : base_of s c.records.record ≡ Some 0 = sym c.base_of.ensures ∙ c.in_ok-base.was {u = tt} ∙ ap Some c.if-base-eq0.true in
    read_last s (records_within 64 s c.args.address) c.records.records c.records.count c.records.record c.records-test.true c.records.invariant last

pub records-preserved : goal.records-preserved
records-preserved c =
    let s = c.args.machine.now in
    let base : base_of s c.records.record ≡ Some c.in_ok-base.base = sym c.base_of.ensures ∙ c.in_ok-base.was {u = tt} in
    let ne : c.in_ok-base.base ≢ 0 = c.if-base-eq0.false in
    let other : (c.in_ok-base.base == 0) ≡ false = grind (arith, nat_tests, ne) in
    read_on s (records_within 64 s c.args.address) c.records.records c.records.count c.records.record c.in_ok-base.base c.records-test.true c.records.invariant base other

pub returns : goal.returns
returns c =
    let s = c.args.machine.now in
    let all = records_within 64 s c.args.address in
    let done : c.records.count ≡ 64 = omega arith in
    read_all s all c.records.records c.records.record (subst (λ n. ReadSoFar s all c.records.records n c.records.record) done c.records.invariant)
