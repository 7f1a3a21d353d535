use Rattle.std.proofs.Common.{◌∙◌, ap, subst, arith, [], ◌-◌}
use Rattle.table_forms.specs.Verdict.{native}
use Rattle.personality.specs.Seen.{types_of}
use Rattle.caught_stack.specs.Live.{header_of}
use Rattle.caught_stack.specs.Allocate.{with_header}
use Rattle.cxa_runtime.specs.declared.object.Object.{Object}
use Rattle.cxa_runtime.specs.Owed.{is_built_as}
use Rattle.cxa_runtime.specs.Objects.{is_native}
use Rattle.cxa_runtime.specs.MayBegin.{may_begin}
use Rattle.cxa_runtime.specs.Flying.{one_uncaught}
use Rattle.cxa_runtime.specs.Kept.{MakesOver}
use Rattle.cxa_runtime.specs.Raising.{raises}
use Rattle.cxa_runtime.proofs.Handlers.{thrown_may}
use Rattle.cxa_runtime.proofs.runtime.Runtime.throw_object.Goals as goal

pub take_off-requires-clause-thrown : goal.take_off-requires-clause-thrown
take_off-requires-clause-thrown c = ap (λ (o : Object). is_built_as o.header.kind) (c.thrown_object-thrown.ensures [] [])

pub raise_native-requires-clause-live : goal.raise_native-requires-clause-live
raise_native-requires-clause-live c =
    let slot = ap (λ (o : Object). o.slot) (c.thrown_object-thrown.ensures [] []) in
    ap (header_of c.take_off.new.self.exceptions.live) slot ∙ c.take_off.ensures.live

pub raise_native-requires-clause-native : goal.raise_native-requires-clause-native
raise_native-requires-clause-native c = ap (λ (o : Object). is_native o.header.kind) (c.thrown_object-thrown.ensures [] [])

pub raise_native-requires-clause-may : goal.raise_native-requires-clause-may
raise_native-requires-clause-may c =
    let old = c.args.self.now in
    let few = c.requires.fresh.few in
    let slot = ap (λ (o : Object). o.slot) (c.thrown_object-thrown.ensures [] []) in
    let new = c.take_off.new.self.exceptions in
    ap (may_begin new) slot
    ∙ thrown_may (old.turns - 1) new c.args.object.now.slot old.exceptions.uncaught (omega arith) (rw c.take_off.ensures.thrown c.requires.fresh.handlers) c.take_off.ensures.not_caught (ap (λ k. k.exceptions.uncaught) c.take_off.ensures.thrown)

pub returns-clause-made : goal.returns-clause-made
returns-clause-made c =
    let old = c.args.self.now in
    let made = c.raise_native.ensures.made old.exceptions in
    let here = subst (λ k. MakesOver (λ image w. raises image old.exceptions c.thrown_object-thrown.result (native (types_of c.args.types)) w) k c.raise_native.new.self c.raise_native.result) c.take_off.ensures.thrown made in
    subst (λ (o : Object). MakesOver (λ image w. raises image old.exceptions o (native (types_of c.args.types)) w) (record old { exceptions = one_uncaught (with_header c.args.object.now.slot o.header old.exceptions) }) c.raise_native.new.self c.raise_native.result)
    (c.thrown_object-thrown.ensures [] []) here
