use Rattle.std.proofs.Common.{rules, ◌∙◌, sym, ap}
use Rattle.std.specs.Prelude.{option_map}
use Rattle.table_forms.specs.Seen.{fault_of}
use Rattle.rv64_isa.specs.State.{State}
use Rattle.eh_run.proofs.Runnable.{refused_before, refused_written, written_seen, has_places, below, is_loaded, loaded_lasts, ready, program_is}
use Rattle.eh_run.proofs.loading.load.Goals as goal

pub returns-in_err-image-clause-loads : goal.returns-in_err-image-clause-loads
returns-in_err-image-clause-loads c = search (rules, refused_before)

pub returns-in-Some-clause-loads : goal.returns-in-Some-clause-loads
returns-in-Some-clause-loads c =
    let (i, is, seen) = c.in_ok-image.ensures {u = tt} in
    let written = written_seen c.args.bytes.now c.in_ok-image.image i c.deref.result.now (option_map fault_of c.written_refusal.result) is seen c.deref.ensures.value c.written_refusal.ensures in
    refused_written c.args.bytes.now i (fault_of c.in-Some.refusal) c.into.result is (sym written ∙ ap (option_map fault_of) c.in-Some.is) (search rules)

pub unreachable-requires : goal.unreachable-requires
unreachable-requires c =
    let (i, is, seen) = c.in_ok-image.ensures {u = tt} in has_places c.args.bytes.now c.in_ok-image.image i is seen c.in_default-runtime.is

pub new-requires : goal.new-requires
new-requires c =
    let (i, is, seen) = c.in_ok-image.ensures {u = tt} in below c.args.bytes.now c.in_ok-image.image i is seen

pub new-requires-2 : goal.new-requires-2
new-requires-2 c = λ t e.
    let (i, is, seen) = c.in_ok-image.ensures {u = tt} in
    let loaded = is_loaded c.args.bytes.now c.in_ok-image.image i c.deref.result.now (option_map fault_of c.written_refusal.result) is seen c.deref.ensures.value c.written_refusal.ensures
    (ap (option_map fault_of) c.in_default.is) in
    let made = c.set_pc.ensures ∙ ap (λ (s : State). record s { pc = c.in_ok-image.image.elf.entry }) (c.in_ok-machine.ensures {u = tt}) in
    (loaded_lasts c.args.bytes.now c.in_ok-image.image i c.set_pc.new.self c.in_ok-image.image.elf.entry loaded made t e).0

pub invariant_of-result : goal.invariant_of-result
invariant_of-result c =
    let (i, is, seen) = c.in_ok-image.ensures {u = tt} in
    let loaded = is_loaded c.args.bytes.now c.in_ok-image.image i c.deref.result.now (option_map fault_of c.written_refusal.result) is seen c.deref.ensures.value c.written_refusal.ensures
    (ap (option_map fault_of) c.in_default.is) in
    let made = c.set_pc.ensures ∙ ap (λ (s : State). record s { pc = c.in_ok-image.image.elf.entry }) (c.in_ok-machine.ensures {u = tt}) in
    ready c.in_ok-new.field-0 c.set_pc.new.self c.in_ok-image.image.frames c.in-Some-runtime.places c.in_ok-image.image.elf.frame_header (c.in_ok-new.ensures {u = tt})
    (loaded_lasts c.args.bytes.now c.in_ok-image.image i c.set_pc.new.self c.in_ok-image.image.elf.entry loaded made)

pub returns-clause-loads : goal.returns-clause-loads
returns-clause-loads c =
    let (i, is, seen) = c.in_ok-image.ensures {u = tt} in
    let loaded = is_loaded c.args.bytes.now c.in_ok-image.image i c.deref.result.now (option_map fault_of c.written_refusal.result) is seen c.deref.ensures.value c.written_refusal.ensures
    (ap (option_map fault_of) c.in_default.is) in
    let made = c.set_pc.ensures ∙ ap (λ (s : State). record s { pc = c.in_ok-image.image.elf.entry }) (c.in_ok-machine.ensures {u = tt}) in
    program_is c.args.bytes.now c.in_ok-image.image i c.in_ok-new.field-0 c.set_pc.new.self c.in-Some-runtime.places loaded made (c.in_ok-new.ensures {u = tt}) c.in-Some-runtime.is

pub returns-clause-lasts : goal.returns-clause-lasts
returns-clause-lasts c = λ t e.
    let (i, is, seen) = c.in_ok-image.ensures {u = tt} in
    let loaded = is_loaded c.args.bytes.now c.in_ok-image.image i c.deref.result.now (option_map fault_of c.written_refusal.result) is seen c.deref.ensures.value c.written_refusal.ensures
    (ap (option_map fault_of) c.in_default.is) in
    let made = c.set_pc.ensures ∙ ap (λ (s : State). record s { pc = c.in_ok-image.image.elf.entry }) (c.in_ok-machine.ensures {u = tt}) in
    let set = ready c.in_ok-new.field-0 c.set_pc.new.self c.in_ok-image.image.frames c.in-Some-runtime.places c.in_ok-image.image.elf.frame_header (c.in_ok-new.ensures {u = tt})
    (loaded_lasts c.args.bytes.now c.in_ok-image.image i c.set_pc.new.self c.in_ok-image.image.elf.entry loaded made) in
    let stays = set.lasts t e in (c.in_ok-new.field-0.frames, stays.0, stays.1)
