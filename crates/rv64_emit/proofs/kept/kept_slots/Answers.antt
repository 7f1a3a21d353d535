use Rattle.std.proofs.Common.{ap, length, map, sym}
use Rattle.std.proofs.lemmas.List.{length-map}
use Rattle.region_ir.specs.View.{slot_of}
use Rattle.landing_pads.specs.View.{linear_of}
use Rattle.machine_forms.specs.Kept.{kept_slots}
use Rattle.rv64_emit.proofs.Marking.{kept_are}
use Rattle.rv64_emit.proofs.kept.kept_slots.Goals as goal

pub returns : goal.returns
unfolding kept_slots
returns c =
    let f = c.args.function.now in
    let slots = c.as_slice-slots.result.now in
    kept_are c.truncate.new.self.items c.in_ok-kept.kept.items c.as_slice-2.result.now c.in_ok-taken.taken.items (map linear_of c.as_slice.result.now)
    (map linear_of f.ops.items) (map slot_of slots) (map slot_of f.slots.items) (length slots) c.truncate.ensures.items c.in_ok-kept.ensures
    c.as_slice-2.ensures.value c.in_ok-taken.ensures (ap (map linear_of) c.as_slice.ensures.value) (ap (map slot_of) c.as_slice-slots.ensures.value)
    (sym (length-map slots slot_of))
