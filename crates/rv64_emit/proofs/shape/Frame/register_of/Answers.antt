use Rattle.std.proofs.Common.{◌∙◌, ap, sym}
use Rattle.machine_forms.specs.KeptCode.{register_among}
use Rattle.machine_forms.specs.Registers.{saved_registers}
use Rattle.rv64_emit.proofs.Registered.{none_found, one_found}
use Rattle.rv64_emit.proofs.shape.Frame.register_of.Goals as goal

pub returns-in_err-place : goal.returns-in_err-place
returns-in_err-place c =
    c.from_residual.ensures ∙ (none_found saved_registers c.kept.result.now c.args.slot (sym c.place_among.ensures ∙ c.in_err-place.was)
    ∙ ap (λ ks. register_among saved_registers ks c.args.slot) c.kept.ensures)

pub returns : goal.returns
returns c =
    c.saved.ensures ∙ (one_found saved_registers c.kept.result.now c.args.slot c.in_ok-place.place (sym c.place_among.ensures ∙ c.in_ok-place.was)
    ∙ ap (λ ks. register_among saved_registers ks c.args.slot) c.kept.ensures)
