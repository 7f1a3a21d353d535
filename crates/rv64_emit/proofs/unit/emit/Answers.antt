use Rattle.std.proofs.Common.{◌≡◌, ◌∙◌, ◌+◌, ap, length, map, refl, subst, sym, arith}
use Rattle.std.proofs.lemmas.List.{length-map}
use Rattle.eh_bytes.specs.Listed.{listed_function}
use Rattle.region_ir.specs.View.{row_of}
use Rattle.landing_pads.specs.View.{code_of, unit_view}
use Rattle.machine_forms.specs.Emitted.{function_routine, listed_type, unit_routines}
use Rattle.machine_forms.specs.Routine.{all_words, listed_routines}
use Rattle.rv64_emit.specs.Body.{AllStandFor}
use Rattle.rv64_emit.specs.Places.{HasTargets}
use Rattle.rv64_emit.specs.declared.places.Targets.{Targets}
use Rattle.rv64_emit.proofs.Listed.{same_unit}
use Rattle.rv64_emit.proofs.unit.emit.Goals as goal

pub returns : goal.returns
returns c =
    let it = c.args.unit.now in
    let u = unit_view it in
    let laid = c.in_ok-laid in
    let routines = ap (λ xs. map function_routine (map code_of xs)) c.as_slice.ensures.value in
    let functions = laid.ensures.functions ∙ ap (listed_routines 2) routines in
    let targets : Targets = record { functions = c.as_slice-2.result; end = laid.laid.end; types = c.in_ok-behind.field-0 } in
    let many : c.in_ok-behind.field-0 ≡ length u.types = omega (arith, c.in_ok-behind.ensures, c.len.ensures, length-map it.types.items row_of) in
    let reached : HasTargets targets u = record {
      functions = ap (map listed_function) c.as_slice-2.ensures.value ∙ functions;
      end = laid.ensures.end ∙ ap (λ rs. 2 + all_words rs) routines;
      types = many;
    } in
    let stand = subst (λ bs. AllStandFor bs (unit_routines u)) (sym c.as_slice-3.ensures.value) (subst (AllStandFor laid.laid.bodies.items) routines laid.ensures.bodies) in
    same_unit it.tokens (c.in_ok-code.ensures u reached stand refl) functions
    (c.in_ok-rows_copied.ensures ∙ ap (λ xs. map listed_type (map row_of xs)) c.as_slice-4.ensures.value)
    (c.in_ok-from_slice.ensures.items ∙ c.as_slice-5.ensures.value)
