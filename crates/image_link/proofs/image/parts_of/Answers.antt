use Rattle.std.proofs.Common.{◌≡◌, ◌-◌, ◌++◌, length, ◌∙◌, ap, arith}
use Rattle.std.specs.Prelude.{flat_map}
use Rattle.std.specs.Int.{w32, to_le_bytes}
use Rattle.eh_bytes.specs.Listed.{listed_unit}
use Rattle.image_forms.specs.Placed.{code_at, names_at, all_code}
use Rattle.image_forms.specs.Records.{records_bytes, globals_bytes}
use Rattle.image_link.proofs.Whole.{globals_end, records_end, code_end, memory_same, contents_same}
use Rattle.image_link.proofs.image.parts_of.Goals as goal

pub segments-requires-clause-globals : goal.segments-requires-clause-globals
segments-requires-clause-globals c =
    let u = listed_unit c.args.unit.now in
    let laid = c.in_ok-layout.ensures.laid in
    let bytes : c.in_ok-globals_bytes.field-0.items ≡ globals_bytes u.globals = c.in_ok-globals_bytes.ensures ∙ ap globals_bytes c.as_slice.ensures.value in
    omega (arith, laid.globals, laid.records, ap length bytes, globals_end u)

pub segments-requires-clause-records : goal.segments-requires-clause-records
segments-requires-clause-records c =
    let u = listed_unit c.args.unit.now in
    let laid = c.in_ok-layout.ensures.laid in
    let bytes : c.in_ok-records_bytes.field-0.items ≡ records_bytes (code_at u) (names_at u) u.types
    = rw (laid.code, laid.names, c.as_slice-2.ensures.value) at c.in_ok-records_bytes.ensures in
    omega (arith, laid.records, laid.code, ap length bytes, records_end u)

pub segments-requires-clause-code : goal.segments-requires-clause-code
segments-requires-clause-code c =
    let u = listed_unit c.args.unit.now in
    let laid = c.in_ok-layout.ensures.laid in
    let bytes : c.in_ok-code_bytes.field-0.items ≡ flat_map (to_le_bytes w32) (all_code u)
    = c.in_ok-code_bytes.ensures ∙ ap (λ s. flat_map (to_le_bytes w32) (s.code ++ u.code)) c.in_ok-placed.ensures.emitted in
    omega (arith, laid.code, laid.names, ap length bytes, code_end u)

pub returns-clause-contents : goal.returns-clause-contents
returns-clause-contents c =
    let u = listed_unit c.args.unit.now in
    let laid = c.in_ok-layout.ensures.laid in
    let l = c.in_ok-layout.layout in
    let placed = c.in_ok-placed in
    let globals : c.in_ok-globals_bytes.field-0.items ≡ globals_bytes u.globals = c.in_ok-globals_bytes.ensures ∙ ap globals_bytes c.as_slice.ensures.value in
    let records : c.in_ok-records_bytes.field-0.items ≡ records_bytes (code_at u) (names_at u) u.types
    = rw (laid.code, laid.names, c.as_slice-2.ensures.value) at c.in_ok-records_bytes.ensures in
    let code : c.in_ok-code_bytes.field-0.items ≡ flat_map (to_le_bytes w32) (all_code u)
    = c.in_ok-code_bytes.ensures ∙ ap (λ s. flat_map (to_le_bytes w32) (s.code ++ u.code)) placed.ensures.emitted in
    let memory = c.in_ok-segments.ensures ∙ memory_same u l.globals l.records l.code l.names c.in_ok-globals_bytes.field-0.items c.in_ok-records_bytes.field-0.items
    c.in_ok-code_bytes.field-0.items c.in_ok-constants.constants.bytes.items laid.globals laid.records laid.code laid.names globals records code c.in_ok-constants.ensures.content in
    contents_same u placed.placed.start c.in_ok-constants.constants.header placed.placed.terminate (l.code - 48) _ (placed.ensures.start ∙ laid.code) memory
    c.in_ok-constants.ensures.place (rw laid.code at placed.ensures.terminate) (ap (λ a. a - 48) laid.code)

pub returns-clause-lists : goal.returns-clause-lists
returns-clause-lists c can = c.in_ok-constants.ensures.stand can
