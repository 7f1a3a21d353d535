-- The parts of an image put together.
use Rattle.std.proofs.Common.{◌≡◌, ◌≤◌, ℕ, ◌+◌, ◌-◌, ◌*◌, true, false, List, [], ◌∷◌, ◌++◌, length, length-append, sym, ◌∙◌, ap, arith}
use Rattle.std.specs.Prelude.{flat_map}
use Rattle.std.specs.Int.{w32, to_le_bytes}
use Rattle.std.proofs.lemmas.List.{append_assoc}
use Rattle.eh_bytes.specs.Listed.{ListedFrame, ListedUnit}
use Rattle.eh_bytes.specs.Memory.{Memory}
use Rattle.eh_write.specs.WrittenFrames.{frames_bytes}
use Rattle.eh_write.specs.WrittenHeader.{header_bytes}
use Rattle.elf_image.specs.Laid.{Contents}
use Rattle.linear_forms.specs.Stub.{terminating}
use Rattle.region_forms.specs.Ending.{bad_row}
use Rattle.machine_forms.specs.StubCode.{stub_first}
use Rattle.machine_forms.specs.Emitted.{emitted_stubs}
use Rattle.image_forms.specs.Placed.{page_from, globals_at, records_at, code_at, unit_at, all_code, names_at, record_at, placed_from}
use Rattle.image_forms.specs.Records.{names_bytes, records_bytes, globals_bytes}
use Rattle.image_forms.specs.Tables.{filled, tables_bytes, linked_frames, with_tables, header_rows}
use Rattle.elf_sections.specs.declared.section.Span.{Span}
use Rattle.elf_sections.specs.declared.section.Places.{Places}
use Rattle.image_forms.specs.Linked.{unit_names, tables_at, unit_tables, unit_frames, frames_at, frames_written, header_at, header_written, constant_bytes, part_at, memory_for, contents_for}
use Rattle.image_forms.specs.Symbols.{span, places_for}
use Rattle.image_link.specs.Standing.{framed_bytes}
use Rattle.image_link.proofs.Bounds.{code_length, globals_length, records_length}
use Rattle.image_link.proofs.Joined.{tables_joined, frames_joined}

-- the globals end where the records begin
pub globals_end : (u : ListedUnit) → globals_at u + length (globals_bytes u.globals) ≡ records_at u
globals_end u =
    let n = length u.globals in
    let room : 4 * n ≤ page_from (4 * n) = omega arith in
    omega (arith, globals_length u.globals, room)

-- the records end where the code begins
pub records_end : (u : ListedUnit) → records_at u + length (records_bytes (code_at u) (names_at u) u.types) ≡ code_at u
records_end u = omega (arith, records_length (code_at u) (names_at u) u.types)

-- the code ends before the names
pub code_end : (u : ListedUnit) → code_at u + length (flat_map (to_le_bytes w32) (all_code u)) ≤ names_at u
code_end u =
    let room : code_at u + 4 * length (all_code u) ≤ page_from (code_at u + 4 * length (all_code u)) = omega arith in
    omega (arith, code_length (all_code u), room)

-- the tables of the runtime's own functions, and behind them those of the unit's
pub unit_tables_are : (u : ListedUnit) →
    let stubs = placed_from (code_at u) emitted_stubs.functions in
    unit_tables u ≡
    tables_bytes (code_at u) (tables_at u) stubs ++
    tables_bytes (code_at u) (tables_at u + length (tables_bytes (code_at u) (tables_at u) stubs)) (placed_from (unit_at u) u.functions)
unit_tables_are u = tables_joined (code_at u) (tables_at u) (placed_from (code_at u) emitted_stubs.functions) (placed_from (unit_at u) u.functions)

-- their frames
pub unit_frames_are : (u : ListedUnit) →
    let stubs = placed_from (code_at u) emitted_stubs.functions in
    unit_frames u ≡
    linked_frames (code_at u) (tables_at u) stubs ++
    linked_frames (code_at u) (tables_at u + length (tables_bytes (code_at u) (tables_at u) stubs)) (placed_from (unit_at u) u.functions)
unit_frames_are u = frames_joined (code_at u) (tables_at u) (placed_from (code_at u) emitted_stubs.functions) (placed_from (unit_at u) u.functions)

-- what is put in turn, with what it becomes
pub record Puts (u : ListedUnit) (named filled_up first second : List ℕ) (before after : List ListedFrame) : Type 0 where
  pub names : named ≡ names_bytes u.types
  pub fill : filled_up ≡ filled named
  pub stubs : first ≡ filled_up ++ tables_bytes (code_at u) (names_at u + length filled_up) (placed_from (code_at u) emitted_stubs.functions)
  pub stub_frames : before ≡ linked_frames (code_at u) (names_at u + length filled_up) (placed_from (code_at u) emitted_stubs.functions)
  pub own : second ≡ first ++ tables_bytes (code_at u) (names_at u + length first) (placed_from (unit_at u) u.functions)
  pub own_frames : after ≡ before ++ linked_frames (code_at u) (names_at u + length first) (placed_from (unit_at u) u.functions)

-- is the unit's
pub record Put (u : ListedUnit) (second : List ℕ) (after : List ListedFrame) : Type 0 where
  pub bytes : second ≡ unit_names u ++ unit_tables u
  pub frames : after ≡ unit_frames u
  pub end : names_at u + length second ≡ frames_at u

-- where the tables of the runtime's own functions begin, and those of the unit's
pub record Begins (u : ListedUnit) (filled_up first : List ℕ) : Type 0 where
  pub start : names_at u + length filled_up ≡ tables_at u
  pub first_are : first ≡ unit_names u ++ tables_bytes (code_at u) (tables_at u) (placed_from (code_at u) emitted_stubs.functions)
  pub next : names_at u + length first ≡ tables_at u + length (tables_bytes (code_at u) (tables_at u) (placed_from (code_at u) emitted_stubs.functions))

pub begins : (u : ListedUnit) (named filled_up first second : List ℕ) (before after : List ListedFrame) → Puts u named filled_up first second before after → Begins u filled_up first
begins u named filled_up first second before after p =
    let stubs = placed_from (code_at u) emitted_stubs.functions in
    let stub_tables = tables_bytes (code_at u) (tables_at u) stubs in
    let names : filled_up ≡ unit_names u = p.fill ∙ ap filled p.names in
    let start : names_at u + length filled_up ≡ tables_at u = ap (λ bytes. names_at u + length bytes) names in
    let one : first ≡ unit_names u ++ stub_tables = p.stubs ∙ (ap (λ bytes. bytes ++ tables_bytes (code_at u) (names_at u + length filled_up) stubs) names
    ∙ ap (λ a. unit_names u ++ tables_bytes (code_at u) a stubs) start) in
    record { start = start; first_are = one; next = omega (arith, ap length one, length-append (unit_names u) stub_tables) }

pub put_whole : (u : ListedUnit) (named filled_up first second : List ℕ) (before after : List ListedFrame) → Puts u named filled_up first second before after → Put u second after
put_whole u named filled_up first second before after p =
    let stubs = placed_from (code_at u) emitted_stubs.functions in
    let own = placed_from (unit_at u) u.functions in
    let own_tables : ℕ → List ℕ = λ a. tables_bytes (code_at u) a own in
    let stub_tables = tables_bytes (code_at u) (tables_at u) stubs in
    let from = begins u named filled_up first second before after p in
    let start = from.start in
    let one = from.first_are in
    let next = from.next in
    let two : second ≡ unit_names u ++ unit_tables u = p.own ∙ (ap (λ a. first ++ own_tables a) next ∙ (ap (λ bytes. bytes ++ own_tables (tables_at u + length stub_tables)) one
    ∙ (append_assoc (unit_names u) stub_tables (own_tables (tables_at u + length stub_tables)) ∙ ap (λ bytes. unit_names u ++ bytes) (sym (unit_tables_are u))))) in
    record {
      bytes = two;
      frames = p.own_frames ∙ (ap (λ a. before ++ linked_frames (code_at u) a own) next
          ∙ (ap (λ frames. frames ++ linked_frames (code_at u) (tables_at u + length stub_tables) own) (p.stub_frames ∙ ap (λ a. linked_frames (code_at u) a stubs) start)
          ∙ sym (unit_frames_are u)));
      end = omega (arith, ap length two, length-append (unit_names u) (unit_tables u));
    }

-- the frames and their header behind it are those of the unit
pub constants_whole : (u : ListedUnit) (second : List ℕ) (after : List ListedFrame) (out : List ℕ) (header : ℕ) → Put u second after →
    header ≡ names_at u + length second + length (frames_bytes (with_tables after) (names_at u + length second)) →
    out ≡ second ++ framed_bytes after (names_at u + length second) header →
    (header ≡ header_at u) × (out ≡ constant_bytes u)
constants_whole u second after out header p header_is out_is =
    let at_end = λ (frames : List ListedFrame) (a : ℕ). a + length (frames_bytes (with_tables frames) a) in
    let place : header ≡ header_at u = header_is ∙ (ap (λ a. at_end after a) p.end ∙ ap (λ frames. at_end frames (frames_at u)) p.frames) in
    let tail = λ (frames : List ListedFrame) (a h : ℕ) (bytes : List ℕ). bytes ++ frames_bytes (with_tables frames) a ++ header_bytes (header_rows a frames) a h in
    let a = names_at u + length second in
    let grouped : out ≡ tail after a header second
    = out_is ∙ sym (append_assoc second (frames_bytes (with_tables after) a) (header_bytes (header_rows a after) a header)) in (
      place,
      grouped ∙ (ap (λ a. tail after a header second) p.end ∙ (ap (λ frames. tail frames (frames_at u) header second) p.frames
          ∙ (ap (λ h. tail (unit_frames u) (frames_at u) h second) place ∙ ap (λ bytes. tail (unit_frames u) (frames_at u) (header_at u) bytes) p.bytes))),
    )

-- contents by their parts
abbrev pub contents : ℕ → Memory → ℕ → ℕ → ℕ → Contents
contents entry memory header terminate bad =
    record { entry = entry; memory = memory; frame_header = header; runtime = record { terminate = terminate; bad_exception = bad } }

-- the segments, part by part
pub memory_same : (u : ListedUnit) (g r c n : ℕ) (globals records code constants : List ℕ) →
    g ≡ globals_at u → r ≡ records_at u → c ≡ code_at u → n ≡ names_at u →
    globals ≡ globals_bytes u.globals → records ≡ records_bytes (code_at u) (names_at u) u.types →
    code ≡ flat_map (to_le_bytes w32) (all_code u) → constants ≡ constant_bytes u →
    part_at g true false globals ∷ part_at r false false records ∷ part_at c false true code ∷ part_at n false false constants ∷ [] ≡ memory_for u
memory_same u g r c n globals records code constants eg er ec en egs ers ecs ens =
    let one = ap (λ x. part_at x true false globals) eg ∙ ap (λ x. part_at (globals_at u) true false x) egs in
    let two = ap (λ x. part_at x false false records) er ∙ ap (λ x. part_at (records_at u) false false x) ers in
    let three = ap (λ x. part_at x false true code) ec ∙ ap (λ x. part_at (code_at u) false true x) ecs in
    let four = ap (λ x. part_at x false false constants) en ∙ ap (λ x. part_at (names_at u) false false x) ens in
    ap (λ x. x ∷ part_at r false false records ∷ part_at c false true code ∷ part_at n false false constants ∷ []) one
    ∙ (ap (λ x. part_at (globals_at u) true false (globals_bytes u.globals) ∷ x ∷ part_at c false true code ∷ part_at n false false constants ∷ []) two
    ∙ (ap (λ x. part_at (globals_at u) true false (globals_bytes u.globals) ∷ part_at (records_at u) false false (records_bytes (code_at u) (names_at u) u.types) ∷ x ∷ part_at n false false constants ∷ []) three
    ∙ ap (λ x. part_at (globals_at u) true false (globals_bytes u.globals) ∷ part_at (records_at u) false false (records_bytes (code_at u) (names_at u) u.types) ∷
    part_at (code_at u) false true (flat_map (to_le_bytes w32) (all_code u)) ∷ x ∷ []) four))

pub contents_same : (u : ListedUnit) (entry header terminate bad : ℕ) (memory : Memory) →
    entry ≡ code_at u → memory ≡ memory_for u → header ≡ header_at u → terminate ≡ code_at u + 4 * stub_first terminating → bad ≡ record_at (code_at u) bad_row →
    contents entry memory header terminate bad ≡ contents_for u
contents_same u entry header terminate bad memory ee em eh et eb =
    ap (λ x. contents x memory header terminate bad) ee
    ∙ (ap (λ x. contents (code_at u) x header terminate bad) em
    ∙ (ap (λ x. contents (code_at u) (memory_for u) x terminate bad) eh
    ∙ (ap (λ x. contents (code_at u) (memory_for u) (header_at u) x bad) et
    ∙ ap (λ x. contents (code_at u) (memory_for u) (header_at u) (code_at u + 4 * stub_first terminating) x) eb)))

-- the code behind the runtime's own functions
pub unit_end : (u : ListedUnit) → unit_at u + 4 * length u.code ≡ code_at u + 4 * length (all_code u)
unit_end u = omega (arith, length-append emitted_stubs.code u.code)

abbrev places : (a b c d e f g : Span) → Places
places a b c d e f g = record { globals = a; type_records = b; code = c; type_names = d; exception_tables = e; frames = f; frame_header = g }

-- the parts of an image that have sections
pub places_same : (u : ListedUnit) (g r c e n t f h last : ℕ) → g ≡ globals_at u → r ≡ records_at u → c ≡ code_at u → e ≡ code_at u + 4 * length (all_code u) → n ≡ names_at u →
    t ≡ tables_at u → f ≡ frames_at u → h ≡ header_at u → last ≡ names_at u + length (constant_bytes u) →
    places (span g (r - g)) (span r (c - r)) (span c (e - c)) (span n (t - n)) (span t (f - t)) (span f (h - f)) (span h (last - h)) ≡ places_for u
places_same u g r c e n t f h last eg er ec ee en et ef eh el =
    let room : 4 * length u.globals ≤ page_from (4 * length u.globals) = omega arith in
    let whole : length (constant_bytes u) ≡ length (unit_names u) + length (unit_tables u) + length (frames_written u) + length (header_written u) =
    omega (
      arith,
      length-append (unit_names u ++ unit_tables u ++ frames_written u) (header_written u),
      length-append (unit_names u ++ unit_tables u) (frames_written u),
      length-append (unit_names u) (unit_tables u),
    ) in
    let s1 : r - g ≡ 4 * length u.globals = omega (arith, eg, er, room) in
    let s2 : c - r ≡ 24 * length u.types = omega (arith, er, ec) in
    let s3 : e - c ≡ 4 * length (all_code u) = omega (arith, ec, ee) in
    let s4 : t - n ≡ length (unit_names u) = omega (arith, en, et) in
    let s5 : f - t ≡ length (unit_tables u) = omega (arith, et, ef) in
    let s6 : h - f ≡ length (frames_written u) = omega (arith, ef, eh) in
    let s7 : last - h ≡ length (header_written u) = omega (arith, eh, el, whole) in
    cc
