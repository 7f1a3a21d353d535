-- The definitions, computed at the worked image of docs/TABLES.md, at changed bytes of it, and at other encodings.
use Rattle.std.proofs.Common.{◌≡◌, ℕ, pos, negsuc, Bool, true, false, List, [], ◌∷◌, ◌++◌, Some, Ok, Err, refl, ap, ◌∙◌, arith, replicate}
use Rattle.std.specs.Prelude.{nat_lt, nat_le, not, slice_set, fold}
use Rattle.std.proofs.lemmas.Bool.Decides.{nat_tests}
use Rattle.eh_bytes.specs.declared.frames.Region64.{Region64}
use Rattle.eh_bytes.specs.declared.frames.FrameMove.{FrameMove}
use Rattle.eh_bytes.specs.declared.frames.FrameChange.TheVariants as changes
use Rattle.eh_bytes.specs.Memory.{Part, Memory}
use Rattle.eh_bytes.specs.Listed.{ListedTable, ListedFrames}
use Rattle.eh_bytes.specs.Leb128.{spelled_within, groups, grouped, uleb, sign_extended, ranged, sleb}
use Rattle.eh_bytes.specs.Encoded.{raw, encoded}
use Rattle.table_forms.specs.declared.found.Rule.TheVariants as rules
use Rattle.table_forms.specs.declared.found.Verdict.TheVariants.{Nothing, Handler, Terminate}
use Rattle.table_forms.specs.declared.reason.Reason.TheVariants.{TableTruncated, Encoding, SiteOutside, ActionLoop, FilterOutside, Augmentation, StateStack, HeaderDisagrees}
use Rattle.table_forms.specs.Fault.{fault, is_before, least}
use Rattle.table_forms.specs.LsdaHead.{Head, pads_start, type_table, head_at}
use Rattle.table_forms.specs.LsdaSites.{record_at, records_within}
use Rattle.table_forms.specs.LsdaChain.{action_in, links_within}
use Rattle.table_forms.specs.LsdaTypes.{entry_at, indices_within}
use Rattle.table_forms.specs.Lsda.{Table, table_faults, table_of, lsda_in, lsda}
use Rattle.table_forms.specs.Verdict.{native, foreign, forced, verdict}
use Rattle.table_forms.specs.Instruction.{nop, advance, set_cfa, set_cfa_offset, set_rule, register_at, unsigned_offset, signed_offset, extended, operands, instruction_at}
use Rattle.table_forms.specs.Instructions.{instructions_within}
use Rattle.table_forms.specs.Cie.{Cie, personality_at, letter_at, sized_at, return_register_at, cie_at}
use Rattle.table_forms.specs.Fde.{Fde, region_at, fde_at, is_in, row_at}
use Rattle.table_forms.specs.Row.{Folding, first_row, begun, after, stepped, with_initial, row_of}
use Rattle.table_forms.specs.Spans.{spans_within}
use Rattle.table_forms.specs.Parts.{cies_of, says, regions_of, parts_at}
use Rattle.table_forms.specs.Header.{encodings_at, rows_within, header_at}
use Rattle.table_forms.specs.Frames.{frames_in, frames}
use Rattle.table_forms.proofs.RowFold.{stepped_off, fold_on, fold_off}
use Rattle.table_forms.specs.WrittenTable.{TableStands, HeadStands}
use Rattle.table_forms.specs.WrittenFrames.{moved_row, FramesStand}

-- the header at 0x100b0
abbrev pub header_bytes : List ℕ
header_bytes =
    0x01 ∷ 0x1b ∷ 0x03 ∷ 0x3b ∷ 0x10 ∷ 0x00 ∷ 0x00 ∷ 0x00 ∷ 0x01 ∷ 0x00 ∷ 0x00 ∷ 0x00 ∷ 0x5c ∷ 0x00 ∷ 0x00 ∷ 0x00 ∷
    0x2c ∷ 0x00 ∷ 0x00 ∷ 0x00 ∷ []

-- the frames at 0x100c4
abbrev pub frame_bytes : List ℕ
frame_bytes =
    0x14 ∷ 0x00 ∷ 0x00 ∷ 0x00 ∷ 0x00 ∷ 0x00 ∷ 0x00 ∷ 0x00 ∷ 0x01 ∷ 0x7a ∷ 0x4c ∷ 0x52 ∷ 0x00 ∷ 0x04 ∷ 0x78 ∷ 0x01 ∷
    0x02 ∷ 0x1b ∷ 0x1b ∷ 0x0c ∷ 0x02 ∷ 0x00 ∷ 0x00 ∷ 0x00 ∷ 0x18 ∷ 0x00 ∷ 0x00 ∷ 0x00 ∷ 0x1c ∷ 0x00 ∷ 0x00 ∷ 0x00 ∷
    0x28 ∷ 0x00 ∷ 0x00 ∷ 0x00 ∷ 0x24 ∷ 0x00 ∷ 0x00 ∷ 0x00 ∷ 0x04 ∷ 0x0f ∷ 0x00 ∷ 0x00 ∷ 0x00 ∷ 0x41 ∷ 0x0e ∷ 0x10 ∷
    0x81 ∷ 0x01 ∷ 0x00 ∷ 0x00 ∷ 0x00 ∷ 0x00 ∷ 0x00 ∷ 0x00 ∷ []

-- the table at 0x100fc
abbrev pub table_bytes : List ℕ
table_bytes =
    0xff ∷ 0x1b ∷ 0x0d ∷ 0x01 ∷ 0x04 ∷ 0x10 ∷ 0x08 ∷ 0x20 ∷ 0x01 ∷ 0x01 ∷ 0x00 ∷ 0x00 ∷ 0x00 ∷ 0x00 ∷ 0x00 ∷ 0x00 ∷
    []

-- a segment of code from 0x100b0 on, which ends with nine words
abbrev code : List ℕ → List ℕ → List ℕ → Part
code header frame table = record {
  address = 0x100b0;
  bytes = header ++ frame ++ table ++ replicate 36 0x13;
  file_at = 0xb0;
  write = false;
  exec = true;
}

abbrev segment : List ℕ → List ℕ → List ℕ → Memory
segment header frame table = code header frame table ∷ []

abbrev worked : Memory
worked = segment header_bytes frame_bytes table_bytes

abbrev function : Region64
function = record { start = 0x1010c; length = 36 }

abbrev pub worked_table : Table
worked_table = record {
  sites = record { start = 0x1011c; end = 0x10124; pad = 0x1012c; action = 1 } ∷ [];
  actions = (1, pos 1 ∷ []) ∷ [];
  types = (1, 0) ∷ [];
  lists = [];
}

-- the table of the page
reads_table : lsda worked 0x100fc function ≡ Ok worked_table
unfolding spelled_within groups grouped uleb sign_extended ranged sleb raw encoded is_before least pads_start type_table head_at record_at records_within action_in links_within entry_at indices_within table_faults table_of lsda_in lsda
reads_table = refl

-- a displacement of -1, from itself back to its own record
loop_refused : lsda (segment header_bytes frame_bytes (slice_set table_bytes 10 0x7f)) 0x100fc function ≡ Err (fault ActionLoop 0x105)
unfolding spelled_within groups grouped uleb sign_extended ranged sleb raw encoded is_before least pads_start type_table head_at record_at records_within action_in links_within entry_at indices_within table_faults table_of lsda_in lsda
loop_refused = refl

-- a site that ends behind its function
outside_refused : lsda (segment header_bytes frame_bytes (slice_set table_bytes 6 0x30)) 0x100fc function ≡ Err (fault SiteOutside 0x101)
unfolding spelled_within groups grouped uleb sign_extended ranged sleb raw encoded is_before least pads_start type_table head_at record_at records_within action_in links_within entry_at indices_within table_faults table_of lsda_in lsda
outside_refused = refl

-- an indirect encoding of LPStart
encoding_refused : lsda (segment header_bytes frame_bytes (slice_set table_bytes 0 0x80)) 0x100fc function ≡ Err (fault Encoding 0xfc)
unfolding spelled_within groups grouped uleb sign_extended ranged sleb raw encoded is_before least pads_start type_table head_at record_at records_within action_in links_within entry_at indices_within table_faults table_of lsda_in lsda
encoding_refused = refl

-- a filter whose type entry would begin before the action table
entry_refused : lsda (segment header_bytes frame_bytes (slice_set table_bytes 9 0x02)) 0x100fc function ≡ Err (fault FilterOutside 0x105)
unfolding spelled_within groups grouped uleb sign_extended ranged sleb raw encoded is_before least pads_start type_table head_at record_at records_within action_in links_within entry_at indices_within table_faults table_of lsda_in lsda
entry_refused = refl

-- a call-site table of three bytes, which cuts the action
cut_refused : lsda (segment header_bytes frame_bytes (slice_set table_bytes 4 0x03)) 0x100fc function ≡ Err (fault TableTruncated 0x104)
unfolding spelled_within groups grouped uleb sign_extended ranged sleb raw encoded is_before least pads_start type_table head_at record_at records_within action_in links_within entry_at indices_within table_faults table_of lsda_in lsda
cut_refused = refl

-- the same site as numbers of four bytes
wide : List ℕ
wide = 0xff ∷ 0x1b ∷ 0x15 ∷ 0x03 ∷ 0x0d ∷ 0x10 ∷ 0x00 ∷ 0x00 ∷ 0x00 ∷ 0x08 ∷ 0x00 ∷ 0x00 ∷ 0x00 ∷ 0x20 ∷ 0x00 ∷ 0x00 ∷ 0x00 ∷ 0x01 ∷ 0x01 ∷ 0x00 ∷ 0x00 ∷ 0x00 ∷ 0x00 ∷ 0x00 ∷ []

-- it reads as the same table
reads_wide : lsda (segment header_bytes frame_bytes wide) 0x100fc function ≡ Ok worked_table
unfolding wide spelled_within groups grouped uleb sign_extended ranged sleb raw encoded is_before least pads_start type_table head_at record_at records_within action_in links_within entry_at indices_within table_faults table_of lsda_in lsda
reads_wide = refl

-- an entry that is relative and indirect: it names the word behind it
stored : List ℕ
stored = 0xff ∷ 0x9b ∷ 0x0d ∷ 0x01 ∷ 0x04 ∷ 0x10 ∷ 0x08 ∷ 0x20 ∷ 0x01 ∷ 0x01 ∷ 0x00 ∷ 0x00 ∷ 0x04 ∷ 0x00 ∷ 0x00 ∷ 0x00 ∷ 0x00 ∷ 0x00 ∷ 0x03 ∷ 0x00 ∷ 0x00 ∷ 0x00 ∷ 0x00 ∷ 0x00 ∷ []

-- its value is that word
reads_stored : lsda (segment header_bytes frame_bytes stored) 0x100fc function ≡ Ok (record worked_table { types = (1, 0x30000) ∷ [] })
unfolding stored spelled_within groups grouped uleb sign_extended ranged sleb raw encoded is_before least pads_start type_table head_at record_at records_within action_in links_within entry_at indices_within table_faults table_of lsda_in lsda
reads_stored = refl

-- behind a call of the site, any native exception is handled
handled : verdict (Some worked_table) 0x10124 false (native (5 ∷ [])) ≡ Handler 0x1012c (pos 1)
unfolding verdict
handled = refl

-- before the site's first byte and behind its last one there is no site
unsited_before : verdict (Some worked_table) 0x1011c false (native (5 ∷ [])) ≡ Terminate
unfolding verdict
unsited_before = refl

unsited_behind : verdict (Some worked_table) 0x10125 false (native (5 ∷ [])) ≡ Terminate
unfolding verdict
unsited_behind = refl

-- in a signal frame the place itself is looked up
signal_sited : verdict (Some worked_table) 0x1011c true foreign ≡ Handler 0x1012c (pos 1)
unfolding verdict
signal_sited = refl

-- a forced unwind passes a handler by
passed_by : verdict (Some worked_table) 0x10124 false forced ≡ Nothing
unfolding verdict
passed_by = refl

abbrev worked_cie : Cie
worked_cie = record {
  place = 0xc4;
  version = 1;
  augmentation = 0x7a ∷ 0x4c ∷ 0x52 ∷ [];
  coding = record { code_factor = 4; data_factor = negsuc 7; encoding = 0x1b };
  return_register = 1;
  lsda_encoding = Some 0x1b;
  signal = false;
  instructions = set_cfa 2 (pos 0) ∷ nop ∷ nop ∷ [];
  states = 0;
}

abbrev worked_fde : Fde
worked_fde = record {
  address = 0x100dc;
  place = 0xdc;
  region = function;
  lsda = 0x100fc;
  cie = worked_cie;
  instructions = advance 4 ∷ set_cfa_offset (pos 16) ∷ set_rule 1 (rules.Offset (negsuc 7)) ∷ nop ∷ nop ∷ [];
}

-- the frames of the page
reads_frames : frames worked 0x100b0 ≡ Ok (record { cies = worked_cie ∷ []; fdes = worked_fde ∷ [] })
unfolding spelled_within groups grouped uleb sign_extended ranged sleb raw encoded is_before least register_at unsigned_offset signed_offset extended operands instruction_at instructions_within personality_at letter_at sized_at return_register_at cie_at region_at fde_at spans_within cies_of says regions_of parts_at encodings_at rows_within header_at frames_in frames
reads_frames = refl

-- a header that names another function
differs_refused : frames (segment (slice_set header_bytes 12 0x60) frame_bytes table_bytes) 0x100b0 ≡ Err (record { reason = HeaderDisagrees; place = 0xbc; location = 0x10110; other = 0x1010c })
unfolding spelled_within groups grouped uleb sign_extended ranged sleb raw encoded is_before least register_at unsigned_offset signed_offset extended operands instruction_at instructions_within personality_at letter_at sized_at return_register_at cie_at region_at fde_at spans_within cies_of says regions_of parts_at encodings_at rows_within header_at frames_in frames
differs_refused = refl

-- a letter of an augmentation that is none
letter_refused : frames (segment header_bytes (slice_set frame_bytes 10 0x42) table_bytes) 0x100b0 ≡ Err (fault Augmentation 0xce)
unfolding spelled_within groups grouped uleb sign_extended ranged sleb raw encoded is_before least register_at unsigned_offset signed_offset extended operands instruction_at instructions_within personality_at letter_at sized_at return_register_at cie_at region_at fde_at spans_within cies_of says regions_of parts_at encodings_at rows_within header_at frames_in frames
letter_refused = refl

-- a state that nothing remembered
state_refused : frames (segment header_bytes (slice_set frame_bytes 50 0x0b) table_bytes) 0x100b0 ≡ Err (fault StateStack 0xf6)
unfolding spelled_within groups grouped uleb sign_extended ranged sleb raw encoded is_before least register_at unsigned_offset signed_offset extended operands instruction_at instructions_within personality_at letter_at sized_at return_register_at cie_at region_at fde_at spans_within cies_of says regions_of parts_at encodings_at rows_within header_at frames_in frames
state_refused = refl

-- what a writer was handed for the table
abbrev listed : ListedTable
listed = record {
  sites = record { start = 0x10; length = 8; pad = 0x20; chain = Some 0 } ∷ [];
  chains = (pos 1 ∷ []) ∷ [];
  types = 0 ∷ [];
  lists = [];
}

-- and that the table stands for it
table_stands : TableStands listed function worked_table
table_stands = record {
  sites = (record { start = refl; end = refl; pad = refl; chain = (λ same. omega arith, refl) }, tt);
  types = (refl, tt);
  lists = tt;
}

-- its head has the writer's form
abbrev worked_head : Head
worked_head = record {
  pads_from = 0x1010c;
  types = Some (record { base = 0x5c; encoding = 0x1b; size = 4 });
  site_encoding = 1;
  sites_at = 0x51;
  actions_at = 0x55;
}

reads_head : head_at (code header_bytes frame_bytes table_bytes) function 0x4c ≡ Ok worked_head
unfolding spelled_within groups grouped uleb raw encoded pads_start type_table head_at
reads_head = refl

head_stands : HeadStands (code header_bytes frame_bytes table_bytes) function worked_head
head_stands = record { pads = refl; types = (refl, refl); sites = refl }

-- the header has the pointer and the row that its writer was handed
header_stands : header_at (code header_bytes frame_bytes table_bytes) 0 ≡ record { frames_at = Some 0x100c4; rows = Some (record { location = 0x1010c; fde = 0x100dc } ∷ []); faults = [] }
unfolding encodings_at rows_within header_at
header_stands = refl

-- what a writer was handed for the frame
abbrev worked_moves : List FrameMove
worked_moves = record { location = 0x10110; change = changes.Cfa (pos 16) } ∷ record { location = 0x10110; change = changes.Saved 1 (negsuc 7) } ∷ []

abbrev listed_frames : ListedFrames
listed_frames = record { lsda = true; frames = record { region = function; lsda = 0x100fc; moves = worked_moves } ∷ [] }

-- behind the CIE's instructions
abbrev common : Folding
common = with_initial (fold after (begun 0x1010c) worked_cie.instructions)

folds_common : (pc : ℕ) → nat_lt pc 0x1010c ≡ false → row_at worked_fde pc ≡ (fold (stepped pc) common worked_fde.instructions).row
unfolding row_of begun first_row
folds_common pc start =
    ap (λ s. (fold (stepped pc) (with_initial s) worked_fde.instructions).row)
    (fold_on pc (begun 0x1010c) worked_cie.instructions (refl, start, (refl, start, (refl, start, refl))))

rows_by : (pc : ℕ) (early : Bool) → nat_lt pc 0x1010c ≡ false → nat_lt pc 0x10110 ≡ early → nat_le 0x10110 pc ≡ not early → row_at worked_fde pc ≡ moved_row worked_moves pc
unfolding begun first_row moved_row
rows_by pc true start early moved =
    folds_common pc start ∙
    ap (λ s. (fold (stepped pc) s (set_cfa_offset (pos 16) ∷ set_rule 1 (rules.Offset (negsuc 7)) ∷ nop ∷ nop ∷ [])).row) (stepped_off pc common (advance 4) refl early) ∙
    ap (λ s. s.row) (fold_off pc (record common { stopped = true }) (set_cfa_offset (pos 16) ∷ set_rule 1 (rules.Offset (negsuc 7)) ∷ nop ∷ nop ∷ []) refl) ∙
    (rw moved refl)
rows_by pc false start late moved =
    folds_common pc start ∙
    ap (λ s. s.row) (fold_on pc common worked_fde.instructions (refl, late, (refl, late, (refl, late, (refl, late, (refl, late, refl)))))) ∙
    (rw moved refl)

not_above : (pc a : ℕ) → nat_le a pc ≡ not (nat_lt pc a)
not_above pc a = grind (arith, nat_tests)

inside : (pc : ℕ) → is_in function pc ≡ true → nat_lt pc 0x1010c ≡ false
inside pc held = grind (arith, nat_tests)

-- in each place of the function the row is that of the list
rows_stand : (pc : ℕ) → is_in function pc ≡ true → row_at worked_fde pc ≡ moved_row worked_moves pc
rows_stand pc held = rows_by pc (nat_lt pc 0x10110) (inside pc held) refl (not_above pc 0x10110)

-- and the parts stand for the frames
frames_stand : FramesStand listed_frames (record { cies = worked_cie ∷ []; fdes = worked_fde ∷ []; faults = [] })
frames_stand = record {
  whole = refl;
  fdes = (record { region = refl; lsda = refl; cie = record { version = refl; code_factor = refl; data_factor = refl; returns = refl; ordinary = refl }; rows = rows_stand }, tt);
}
