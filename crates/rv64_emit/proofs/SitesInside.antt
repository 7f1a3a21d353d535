-- The sites of a function's table.
use Rattle.std.proofs.Common.{◌≡◌, ◌∙◌, ℕ, zero, suc, ◌+◌, ◌-◌, ◌*◌, ◌<◌, ◌≤◌, List, [], ◌∷◌, length, map, take, Option, None, Some, ap, arith}
use Rattle.std.specs.Prelude.{slice_get}
use Rattle.std.specs.List.{AllByRecursion}
use Rattle.std.specs.Option.{option_map}
use Rattle.std.proofs.lemmas.Option.{slice_get-map}
use Rattle.eh_write.specs.CanWrite.{AreInOrder}
use Rattle.linear_forms.specs.Laws.{AreInOrder as SitesAreInOrder}
use Rattle.linear_forms.specs.Linear.{CodeSite, FunctionCode, pad}
use Rattle.landing_pads.specs.Named.{PadIsThere}
use Rattle.machine_forms.specs.Emitted.{function_routine, shape_of}
use Rattle.machine_forms.specs.LinearCode.{linear_code}
use Rattle.machine_forms.specs.Piece.{Piece}
use Rattle.machine_forms.specs.Routine.{Routine, block_words, listed_site, op_byte, pad_byte, routine_words}
use Rattle.machine_forms.proofs.Words.{words_stand}
use Rattle.rv64_emit.specs.Laws.{SiteIsInside}

bytes_rise : (r : Routine) (p q : ℕ) → p ≤ q → op_byte r p ≤ op_byte r q
bytes_rise r p q h = omega (arith, words_stand.order r p q h)

-- sites in order are so in bytes
pub in_order : (r : Routine) (from to before : ℕ) (sites : List CodeSite) → SitesAreInOrder from to sites → before ≤ op_byte r from →
    AreInOrder before (map (listed_site r) sites)
in_order r from to before [] h le = tt
in_order r from to before (s ∷ sites) h le =
    let up = bytes_rise r from s.start h.0 in
    let along : op_byte r s.start ≤ op_byte r s.end = bytes_rise r s.start s.end (omega (arith, h.1)) in
    let first : before ≤ op_byte r s.start = omega (arith, le, up) in
    let last : op_byte r s.start + (op_byte r s.end - op_byte r s.start) ≤ op_byte r s.end = omega (arith, along) in
    (first, in_order r s.end to (op_byte r s.start + (op_byte r s.end - op_byte r s.start)) sites h.2 last)

-- each site with its pad, if that is
pub all_inside : (r : Routine) (from to : ℕ) (sites : List CodeSite) → SitesAreInOrder from to sites →
    AllByRecursion (λ s. pad_byte r s.pad < 4 * routine_words r) sites → AllByRecursion (SiteIsInside (routine_words r)) (map (listed_site r) sites)
all_inside r from to [] h pads = tt
all_inside r from to (s ∷ sites) h pads =
    let along : op_byte r s.start ≤ op_byte r s.end = bytes_rise r s.start s.end (omega (arith, h.1)) in
    (record { extent = omega (arith, along, words_stand.inside r s.end); pad = pads.0 }, all_inside r s.end to sites h.2 pads.1)

block_inside : (bs : List (List Piece)) (q : ℕ) (b : List Piece) → slice_get bs q ≡ Some b → block_words (take q bs) + length b ≤ block_words bs
block_inside [] q b e = absurd (cc e)
block_inside (x ∷ bs) zero b e =
    let is : x ≡ b = cc e in
    omega (arith, ap length is)
block_inside (x ∷ bs) (suc q) b e = omega (arith, block_inside bs q b e)

-- a landing pad is inside
pad_inside : (g : FunctionCode) (object selector : ℕ) (place : Option ℕ) → PadIsThere g object selector place →
    pad_byte (function_routine g) place < 4 * routine_words (function_routine g)
pad_inside g object selector None h = omega arith
pad_inside g object selector (Some q) h =
    let block = slice_get-map (linear_code (shape_of g)) g.ops q ∙ ap (option_map (linear_code (shape_of g))) h in
    omega (arith, block_inside (function_routine g).blocks q (linear_code (shape_of g) (pad object selector)) block)

-- the pads of sites
pub pads_inside : (g : FunctionCode) (object selector : ℕ) (sites : List CodeSite) → AllByRecursion (λ s. PadIsThere g object selector s.pad) sites →
    AllByRecursion (λ s. pad_byte (function_routine g) s.pad < 4 * routine_words (function_routine g)) sites
pads_inside g object selector [] h = tt
pads_inside g object selector (s ∷ sites) h = (pad_inside g object selector s.pad h.0, pads_inside g object selector sites h.1)
