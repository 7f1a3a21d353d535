-- An FDE that is written is read as its frame.
use Rattle.std.proofs.Common.{◌≡◌, ◌≢◌, ◌+◌, ◌-◌, ◌%◌, ◌<◌, ◌≤◌, ◌^◌, ◌==◌, ℕ, suc, Bool, true, false, nat_lt, nat_le, List, [], ◌∷◌, ◌++◌, length, take, drop, Ok, Some, refl, ap, sym, ◌∙◌, arith, length-append, if◌then◌else◌, ◌⊎◌, inl, inr}
use Rattle.std.specs.Prelude.{None, replicate, ◌&&◌}
use Rattle.std.specs.Int.{w32, to_le_bytes}
use Rattle.std.specs.List.{AllByRecursion}
use Rattle.std.proofs.lemmas.Bool.Decides.{nat_tests}
use Rattle.eh_bytes.specs.declared.frames.Region64.{Region64}
use Rattle.eh_bytes.specs.declared.frames.FrameMove.{FrameMove}
use Rattle.eh_bytes.specs.Memory.{Part}
use Rattle.eh_bytes.specs.Listed.{ListedFrame}
use Rattle.eh_bytes.specs.Encoded.{encoded}
use Rattle.table_forms.specs.Fault.{◌>>=◌}
use Rattle.table_forms.specs.Instruction.{nop, in_frames}
use Rattle.table_forms.specs.Cie.{Cie}
use Rattle.table_forms.specs.Fde.{Fde, region_at, lsda_pointer, lsda_at, fde_at}
use Rattle.table_forms.specs.WrittenFrames.{FdeStands}
use Rattle.eh_write.specs.Distance.{distance_bytes, IsNear}
use Rattle.eh_write.specs.WrittenFrames.{data_bytes, moves_bytes}
use Rattle.eh_write.specs.CanWriteFrames.{ChangeIsGood, MovesAreGood, IsOutside, TableIsGood, FrameIsGood}
use Rattle.eh_write.specs.Fits.{HasOffset}
use Rattle.eh_write.proofs.Reading.{next_stands}
use Rattle.eh_write.proofs.FrameFields.{From, in_relative, in_zero, in_length, behind_by, cut_from}
use Rattle.eh_write.proofs.MovesRead.{the_coding, moves_list, moves_read}
use Rattle.eh_write.proofs.MovesStand.{rows_stand}
use Rattle.eh_write.proofs.CieRead.{augmentation, nops_of, cie_of, size_read}

-- bytes of a part from an address on, which end below 2^31
pub record Within (first end address : ℕ) : Type 0 where
  pub from : first ≤ address
  pub below : address < end
  pub low : end ≤ 2 ^ 31

low_near : (a b : ℕ) → a < 2 ^ 31 → b < 2 ^ 31 → IsNear a b
low_near a b x y = (omega (arith, x, y), omega (arith, x, y))

outside_apart : (first end place a : ℕ) → Within first end place → IsOutside first end a → a ≢ place
outside_apart first end place a within (inl before) = λ e. let from = within.from in absurd (omega (arith, before, e, from))
outside_apart first end place a within (inr after) = λ e. let below = within.below in absurd (omega (arith, after, e, below))

-- an address that is written at a place of the bytes
address_read : (part : Part) (stop p first end a : ℕ) (rest : List ℕ) → Within first end (part.address + p) → a < 2 ^ 31 → IsOutside first end a →
    From part stop p (distance_bytes (part.address + p) a ++ rest) →
    in_frames (encoded 27 (part.address + p)) part stop p ≡ Ok (record { value = a; indirect = false }, p + 4)
address_read part stop p first end a rest within low outside here =
    let below = within.below in
    let ends = within.low in
    in_relative part stop p (part.address + p) a rest (omega (arith, low)) (low_near (part.address + p) a (omega (arith, below, ends)) low)
    (outside_apart first end (part.address + p) a within outside) here

pub region_read : (cie : Cie) (part : Part) (stop p first end : ℕ) (region : Region64) (rest : List ℕ) → cie.coding ≡ the_coding → Within first end (part.address + p) →
    region.start + region.length < 2 ^ 31 → IsOutside first end region.start →
    From part stop p (distance_bytes (part.address + p) region.start ++ (to_le_bytes w32 (region.length % 2 ^ 32) ++ rest)) →
    region_at cie part stop p ≡ Ok (region, p + 4 + 4)
unfolding region_at
region_read cie part stop p first end region rest coding within ends outside here =
    let whole : region.length % 2 ^ 32 ≡ region.length = omega (arith, ends) in
    let second : From part stop (p + 4) (to_le_bytes w32 region.length ++ rest) =
    next_stands (take stop part.bytes) p (distance_bytes (part.address + p) region.start) (to_le_bytes w32 (region.length % 2 ^ 32) ++ rest) here ∙
    ap (λ n. to_le_bytes w32 n ++ rest) whole in
    let fits : nat_lt (region.start + region.length) (2 ^ 64) ≡ true = grind (arith, nat_tests, ends) in
    rw coding
    (rw (address_read part stop p first end region.start (to_le_bytes w32 (region.length % 2 ^ 32) ++ rest) within (omega (arith, ends)) outside here)
    (rw (in_length part stop (p + 4) region.length rest (omega (arith, ends)) second) (rw fits refl)))

abbrev data_size : Bool → ℕ
data_size true = 4
data_size false = 0

pointer_read : (part : Part) (stop p first end lsda : ℕ) (rest : List ℕ) → Within first end (part.address + p) → TableIsGood true first end lsda →
    From part stop p ((if lsda == 0 then to_le_bytes w32 0 else distance_bytes (part.address + p) lsda) ++ rest) → lsda_pointer (Some 27) part stop p ≡ Ok lsda
pointer_read part stop p first end lsda rest within good here = by_zero (lsda == 0) refl good here
  where
    none : lsda ≡ 0 → From part stop p (to_le_bytes w32 0 ++ rest) → lsda_pointer (Some 27) part stop p ≡ Ok lsda
    none z at = ap (λ r. r >>= (λ x. Ok x.0.value)) (in_zero part stop p (part.address + p) rest at) ∙ ap Ok (sym z)

    by_zero : (b : Bool) → (lsda == 0) ≡ b → (lsda ≡ 0) ⊎ ((lsda < 2 ^ 31) × IsOutside first end lsda) →
        From part stop p ((if b then to_le_bytes w32 0 else distance_bytes (part.address + p) lsda) ++ rest) → lsda_pointer (Some 27) part stop p ≡ Ok lsda
    by_zero true e table at = none (grind (arith, nat_tests, e)) at
    by_zero false e (inl z) at = let t : (lsda == 0) ≡ true = grind (arith, nat_tests, z) in absurd (let f : true ≡ false = sym t ∙ e in cc)
    by_zero false e (inr (low, outside)) at = ap (λ r. r >>= (λ x. Ok x.0.value)) (address_read part stop p first end lsda rest within low outside at)

pub table_read : (tables : Bool) (c : ℕ) (part : Part) (stop p first end lsda : ℕ) (rest : List ℕ) → Within first end (part.address + (p + 1)) → TableIsGood tables first end lsda →
    From part stop p (data_bytes tables (part.address + p) lsda ++ rest) → p + 1 + data_size tables ≤ stop →
    lsda_at (augmentation tables) (cie_of tables part c) part stop p ≡ Ok (lsda, p + 1 + data_size tables)
table_read true c part stop p first end lsda rest within good here room =
    let end_at = p + 1 + 4 in
    let pointer : List ℕ = if lsda == 0 then to_le_bytes w32 0 else distance_bytes (part.address + p + 1) lsda in
    let four : length pointer ≡ 4 = four_long (lsda == 0) in
    let behind = behind_by part stop p 1 (4 ∷ (pointer ++ rest)) here in
    let cut = cut_from part stop (p + 1) end_at pointer rest behind (omega (arith, four)) room in
    let left = take (end_at - (p + 1 + length pointer)) rest in
    let place : part.address + p + 1 ≡ part.address + (p + 1) = omega arith in
    let there : From part end_at (p + 1) ((if lsda == 0 then to_le_bytes w32 0 else distance_bytes (part.address + (p + 1)) lsda) ++ left) =
    cut ∙ ap (λ a. (if lsda == 0 then to_le_bytes w32 0 else distance_bytes a lsda) ++ left) place in
    ap (λ r. r >>= (λ d. lsda_pointer (Some 27) part d.1 d.0 >>= (λ l. Ok (l, d.1)))) (size_read part stop p 4 (pointer ++ rest) (omega arith) here room) ∙
    ap (λ r. r >>= (λ l. Ok (l, end_at))) (pointer_read part end_at (p + 1) first end lsda left within good there)
  where
    four_long : (b : Bool) → length (if b then to_le_bytes w32 0 else distance_bytes (part.address + p + 1) lsda) ≡ 4
    four_long true = refl
    four_long false = refl
table_read false c part stop p first end lsda rest within good here room =
    ap (λ r. r >>= (λ d. lsda_pointer None part d.1 d.0 >>= (λ l. Ok (l, d.1)))) (size_read part stop p 0 rest (omega arith) here room) ∙
    ap (λ l. Ok (l, p + 1 + 0)) (sym good)

pub data_length : (tables : Bool) (place lsda : ℕ) → length (data_bytes tables place lsda) ≡ 1 + data_size tables
data_length true place lsda = by_zero (lsda == 0)
  where
    by_zero : (b : Bool) → suc (length (if b then to_le_bytes w32 0 else distance_bytes (place + 1) lsda)) ≡ 1 + 4
    by_zero true = refl
    by_zero false = refl
data_length false place lsda = refl

good_changes : (region : Region64) (before : ℕ) (ms : List FrameMove) → MovesAreGood region before ms → AllByRecursion (λ m. ChangeIsGood m.change) ms
good_changes region before [] good = tt
good_changes region before (m ∷ ms) good = (good.2, good_changes region m.location ms good.3)

-- what is read of a frame
abbrev pub fde_of : Bool → Part → ℕ → ℕ → ℕ → ListedFrame → Fde
fde_of tables part c at k f = record {
  address = part.address + at;
  place = part.file_at + at;
  region = f.region;
  lsda = f.lsda;
  cie = cie_of tables part c;
  instructions = moves_list f.region.start f.moves ++ replicate k nop;
}

-- the bytes of an FDE behind its distance, where it stands at an address
abbrev pub described : Bool → ℕ → ℕ → ListedFrame → List ℕ
described tables place k f =
    distance_bytes (place + 8) f.region.start ++ (to_le_bytes w32 (f.region.length % 2 ^ 32) ++ (data_bytes tables (place + 16) f.lsda ++ (moves_bytes f.region.start f.moves ++ replicate k 0)))

pub fde_read : (tables : Bool) (c : ℕ) (part : Part) (at stop first end k : ℕ) (f : ListedFrame) → FrameIsGood tables first end f → AllByRecursion (λ m. HasOffset m.change) f.moves →
    first ≤ part.address + at → part.address + stop < end → end ≤ 2 ^ 31 → From part stop (at + 4 + 4) (described tables (part.address + at) k f) →
    stop ≡ at + 4 + 4 + length (described tables (part.address + at) k f) →
    (region_at (cie_of tables part c) part stop (at + 4 + 4) ≡ Ok (f.region, at + 4 + 4 + 4 + 4)) ×
    (fde_at (cie_of tables part c) part at stop (at + 4 + 4) ≡ Ok (fde_of tables part c at k f))
unfolding fde_at
fde_read tables c part at stop first end k f good words from below low here ends =
    let p = at + 4 + 4 in
    let place = part.address + at in
    let cie = cie_of tables part c in
    let moves = moves_bytes f.region.start f.moves ++ replicate k 0 in
    let data' = data_bytes tables (place + 16) f.lsda in
    let len = to_le_bytes w32 (f.region.length % 2 ^ 32) in
    let four : length len ≡ 4 = refl in
    let four_too : length (distance_bytes (place + 8) f.region.start) ≡ 4 = refl in
    let sized = data_length tables (place + 16) f.lsda in
    let long : stop ≡ p + (4 + (4 + (1 + data_size tables + length moves))) =
    omega (arith, ends, four, four_too, sized, length-append (distance_bytes (place + 8) f.region.start) (len ++ (data' ++ moves)), length-append len (data' ++ moves), length-append data' moves) in
    let at_start : place + 8 ≡ part.address + p = omega arith in
    let here_start : From part stop p (distance_bytes (part.address + p) f.region.start ++ (len ++ (data' ++ moves))) =
    here ∙ ap (λ a. distance_bytes a f.region.start ++ (len ++ (data' ++ moves))) at_start in
    let here_len = next_stands (take stop part.bytes) p (distance_bytes (part.address + p) f.region.start) (len ++ (data' ++ moves)) here_start in
    let here_data = next_stands (take stop part.bytes) (p + 4) len (data' ++ moves) here_len in
    let q = p + 4 + 4 in
    let at_data : place + 16 ≡ part.address + q = omega arith in
    let data_here : From part stop q (data_bytes tables (part.address + q) f.lsda ++ moves) = here_data ∙ ap (λ a. data_bytes tables a f.lsda ++ moves) at_data in
    let r = q + 1 + data_size tables in
    let at_moves : r ≡ q + length (data_bytes tables (part.address + q) f.lsda) = omega (arith, data_length tables (part.address + q) f.lsda) in
    let moves_here : From part stop r moves =
    ap (λ x. drop x (take stop part.bytes)) at_moves ∙ next_stands (take stop part.bytes) q (data_bytes tables (part.address + q) f.lsda) moves data_here in
    let start_within : Within first end (part.address + p) = record { from = omega (arith, from); below = omega (arith, below, long); low = low } in
    let data_within : Within first end (part.address + (q + 1)) = record { from = omega (arith, from); below = omega (arith, below, long); low = low } in
    let region = region_read cie part stop p first end f.region (data' ++ moves) refl start_within good.ends good.outside here_start in
    let table = table_read tables c part stop q first end f.lsda moves data_within good.table data_here (omega (arith, long)) in
    let instructions = moves_read part stop r stop f.region.start k f.moves (good_changes f.region f.region.start f.moves good.moves) words moves_here (omega (arith, long)) (omega arith) in
    (region, rw region (rw table (rw instructions refl)))

-- the rows of an FDE that is read are those of its frame
pub fde_stands : (tables : Bool) (c : ℕ) (part : Part) (at first end k : ℕ) (f : ListedFrame) → FrameIsGood tables first end f → FdeStands f (fde_of tables part c at k f)
fde_stands tables c part at first end k f good = record {
  region = refl;
  lsda = refl;
  cie = record { version = refl; code_factor = refl; data_factor = refl; returns = refl; ordinary = refl };
  rows = λ pc inside.
      let test = first_of (nat_le f.region.start pc) (nat_lt pc (f.region.start + f.region.length)) inside in
      let from : f.region.start ≤ pc = grind (arith, nat_tests, test) in
      rows_stand f.region pc (nops_of tables) k f.moves good.moves from (let ends = good.ends in omega (arith, ends));
}
  where
    first_of : (x y : Bool) → (x && y) ≡ true → x ≡ true
    first_of true y e = refl
    first_of false y e = e
