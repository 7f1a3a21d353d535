-- The rows of a frame's instructions are those of its changes.
use Rattle.std.proofs.Common.{◌≡◌, ◌+◌, ◌-◌, ◌*◌, ◌/◌, ◌%◌, ◌<◌, ◌≤◌, ◌^◌, ◌==◌, ℕ, pos, zero, suc, Bool, true, false, nat_lt, nat_le, List, [], ◌∷◌, ◌++◌, refl, ap, sym, ◌∙◌, arith, if◌then◌else◌}
use Rattle.std.specs.Prelude.{replicate, fold, filter}
use Rattle.std.proofs.lemmas.Bool.Decides.{nat_tests}
use Rattle.eh_bytes.specs.declared.frames.Region64.{Region64}
use Rattle.eh_bytes.specs.declared.frames.FrameChange.{FrameChange}
use Rattle.eh_bytes.specs.declared.frames.FrameChange.TheVariants.{Cfa, Saved, Undefined}
use Rattle.eh_bytes.specs.declared.frames.FrameMove.{FrameMove}
use Rattle.table_forms.specs.declared.found.Row.{Row}
use Rattle.table_forms.specs.Instruction.{Instruction, nop, advance, set_cfa}
use Rattle.table_forms.specs.Row.{no_rules, first_row, Folding, begun, location_after, after, stepped, with_initial, row_of}
use Rattle.table_forms.specs.WrittenFrames.{changed, moved_row}
use Rattle.eh_write.specs.CanWriteFrames.{MovesAreGood}
use Rattle.eh_write.proofs.MovesRead.{change_instruction, moves_list}

-- a fold on its way, without states
abbrev on_way : ℕ → Row → Folding
on_way location row = record { location = location; row = row; states = []; initial = no_rules; stopped = false }

-- nothing changes any more
stays : (pc : ℕ) (s : Folding) (is : List Instruction) → s.stopped ≡ true → fold (stepped pc) s is ≡ s
stays pc s [] stopped = refl
stays pc s (i ∷ is) stopped =
    let same : stepped pc s i ≡ s = ap (λ b. if b then s else if nat_lt pc (location_after i s.location) then record s { stopped = true } else after s i) stopped in
    ap (λ x. fold (stepped pc) x is) same ∙ stays pc s is stopped

nops_stay : (pc location k : ℕ) (row : Row) → location ≤ pc → fold (stepped pc) (on_way location row) (replicate k nop) ≡ on_way location row
nops_stay pc location zero row below = refl
nops_stay pc location (suc k) row below =
    let test : nat_lt pc location ≡ false = grind (arith, nat_tests, below) in
    ap (λ b. fold (stepped pc) (if b then record (on_way location row) { stopped = true } else on_way location row) (replicate k nop)) test ∙ nops_stay pc location k row below

-- a change where it is in effect
change_step : (pc location : ℕ) (row : Row) (change : FrameChange) → location ≤ pc → row.cfa_register ≡ 2 →
    stepped pc (on_way location row) (change_instruction change) ≡ on_way location (changed row change)
change_step pc location row (Cfa n) below two =
    let test : nat_lt pc location ≡ false = grind (arith, nat_tests, below) in
    rw test (ap (λ r. on_way location (record { cfa_register = r; cfa_offset = n; rules = row.rules })) two)
change_step pc location row (Saved r n) below two =
    let test : nat_lt pc location ≡ false = grind (arith, nat_tests, below) in rw test refl
change_step pc location row (Undefined r) below two =
    let test : nat_lt pc location ≡ false = grind (arith, nat_tests, below) in rw test refl

still_two : (row : Row) (change : FrameChange) → row.cfa_register ≡ 2 → (changed row change).cfa_register ≡ 2
still_two row (Cfa n) two = refl
still_two row (Saved r n) two = two
still_two row (Undefined r) two = two

-- no change above a place is in effect at it
none_later : (region : Region64) (pc before : ℕ) (ms : List FrameMove) → MovesAreGood region before ms → pc < before → filter (λ m. nat_le m.location pc) ms ≡ []
none_later region pc before [] good above = refl
none_later region pc before (m ∷ ms) good above =
    let order = good.0 in
    let test : nat_le m.location pc ≡ false = grind (arith, nat_tests, order, above) in
    ap (λ b. if b then m ∷ filter (λ x. nat_le x.location pc) ms else filter (λ x. nat_le x.location pc) ms) test ∙
    none_later region pc m.location ms good.3 (omega (arith, order, above))

row_after : ℕ → Row → List FrameMove → Row
row_after pc row ms = fold (λ r m. changed r m.change) row (filter (λ m. nat_le m.location pc) ms)

moves_stand : (region : Region64) (pc location k : ℕ) (row : Row) (ms : List FrameMove) → MovesAreGood region location ms → location ≤ pc → row.cfa_register ≡ 2 →
    region.start ≤ location → (location - region.start) % 4 ≡ 0 → region.start + region.length ≤ 2 ^ 31 →
    (fold (stepped pc) (on_way location row) (moves_list location ms ++ replicate k nop)).row ≡ row_after pc row ms
unfolding row_after
moves_stand region pc location k row [] good below two from even low = ap (λ s. s.row) (nops_stay pc location k row below)
moves_stand region pc location k row (m ∷ ms) good below two from even low =
    by_place (nat_le m.location pc) refl
    (λ inside. moves_stand region pc m.location k (changed row m.change) ms good.3 inside (still_two row m.change two) good.1.0 good.1.2 low)
  where
    steps : ℕ
    steps = (m.location - location) / 4 % 2 ^ 32

    rest : List Instruction
    rest = moves_list m.location ms ++ replicate k nop

    whole : m.location ≡ location + steps * 4
    whole =
        let order = good.0 in
        let start = good.1.0 in
        let inside = good.1.1 in
        let multiple = good.1.2 in
        omega (arith, order, start, inside, multiple, from, even, low)

    -- the list of the first change
    shape : (b : Bool) → ((if b then [] else advance (steps * 4) ∷ []) ++ change_instruction m.change ∷ moves_list m.location ms) ++ replicate k nop ≡
        (if b then change_instruction m.change ∷ rest else advance (steps * 4) ∷ change_instruction m.change ∷ rest)
    shape true = refl
    shape false = refl

    -- behind the move
    moved : nat_le m.location pc ≡ true → (b : Bool) → (steps == 0) ≡ b →
        fold (stepped pc) (on_way location row) (if b then change_instruction m.change ∷ rest else advance (steps * 4) ∷ change_instruction m.change ∷ rest) ≡
        fold (stepped pc) (on_way m.location (changed row m.change)) rest
    moved inside true none =
        let same : location ≡ m.location = grind (arith, nat_tests, none, whole) in
        let le : m.location ≤ pc = grind (arith, nat_tests, inside) in
        ap (λ l. fold (stepped pc) (stepped pc (on_way l row) (change_instruction m.change)) rest) same ∙
        ap (λ s. fold (stepped pc) s rest) (change_step pc m.location row m.change le two)
    moved inside false some =
        let le : m.location ≤ pc = grind (arith, nat_tests, inside) in
        let test : nat_lt pc (location + steps * 4) ≡ false = grind (arith, nat_tests, le, whole) in
        ap (λ b. fold (stepped pc) (stepped pc (if b then record (on_way location row) { stopped = true } else on_way (location + steps * 4) row) (change_instruction m.change)) rest) test ∙
        ap (λ l. fold (stepped pc) (stepped pc (on_way l row) (change_instruction m.change)) rest) (sym whole) ∙
        ap (λ s. fold (stepped pc) s rest) (change_step pc m.location row m.change le two)

    -- before the move
    waits : nat_le m.location pc ≡ false → (b : Bool) → (steps == 0) ≡ b →
        (fold (stepped pc) (on_way location row) (if b then change_instruction m.change ∷ rest else advance (steps * 4) ∷ change_instruction m.change ∷ rest)).row ≡ row
    waits outside true none = absurd (let gt : pc < m.location = grind (arith, nat_tests, outside) in let z : steps ≡ 0 = grind (arith, nat_tests, none) in omega (arith, gt, z, whole, below))
    waits outside false some =
        let test : nat_lt pc (location + steps * 4) ≡ true = let gt : pc < m.location = grind (arith, nat_tests, outside) in grind (arith, nat_tests, gt, whole) in
        ap (λ b. (fold (stepped pc) (if b then record (on_way location row) { stopped = true } else on_way (location + steps * 4) row) (change_instruction m.change ∷ rest)).row) test ∙
        ap (λ s. s.row) (stays pc (record (on_way location row) { stopped = true }) (change_instruction m.change ∷ rest) refl)

    by_place : (b : Bool) → nat_le m.location pc ≡ b →
        (m.location ≤ pc → (fold (stepped pc) (on_way m.location (changed row m.change)) rest).row ≡ fold (λ r x. changed r x.change) (changed row m.change) (filter (λ x. nat_le x.location pc) ms)) →
        (fold (stepped pc) (on_way location row) (moves_list location (m ∷ ms) ++ replicate k nop)).row ≡
        fold (λ r x. changed r x.change) row (if b then m ∷ filter (λ x. nat_le x.location pc) ms else filter (λ x. nat_le x.location pc) ms)
    by_place true inside later =
        ap (λ is. (fold (stepped pc) (on_way location row) is).row) (shape (steps == 0)) ∙ ap (λ s. s.row) (moved inside (steps == 0) refl) ∙ later (grind (arith, nat_tests, inside))
    by_place false outside later =
        ap (λ is. (fold (stepped pc) (on_way location row) is).row) (shape (steps == 0)) ∙ waits outside (steps == 0) refl ∙
        sym (ap (fold (λ r x. changed r x.change) row) (none_later region pc m.location ms good.3 (grind (arith, nat_tests, outside))))

-- the rows of a whole frame, whose CIE says x2 + 0
pub rows_stand : (region : Region64) (pc common own : ℕ) (ms : List FrameMove) → MovesAreGood region region.start ms → region.start ≤ pc → region.start + region.length ≤ 2 ^ 31 →
    row_of region.start (set_cfa 2 (pos 0) ∷ replicate common nop) (moves_list region.start ms ++ replicate own nop) pc ≡ moved_row ms pc
unfolding row_of begun first_row moved_row row_after
rows_stand region pc common own ms good from low =
    let row : Row = record { cfa_register = 2; cfa_offset = pos 0; rules = no_rules } in
    let test : nat_lt pc region.start ≡ false = grind (arith, nat_tests, from) in
    let cie : fold (stepped pc) (on_way region.start row) (set_cfa 2 (pos 0) ∷ replicate common nop) ≡ on_way region.start row =
    ap (λ b. fold (stepped pc) (if b then record (on_way region.start row) { stopped = true } else on_way region.start row) (replicate common nop)) test ∙
    nops_stay pc region.start common row from in
    ap (λ s. (fold (stepped pc) (with_initial s) (moves_list region.start ms ++ replicate own nop)).row) cie ∙
    moves_stand region pc region.start own row ms good from refl (omega arith) (omega arith) low
