-- Functions in the order of their addresses, and their frames.
use Rattle.std.proofs.Common.{◌≡◌, ◌≤◌, ℕ, ◌+◌, ◌-◌, ◌*◌, ◌%◌, false, List, [], ◌∷◌, ◌++◌, length, sym, ◌∙◌, ap, subst, arith}
use Rattle.std.specs.List.{AllByRecursion}
use Rattle.std.proofs.lemmas.Bool.Decides.{nat_tests}
use Rattle.eh_bytes.specs.declared.frames.Region64.{Region64}
use Rattle.eh_bytes.specs.declared.frames.FrameMove.{FrameMove}
use Rattle.eh_bytes.specs.Listed.{ListedFunction}
use Rattle.table_forms.specs.Fde.{overlap}
use Rattle.eh_write.specs.CanWriteFrames.{MovesAreGood, AreApart}
use Rattle.image_forms.specs.Function.{StandInRow}
use Rattle.image_forms.specs.Placed.{PlacedFunction, placed_from}
use Rattle.image_forms.specs.Tables.{placed_table, placed_moves, linked_frames}

-- in order, none before an address, and all before another
abbrev pub InRow : (before end : ℕ) → List PlacedFunction → Type 0
InRow before end [] = before ≤ end
InRow before end (f ∷ fs) = (before ≤ f.address) × InRow (f.address + 4 * f.function.words) end fs

pub row_of : (code before end : ℕ) (fs : List ListedFunction) → StandInRow before end fs → InRow (code + 4 * before) (code + 4 * end) (placed_from code fs)
row_of code before end [] row = omega (arith, row)
row_of code before end (f ∷ fs) (first, rest) =
    let next : code + 4 * (f.first + f.words) ≡ code + 4 * f.first + 4 * f.words = omega arith in
    (omega (arith, first), subst (λ n. InRow n (code + 4 * end) (placed_from code fs)) next (row_of code (f.first + f.words) end fs rest))

pub wider : (before earlier end later : ℕ) (fs : List PlacedFunction) → earlier ≤ before → end ≤ later → InRow before end fs → InRow earlier later fs
wider before earlier end later [] low high row = omega (arith, low, high, row)
wider before earlier end later (f ∷ fs) low high (first, rest) =
    (omega (arith, low, first), wider (f.address + 4 * f.function.words) (f.address + 4 * f.function.words) end later fs (omega arith) high rest)

pub row_joined : (before middle end : ℕ) (fs gs : List PlacedFunction) → InRow before middle fs → InRow middle end gs → InRow before end (fs ++ gs)
row_joined before middle end [] gs row more = wider middle before end end gs row (omega arith) more
row_joined before middle end (f ∷ fs) gs (first, rest) more = (first, row_joined (f.address + 4 * f.function.words) middle end fs gs rest more)

pub row_end : (before end : ℕ) (fs : List PlacedFunction) → InRow before end fs → before ≤ end
row_end before end [] row = row
row_end before end (f ∷ fs) (first, rest) = omega (arith, first, row_end (f.address + 4 * f.function.words) end fs rest)

-- changes of a frame, from its function's address on
pub moves_placed : (a size before : ℕ) (ms : List FrameMove) → MovesAreGood (record { start = 0; length = size }) before ms →
    MovesAreGood (record { start = a; length = size }) (a + before) (placed_moves a ms)
moves_placed a size before [] good = tt
moves_placed a size before (m ∷ ms) (order, inside, change, rest) =
    let same : m.location - 0 ≡ a + m.location - a = omega arith in
    let stepped : (a + m.location - a) % 4 ≡ 0 = ap (λ n. n % 4) (sym same) ∙ inside.2 in
    (omega (arith, order), (omega arith, omega (arith, inside.1), stepped), change, moves_placed a size m.location ms rest)

-- every region before ends here
abbrev AreBefore : ℕ → List Region64 → Type 0
AreBefore before regions = AllByRecursion (λ r. r.start + r.length ≤ before) regions

before_later : (before later : ℕ) (regions : List Region64) → before ≤ later → AreBefore before regions → AreBefore later regions
before_later before later [] le all = tt
before_later before later (r ∷ rs) le (first, rest) = (omega (arith, le, first), before_later before later rs le rest)

none_overlaps : (r : Region64) (regions : List Region64) → AreBefore r.start regions → AllByRecursion (λ s. overlap r s ≡ false) regions
none_overlaps r [] all = tt
none_overlaps r (s ∷ ss) (first, rest) = (grind (arith, nat_tests), none_overlaps r ss rest)

pub frames_apart : (end a before limit : ℕ) (fs : List PlacedFunction) (earlier : List Region64) → AreBefore before earlier → InRow before limit fs →
    AreApart earlier (linked_frames end a fs)
frames_apart end a before limit [] earlier all row = tt
frames_apart end a before limit (f ∷ fs) earlier all (first, rest) =
    let region : Region64 = record { start = f.address; length = 4 * f.function.words } in
    let behind = f.address + 4 * f.function.words in
    let sooner = before_later before f.address earlier first all in (
      none_overlaps region earlier sooner,
      frames_apart end (a + length (placed_table end a f)) behind limit fs (region ∷ earlier) (omega arith, before_later f.address behind earlier (omega arith) sooner) rest,
    )
