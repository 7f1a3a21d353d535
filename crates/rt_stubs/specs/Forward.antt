-- Code that never goes back but by a call or a return.
use Rattle.std.specs.Prelude.{ℕ, ◌+◌, ◌/◌, ◌%◌, Bool, true, false, ◌&&◌, ◌==◌, nat_lt, if◌then◌else◌, List, [], ◌∷◌, take, drop, Option, Some, None}
use Rattle.rv64_isa.specs.declared.instr.Instr.{Instr}
use Rattle.rv64_isa.specs.declared.instr.Instr.TheVariants.{Jal, Jalr, Beq, Bne, Blt, Bge, Bltu, Bgeu}
use Rattle.rv64_isa.specs.Decoding.{decoded}
use Rattle.eh_bytes.specs.Listed.{ListedFunction, ListedUnit}
use Rattle.machine_forms.specs.Registers.{zero_register, ra}

-- a distance of so many half words leads forward from the k-th of n words to another of them
abbrev pub leads_forward : (k n halves : ℕ) → Bool
leads_forward k n halves = halves % 2 == 0 && nat_lt 0 halves && nat_lt (k + halves / 2) n

-- a call comes back behind itself, and `jalr zero, 0(ra)` leaves the function
abbrev pub calls_or_returns : (link base offset : ℕ) → Bool
calls_or_returns link base offset = if link == ra then true else link == zero_register && base == ra && offset == 0

-- the k-th of n words goes on with the next one, leads forward, or is a call or a return
abbrev pub goes_on : (k n : ℕ) → Option Instr → Bool
goes_on k n None = false
goes_on k n (Some (Jal link offset)) = link == zero_register && leads_forward k n offset
goes_on k n (Some (Jalr link base offset)) = calls_or_returns link base offset
goes_on k n (Some (Beq x y offset)) = leads_forward k n offset
goes_on k n (Some (Bne x y offset)) = leads_forward k n offset
goes_on k n (Some (Blt x y offset)) = leads_forward k n offset
goes_on k n (Some (Bge x y offset)) = leads_forward k n offset
goes_on k n (Some (Bltu x y offset)) = leads_forward k n offset
goes_on k n (Some (Bgeu x y offset)) = leads_forward k n offset
goes_on k n (Some _) = true

-- each of n words from the k-th on does
abbrev pub all_go_on : (k n : ℕ) → List ℕ → Bool
all_go_on k n [] = true
all_go_on k n (w ∷ ws) = goes_on k n (decoded w) && all_go_on (k + 1) n ws

-- the words of a function of a unit
abbrev pub function_words : ListedUnit → ListedFunction → List ℕ
function_words u f = take f.words (drop f.first u.code)

-- no word of a function leads back, so that one call of it executes each word at most once
abbrev pub is_forward : ListedUnit → ListedFunction → Bool
is_forward u f = all_go_on 0 f.words (function_words u f)
