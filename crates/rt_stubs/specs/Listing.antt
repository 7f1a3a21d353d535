-- What a listing stands for.
use Rattle.std.specs.Prelude.{ℕ, ◌/◌, ◌%◌, ◌^◌, List, [], map, length}
use Rattle.rv64_isa.specs.declared.instr.Instr.{Instr}
use Rattle.rv64_isa.specs.declared.instr.Instr.TheVariants as isa
use Rattle.rv64_isa.specs.Listing.{word_of}
use Rattle.eh_bytes.specs.Listed.{ListedTable, ListedFunction}
use Rattle.machine_forms.specs.Immediate.{immediate}
use Rattle.machine_forms.specs.Registers.{zero_register, ra, sp, a0, a1, a2, a7}
use Rattle.rt_stubs.specs.declared.line.Name.{Name}
use Rattle.rt_stubs.specs.declared.line.Name.TheVariants.{Zero, Ra, Sp, A0, A1, A2, A7}
use Rattle.rt_stubs.specs.declared.line.Line.{Line}
use Rattle.rt_stubs.specs.declared.line.Line.TheVariants as lines
use Rattle.rt_stubs.specs.declared.listing.Listing.{Listing}

-- the number of a register
abbrev pub number_of : Name → ℕ
number_of Zero = zero_register
number_of Ra = ra
number_of Sp = sp
number_of A0 = a0
number_of A1 = a1
number_of A2 = a2
number_of A7 = a7

-- the instruction of a line
abbrev pub instruction_of : Line → Instr
instruction_of (lines.Addi d s n) = isa.Addi (number_of d) (number_of s) (immediate n)
instruction_of (lines.Auipc d n) = isa.Auipc (number_of d) (n % 2 ^ 20)
instruction_of (lines.Beq x y n) = isa.Beq (number_of x) (number_of y) (n / 2 % 2 ^ 12)
instruction_of (lines.Bne x y n) = isa.Bne (number_of x) (number_of y) (n / 2 % 2 ^ 12)
instruction_of lines.Ecall = isa.Ecall
instruction_of (lines.Jal d n) = isa.Jal (number_of d) (n / 2)
instruction_of (lines.Jalr d n s) = isa.Jalr (number_of d) (number_of s) (immediate n)
instruction_of (lines.Ld d n s) = isa.Ld (number_of d) (number_of s) (immediate n)
instruction_of (lines.Lw d n s) = isa.Lw (number_of d) (number_of s) (immediate n)
instruction_of (lines.Sd v n s) = isa.Sd (number_of s) (number_of v) (immediate n)
instruction_of (lines.Subw d x y) = isa.Subw (number_of d) (number_of x) (number_of y)

-- the words of lines
abbrev pub words_of : List Line → List ℕ
words_of code = map (λ line. word_of (instruction_of line)) code

-- the table of a function
abbrev pub table_of : Listing → ListedTable
table_of f = record {
  sites = f.sites.now;
  chains = map (λ chain. chain.now) f.chains.now;
  types = f.types.now;
  lists = [];
}

-- a function whose first word is this
abbrev pub function_of : ℕ → Listing → ListedFunction
function_of first f = record { name = f.name.now; first = first; words = length f.code.now; table = table_of f; moves = f.moves.now }
