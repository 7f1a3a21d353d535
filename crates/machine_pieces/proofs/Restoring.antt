-- Registers get back what their slots hold.
use Rattle.std.proofs.Common.{◌≡◌, ◌≢◌, ◌∙◌, refl, sym, ap, subst, arith, ℕ, suc, ◌+◌, ◌%◌, ◌^◌, ◌<◌, ◌≤◌, pos, List, [], ◌∷◌, ◌++◌, map, drop, length}
use Rattle.std.specs.Prelude.{⊤}
use Rattle.std.proofs.lemmas.Bool.{eq-eqb}
use Rattle.rv64_isa.specs.declared.step.Step.TheVariants.{Done}
use Rattle.rv64_isa.specs.declared.instr.Instr.TheVariants.{Ld}
use Rattle.rv64_isa.specs.Arithmetic.{add}
use Rattle.rv64_isa.specs.State.{State, Part, state, reg_of, with_reg}
use Rattle.rv64_isa.specs.Step.{step_of, done, imm12, x, loads}
use Rattle.machine_forms.specs.Immediate.{immediate}
use Rattle.machine_forms.specs.Registers.{sp, saved_registers}
use Rattle.machine_forms.specs.Piece.{instruction}
use Rattle.machine_forms.specs.Shape.{Shape, slot_offset}
use Rattle.machine_forms.specs.KeptCode.{restores}
use Rattle.machine_pieces.specs.Standing.{Ground, address, PieceAt, PiecesAt}
use Rattle.machine_pieces.specs.Executes.{Executes}
use Rattle.machine_pieces.specs.Frames.{AddressAt}
use Rattle.machine_pieces.specs.Saving.{SavedAt, IsOut, AreNear, Restores}
use Rattle.machine_pieces.proofs.Storing.{loads_done}
use Rattle.machine_pieces.proofs.Fetching.{piece_done}
use Rattle.machine_pieces.proofs.Stepping.{no_steps, step_then}
use Rattle.machine_pieces.proofs.Going.{next_is}
use Rattle.machine_pieces.proofs.Places.{near_address}
use Rattle.machine_pieces.proofs.Registers.{set_length, read_same, read_other}

-- ---- lists of registers

-- registers get values in order
pub set_saved : (rs vs regs : List ℕ) → List ℕ
set_saved [] vs regs = regs
set_saved (r ∷ rs) [] regs = regs
set_saved (r ∷ rs) (v ∷ vs) regs = set_saved rs vs (with_reg regs r v)

-- different ones, none of them x0 or sp
abbrev pub AreApart : List ℕ → Type 0
AreApart [] = ⊤
AreApart (r ∷ rs) = (r ≢ 0) × (r ≢ sp) × (r < 32) × IsOut r rs × AreApart rs

pub set_length_all : (rs vs regs : List ℕ) → length (set_saved rs vs regs) ≡ length regs
unfolding set_saved
set_length_all [] vs regs = refl
set_length_all (r ∷ rs) [] regs = refl
set_length_all (r ∷ rs) (v ∷ vs) regs = set_length_all rs vs (with_reg regs r v) ∙ set_length regs r v

pub untouched : (rs vs regs : List ℕ) (r : ℕ) → IsOut r rs → reg_of (set_saved rs vs regs) r ≡ reg_of regs r
unfolding set_saved
untouched [] vs regs r h = refl
untouched (q ∷ rs) [] regs r h = refl
untouched (q ∷ rs) (v ∷ vs) regs r h = untouched rs vs (with_reg regs q v) r h.1 ∙ read_other regs q r v h.0

pub same_others : (rs regs : List ℕ) (r v : ℕ) → IsOut r rs → map (reg_of (with_reg regs r v)) rs ≡ map (reg_of regs) rs
same_others [] regs r v h = refl
same_others (q ∷ rs) regs r v h =
    let other : q ≢ r = λ e. h.0 (sym e) in
    ap (λ a. a ∷ map (reg_of (with_reg regs r v)) rs) (read_other regs r q v other) ∙ ap (λ l. reg_of regs q ∷ l) (same_others rs regs r v h.1)

pub restored_are : (rs vs regs : List ℕ) → AreApart rs → length regs ≡ 32 → length vs ≤ length rs → map (reg_of (set_saved rs vs regs)) rs ≡ vs ++ drop (length vs) (map (reg_of regs) rs)
unfolding set_saved
restored_are [] [] regs h many le = refl
restored_are [] (v ∷ vs) regs h many le = absurd (omega (arith, le))
restored_are (r ∷ rs) [] regs h many le = refl
restored_are (r ∷ rs) (v ∷ vs) regs h many le =
    let regs2 = with_reg regs r v in
    let here : reg_of (set_saved rs vs regs2) r ≡ v = untouched rs vs regs2 r h.3 ∙ read_same regs r v h.0 (omega (arith, many, h.2)) in
    let rest = restored_are rs vs regs2 h.4 (set_length regs r v ∙ many) (omega (arith, le)) in
    ap (λ a. a ∷ map (reg_of (set_saved rs vs regs2)) rs) here ∙ ap (λ l. v ∷ l) (rest ∙ ap (λ l. vs ++ drop (length vs) l) (same_others rs regs r v h.3))

-- ---- words

ld_done : (rd rs imm : ℕ) (s : State) → done (Ld rd rs imm) s ≡ loads s 8 (λ n. n) rd (add (x s rs) (imm12 imm))
unfolding done
ld_done rd rs imm s = refl

one_restored : (g : Ground) (here r place offset v : ℕ) (s : State) → PieceAt s.memory g here (instruction (Ld r sp (immediate (pos offset)))) → s.pc ≡ address g here → offset < 2 ^ 11 → AddressAt s.memory (x s sp + offset) v →
    step_of s ≡ (Done, state (address g (here + 1)) (with_reg s.regs r v) s.memory)
one_restored g here r place offset v s h at near there =
    piece_done g here (instruction (Ld r sp (immediate (pos offset)))) s h at ∙ ld_done r sp (immediate (pos offset)) s
    ∙ ap (loads s 8 (λ n. n) r) (near_address (x s sp) offset near there.below)
    ∙ loads_done s 8 (λ n. n) r (x s sp + offset) v (eq-eqb ((x s sp + offset) % 8) 0 there.aligned) there.holds
    ∙ ap (λ pc. (Done, state pc (with_reg s.regs r v) s.memory)) (next_is g here (instruction (Ld r sp (immediate (pos offset)))) s h at)

abbrev pub behind : Ground → (here words : ℕ) → (regs : List ℕ) → State → State
behind g here words regs s = state (address g (here + words)) regs s.memory

pub none_run : (g : Ground) (here : ℕ) (s : State) → s.pc ≡ address g here → Executes 0 s (behind g here 0 s.regs s)
none_run g here s at =
    let same : s.pc ≡ address g (here + 0) = omega (arith, at) in
    subst (λ pc. Executes 0 s (state pc s.regs s.memory)) same (no_steps s)

words_run : (g : Ground) (here : ℕ) (f : Shape) (rs ks vs : List ℕ) (s : State) → AreApart rs → AreNear f ks → SavedAt f s.memory (x s sp) ks vs → PiecesAt s.memory g here (restores f rs ks) →
    s.pc ≡ address g here → length s.regs ≡ 32 → length ks ≤ length rs → Executes (length (restores f rs ks)) s (behind g here (length (restores f rs ks)) (set_saved rs vs s.regs) s)
unfolding set_saved
words_run g here f [] [] vs s apart near there code at many le = none_run g here s at
words_run g here f [] (k ∷ ks) vs s apart near there code at many le = absurd (omega (arith, le))
words_run g here f (r ∷ rs) [] [] s apart near there code at many le = none_run g here s at
words_run g here f (r ∷ rs) [] (v ∷ vs) s apart near there code at many le = absurd there
words_run g here f (r ∷ rs) (k ∷ ks) [] s apart near there code at many le = absurd there
words_run g here f (r ∷ rs) (k ∷ ks) (v ∷ vs) s apart near there code at many le =
    let n = length (restores f rs ks) in
    let t : State = state (address g (here + 1)) (with_reg s.regs r v) s.memory in
    let one = one_restored g here r 0 (slot_offset f k) v s code.0 at near.0 there.0 in
    let pointer : x t sp ≡ x s sp = read_other s.regs r sp v (λ e. apart.1 (sym e)) in
    let rest = words_run g (here + 1) f rs ks vs t apart.4 near.1 (subst (λ p. SavedAt f s.memory p ks vs) (sym pointer) there.1) code.1 refl (set_length s.regs r v ∙ many) (omega (arith, le)) in
    let place : address g (here + 1 + n) ≡ address g (here + suc n) = omega arith in
    step_then n s t (behind g here (suc n) (set_saved rs vs (with_reg s.regs r v)) s) one (subst (λ pc. Executes n t (state pc (set_saved rs vs (with_reg s.regs r v)) s.memory)) place rest)

-- ---- all of them

pub ten_apart : AreApart saved_registers
ten_apart = (
  λ e. omega (arith, e),
  λ e. omega (arith, e),
  omega arith,
  (λ e. omega (arith, e), (λ e. omega (arith, e), (λ e. omega (arith, e), (λ e. omega (arith, e), (λ e. omega (arith, e), (λ e. omega (arith, e), (λ e. omega (arith, e), (λ e. omega (arith, e), (λ e. omega (arith, e), tt))))))))),
  (
    λ e. omega (arith, e),
    λ e. omega (arith, e),
    omega arith,
    (λ e. omega (arith, e), (λ e. omega (arith, e), (λ e. omega (arith, e), (λ e. omega (arith, e), (λ e. omega (arith, e), (λ e. omega (arith, e), (λ e. omega (arith, e), (λ e. omega (arith, e), tt)))))))),
    (
      λ e. omega (arith, e),
      λ e. omega (arith, e),
      omega arith,
      (λ e. omega (arith, e), (λ e. omega (arith, e), (λ e. omega (arith, e), (λ e. omega (arith, e), (λ e. omega (arith, e), (λ e. omega (arith, e), (λ e. omega (arith, e), tt))))))),
      (
        λ e. omega (arith, e),
        λ e. omega (arith, e),
        omega arith,
        (λ e. omega (arith, e), (λ e. omega (arith, e), (λ e. omega (arith, e), (λ e. omega (arith, e), (λ e. omega (arith, e), (λ e. omega (arith, e), tt)))))),
        (
          λ e. omega (arith, e),
          λ e. omega (arith, e),
          omega arith,
          (λ e. omega (arith, e), (λ e. omega (arith, e), (λ e. omega (arith, e), (λ e. omega (arith, e), (λ e. omega (arith, e), tt))))),
          (
            λ e. omega (arith, e),
            λ e. omega (arith, e),
            omega arith,
            (λ e. omega (arith, e), (λ e. omega (arith, e), (λ e. omega (arith, e), (λ e. omega (arith, e), tt)))),
            (
              λ e. omega (arith, e),
              λ e. omega (arith, e),
              omega arith,
              (λ e. omega (arith, e), (λ e. omega (arith, e), (λ e. omega (arith, e), tt))),
              (
                λ e. omega (arith, e),
                λ e. omega (arith, e),
                omega arith,
                (λ e. omega (arith, e), (λ e. omega (arith, e), tt)),
                (
                  λ e. omega (arith, e),
                  λ e. omega (arith, e),
                  omega arith,
                  (λ e. omega (arith, e), tt),
                  (λ e. omega (arith, e), λ e. omega (arith, e), omega arith, tt, tt),
                ),
              ),
            ),
          ),
        ),
      ),
    ),
  ),
)

pub same_length : (f : Shape) (memory : List Part) (stack : ℕ) (ks vs : List ℕ) → SavedAt f memory stack ks vs → length vs ≡ length ks
same_length f memory stack [] [] h = refl
same_length f memory stack [] (v ∷ vs) h = absurd h
same_length f memory stack (k ∷ ks) [] h = absurd h
same_length f memory stack (k ∷ ks) (v ∷ vs) h = omega (arith, same_length f memory stack ks vs h.1)

pub registers_restored : (g : Ground) (here : ℕ) (f : Shape) (kept values : List ℕ) (s : State) → length kept ≤ 10 → AreNear f kept → SavedAt f s.memory (x s sp) kept values →
    PiecesAt s.memory g here (restores f saved_registers kept) → s.pc ≡ address g here → length s.regs ≡ 32 → Restores g here (length (restores f saved_registers kept)) values s
registers_restored g here f kept values s few near there code at many =
    let count = same_length f s.memory (x s sp) kept values there in
    let regs = set_saved saved_registers values s.regs in
    record {
      after = behind g here (length (restores f saved_registers kept)) regs s;
      runs = words_run g here f saved_registers kept values s ten_apart near there code at many (omega (arith, few));
      pc = refl;
      memory = refl;
      registers = set_length_all saved_registers values s.regs ∙ many;
      saved = restored_are saved_registers values s.regs ten_apart many (omega (arith, few, count));
      kept = λ r out. untouched saved_registers values s.regs r out;
    }
