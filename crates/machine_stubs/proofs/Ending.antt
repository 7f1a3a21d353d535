-- A walk over words as turns of the ABI machine.
use Rattle.std.proofs.Common.{◌≡◌, ◌∙◌, sym, ap, subst, arith, ℕ, zero, suc, ◌+◌, ◌-◌, ◌≤◌, List, [], ◌∷◌, length, map, refl, Some}
use Rattle.std.specs.Prelude.{slice_get}
use Rattle.rv64_isa.specs.declared.step.Step.TheVariants.{Ecall}
use Rattle.rv64_isa.specs.State.{State, Part}
use Rattle.rv64_isa.specs.Step.{step_of, x}
use Rattle.cxa_runtime.specs.declared.effect.End.TheVariants.{Aborted}
use Rattle.cxa_runtime.specs.World.{World, at_hart}
use Rattle.cxa_runtime.specs.Raising.{Image}
use Rattle.cxa_runtime.specs.Call.{numbered, call_effect}
use Rattle.cxa_runtime.specs.Run.{Ran, called, stepped, turn, and_more, run}
use Rattle.linear_forms.specs.Linear.{UnitCode}
use Rattle.linear_forms.specs.Stub.{Function}
use Rattle.machine_forms.specs.Piece.{Piece}
use Rattle.machine_forms.specs.Registers.{sp, a7, saved_registers}
use Rattle.machine_forms.specs.StubCode.{stub_first, stub_routine}
use Rattle.machine_pieces.specs.Standing.{Ground, address, PieceAt, PiecesAt}
use Rattle.machine_pieces.specs.Keeping.{saved_of}
use Rattle.machine_pieces.specs.Turning.{Reaches}
use Rattle.machine_pieces.proofs.Fetching.{pieces_still}
use Rattle.machine_pieces.proofs.Turning.{executes_turns}
use Rattle.machine_pieces.specs.UnitAt.{routine_pieces}
use Rattle.machine_stubs.specs.Stretches.{stub_ground, StubAt, Room, Beside, Stands, AtRuntimeCall, AtAddress}
use Rattle.machine_stubs.proofs.Walking.{Hart, Path, Walks, room_still}
use Rattle.machine_stubs.proofs.Jumping.{WalksOut}

-- where one of the runtime's own functions stands
abbrev pub path : (u : UnitCode) (base : ℕ) (f : Function) (low size : ℕ) (s : State) → Room low size s.memory → Path
path u base f low size s room = record { ground = stub_ground u base f; first = s; low = low; size = size; room = room }

-- the registers of kept variables, where the walk has written none of them
map_file : (s : State) (file : ℕ → ℕ) (rs : List ℕ) → ((r : ℕ) → x s r ≡ file r) → map (x s) rs ≡ map file rs
map_file s file [] h = refl
map_file s file (r ∷ rs) h = ap (λ a. a ∷ map (x s) rs) (h r) ∙ ap (λ l. file r ∷ l) (map_file s file rs h)

saved_there : (place : ℕ) (file : ℕ → ℕ) (parts : List Part) (s first : State) → Hart place file parts s → map file saved_registers ≡ saved_of first → saved_of s ≡ saved_of first
saved_there place file parts s first h same = map_file s file saved_registers h.regs ∙ same

-- ---- a walk that ends at an address

pub ends_at : (image : Image) (p : Path) (w : World) (most n pc stack : ℕ) (file : ℕ → ℕ) (parts : List Part) (P : State → Type 0) → w.hart ≡ p.first → n ≤ most → (h : Walks p n pc file parts) → file sp ≡ stack →
    map file saved_registers ≡ saved_of p.first → P h.after → Reaches image most w [] (AtAddress pc stack p.low p.size w P)
ends_at image p w most n pc stack file parts P is few h pointer same holds =
    let ran = executes_turns image n w p.first h.after is h.runs in
    record {
      turns = n;
      few = few;
      after = ran.after;
      runs = ran.turns;
      holds = record {
        there = ap (λ (s : State). s.pc) ran.hart ∙ h.hart.pc;
        registers = subst (λ (s : State). length s.regs ≡ 32) (sym ran.hart) h.hart.all;
        pointer = subst (λ s. x s sp ≡ stack) (sym ran.hart) (h.hart.regs sp ∙ pointer);
        variables = ap saved_of ran.hart ∙ (saved_there pc file parts h.after p.first h.hart same ∙ ap saved_of (sym is));
        kept = record {
          beside = subst (λ (s : State). Beside p.low p.size s.memory ran.after.hart.memory) (sym is)
              (subst (λ (s : State). Beside p.low p.size p.first.memory s.memory) (sym ran.hart) (subst (Beside p.low p.size p.first.memory) (sym h.hart.memory) h.beside));
          runtime = ran.runtime;
        };
        holds = subst P (sym ran.hart) holds;
      };
    }

-- ---- a walk that ends at an ECALL

pub ends_out : (image : Image) (p : Path) (u : UnitCode) (base : ℕ) (f : Function) (w : World) (most n number k stack : ℕ) (file : ℕ → ℕ) (parts : List Part) (P : State → Type 0) → w.hart ≡ p.first →
    p.ground ≡ stub_ground u base f → StubAt u base f p.first.memory → n ≤ most → (h : WalksOut p n (stub_first f + k) file parts) → file a7 ≡ number → file sp ≡ stack → map file saved_registers ≡ saved_of p.first → P h.behind →
    Reaches image most w [] (AtRuntimeCall u base f number k stack p.low p.size w P)
ends_out image p u base f w most n number k stack file parts P is ground code few h asks pointer same holds =
    let ran = executes_turns image n w p.first h.at is h.runs in
    let beside : Beside p.low p.size p.first.memory h.behind.memory = subst (Beside p.low p.size p.first.memory) (sym h.hart.memory) h.beside in
    record {
      turns = n;
      few = few;
      after = ran.after;
      runs = ran.turns;
      holds = record {
        behind = h.behind;
        calls = ap step_of ran.hart ∙ h.asks;
        asks = h.hart.regs a7 ∙ asks;
        stands = record {
          pc = h.hart.pc ∙ ap (λ g. address g (stub_first f + k)) ground;
          registers = h.hart.all;
          code = pieces_still p.first.memory h.behind.memory (stub_ground u base f) (stub_first f) (routine_pieces (stub_routine f)) beside.written code;
          room = room_still p.low p.size p.first.memory h.behind.memory beside.written p.room;
        };
        pointer = h.hart.regs sp ∙ pointer;
        variables = saved_there (address p.ground (stub_first f + k)) file parts h.behind p.first h.hart same ∙ ap saved_of (sym is);
        kept = record { beside = subst (λ (s : State). Beside p.low p.size s.memory h.behind.memory) (sym is) beside; runtime = ran.runtime };
        holds = holds;
      };
    }

-- ---- a run that ends

abort_ends : (image : Image) (pick : ℕ → ℕ) (k : ℕ) (w : World) (s : State) → step_of w.hart ≡ (Ecall, s) → x s a7 ≡ 16 → ((run image pick (suc k) w).items ≡ []) × ((run image pick (suc k) w).end ≡ Aborted)
unfolding run turn call_effect numbered
abort_ends image pick k w s e number =
    let v : World = at_hart s (record w { shown = [] }) in
    let one = ap (stepped image (pick (w.last_number + 1)) (record w { shown = [] })) e ∙ ap (λ n. called w.hart.pc (call_effect n image (pick (w.last_number + 1)) v)) number in
    let all = ap (and_more (run image pick k)) one in
    (ap (λ (r : Ran). r.items) all, ap (λ (r : Ran). r.end) all)

pub ends_aborted : (image : Image) (pick : ℕ → ℕ) (most n k here : ℕ) (p : Path) (w : World) (file : ℕ → ℕ) (parts : List Part) → w.hart ≡ p.first → n + 1 ≤ k → (h : WalksOut p n here file parts) → file a7 ≡ 16 →
    ((run image pick k w).items ≡ []) × ((run image pick k w).end ≡ Aborted)
ends_aborted image pick most n k here p w file parts is few h asks =
    let ran = executes_turns image n w p.first h.at is h.runs in
    let left : ℕ = k - (n + 1) in
    let count : k ≡ n + suc left = omega (arith, few) in
    let whole = ap (λ i. run image pick i w) count ∙ ran.turns.run pick (suc left) in
    let last = abort_ends image pick left ran.after h.behind (ap step_of ran.hart ∙ h.asks) (h.hart.regs a7 ∙ asks) in
    (ap (λ (r : Ran). r.items) whole ∙ last.0, ap (λ (r : Ran). r.end) whole ∙ last.1)

-- ---- a word of one of the runtime's own functions

piece_of : (memory : List Part) (g : Ground) (here : ℕ) (ys : List Piece) (n : ℕ) (y : Piece) → PiecesAt memory g here ys → slice_get ys n ≡ Some y → PieceAt memory g (here + n) y
piece_of memory g here [] n y h e = absurd (cc e)
piece_of memory g here (z ∷ ys) zero y h e =
    let same : z ≡ y = cc e in
    subst (λ i. PieceAt memory g i y) (omega arith) (subst (PieceAt memory g here) same h.0)
piece_of memory g here (z ∷ ys) (suc n) y h e = subst (λ i. PieceAt memory g i y) (omega arith) (piece_of memory g (here + 1) ys n y h.1 e)

pub word_at : {u : UnitCode} {base : ℕ} {f : Function} {k low size : ℕ} {s : State} (stands : Stands u base f k low size s) (n : ℕ) {y : Piece} → slice_get (routine_pieces (stub_routine f)) n ≡ Some y →
    PieceAt s.memory (stub_ground u base f) (stub_first f + n) y
word_at {u} {base} {f} {k} {low} {size} {s} stands n {y} e = piece_of s.memory (stub_ground u base f) (stub_first f) (routine_pieces (stub_routine f)) n y stands.code e
