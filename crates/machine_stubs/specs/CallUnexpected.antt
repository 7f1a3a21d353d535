-- The function call_unexpected: an exception that a specification stopped, its handler, and what that throws.
use Rattle.std.specs.Prelude.{◌≡◌, ◌≢◌, ℕ, ◌+◌, ◌-◌, ◌*◌, ◌%◌, ◌^◌, ◌<◌, ◌≤◌, ℤ, []}
use Rattle.rv64_isa.specs.Step.{x}
use Rattle.cxa_runtime.specs.World.{World}
use Rattle.cxa_runtime.specs.Raising.{Image}
use Rattle.linear_forms.specs.Linear.{UnitCode}
use Rattle.linear_forms.specs.Stub.{end_catch, call_unexpected}
use Rattle.region_forms.specs.Ending.{bad_row}
use Rattle.machine_forms.specs.Registers.{ra, sp, a0, a1, a2}
use Rattle.machine_forms.specs.RuntimeCall.{allocate_call, throw_call, begin_catch_call, rethrow_call, resume_call, unexpected_begin_call, unexpected_check_call, terminate_for_call}
use Rattle.machine_forms.specs.Shape.{return_offset}
use Rattle.machine_pieces.specs.Numbers.{extended}
use Rattle.machine_pieces.specs.Frames.{IntAt, AddressAt}
use Rattle.machine_pieces.specs.Turning.{Reaches}
use Rattle.machine_pieces.specs.UnitAt.{whole_words}
use Rattle.machine_stubs.specs.Stretches.{stub_word, frame_size, slot_at, Beside, Stands, AtRuntimeCall, AtAddress}

-- the slots of the exception that was stopped, of the selector, of the table that names the list, of the handler, of what a pad gets, of
-- the answer of the check, and of a bad_exception
abbrev pub stopped_slot : ℕ
stopped_slot = slot_at call_unexpected 0

abbrev pub list_slot : ℕ
list_slot = slot_at call_unexpected 1

abbrev pub table_slot : ℕ
table_slot = slot_at call_unexpected 2

abbrev pub thrown_slot : ℕ
thrown_slot = slot_at call_unexpected 4

abbrev pub selector_slot : ℕ
selector_slot = slot_at call_unexpected 5

abbrev pub answer_slot : ℕ
answer_slot = slot_at call_unexpected 6

abbrev pub bad_slot : ℕ
bad_slot = slot_at call_unexpected 7

-- the bytes of its frame
abbrev pub frame : ℕ
frame = frame_size call_unexpected

-- the record of the type of std::bad_exception
abbrev pub bad_record : ℕ → ℕ
bad_record base = base - 24 * (bad_row + 1)

-- From its first word call_unexpected enters the exception that was stopped. Behind that it calls the unexpected handler, or terminates where
-- there is none; and it terminates where the handler comes back.
pub record UnexpectedBegins : Type 0 where
  pub begins : (image : Image) (u : UnitCode) (base stopped : ℕ) (w : World) → let s = w.hart in let low = x s sp - frame in
      frame ≤ x s sp → Stands u base call_unexpected 0 low frame s → x s ra < 2 ^ 64 → AddressAt s.memory (low + stopped_slot) stopped →
      Reaches image 4 w [] (AtRuntimeCall u base call_unexpected unexpected_begin_call 5 low low frame w
      (λ t. (x t a0 ≡ stopped) × AddressAt t.memory (low + return_offset) (x s ra) × Beside (low + return_offset) 8 s.memory t.memory))
  pub calls_the_handler : (image : Image) (u : UnitCode) (base handler table : ℕ) (w : World) → let s = w.hart in let low = x s sp in
      Stands u base call_unexpected 5 low frame s → x s a0 ≡ handler → handler ≢ 0 → handler % 4 ≡ 0 → handler < 2 ^ 64 → x s a1 ≡ table → table < 2 ^ 64 →
      Reaches image 5 w [] (AtAddress handler low low frame w
      (λ t. (x t ra ≡ stub_word base call_unexpected 10) × AddressAt t.memory (low + table_slot) table × Beside (low + slot_at call_unexpected 3) 16 s.memory t.memory))
  pub terminates_without : (image : Image) (u : UnitCode) (base stopped : ℕ) (w : World) → let s = w.hart in let low = x s sp in
      Stands u base call_unexpected 5 low frame s → x s a0 ≡ 0 → AddressAt s.memory (low + stopped_slot) stopped →
      Reaches image 6 w [] (AtRuntimeCall u base call_unexpected terminate_for_call 13 low low frame w (λ t. x t a0 ≡ stopped))
  pub terminates_behind : (image : Image) (u : UnitCode) (base stopped : ℕ) (w : World) → let s = w.hart in let low = x s sp in
      Stands u base call_unexpected 10 low frame s → AddressAt s.memory (low + stopped_slot) stopped →
      Reaches image 2 w [] (AtRuntimeCall u base call_unexpected terminate_for_call 13 low low frame w (λ t. x t a0 ≡ stopped))

-- What comes out of the handler: an exception is entered, with a selector that is not 0, and then the list is asked about it. A forced unwind,
-- with the selector 0, leaves the exception that was stopped.
pub record UnexpectedChecks : Type 0 where
  pub enters : (image : Image) (u : UnitCode) (base thrown : ℕ) (w : World) → let s = w.hart in let low = x s sp in
      Stands u base call_unexpected 13 low frame s → x s a0 ≡ thrown → thrown < 2 ^ 64 → x s a1 % 2 ^ 32 ≢ 0 →
      Reaches image 7 w [] (AtRuntimeCall u base call_unexpected begin_catch_call 22 low low frame w
      (λ t. (x t a0 ≡ thrown) × AddressAt t.memory (low + thrown_slot) thrown × Beside (low + selector_slot) 16 s.memory t.memory))
  pub leaves_canceled : (image : Image) (u : UnitCode) (base thrown : ℕ) (w : World) → let s = w.hart in let low = x s sp in
      whole_words u < 2 ^ 28 → Stands u base call_unexpected 13 low frame s → x s a0 ≡ thrown → thrown < 2 ^ 64 → x s a1 % 2 ^ 32 ≡ 0 →
      Reaches image 8 w [] (AtAddress (stub_word base end_catch 0) low low frame w
      (λ t. (x t ra ≡ stub_word base call_unexpected 57) × AddressAt t.memory (low + thrown_slot) thrown × Beside (low + selector_slot) 16 s.memory t.memory))
  pub checks : (image : Image) (u : UnitCode) (base thrown table : ℕ) (list : ℤ) (w : World) → let s = w.hart in let low = x s sp in
      Stands u base call_unexpected 22 low frame s → AddressAt s.memory (low + table_slot) table → IntAt s.memory (low + list_slot) list → AddressAt s.memory (low + thrown_slot) thrown →
      Reaches image 4 w [] (AtRuntimeCall u base call_unexpected unexpected_check_call 27 low low frame w
      (λ t. (t.memory ≡ s.memory) × (x t a0 ≡ table) × (x t a1 ≡ extended list) × (x t a2 ≡ thrown)))

-- Behind the check: 0, it is thrown again; 1, a bad_exception is made, and thrown in its place; 2, the program terminates.
pub record UnexpectedAnswers : Type 0 where
  pub rethrows : (image : Image) (u : UnitCode) (base : ℕ) (w : World) → let s = w.hart in let low = x s sp in
      Stands u base call_unexpected 27 low frame s → x s a0 ≡ 0 →
      Reaches image 5 w [] (AtRuntimeCall u base call_unexpected rethrow_call 41 low low frame w (λ t. Beside (low + answer_slot) 8 s.memory t.memory))
  pub makes_a_bad_exception : (image : Image) (u : UnitCode) (base : ℕ) (w : World) → let s = w.hart in let low = x s sp in
      Stands u base call_unexpected 27 low frame s → x s a0 ≡ 1 →
      Reaches image 9 w [] (AtRuntimeCall u base call_unexpected allocate_call 43 low low frame w (λ t. Beside (low + answer_slot) 8 s.memory t.memory))
  pub terminates_unlisted : (image : Image) (u : UnitCode) (base stopped : ℕ) (w : World) → let s = w.hart in let low = x s sp in
      Stands u base call_unexpected 27 low frame s → x s a0 ≡ 2 → AddressAt s.memory (low + stopped_slot) stopped →
      Reaches image 9 w [] (AtRuntimeCall u base call_unexpected terminate_for_call 39 low low frame w (λ t. x t a0 ≡ stopped))
  pub throws_a_bad_exception : (image : Image) (u : UnitCode) (base bad : ℕ) (w : World) → let s = w.hart in let low = x s sp in
      24 * (bad_row + 1) ≤ base → Stands u base call_unexpected 43 low frame s → x s a0 ≡ bad → bad < 2 ^ 64 →
      Reaches image 7 w [] (AtRuntimeCall u base call_unexpected throw_call 51 low low frame w
      (λ t. (x t a0 ≡ bad) × (x t a1 ≡ bad_record base) × (x t a2 ≡ 0) × Beside (low + bad_slot) 8 s.memory t.memory))

-- What is thrown in the end leaves both exceptions by two calls of end_catch, and goes on.
pub record UnexpectedEnds : Type 0 where
  pub leaves_the_thrown : (image : Image) (u : UnitCode) (base thrown : ℕ) (w : World) → let s = w.hart in let low = x s sp in
      whole_words u < 2 ^ 28 → Stands u base call_unexpected 51 low frame s → x s a0 ≡ thrown → thrown < 2 ^ 64 →
      Reaches image 4 w [] (AtAddress (stub_word base end_catch 0) low low frame w
      (λ t. (x t ra ≡ stub_word base call_unexpected 55) × AddressAt t.memory (low + thrown_slot) thrown × Beside (low + selector_slot) 16 s.memory t.memory))
  pub leaves_the_stopped : (image : Image) (u : UnitCode) (base : ℕ) (w : World) → let s = w.hart in let low = x s sp in
      whole_words u < 2 ^ 28 → Stands u base call_unexpected 55 low frame s →
      Reaches image 2 w [] (AtAddress (stub_word base end_catch 0) low low frame w (λ t. (x t ra ≡ stub_word base call_unexpected 57) × (t.memory ≡ s.memory)))
  pub resumes : (image : Image) (u : UnitCode) (base thrown : ℕ) (w : World) → let s = w.hart in let low = x s sp in
      Stands u base call_unexpected 57 low frame s → AddressAt s.memory (low + thrown_slot) thrown →
      Reaches image 2 w [] (AtRuntimeCall u base call_unexpected resume_call 60 low low frame w (λ t. (t.memory ≡ s.memory) × (x t a0 ≡ thrown)))
