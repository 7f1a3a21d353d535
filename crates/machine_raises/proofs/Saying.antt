-- What the frames and tables of an image say of calls that go on at addresses.
use Rattle.std.proofs.Common.{◌≡◌, ◌∙◌, refl, ap, arith, ℕ, ◌+◌, ◌*◌, ◌<◌, ℤ, pos, negsuc, take, Bool, true, false, List, [], length, Option, if◌then◌else◌}
use Rattle.std.specs.Prelude.{slice_index_or}
use Rattle.table_forms.specs.declared.found.Rule.TheVariants as rules
use Rattle.table_forms.specs.declared.found.Verdict as abi
use Rattle.table_forms.specs.declared.found.Verdict.TheVariants as abi_verdicts
use Rattle.table_forms.specs.Fde.{Fde, fde_for, row_at}
use Rattle.table_forms.specs.Verdict.{Thrown, forced, look_up_place}
use Rattle.rv64_isa.specs.State.{State}
use Rattle.elf_image.specs.Clean.{CleanImage}
use Rattle.frame_walk.specs.declared.frame.Frame.{Frame}
use Rattle.eh_run.specs.Program.{program_of}
use Rattle.linear_forms.specs.Linear.{UnitCode}
use Rattle.linear_forms.specs.Tables.{Cover, bare, unpadded, padded}
use Rattle.linear_forms.specs.Verdict as linear
use Rattle.linear_forms.specs.Verdict.{pad_verdict, has_cleanup}
use Rattle.linear_forms.specs.Stub.{Function}
use Rattle.linear_forms.specs.Activation.{Activation, look, sense}
use Rattle.linear_forms.specs.UnitRun.{code_of}
use Rattle.machine_forms.specs.Routine.{routine_words, op_byte, all_words}
use Rattle.machine_forms.specs.StubCode.{start_routine, stub_routines}
use Rattle.machine_forms.proofs.Words.{words_stand}
use Rattle.image_forms.specs.Linkable.{BaseIsThere}
use Rattle.table_verdicts.specs.Verdicts as tables
use Rattle.table_verdicts.specs.Types.{thrown_as}
use Rattle.image_tables.specs.Functions.{IsThere, routine_of, frame_of, saved_places, records_end, first_byte, operation_at}
use Rattle.image_tables.specs.TableLaws.{IsByteOf}
use Rattle.image_tables.proofs.Placed.{function_stands, start_stands}
use Rattle.image_tables.proofs.Framed.{frames_say, start_is_outermost}
use Rattle.image_tables.proofs.Told.{code_low, tables_say, start_passes}
use Rattle.raise_simulation.specs.OpenCalls.{HasRow, IsOutermost}
use Rattle.raise_simulation.specs.Tables.{said}
use Rattle.raise_simulation.specs.Verdicts.{in_words, told_of, judged_by, forced_by_table}
use Rattle.raise_simulation.specs.Opens.{Judge, told}
use Rattle.raise_core.specs.Asked.{verdict_of}
use Rattle.machine_simulation.specs.Plan.{Plan}
use Rattle.machine_raises.specs.Stacks.{IsRunning}

-- ---- both spellings of a verdict
same_words : (pad : ℕ) (v : linear.Verdict) → tables.in_words pad v ≡ in_words pad v
same_words pad (linear.target (pos n)) = refl
same_words pad (linear.target (negsuc n)) = refl
same_words pad linear.no_way = refl
same_words pad linear.clean = refl
same_words pad linear.nothing_here = refl

same_told : (at : ℕ → ℕ) (c : Cover) (one two : List ℤ → linear.Verdict) → ((chain : List ℤ) → one chain ≡ two chain) → tables.told_of at c one ≡ told_of at c two
same_told at bare one two same = refl
same_told at unpadded one two same = refl
same_told at (padded q chain) one two same = same_words (at q) (one chain) ∙ ap (in_words (at q)) (same chain)

same_forced : (b : Bool) → (if b then linear.clean else linear.nothing_here) ≡ (elim b [ true ↦ linear.clean | false ↦ linear.nothing_here ])
same_forced true = refl
same_forced false = refl

-- ---- what is said at an address
-- a frame that goes on at an address; nothing else of it counts
abbrev frame_at : ℕ → Frame
frame_at ip = record { pc = ip; cfa = 0; regs = []; top = false; signal = false }

said_is : (s : State) (fdes : List Fde) (thrown : Thrown) (ip : ℕ) → said s fdes thrown ip ≡ verdict_of s fdes thrown (frame_at ip)
unfolding verdict_of
said_is s fdes thrown ip = refl

-- all that a phase asks of the tables
pub record SaysAll (u : UnitCode) (say : ℕ → abi.Verdict) (judge : Judge) : Type 0 where
  pub operation : (a : Activation) (k ip : ℕ) → IsThere u a.function → IsByteOf u a.function a.place k → ip ≡ first_byte u a.function + k + 1 → say ip ≡ told (code_of u) (operation_at u) judge a
  pub start : (k ip : ℕ) → k < op_byte start_routine 1 → ip ≡ records_end u + k + 1 → say ip ≡ abi_verdicts.Nothing

pub raises_say : (p : Plan) (i : CleanImage) (s : State) (t : Option ℕ) → IsRunning p i s → BaseIsThere (length p.unit.types) t →
    SaysAll p.unit (said s (program_of i).image.fdes (thrown_as (records_end p.unit) p.unit.types t)) (λ b. judged_by (code_of p.unit) b t)
raises_say p i s t running known =
    let u = p.unit in
    let fdes = (program_of i).image.fdes in
    let thrown = thrown_as (records_end u) u.types t in
    record {
      operation = λ a k ip there byte is. said_is s fdes thrown ip
          ∙ ((tables_say u i s a.function a.place k (frame_at ip) running.image running.lists running.run there byte (record { pc = is; plain = refl })).raised t known
          ∙ same_told (operation_at u a.function) (look (code_of u) a.function a.place) (λ chain. pad_verdict u.types (sense (code_of u) a.function) chain t) (judged_by (code_of u) a t) (λ chain. refl));
      start = λ k ip early is. said_is s fdes thrown ip
          ∙ (start_passes u i s k (frame_at ip) running.image running.run early (record { pc = is; plain = refl })).raised t known;
    }

pub forced_says : (p : Plan) (i : CleanImage) (s : State) → IsRunning p i s → SaysAll p.unit (said s (program_of i).image.fdes forced) (forced_by_table (code_of p.unit))
forced_says p i s running =
    let u = p.unit in
    let fdes = (program_of i).image.fdes in
    record {
      operation = λ a k ip there byte is. said_is s fdes forced ip
          ∙ ((tables_say u i s a.function a.place k (frame_at ip) running.image running.lists running.run there byte (record { pc = is; plain = refl })).unwound
          ∙ same_told (operation_at u a.function) (look (code_of u) a.function a.place) (tables.forced_judge (sense (code_of u) a.function)) (forced_by_table (code_of u) a)
          (λ chain. same_forced (has_cleanup (sense (code_of u) a.function) chain)));
      start = λ k ip early is. said_is s fdes forced ip ∙ (start_passes u i s k (frame_at ip) running.image running.run early (record { pc = is; plain = refl })).unwound;
    }

-- ---- rows
pub place_of : (a k ip : ℕ) → a + k < 0x60000000 → ip ≡ a + k + 1 → look_up_place ip false ≡ a + k
place_of a k ip low is = omega (arith, low, is)

pub has_row : (p : Plan) (i : CleanImage) (s : State) (f : Function) (place k ip : ℕ) → IsRunning p i s → IsThere p.unit f → IsByteOf p.unit f place k → ip ≡ first_byte p.unit f + k + 1 →
    HasRow (program_of i).image.fdes (look_up_place ip false) (frame_of p.unit f) (saved_places p.unit f)
has_row p i s f place k ip running there byte is =
    let u = p.unit in
    let inside : k < 4 * routine_words (routine_of u f) = omega (arith, byte.last, words_stand.inside (routine_of u f) (place + 1)) in
    let at = place_of (first_byte u f) k ip (omega (arith, inside, code_low u i (first_byte u f) (routine_of u f) running.image (function_stands u f there))) is in
    let framed = frames_say u i f k running.image there inside in
    record {
      fde = framed.fde;
      found = ap (fde_for (program_of i).image.fdes) at ∙ framed.found;
      returns = framed.returns;
      plain = framed.plain;
      row = ap (row_at framed.fde) at ∙ framed.row (omega (arith, byte.first));
    }

pub outermost : (p : Plan) (i : CleanImage) (s : State) (k ip : ℕ) → IsRunning p i s → k < 4 * routine_words start_routine → ip ≡ records_end p.unit + k + 1 → IsOutermost (program_of i).image.fdes (look_up_place ip false)
outermost p i s k ip running inside is =
    let u = p.unit in
    let a = records_end u + 4 * all_words (take 0 stub_routines) in
    let at = place_of (records_end u) k ip (omega (arith, inside, code_low u i a start_routine running.image (start_stands u))) is in
    let framed = start_is_outermost u i k running.image inside in
    record {
      fde = framed.fde;
      found = ap (fde_for (program_of i).image.fdes) at ∙ framed.found;
      returns = framed.returns;
      undefined = ap (λ n. slice_index_or (row_at framed.fde n).rules 1 rules.Unspecified) at ∙ framed.undefined;
    }
