-- What comes out of the unexpected handler is entered, and the list is asked about it.
use Rattle.std.proofs.Common.{◌≡◌, ◌∙◌, refl, sym, ap, subst, arith, ℕ, ◌+◌, ◌^◌, ◌<◌, ◌≤◌, ◌&&◌, Bool, true, false, ℤ, pos, negsuc, List, [], ◌∷◌, ◌++◌, length, Option, Some}
use Rattle.std.specs.Prelude.{if◌then◌else◌}
use Rattle.meaning_forms.specs.Class.{contains}
use Rattle.meaning_forms.specs.World.{Installed}
use Rattle.run_items.specs.declared.item.Item.{Item}
use Rattle.run_items.specs.declared.item.Item.TheVariants.{Enter}
use Rattle.rv64_isa.specs.State.{State as Hart}
use Rattle.rv64_isa.specs.Step.{x, step_of}
use Rattle.rv64_isa.specs.declared.step.Step.TheVariants.{Ecall}
use Rattle.elf_image.specs.Clean.{CleanImage}
use Rattle.caught_stack.specs.declared.header.Header.{Header}
use Rattle.caught_stack.specs.declared.header.HeaderKind.{HeaderKind}
use Rattle.caught_stack.specs.declared.header.HeaderKind.TheVariants.{Building, Native, Foreign}
use Rattle.cxa_runtime.specs.declared.object.Object.{Object}
use Rattle.cxa_runtime.specs.Frozen.{frozen}
use Rattle.cxa_runtime.proofs.Frozen.{step_keeps_frozen}
use Rattle.cxa_runtime.specs.Objects.{object_of, object_where, is_native, is_thrown, is_foreign as is_foreign_kind}
use Rattle.cxa_runtime.specs.MayBegin.{holds_other as holds_other_slot}
use Rattle.cxa_runtime.specs.Catch.{begin, begins_catch, is_crowded, entered as runtime_entered}
use Rattle.cxa_runtime.specs.Terminate.{terminates_now}
use Rattle.cxa_runtime.specs.Unexpected.{unexpected_check}
use Rattle.cxa_runtime.specs.World as abi
use Rattle.cxa_runtime.specs.World.{argument, gives, needs, refused}
use Rattle.cxa_runtime.specs.Raising.{Image}
use Rattle.cxa_runtime.specs.Call.{call_effect, numbered}
use Rattle.cxa_runtime.specs.Run.{counted}
use Rattle.eh_run.specs.Program.{program_of}
use Rattle.region_forms.specs.World.{of_exception, Word, World, native, flying}
use Rattle.region_forms.specs.Effect.{entered}
use Rattle.linear_forms.specs.Stub.{call_unexpected}
use Rattle.linear_forms.specs.Activation.{State, Activation}
use Rattle.machine_forms.specs.Registers.{sp, a0, a1, a2, a7}
use Rattle.machine_pieces.specs.Frames.{IntAt, AddressAt}
use Rattle.machine_pieces.specs.Numbers.{IsInt, extended}
use Rattle.machine_pieces.specs.Memory.{Apart}
use Rattle.machine_pieces.specs.Turning.{Turns}
use Rattle.machine_pieces.proofs.Registers.{set_length, read_same, read_other}
use Rattle.machine_pieces.proofs.Turning.{turns_then}
use Rattle.machine_stubs.specs.Calls.{asked, CallsAreMade}
use Rattle.machine_stubs.specs.CallUnexpected.{UnexpectedChecks, stopped_slot}
use Rattle.machine_stubs.specs.Stretches.{Stands as StubStands, Room}
use Rattle.machine_simulation.specs.Plan.{Plan}
use Rattle.machine_simulation.specs.StubCalls.{KeepsException}
use Rattle.machine_simulation.specs.Exceptions.{Addresses, addresses_of, exceptions_in, kept_by, destroyed_by, destroyed, live_in, record_address, HeaderIs, ExceptionsMatch}
use Rattle.machine_simulation.specs.Matches.{RuntimeMatches}
use Rattle.machine_simulation.proofs.Matching.{runtime_stays}
use Rattle.machine_simulation.proofs.Holding.{same_number}
use Rattle.machine_exceptions.proofs.Finding.{live_header, object_found}
use Rattle.machine_raises.specs.Pads.{PadGets}
use Rattle.machine_raises.specs.Stacks.{IsRunning}
use Rattle.runtime_invariant.specs.Memory.{RunsKeepMemory}
use Rattle.unexpected_calls.specs.Lists.{HasFilter, ListsAnswer}
use Rattle.machine_stubs.specs.CallUnexpected.{bad_record}
use Rattle.region_forms.specs.Ending.{bad_row}
use Rattle.machine_raises.specs.Resumes.{TypeIsThere}
use Rattle.unexpected_calls.specs.Thrown.{ThrownOut, list_says}
use Rattle.unexpected_calls.proofs.Entering.{native_found, enters}
use Rattle.unexpected_calls.proofs.Leaving.{rests_over, selector_held}
use Rattle.unexpected_calls.proofs.OverCall.{OverCall, over_beside, over_alike, int_beside, address_beside, over_at}
use Rattle.machine_pieces.specs.Keeping.{saved_of}
use Rattle.machine_exceptions.proofs.Ecalls.{given_in_first}

begin_is : (image : Image) (wish : ℕ) (t : abi.World) → call_effect 6 image wish t ≡ begin image.places t
unfolding call_effect numbered
begin_is image wish t = refl

check_is : (image : Image) (wish : ℕ) (t : abi.World) → call_effect 19 image wish t ≡ unexpected_check image t
unfolding call_effect numbered
check_is image wish t = refl

-- ---- memory that may not be written is as it was

pub running_then : RunsKeepMemory → (image : Image) (i : CleanImage) (p : Plan) (n : ℕ) (w v : abi.World) (items : List Item) → Turns image n w v items → IsRunning p i w.hart → IsRunning p i v.hart
running_then keeps image i p n w v items runs h = record { image = h.image; lists = h.lists; base = h.base; tables = h.tables; run = keeps.turns image n w v items runs ∙ h.run }

-- and so it is behind an ECALL
pub running_behind : (i : CleanImage) (p : Plan) (s behind : Hart) → step_of s ≡ (Ecall, behind) → IsRunning p i s → IsRunning p i behind
running_behind i p s behind calls h = record { image = h.image; lists = h.lists; base = h.base; tables = h.tables; run = sym (ap (λ y. frozen y.1.memory) calls) ∙ step_keeps_frozen s ∙ h.run }

-- ---- the runtime, without the call that runs

pub without_own : (p : Plan) (st : State) (w : abi.World) → st.top.function ≡ call_unexpected → RuntimeMatches p (st.top ∷ st.frames) st.world w → RuntimeMatches p st.frames st.world w
without_own p st w runs r = record {
  input = r.input;
  replies = r.replies;
  last_number = r.last_number;
  terminating = r.terminating;
  exceptions = subst (λ ds. ExceptionsMatch (addresses_of p) ds (exceptions_in st.world) (kept_by w)) (ap (λ f. destroyed_by f st.top.frame ++ destroyed st.frames) runs) r.exceptions;
  plan = r.plan;
}

-- ---- the exception is entered

-- the hart is behind the call that enters it
record EnteredOut (i : CleanImage) (p : Plan) (e number back owner : ℕ) (selector : ℤ) (caller : Activation) (others : List Activation) (st : State) (w : abi.World) : Type 0 where
  turns : ℕ
  few : turns ≤ 8
  after : abi.World
  runs : Turns (program_of i).image turns w after (Enter e ∷ [])
  stands : StubStands p.unit p.base call_unexpected 22 (x after.hart sp) 80 after.hart
  over : OverCall p number caller others (entered e st.world) after.hart.memory (x after.hart sp) back (saved_of after.hart)
  table : AddressAt after.hart.memory (x after.hart sp + 56) (p.tables owner)
  list : IntAt after.hart.memory (x after.hart sp + 64) selector
  thrown : AddressAt after.hart.memory (x after.hart sp + 40) (p.at (of_exception e))
  stopped : KeepsException p (st.top.frame.slots 0) (entered e st.world) after.hart.memory (x after.hart sp + stopped_slot)
  pointer : x after.hart sp ≡ x w.hart sp
  running : IsRunning p i after.hart
  runtime : RuntimeMatches p st.frames (entered e st.world) after

not_foreign : (k : HeaderKind) → is_native k ≡ true → is_foreign_kind k ≡ false
not_foreign Building h = refl
not_foreign (Native t d) h = refl
not_foreign (Foreign k t) h = absurd (cc h)

native_kind : (t : Addresses) (type : ℕ) (d : Option ℕ) (kept : Installed) (h : Header) (b : Bool) → b ≡ false → HeaderIs t b (native type d kept) h → (k : ℕ) × (h.kind ≡ Native (record_address t.base type) k)
native_kind t type d kept h true at is = absurd (cc at)
native_kind t type d kept h false at is = (is.0.0, is.0.1)

pub gets_flying : (p : Plan) (v : World) (word : Word) (e d a : ℕ) → word ≡ flying e d → PadGets p v word a → (a ≡ p.at (of_exception e)) × (a < 2 ^ 64)
gets_flying p v word e d a is h = let at : PadGets p v (flying e d) a = subst (λ k. PadGets p v k a) is h in (at.1, at.2)

thrown_entered : CallsAreMade → UnexpectedChecks → RunsKeepMemory → (i : CleanImage) (p : Plan) (e d type : ℕ) (destructor : Option ℕ) (kept : Installed) (j : ℕ) (st : State) (w : abi.World) → (h : ThrownOut i p e d type destructor kept j st w) →
    EnteredOut i p e h.called.number h.rests.rests.back h.rests.kept.owner h.rests.kept.selector h.called.caller h.called.others st w
thrown_entered made checks keeps i p e d type destructor kept j st w h =
    let image : Image = (program_of i).image in
    let v : World = st.world in
    let ve : World = entered e v in
    let c = h.called in
    let low : ℕ = x w.hart sp in
    let o = rests_over p 13 st w c h.rests.rests in
    let back : ℕ = h.rests.rests.back in
    let gets = gets_flying p v (st.top.frame.slots 4) e d (x w.hart a0) h.flies h.rests.gets in
    let selector : x w.hart a1 ≡ 1 = selector_held p st w h.rests (pos 1) h.selector in
    let first = checks.enters image p.unit p.base (x w.hart a0) w o.stands refl gets.1 (λ zero. absurd (omega (arith, zero, selector))) in
    let w1 : abi.World = first.after in
    let r1 = first.holds in
    let s1 : Hart = r1.behind in
    let t1 : abi.World = asked s1 w1 in
    let run0 = without_own p st w h.rests.rests.runs h.rests.rests.runtime in
    let run1 = runtime_stays p st.frames v w w1 r1.kept.runtime run0 in
    let run2 : RuntimeMatches p st.frames v t1 = record { input = run1.input; replies = run1.replies; last_number = run1.last_number; terminating = run1.terminating; exceptions = run1.exceptions; plan = run1.plan } in
    let places : Addresses = addresses_of p in
    let gone : List ℕ = destroyed st.frames in
    let hdr = live_header places gone (exceptions_in v) (kept_by t1) e (native type destructor kept) run2.exceptions h.native in
    let found = native_found p gone v t1 e hdr.slot type destructor kept hdr.has run2.exceptions h.native h.may.whole in
    let enter = enters p st.frames v t1 e hdr.slot hdr.has run2 h.may h.defined found.thrown in
    let ob : Object = record { slot = hdr.slot; header = hdr.has.header } in
    let end1 : abi.World = gives 10 (object_of hdr.slot) (runtime_entered ob t1) in
    let given1 : argument t1 10 ≡ p.at (of_exception e) = r1.holds.0 ∙ gets.0 in
    let there : object_where is_thrown t1.exceptions.live (argument t1 10) ≡ Some ob
    = ap (object_where is_thrown t1.exceptions.live) (given1 ∙ found.object) ∙ object_found is_thrown t1.exceptions.live hdr.slot hdr.has.header found.below hdr.has.there found.thrown in
    let alone : (is_foreign_kind hdr.has.header.kind && holds_other_slot t1.exceptions.caught hdr.slot) ≡ false = ap (λ b. b && holds_other_slot t1.exceptions.caught hdr.slot) (not_foreign hdr.has.header.kind found.native) in
    let effect1 : (wish : ℕ) → call_effect 6 image wish t1 ≡ abi.goes end1 = λ wish. begin_is image wish t1 ∙ ap (λ k. needs t1 k (begins_catch image.places t1)) there
    ∙ ap (λ b. if b then (if is_crowded t1 ob then terminates_now image.places t1 else abi.goes end1) else refused t1) enter.may ∙ ap (λ b. if b then terminates_now image.places t1 else abi.goes end1) alone in
    let one : Turns image 1 w1 (counted end1) (Enter hdr.has.header.number ∷ []) = made.goes_on image 6 w1 end1 s1 r1.calls r1.asks effect1 refl in
    let w2 : abi.World = counted end1 in
    let s2 : Hart = w2.hart in
    let pointer2 : x s2 sp ≡ low = read_other s1.regs 10 2 (object_of hdr.slot) (λ q. absurd (omega (arith, q))) ∙ r1.pointer in
    let at2 : (k : ℕ) → low + k ≡ x s2 sp + k = λ k. ap (λ a. a + k) (sym pointer2) in
    let over1 = over_alike p c.number c.caller c.others v ve s1.memory low back (saved_of w.hart) refl refl (same_number v) (over_beside p c.number c.caller c.others v w.hart.memory s1.memory low back (low + 32) 16 (saved_of w.hart) o.over (omega arith) (omega arith) r1.holds.2) in
    let out : (a n : ℕ) → low + 48 ≤ a → Apart (low + 32) 16 a n = λ a n up i1 j1 hi hj same. omega (arith, up, hi, same) in
    let k = h.rests.kept in
    let table : AddressAt s2.memory (x s2 sp + 56) (p.tables k.owner)
    = subst (λ a. AddressAt s1.memory a (p.tables k.owner)) (at2 56) (address_beside w.hart.memory s1.memory (low + 32) 16 (low + 56) (p.tables k.owner) r1.holds.2 (out (low + 56) 8 (omega arith)) k.table) in
    let list : IntAt s2.memory (x s2 sp + 64) k.selector
    = subst (λ a. IntAt s1.memory a k.selector) (at2 64) (int_beside w.hart.memory s1.memory (low + 32) 16 (low + 64) k.selector r1.holds.2 (out (low + 64) 4 (omega arith)) k.list) in
    let stopped : AddressAt s1.memory (low + 72) (p.at (of_exception k.stopped.number))
    = address_beside w.hart.memory s1.memory (low + 32) 16 (low + 72) (p.at (of_exception k.stopped.number)) r1.holds.2 (out (low + 72) 8 (omega arith)) k.stopped.there in
    let thrown : AddressAt s2.memory (x s2 sp + 40) (p.at (of_exception e)) = subst (λ a. AddressAt s1.memory a (p.at (of_exception e))) (at2 40) (subst (AddressAt s1.memory (low + 40)) gets.0 r1.holds.1) in
    let stands2 : StubStands p.unit p.base call_unexpected 22 (x s2 sp) 80 s2 = record {
      pc = r1.stands.pc;
      registers = set_length s1.regs 10 (object_of hdr.slot) ∙ r1.stands.registers;
      code = r1.stands.code;
      room = subst (λ a. Room a 80 s1.memory) (sym pointer2) r1.stands.room;
    } in
    let runs2 : Turns image (first.turns + 1) w w2 (Enter hdr.has.header.number ∷ []) = turns_then image first.turns 1 w w1 w2 [] (Enter hdr.has.header.number ∷ []) first.runs one in
    let running2 = running_then keeps image i p (first.turns + 1) w w2 (Enter hdr.has.header.number ∷ []) runs2 h.running in
    let r = enter.runtime in
    record {
      turns = first.turns + 1;
      few = omega (arith, first.few);
      after = w2;
      runs = subst (λ n. Turns image (first.turns + 1) w w2 (Enter n ∷ [])) hdr.has.number runs2;
      stands = stands2;
      over = over_at p c.number c.caller c.others ve s1.memory low back (saved_of w.hart) s2 refl pointer2 (given_in_first s1 s2 (object_of hdr.slot) refl ∙ r1.variables) over1;
      table = table;
      list = list;
      thrown = thrown;
      stopped = record { number = k.stopped.number; is = k.stopped.is; made = k.stopped.made; there = subst (λ a. AddressAt s1.memory a (p.at (of_exception k.stopped.number))) (at2 72) stopped };
      pointer = pointer2;
      running = running2;
      runtime = record { input = r.input; replies = r.replies; last_number = r.last_number; terminating = r.terminating; exceptions = r.exceptions; plan = r.plan };
    }

-- ---- the list answers

-- the hart is behind the check, with the answer
pub record Checked (i : CleanImage) (p : Plan) (e number back answer : ℕ) (caller : Activation) (others : List Activation) (st : State) (w : abi.World) : Type 0 where
  pub turns : ℕ
  pub few : turns ≤ 13
  pub after : abi.World
  pub runs : Turns (program_of i).image turns w after (Enter e ∷ [])
  pub stands : StubStands p.unit p.base call_unexpected 27 (x after.hart sp) 80 after.hart
  pub given : x after.hart a0 ≡ answer
  pub over : OverCall p number caller others (entered e st.world) after.hart.memory (x after.hart sp) back (saved_of after.hart)
  pub stopped : KeepsException p (st.top.frame.slots 0) (entered e st.world) after.hart.memory (x after.hart sp + stopped_slot)
  pub pointer : x after.hart sp ≡ x w.hart sp
  pub running : IsRunning p i after.hart
  pub runtime : RuntimeMatches p st.frames (entered e st.world) after

-- what is asked of the list
record Asked (i : CleanImage) (p : Plan) (owner j type : ℕ) (selector : ℤ) : Type 0 where
  known : owner < length p.unit.functions
  filter : HasFilter p.unit owner (negsuc j)
  list : selector ≡ negsuc j
  type_is : TypeIsThere p (Some type)
  bad : bad_row < length p.unit.types
  named : (program_of i).image.places.bad_exception ≡ bad_record p.base

-- the runtime call that asks
answered : CallsAreMade → ListsAnswer → (i : CleanImage) (p : Plan) (e type : ℕ) (destructor : Option ℕ) (kept : Installed) (j answer owner : ℕ) (selector : ℤ) (fs : List Activation) (v : World) (w : abi.World) (behind : Hart) → step_of w.hart ≡ (Ecall, behind) → x behind a7 ≡ 19 →
    IsRunning p i behind → RuntimeMatches p fs v w → live_in v.live e ≡ Some (native type destructor kept) → contains (destroyed fs) e ≡ false → Asked i p owner j type selector → IsInt selector → x behind a0 ≡ p.tables owner → x behind a1 ≡ extended selector →
    x behind a2 ≡ p.at (of_exception e) → list_says p owner j type ≡ pos answer → Turns (program_of i).image 1 w (counted (gives 10 answer (asked behind w))) []
answered made lists i p e type destructor kept j answer owner selector fs v w behind calls asks running r live whole ok int table list object says =
    let image : Image = (program_of i).image in
    let t : abi.World = asked behind w in
    let places : Addresses = addresses_of p in
    let gone : List ℕ = destroyed fs in
    let hdr = live_header places gone (exceptions_in v) (kept_by w) e (native type destructor kept) r.exceptions live in
    let found = native_found p gone v w e hdr.slot type destructor kept hdr.has r.exceptions live whole in
    let kind = native_kind places type destructor kept hdr.has.header (contains gone e) whole hdr.is in
    let is = lists i p owner j type t (record {
      running = running;
      known = ok.known;
      filter = ok.filter;
      int = subst IsInt ok.list int;
      table = table;
      selector = list ∙ ap extended ok.list;
      object = record { slot = hdr.slot; header = hdr.has.header };
      destructor = kind.0;
      found = ap (object_where is_native w.exceptions.live) object ∙ found.found;
      kind = kind.1;
      type = ok.type_is.0;
      bases = ok.type_is.1;
      bad = ok.bad;
      named = ok.named;
    }) in
    let both : pos is.0 ≡ pos answer = sym is.3 ∙ says in
    let same : is.0 ≡ answer = cc both in
    made.goes_on image 19 w (gives 10 answer t) behind calls asks
    (λ wish. check_is image wish t ∙ ap (λ n. needs t n (λ m. abi.goes (gives 10 m t))) (is.2 ∙ ap Some same)) refl

list_checked : CallsAreMade → UnexpectedChecks → RunsKeepMemory → ListsAnswer → (i : CleanImage) (p : Plan) (e type : ℕ) (destructor : Option ℕ) (kept : Installed) (j answer number back owner : ℕ) (selector : ℤ) (caller : Activation) (others : List Activation) (st : State)
    (w : abi.World) → EnteredOut i p e number back owner selector caller others st w → live_in st.world.live e ≡ Some (native type destructor kept) → contains (destroyed st.frames) e ≡ false → Asked i p owner j type selector →
    list_says p owner j type ≡ pos answer → Checked i p e number back answer caller others st w
list_checked made checks keeps lists i p e type destructor kept j answer number back owner selector caller others st w en live whole ok says =
    let image : Image = (program_of i).image in
    let ve : World = entered e st.world in
    let w2 : abi.World = en.after in
    let low : ℕ = x w2.hart sp in
    let second = checks.checks image p.unit p.base (p.at (of_exception e)) (p.tables owner) selector w2 en.stands en.table en.list en.thrown in
    let w3 : abi.World = second.after in
    let r3 = second.holds in
    let s3 : Hart = r3.behind in
    let running3 = running_behind i p w3.hart s3 r3.calls (running_then keeps image i p second.turns w2 w3 [] second.runs en.running) in
    let runtime3 = runtime_stays p st.frames ve w2 w3 r3.kept.runtime en.runtime in
    let last = answered made lists i p e type destructor kept j answer owner selector st.frames ve w3 s3 r3.calls r3.asks running3 runtime3 live whole ok en.list.int r3.holds.1 r3.holds.2 r3.holds.3 says in
    let w4 : abi.World = counted (gives 10 answer (asked s3 w3)) in
    let pointer4 : x w4.hart sp ≡ low = read_other s3.regs 10 2 answer (λ q. absurd (omega (arith, q))) ∙ r3.pointer in
    let memory : s3.memory ≡ w2.hart.memory = r3.holds.0 in
    let stopped = en.stopped in
    record {
      turns = en.turns + second.turns + 1;
      few = omega (arith, en.few, second.few);
      after = w4;
      runs = turns_then image (en.turns + second.turns) 1 w w3 w4 (Enter e ∷ []) [] (turns_then image en.turns second.turns w w2 w3 (Enter e ∷ []) [] en.runs second.runs) last;
      stands = record {
        pc = r3.stands.pc;
        registers = set_length s3.regs 10 answer ∙ r3.stands.registers;
        code = r3.stands.code;
        room = subst (λ a. Room a 80 s3.memory) (sym pointer4) r3.stands.room;
      };
      given = read_same s3.regs 10 answer (λ q. absurd (omega (arith, q))) (omega (arith, r3.stands.registers));
      over = over_at p number caller others ve w2.hart.memory low back (saved_of w2.hart) w4.hart memory pointer4 (given_in_first s3 w4.hart answer refl ∙ r3.variables) en.over;
      stopped = record {
        number = stopped.number;
        is = stopped.is;
        made = stopped.made;
        there = subst (λ a. AddressAt s3.memory (a + 72) (p.at (of_exception stopped.number))) (sym pointer4) (subst (λ ps. AddressAt ps (low + 72) (p.at (of_exception stopped.number))) (sym memory) stopped.there);
      };
      pointer = pointer4 ∙ en.pointer;
      running = record { image = running3.image; lists = running3.lists; base = running3.base; tables = running3.tables; run = running3.run };
      runtime = record { input = runtime3.input; replies = runtime3.replies; last_number = runtime3.last_number; terminating = runtime3.terminating; exceptions = runtime3.exceptions; plan = runtime3.plan };
    }

pub thrown_checked : CallsAreMade → UnexpectedChecks → RunsKeepMemory → ListsAnswer → (i : CleanImage) (p : Plan) (e d type : ℕ) (destructor : Option ℕ) (kept : Installed) (j answer : ℕ) (st : State) (w : abi.World) → (h : ThrownOut i p e d type destructor kept j st w) →
    list_says p h.rests.kept.owner j type ≡ pos answer → Checked i p e h.called.number h.rests.rests.back answer h.called.caller h.called.others st w
thrown_checked made checks keeps lists i p e d type destructor kept j answer st w h says =
    let en = thrown_entered made checks keeps i p e d type destructor kept j st w h in
    list_checked made checks keeps lists i p e type destructor kept j answer h.called.number h.rests.rests.back h.rests.kept.owner h.rests.kept.selector h.called.caller h.called.others st w en h.native h.may.whole (record {
      known = h.known;
      filter = h.filter;
      list = h.list;
      type_is = h.type_is;
      bad = h.bad;
      named = h.named;
    }) says
