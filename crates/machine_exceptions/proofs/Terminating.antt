-- Operations that terminate: their steps, and the runtime calls that they make.
use Rattle.std.proofs.Common.{◌≡◌, ◌∙◌, refl, ap, arith, ℕ, suc, ◌^◌, ◌<◌, ◌≤◌, Bool, true, false, pos, negsuc, List, [], ◌∷◌, ◌++◌, length, slice_set, length-set, Some, None, inl, inr}
use Rattle.std.specs.Prelude.{◌⊎◌, if◌then◌else◌}
use Rattle.std.proofs.lemmas.Bool.Decides.{nat_tests}
use Rattle.cxx_ast.specs.declared.name.Builtin.TheVariants.{Terminate}
use Rattle.caught_stack.specs.declared.header.HeaderKind.TheVariants.{Building}
use Rattle.caught_stack.specs.Live.{Live as Headers, slots, is_vacant, live_count}
use Rattle.caught_stack.specs.Caught.{Caught}
use Rattle.caught_stack.specs.Exceptions.{Exceptions, IsSound}
use Rattle.caught_stack.specs.Rethrow.{rethrown_on}
use Rattle.caught_stack.proofs.Headers.{vacant_below, vacant_not_live, both_counts}
use Rattle.cxa_runtime.specs.Objects.{slot_for, first_vacant_from}
use Rattle.cxa_runtime.specs.Allocate.{allocate, made_in, new_header}
use Rattle.cxa_runtime.specs.Throw.{rethrow as rethrow_effect, rethrows}
use Rattle.cxa_runtime.specs.Terminate.{terminates, terminates_now}
use Rattle.cxa_runtime.specs.World as abi
use Rattle.cxa_runtime.specs.Raising.{Image}
use Rattle.cxa_runtime.specs.Call.{call_effect, numbered}
use Rattle.cxa_runtime.proofs.Changes.{full_gives_none}
use Rattle.region_forms.specs.Form.{no_arguments}
use Rattle.region_forms.specs.Caught.{Entry}
use Rattle.region_forms.specs.World.{exception_of}
use Rattle.region_forms.specs.Effect as effects
use Rattle.region_forms.specs.Lives.{can_travel, may_enter}
use Rattle.region_forms.specs.Effect.{is_full}
use Rattle.linear_forms.specs.Linear.{LinearOp}
use Rattle.linear_forms.specs.Activation.{State, Next, terminated}
use Rattle.linear_forms.specs.Machine.{step}
use Rattle.linear_forms.specs.Operation.{act, performed}
use Rattle.linear_forms.specs.UnitRun.{code_of}
use Rattle.machine_forms.specs.Piece.{Piece}
use Rattle.machine_forms.specs.Registers.{a0}
use Rattle.machine_forms.specs.PlaceCode.{slot_stored}
use Rattle.machine_forms.specs.RuntimeCall.{runtime_call}
use Rattle.machine_forms.specs.LinearCode.{linear_code}
use Rattle.machine_simulation.specs.Plan.{Plan, shape}
use Rattle.machine_simulation.specs.Exceptions.{Addresses, KeptExceptions, AreCaught, ExceptionsMatch}
use Rattle.machine_simulation.proofs.Quiet.{step_is}
use Rattle.machine_exceptions.specs.Answers.{CallsBuiltin}
use Rattle.machine_exceptions.specs.Enters.{is_crowded}
use Rattle.machine_exceptions.specs.Terminates.{IsNothing, TerminatesAtOnce, EntersCrowded, AtTerminating}
use Rattle.machine_exceptions.proofs.Headers.{count_more}
use Rattle.machine_exceptions.proofs.Makes.{made_world, made_frame}
use Rattle.machine_exceptions.proofs.Builtins.{builtin_op}

-- ---- the runtime calls

terminate_is : (image : Image) (wish : ℕ) (t : abi.World) → call_effect 13 image wish t ≡ terminates_now image.places t
unfolding call_effect numbered
terminate_is image wish t = refl

allocate_is : (image : Image) (wish : ℕ) (t : abi.World) → call_effect 3 image wish t ≡ allocate image.places wish t
unfolding call_effect numbered
allocate_is image wish t = refl

rethrow_is : (image : Image) (wish : ℕ) (t : abi.World) → call_effect 8 image wish t ≡ rethrow_effect image t
unfolding call_effect numbered
rethrow_is image wish t = refl

-- where all slots are live, none is given, whichever is wished for
none_given : (e : Exceptions) (wish : ℕ) → IsSound e → live_count e.live ≡ slots → slot_for e.live wish ≡ None
none_given e wish sound full = by (is_vacant e.live wish) refl
  where
    by : (b : Bool) → is_vacant e.live wish ≡ b → slot_for e.live wish ≡ None
    by false is = ap (λ b. if b then Some wish else first_vacant_from 0 e.live) is ∙ full_gives_none e sound full
    by true is =
        let low : wish < length e.live = omega (arith, vacant_below e.live wish is, sound.slots) in
        let more = count_more e.live wish (new_header 0 Building) low (vacant_not_live e.live wish is) in
        let all = both_counts (slice_set e.live wish (Some (new_header 0 Building))) in
        absurd (omega (arith, more, all, full, sound.slots, length-set e.live wish (Some (new_header 0 Building))))

-- what has no handler, or travels already, is not thrown again
none_thrown : (headers : Headers) (xs : List Entry) (ys : Caught) (e : Exceptions) → AreCaught headers xs ys → IsNothing xs → rethrown_on ys e ≡ (None, e)
none_thrown headers [] [] e h nothing = refl
none_thrown headers (x ∷ xs) ((slot, n) ∷ ys) e h nothing = ap (λ k. rethrown_on ((slot, k) ∷ ys) e) (h.1 ∙ ap (λ b. if b then negsuc x.more else pos (suc x.more)) nothing)
none_thrown headers [] (y ∷ ys) e h nothing = absurd h
none_thrown headers (x ∷ xs) [] e h nothing = absurd h

-- ---- an operation that terminates

pub record TerminatingOp (image : Image) (p : Plan) (n : ℕ) (st : State) (o : LinearOp) : Type 0 where
  pub number : ℕ
  pub small : number < 2 ^ 11
  pub rear : List Piece
  pub pieces : linear_code (shape p n) o ≡ runtime_call number ++ rear
  pub effect : (t : Addresses) (gone : List ℕ) (k : KeptExceptions) (wish : ℕ) (w : abi.World) → w.exceptions ≡ k.exceptions →
      ExceptionsMatch t gone (record { live = st.world.live; last_number = st.world.last_number; caught = st.world.caught; uncaught = st.world.uncaught; installed = st.world.installed }) k →
      call_effect number image wish w ≡ terminates image.places w.terminate_handler w

-- what it does on the machine for linear code
pub terminating_step : (image : Image) (p : Plan) (n : ℕ) (st : State) (at : AtTerminating image p n st) → step (code_of p.unit) st ≡ terminated st.world.installed.terminate_handler (st.top ∷ st.frames) st.world
terminating_step image p n st at = step_is p n st at.operation at.runs at.there ∙ by at.terminates
  where
    does : LinearOp → Next
    does o = act (code_of p.unit) o st.top st.frames st.world

    made_by : ℕ → effects.Effect
    made_by s = effects.goes (made_frame st.world s st.top.frame) (made_world st.world)

    ends : Next
    ends = terminated st.world.installed.terminate_handler (st.top ∷ st.frames) st.world

    otherwise : (b : Bool) → effects.Effect → Next
    otherwise b e = performed (code_of p.unit) (if b then effects.terminates st.world.installed.terminate_handler st.world else e) st.top st.frames st.world

    nothing_step : (xs : List Entry) → IsNothing xs → performed (code_of p.unit) (effects.rethrown xs st.world) st.top st.frames st.world ≡ ends
    nothing_step [] nothing = refl
    nothing_step (x ∷ xs) nothing = ap (λ b. otherwise b (effects.only_where (can_travel st.world x.number) (effects.raises x.number st.world))) nothing

    entered_step : (e : ℕ) → may_enter st.world e ≡ true → is_crowded st.world e ≡ true → performed (code_of p.unit) (effects.enters e st.top.frame st.world) st.top st.frames st.world ≡ ends
    entered_step e may crowded =
        let rest : Bool → effects.Effect = λ b. if b then effects.terminates st.world.installed.terminate_handler st.world else effects.goes st.top.frame (effects.entered e st.world) in
        ap (λ b. performed (code_of p.unit) (effects.only_where b (rest (is_crowded st.world e))) st.top st.frames st.world) may
        ∙ ap (λ b. otherwise b (effects.goes st.top.frame (effects.entered e st.world))) crowded

    by : TerminatesAtOnce st.world at.operation ⊎ EntersCrowded p n st at.operation → does at.operation ≡ ends
    by (inl (inl (inl h))) = absurd (cc h.1)
    by (inl (inl (inr (inl h)))) = ap does h.1
    by (inl (inl (inr (inr h)))) = ap does h.1
    by (inl (inr (inl h))) = ap does h.1 ∙ ap (λ b. otherwise b (made_by h.0)) h.2
    by (inl (inr (inr h))) = ap does h.0 ∙ nothing_step st.world.caught h.1
    by (inr h) =
        ap does h.is ∙ ap (λ k. performed (code_of p.unit) (effects.enters k st.top.frame st.world) st.top st.frames st.world) (ap exception_of h.holds.is) ∙ entered_step h.number h.defined h.crowded

-- and the runtime call that it makes
pub terminating_op : (image : Image) (p : Plan) (n : ℕ) (st : State) (at : AtTerminating image p n st) → TerminatesAtOnce st.world at.operation → TerminatingOp image p n st at.operation
terminating_op image p n st at = by
  where
    by : TerminatesAtOnce st.world at.operation → TerminatingOp image p n st at.operation
    by (inl calls) = record {
      number = 13;
      small = omega arith;
      rear = [];
      pieces = builtin_pieces calls;
      effect = λ t gone k wish w same m. terminate_is image wish w;
    }
      where
        builtin_pieces : CallsBuiltin Terminate no_arguments None at.operation → linear_code (shape p n) at.operation ≡ runtime_call 13 ++ []
        builtin_pieces h = (builtin_op p n Terminate no_arguments st at.operation at.runs at.there None h (inl refl)).pieces
    by (inr (inl h)) = record {
      number = 3;
      small = omega arith;
      rear = slot_stored (shape p n) a0 h.0 ∷ [];
      pieces = ap (linear_code (shape p n)) h.1;
      effect = λ t gone k wish w same m.
          let full : live_count k.exceptions.live ≡ slots = all_live k.exceptions.live (m.count) (m.sound.slots) h.2 in
          allocate_is image wish w ∙ ap (made_in image.places w) (ap (λ (e : Exceptions). slot_for e.live wish) same ∙ none_given k.exceptions wish m.sound full);
    }
      where
        all_live : (headers : Headers) → live_count headers ≡ length st.world.live → length headers ≡ slots → is_full st.world ≡ true → live_count headers ≡ slots
        all_live headers count long full =
            let many : 1024 ≤ length st.world.live = grind (arith, nat_tests, full) in
            omega (arith, many, count, long, both_counts headers)
    by (inr (inr h)) = record {
      number = 8;
      small = omega arith;
      rear = [];
      pieces = ap (linear_code (shape p n)) h.0;
      effect = λ t gone k wish w same m.
          rethrow_is image wish w ∙ ap (λ (e : Exceptions). rethrows image w (rethrown_on e.caught w.exceptions)) same
          ∙ ap (rethrows image w) (none_thrown k.exceptions.live st.world.caught k.exceptions.caught w.exceptions m.caught h.1);
    }
