-- The rounds of a loop.
use Rattle.std.proofs.Common.{◌≡◌, ◌∙◌, ℕ, zero, suc, ℤ, pos, Option, Some, None, refl, ap, sym, subst, Ok, Err}
use Rattle.std.specs.Prelude.{if◌then◌else◌}
use Rattle.cxx_ast.specs.Plain.{Statement, Statements, no_statements, statement_then}
use Rattle.meaning_forms.specs.World.{World}
use Rattle.meaning_forms.specs.Context.{Context}
use Rattle.meaning_forms.specs.Outcome.{Action, Result, done, stopped, out_of_turns, Flow, normal, pure, continued, ◌>>=◌}
use Rattle.meaning_forms.specs.Running.{Running}
use Rattle.meaning_forms.specs.Frame.{Frame}
use Rattle.meaning_forms.specs.Arithmetic.{is_zero}
use Rattle.meaning_forms.specs.Statement.{spend_turn, loop, looped, statement, statements}
use Rattle.scope_world.specs.declared.outcome.Halt.{Halt}
use Rattle.scope_world.specs.declared.outcome.Flow.{Flow as CodeFlow}
use Rattle.scope_world.specs.declared.outcome.Flow.TheVariants as flows
use Rattle.scope_world.specs.Gives.{Halts, flow_of}
use Rattle.scope_meaning.specs.Steps.{RoundGives}
use Rattle.scope_flow.proofs.Passing.{halts_continued}
use Rattle.scope_meaning.proofs.Declared.{zero_is, zero_is_not}

-- what is done in a round after its test
abbrev after_test : ℕ → Action ℤ → Action Flow → ℤ → Action Flow
after_test n test body v = if is_zero v then pure normal else (body >>= looped (loop n test body))

-- what is done in a round after its turn is spent
turned : (n : ℕ) (test : Action ℤ) (body : Action Flow) (w u : World) → spend_turn w ≡ done tt u → loop (suc n) test body w ≡ continued (test u) (after_test n test body)
turned n test body w u spent = ap (λ m. continued m (λ a. test >>= after_test n test body)) spent

-- the body, and what follows it
then_body : (n : ℕ) (test : Action ℤ) (body : Action Flow) (w u x : World) (v : ℤ) → spend_turn w ≡ done tt u → test u ≡ done v x → (v ≡ pos 0 → ⊥) → loop (suc n) test body w ≡ continued (body x) (looped (loop n test body))
then_body n test body w u x v spent tested other =
    turned n test body w u spent ∙ ap (λ m. continued m (after_test n test body)) tested ∙ ap (λ b. (if b then pure normal else (body >>= looped (loop n test body))) x) (zero_is_not v other)

-- one statement by itself
abbrev pub alone : Running → Statement → Frame → Context → Action Flow
alone r s f c = statement r s (λ g. pure normal) f c

-- a loop ends where its test gives 0
pub ended_by_test : (n : ℕ) (test : Action ℤ) (body : Action Flow) (w u x : World) (v : ℤ) → spend_turn w ≡ done tt u → test u ≡ done v x → v ≡ pos 0 → RoundGives (loop (suc n) test body w) (loop n test body) (Ok (Some flows.Normal)) x
ended_by_test n test body w u x v spent tested null =
    turned n test body w u spent ∙ ap (λ m. continued m (after_test n test body)) tested ∙ ap (λ b. (if b then pure normal else (body >>= looped (loop n test body))) x) (zero_is v null)

-- a turn that is not left stops a round
pub round_unspent : (n : ℕ) (test : Action ℤ) (body : Action Flow) (w u : World) (h : Halt) → Halts (spend_turn w) h u → RoundGives (loop (suc n) test body w) (loop n test body) (Err h) u
round_unspent n test body w u h g = halts_continued (spend_turn w) (λ a. test >>= after_test n test body) h u g

-- and so does a test that is stopped
pub test_halted : (n : ℕ) (test : Action ℤ) (body : Action Flow) (w u x : World) (h : Halt) → spend_turn w ≡ done tt u → Halts (test u) h x → RoundGives (loop (suc n) test body w) (loop n test body) (Err h) x
test_halted n test body w u x h spent g = subst (λ m. Halts m h x) (sym (turned n test body w u spent)) (halts_continued (test u) (after_test n test body) h x g)

-- and a body
pub body_halted : (n : ℕ) (test : Action ℤ) (r : Running) (s : Statement) (ss : Statements) (f : Frame) (c : Context) (w u x y : World) (v : ℤ) (h : Halt)
    → spend_turn w ≡ done tt u → test u ≡ done v x → (v ≡ pos 0 → ⊥) → ss ≡ statement_then s no_statements → Halts (statements r ss f c x) h y
    → RoundGives (loop (suc n) test (statement r s (λ g. pure normal) f c) w) (loop n test (statement r s (λ g. pure normal) f c)) (Err h) y
body_halted n test r s ss f c w u x y v h spent tested other single g =
    subst (λ m. Halts m h y) (sym (then_body n test (alone r s f c) w u x v spent tested other))
    (halts_continued (alone r s f c x) (looped (loop n test (alone r s f c))) h y (subst (λ z. Halts (statements r z f c x) h y) single g))

-- what a round gives after its body
unfoldable round_of : CodeFlow → Option CodeFlow
round_of flows.Normal = None
round_of flows.Continues = None
round_of flows.Breaks = Some flows.Normal
round_of (flows.Returns v) = Some (flows.Returns v)

by_flow : (m : Result Flow) (again : Action Flow) (flow : CodeFlow) (y : World) → m ≡ looped again (flow_of flow) y → RoundGives m again (Ok (round_of flow)) y
unfolding round_of
by_flow m again flows.Normal y e = e
by_flow m again flows.Continues y e = e
by_flow m again flows.Breaks y e = e
by_flow m again (flows.Returns v) y e = e

body_done : (n : ℕ) (test : Action ℤ) (r : Running) (s : Statement) (ss : Statements) (f : Frame) (c : Context) (w u x y : World) (v : ℤ) (flow : CodeFlow)
    → spend_turn w ≡ done tt u → test u ≡ done v x → (v ≡ pos 0 → ⊥) → ss ≡ statement_then s no_statements → statements r ss f c x ≡ done (flow_of flow) y
    → RoundGives (loop (suc n) test (alone r s f c) w) (loop n test (alone r s f c)) (Ok (round_of flow)) y
body_done n test r s ss f c w u x y v flow spent tested other single g =
    by_flow (loop (suc n) test (alone r s f c) w) (loop n test (alone r s f c)) flow y
    (then_body n test (alone r s f c) w u x v spent tested other ∙ ap (λ m. continued m (looped (loop n test (alone r s f c)))) (subst (λ z. statements r z f c x ≡ done (flow_of flow) y) single g))

-- a body that is done, by how it is done
pub body_normal : (n : ℕ) (test : Action ℤ) (r : Running) (s : Statement) (ss : Statements) (f : Frame) (c : Context) (w u x y : World) (v : ℤ) (flow : CodeFlow)
    → spend_turn w ≡ done tt u → test u ≡ done v x → (v ≡ pos 0 → ⊥) → ss ≡ statement_then s no_statements → statements r ss f c x ≡ done (flow_of flow) y → flow ≡ flows.Normal
    → RoundGives (loop (suc n) test (statement r s (λ g. pure normal) f c) w) (loop n test (statement r s (λ g. pure normal) f c)) (Ok None) y
unfolding round_of
body_normal n test r s ss f c w u x y v flow spent tested other single g is = body_done n test r s ss f c w u x y v flows.Normal spent tested other single (subst (λ z. statements r ss f c x ≡ done (flow_of z) y) is g)

pub body_continues : (n : ℕ) (test : Action ℤ) (r : Running) (s : Statement) (ss : Statements) (f : Frame) (c : Context) (w u x y : World) (v : ℤ) (flow : CodeFlow)
    → spend_turn w ≡ done tt u → test u ≡ done v x → (v ≡ pos 0 → ⊥) → ss ≡ statement_then s no_statements → statements r ss f c x ≡ done (flow_of flow) y → flow ≡ flows.Continues
    → RoundGives (loop (suc n) test (statement r s (λ g. pure normal) f c) w) (loop n test (statement r s (λ g. pure normal) f c)) (Ok None) y
unfolding round_of
body_continues n test r s ss f c w u x y v flow spent tested other single g is = body_done n test r s ss f c w u x y v flows.Continues spent tested other single (subst (λ z. statements r ss f c x ≡ done (flow_of z) y) is g)

pub body_breaks : (n : ℕ) (test : Action ℤ) (r : Running) (s : Statement) (ss : Statements) (f : Frame) (c : Context) (w u x y : World) (v : ℤ) (flow : CodeFlow)
    → spend_turn w ≡ done tt u → test u ≡ done v x → (v ≡ pos 0 → ⊥) → ss ≡ statement_then s no_statements → statements r ss f c x ≡ done (flow_of flow) y → flow ≡ flows.Breaks
    → RoundGives (loop (suc n) test (statement r s (λ g. pure normal) f c) w) (loop n test (statement r s (λ g. pure normal) f c)) (Ok (Some flows.Normal)) y
unfolding round_of
body_breaks n test r s ss f c w u x y v flow spent tested other single g is = body_done n test r s ss f c w u x y v flows.Breaks spent tested other single (subst (λ z. statements r ss f c x ≡ done (flow_of z) y) is g)

pub body_returns : (n : ℕ) (test : Action ℤ) (r : Running) (s : Statement) (ss : Statements) (f : Frame) (c : Context) (w u x y : World) (v : ℤ) (flow : CodeFlow) (value : Option ℤ)
    → spend_turn w ≡ done tt u → test u ≡ done v x → (v ≡ pos 0 → ⊥) → ss ≡ statement_then s no_statements → statements r ss f c x ≡ done (flow_of flow) y → flow ≡ flows.Returns value
    → RoundGives (loop (suc n) test (statement r s (λ g. pure normal) f c) w) (loop n test (statement r s (λ g. pure normal) f c)) (Ok (Some (flows.Returns value))) y
unfolding round_of
body_returns n test r s ss f c w u x y v flow value spent tested other single g is = body_done n test r s ss f c w u x y v (flows.Returns value) spent tested other single (subst (λ z. statements r ss f c x ≡ done (flow_of z) y) is g)

-- a loop, from its first round
pub rounds_begin : (n m : ℕ) (test : Action ℤ) (body : Action Flow) (w : World) → n ≡ m → loop (suc n) test body w ≡ loop (suc m) test body w
rounds_begin n m test body w e = ap (λ k. loop (suc k) test body w) e

pub round_halts : (total : Result Flow) (n : ℕ) (test : Action ℤ) (body : Action Flow) (w v : World) (h : Halt) → total ≡ loop (suc n) test body w → RoundGives (loop (suc n) test body w) (loop n test body) (Err h) v → Halts total h v
round_halts total n test body w v h e g = subst (λ m. Halts m h v) (sym e) g

pub round_leaves : (total : Result Flow) (n : ℕ) (test : Action ℤ) (body : Action Flow) (w v : World) (o : Option CodeFlow) (flow : CodeFlow)
    → total ≡ loop (suc n) test body w → RoundGives (loop (suc n) test body w) (loop n test body) (Ok o) v → o ≡ Some flow → total ≡ done (flow_of flow) v
round_leaves total n test body w v o flow e g is = e ∙ subst (λ p. RoundGives (loop (suc n) test body w) (loop n test body) (Ok p) v) is g

pub round_goes_on : (total : Result Flow) (n m : ℕ) (test : Action ℤ) (body : Action Flow) (w v : World) (o : Option CodeFlow)
    → total ≡ loop (suc n) test body w → RoundGives (loop (suc n) test body w) (loop n test body) (Ok o) v → ((flow : CodeFlow) → o ≡ Some flow → ⊥) → n ≡ suc m → total ≡ loop (suc m) test body v
round_goes_on total n m test body w v None e g other next = e ∙ g ∙ ap (λ k. loop k test body v) next
round_goes_on total n m test body w v (Some flow) e g other next = absurd (other flow refl)

-- where no round is left, no turn was
pub rounds_end : (total : Result Flow) (n : ℕ) (test : Action ℤ) (body : Action Flow) (w v : World) (o : Option CodeFlow)
    → total ≡ loop (suc n) test body w → RoundGives (loop (suc n) test body w) (loop n test body) (Ok o) v → o ≡ None → n ≡ zero → total ≡ stopped out_of_turns v
rounds_end total n test body w v o e g is last =
    e ∙ subst (λ p. RoundGives (loop (suc n) test body w) (loop n test body) (Ok p) v) is g ∙ ap (λ k. loop k test body v) last
