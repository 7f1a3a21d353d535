-- Open calls that stand, and what can stand on them.
use Rattle.std.proofs.Common.{◌≡◌, inl, inr, ℕ, ◌+◌, ◌≤◌, Bool, true, false, List, [], ◌∷◌, Option, Some, None, is_some, refl, sym, ap, ◌∙◌, if◌then◌else◌, arith}
use Rattle.meaning_forms.specs.Outcome.{aborted}
use Rattle.region_forms.specs.World.{Word, nothing, Frame, World}
use Rattle.region_forms.specs.Effect.{Effect, goes, calls, raises, terminates, ends, cancels, leaves_newest, meaningless, new_frame, new_world}
use Rattle.linear_forms.specs.Stub.{Function, compiled, terminating}
use Rattle.linear_forms.specs.Activation.{Code, Activation, State, Next, goes_to, finishes, by_program, next_if, at, counts, depth_of, enters_function, stub_frame, function_word, terminated}
use Rattle.linear_forms.specs.Operation.{settled}
use Rattle.flight_homes.specs.Nest.{is_called_by, CallsNest, is_terminate, waits_terminate}
use Rattle.flight_homes.specs.OpenCalls.{CallsStand}
use Rattle.flight_homes.proofs.Kept.{Same, Keeps, new_ending, new_deepest}

module _ (d : ℕ) where
  -- open calls, where terminate runs with a handler exactly if it is one of them; at least so many were open at once
  pub record Below (fs : List Activation) (w : World) : Type 0 where
    pub nest : CallsNest fs
    pub deep : depth_of fs ≤ w.deepest
    pub waits : waits_terminate fs ≡ true → w.ending ≡ true
    pub ends : w.ending ≡ true → waits_terminate fs ≡ true
    pub more : d ≤ w.deepest

  -- what comes next stands
  abbrev pub Goes : Next → Type 0
  Goes (finishes e w) = Unit {0}
  Goes (goes_to st) = CallsStand st × (d ≤ st.world.deepest)

  pub either : (b : Bool) (x y : Next) → Goes x → Goes y → Goes (if b then x else y)
  either true x y h k = h
  either false x y h k = k

  pub next_goes : (b : Bool) (w : World) (x : Next) → Goes x → Goes (next_if b w x)
  next_goes true w x h = h
  next_goes false w x h = tt

  -- calls of the same function are nested alike
  nest_as : (f : Function) (p q : ℕ) (x y : Frame) (fs : List Activation) → CallsNest (record { function = f; place = p; frame = x } ∷ fs) → CallsNest (record { function = f; place = q; frame = y } ∷ fs)
  nest_as f p q x y [] h = tt
  nest_as f p q x y (b ∷ fs) h = h

  pub below_as : (f : Function) (p q : ℕ) (x y : Frame) (fs : List Activation) (w : World) → Below (record { function = f; place = p; frame = x } ∷ fs) w → Below (record { function = f; place = q; frame = y } ∷ fs) w
  below_as f p q x y fs w b = record { nest = nest_as f p q x y fs b.nest; deep = b.deep; waits = b.waits; ends = b.ends; more = b.more }

  pub below_world : (fs : List Activation) (v w : World) → Same v w → Below fs w → Below fs v
  below_world fs v w s b = record {
    nest = b.nest;
    deep = omega (arith, b.deep, s.deepest);
    waits = λ h. s.ending ∙ b.waits h;
    ends = λ h. b.ends (sym s.ending ∙ h);
    more = omega (arith, b.more, s.deepest);
  }

  -- the calls below one
  nest_out : (a : Activation) (fs : List Activation) → CallsNest (a ∷ fs) → CallsNest fs
  nest_out a [] h = tt
  nest_out a (b ∷ fs) h = h.1

  waits_past : (a : Activation) (fs : List Activation) → is_terminate a.function ≡ false → waits_terminate (a ∷ fs) ≡ waits_terminate fs
  waits_past a fs e = ap (λ b. if b then true else waits_terminate fs) e

  waits_more : (b c : Bool) → c ≡ true → (if b then true else c) ≡ true
  waits_more true c e = refl
  waits_more false c e = e

  pub below_out : (a : Activation) (fs : List Activation) (w : World) → is_terminate a.function ≡ false → Below (a ∷ fs) w → Below fs w
  below_out a fs w other b = record {
    nest = nest_out a fs b.nest;
    deep = omega (arith, b.deep);
    waits = λ h. b.waits (waits_more (is_terminate a.function) (waits_terminate fs) h);
    ends = λ h. sym (waits_past a fs other) ∙ b.ends h;
    more = b.more;
  }

  -- a call that goes on
  pub stand : (f : Function) (p : ℕ) (x : Frame) (fs : List Activation) (w : World) → Below (record { function = f; place = p; frame = x } ∷ fs) w → Goes (at f p x fs w)
  stand f p x fs w b = (
    record {
      nest = b.nest;
      deep = b.deep;
      waits = λ h. b.waits (waits_more (is_terminate f) (waits_terminate fs) h);
      ends = b.ends;
      held = λ h. inl (b.waits (ap (λ c. if c then true else waits_terminate fs) h));
    },
    b.more,
  )

  pub goes_at : (a : Activation) (p : ℕ) (x : Frame) (fs : List Activation) (v w : World) → Same v w → Below (a ∷ fs) w → Goes (at a.function p x fs v)
  goes_at a p x fs v w s b = stand a.function p x fs v (below_as a.function a.place p a.frame x fs v (below_world (a ∷ fs) v w s b))

  -- a call of a function that is not terminate's
  pub below_state : (st : State) → is_terminate st.top.function ≡ false → d ≤ st.world.deepest → CallsStand st → Below (st.top ∷ st.frames) st.world
  below_state st other more s =
      record { nest = s.nest; deep = s.deep; waits = λ h. s.waits (sym (waits_past st.top st.frames other) ∙ h); ends = s.ends; more = more }

  -- a call is made
  nest_in : (f : Function) (p : ℕ) (x : Frame) (a : Activation) (fs : List Activation) → is_called_by f a.function ≡ true → CallsNest (a ∷ fs) → CallsNest (record { function = f; place = p; frame = x } ∷ a ∷ fs)
  nest_in f p x a fs e h = (e, h)

  pub called_goes : (code : Code) (n : ℕ) (given : List Word) (a : Activation) (fs : List Activation) (w : World) → Below (a ∷ fs) w → Goes (enters_function code n given (a ∷ fs) w)
  called_goes code n given a fs w b =
      let kinds = code.kinds_at n in
      let depth = depth_of (a ∷ fs) + 1 in
      let v = new_world kinds given depth w in
      let deepest = new_deepest kinds given depth w in
      let ending = new_ending kinds given depth w in
      let x = new_frame kinds given w in
      stand (compiled n) 0 x (a ∷ fs) v (record {
        nest = nest_in (compiled n) 0 x a fs refl b.nest;
        deep = omega (arith, deepest);
        waits = λ h. ending ∙ b.waits h;
        ends = λ h. b.ends (sym ending ∙ h);
        more = omega (arith, deepest, b.more);
      })

  -- one of the runtime's own functions is called
  pub stub_goes : (f : Function) (x : Frame) (a : Activation) (fs : List Activation) (w : World) → is_called_by f a.function ≡ true → is_terminate f ≡ false → counts f ≡ 0 → Below (a ∷ fs) w → Goes (at f 0 x (a ∷ fs) w)
  stub_goes f x a fs w by other none b =
      let top : Activation = record { function = f; place = 0; frame = x } in
      stand f 0 x (a ∷ fs) w (record {
        nest = nest_in f 0 x a fs by b.nest;
        deep = omega (arith, b.deep, none);
        waits = λ h. b.waits (sym (waits_past top (a ∷ fs) other) ∙ h);
        ends = λ h. waits_past top (a ∷ fs) other ∙ b.ends h;
        more = b.more;
      })

  -- terminate begins
  pub terminated_goes : (h : Option ℕ) (a : Activation) (fs : List Activation) (w : World) → Below (a ∷ fs) w → Goes (terminated h (a ∷ fs) w)
  terminated_goes h a fs w b = go w.ending h b.waits
    where
      none_waits : (c : Bool) → (waits_terminate (a ∷ fs) ≡ true → false ≡ true) → waits_terminate (a ∷ fs) ≡ true → c ≡ true
      none_waits c no_one h = let never = no_one h in absurd (cc never)

      go : (c : Bool) (h : Option ℕ) → (waits_terminate (a ∷ fs) ≡ true → c ≡ true) →
          Goes (if c then finishes (by_program aborted) w else at terminating 0 (stub_frame (function_word h) nothing nothing) (a ∷ fs) (record w { ending = is_some h }))
      go true h k = tt
      go false None k = (
        record {
          nest = nest_in terminating 0 (stub_frame nothing nothing nothing) a fs refl b.nest;
          deep = omega (arith, b.deep);
          waits = none_waits false k;
          ends = λ e. refl;
          held = λ e. inr refl;
        },
        b.more,
      )
      go false (Some n) k = (
        record {
          nest = nest_in terminating 0 (stub_frame (function_word (Some n)) nothing nothing) a fs refl b.nest;
          deep = omega (arith, b.deep);
          waits = λ e. refl;
          ends = λ e. refl;
          held = λ e. inl refl;
        },
        b.more,
      )

  -- an effect that needs nothing more
  pub settled_goes : (e : Effect) (a : Activation) (fs : List Activation) (w : World) → Keeps w e → Below (a ∷ fs) w → Goes (settled e a fs w)
  settled_goes (goes x v) a fs w k b = goes_at a (a.place + 1) x fs v w k b
  settled_goes (calls p n given) a fs w k b = tt
  settled_goes (raises e v) a fs w k b = tt
  settled_goes (terminates h v) a fs w k b = tt
  settled_goes (ends e v) a fs w k b = tt
  settled_goes (cancels z v) a fs w k b = tt
  settled_goes leaves_newest a fs w k b = tt
  settled_goes meaningless a fs w k b = tt
