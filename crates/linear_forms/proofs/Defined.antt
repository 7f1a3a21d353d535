-- Steps about exceptions are defined where these are as they must be.
use Rattle.std.proofs.Common.{◌≡◌, ℤ, Bool, true, false, List, Option, Some, None, refl, sym, ap, ◌∙◌, subst}
use Rattle.std.specs.Prelude.{if◌then◌else◌}
use Rattle.region_forms.specs.Form.{Kinds, Place, Value, number, load, unary, binary, call_value}
use Rattle.region_forms.specs.World.{Frame, World, written, exception_in_slot}
use Rattle.region_forms.specs.Lives.{is_there, is_being_built, can_travel, may_enter, may_leave}
use Rattle.region_forms.specs.Evaluation.{value_in, read_location, with_some}
use Rattle.region_forms.specs.Effect.{Effect, goes, raises, terminates, if_some, only_where, stored_at, finished, valued, kept, rethrown}
use Rattle.linear_forms.specs.Stub.{CodeOp}
use Rattle.linear_forms.specs.Activation.{Code, Activation, State, Next, next_if, kinds}
use Rattle.linear_forms.specs.Operation.{performed}
use Rattle.linear_forms.specs.Machine.{act_on, step}
use Rattle.linear_forms.specs.Defined.{IsDefined, RunsAt, DefinedWhereLive}

-- what is defined only where a test holds
so_defined : (b : Bool) (w : World) (x : Next) → IsDefined (next_if b w x) → b ≡ true
so_defined true w x h = refl
so_defined false w x h = absurd h

where_defined : (code : Code) (b : Bool) (x : Effect) (a : Activation) (fs : List Activation) (w : World) → IsDefined (performed code (only_where b x) a fs w) → b ≡ true
where_defined code true x a fs w h = refl
where_defined code false x a fs w h = absurd h

-- the step is that of the operation
at_step : (code : Code) (st : State) (o : CodeOp) → RunsAt code st o → IsDefined (step code st) → IsDefined (act_on code (Some o) st.top st.frames st.world)
at_step code st o is h = subst (λ z. IsDefined (act_on code z st.top st.frames st.world)) is h

where_goes : (b : Bool) (f g : Frame) (w u : World) → only_where b (goes f w) ≡ goes g u → b ≡ true
where_goes true f g w u h = refl
where_goes false f g w u h = absurd (cc h)

read_where : (b : Bool) (x : Option ℤ) (z : ℤ) → (if b then x else None) ≡ Some z → (b ≡ true) × (x ≡ Some z)
read_where true x z h = (refl, h)
read_where false x z h = absurd (cc h)

-- a value without a call is stored as it is
valued_as : (k : Kinds) (y : Value) (p : Option Place) (f : Frame) (w : World) (x : ℤ) → value_in k f w y ≡ Some x → valued k y p f w ≡ finished k p x f w
valued_as k (number n) p f w x e = ap (λ z. if_some z (λ x. finished k p x f w)) e
valued_as k (load q) p f w x e = ap (λ z. if_some z (λ x. finished k p x f w)) e
valued_as k (unary o y) p f w x e = ap (λ z. if_some z (λ x. finished k p x f w)) e
valued_as k (binary o y z) p f w x e = ap (λ z. if_some z (λ x. finished k p x f w)) e
valued_as k (call_value c args) p f w x e = absurd (cc e)

pub defined_where_live : DefinedWhereLive
defined_where_live = record {
  loads = λ k f w p a z located is. read_where (is_there w a.base) (w.memory a) z (ap (λ q. with_some q (read_location f w)) (sym located) ∙ is);
  stores = λ k f g w u p a z located is. where_goes (is_there w a.base) f g (written a z w) u (ap (λ q. if_some q (λ l. stored_at l z f w)) (sym located) ∙ is);
  writes = λ code st p v a z runs located is h.
      (let k = kinds code st.top.function in
      let f = st.top.frame in
      let step_of : valued k v (Some p) f st.world ≡ only_where (is_there st.world a.base) (goes f (written a z st.world)) =
      valued_as k v (Some p) f st.world z is ∙ ap (λ q. if_some q (λ l. stored_at l z f st.world)) located in
      where_defined code (is_there st.world a.base) (goes f (written a z st.world)) st.top st.frames st.world
      (subst (λ x. IsDefined (performed code x st.top st.frames st.world)) step_of (at_step code st _ runs h)));
  throws = λ code st s t d runs h.
      (let e = exception_in_slot st.top.frame s in
      where_defined code (is_being_built st.world e) (raises e (kept e t d st.world)) st.top st.frames st.world (at_step code st _ runs h));
  rethrows = λ code st x xs runs is rests h.
      where_defined code (can_travel st.world x.number) (raises x.number st.world) st.top st.frames st.world
      (subst (λ b. IsDefined (performed code (if b then terminates st.world.installed.terminate_handler st.world else only_where (can_travel st.world x.number) (raises x.number st.world)) st.top st.frames st.world)) rests
      (subst (λ ys. IsDefined (performed code (rethrown ys st.world) st.top st.frames st.world)) is (at_step code st _ runs h)));
  enters = λ code st s runs h.
      where_defined code (may_enter st.world (exception_in_slot st.top.frame s)) _ st.top st.frames st.world (at_step code st _ runs h);
  frees = λ code st s runs h. so_defined _ st.world _ (at_step code st _ runs h);
  leaves = λ code st o d l runs h. so_defined (may_leave st.world st.world.caught) st.world _ (at_step code st _ runs h);
  begins = λ code st o s runs h. so_defined _ st.world _ (at_step code st _ runs h);
}
