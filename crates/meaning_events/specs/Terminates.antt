-- Terminate comes before any cleanup: a doomed exception is entered next, and what comes of that passes all that is open.
use Rattle.std.specs.Prelude.{◌≡◌, ℕ, ◌+◌, ℤ, Bool, true, false, List, [], ◌∷◌, ◌++◌, Option}
use Rattle.cxx_ast.specs.Plain.{Checked, Expression}
use Rattle.run_items.specs.declared.item.Item.TheVariants.{Make, Enter}
use Rattle.meaning_forms.specs.Class.{ObjectType, contains}
use Rattle.meaning_forms.specs.Part.{part_type}
use Rattle.meaning_forms.specs.World.{World, building, native, exception_at, type_at, object_at, with_exception, Installed}
use Rattle.meaning_forms.specs.Context.{Context, handling}
use Rattle.meaning_forms.specs.Frame.{Frame}
use Rattle.meaning_forms.specs.Guard.{is_doomed, allows}
use Rattle.meaning_forms.specs.Running.{Running}
use Rattle.meaning_forms.specs.Outcome.{Stop, thrown, cancelled, Flow, Action, Result, done, stopped}
use Rattle.meaning_forms.specs.Terminate.{terminate_with, after_barrier}
use Rattle.meaning_forms.specs.Scope.{after_scope, after_part}
use Rattle.meaning_forms.specs.Throw.{is_full, after_building, raise_exception, throw_new, rethrow}
use Rattle.meaning_forms.specs.Handler.{after_handler, after_destructor}
use Rattle.meaning_forms.specs.Specification.{new_bad_exception, pass_on, after_unexpected, after_extent}
use Rattle.meaning_forms.specs.Statement.{operand_thrown, after_try}
use Rattle.meaning_forms.specs.Call.{running}
use Rattle.meaning_events.specs.Fates.{story, Tells}
use Rattle.meaning_events.specs.Going.{Follows, items_left}
use Rattle.meaning_events.specs.Settles.{SettlesIn}

-- a stop that passes outwards and runs nothing on its way
abbrev pub is_final : Stop → Bool
is_final (thrown e) = false
is_final (cancelled n) = false
is_final x = true

-- nothing comes out but such a stop
abbrev pub IsFinal : {A : Type 0} → Result A → Type 0
IsFinal (done a w) = ⊥
IsFinal (stopped s w) = is_final s ≡ true

-- an exception is native, with the handlers kept with it, and doomed where no terminate handler runs
pub record IsDoomed (r : Running) (c : Context) (w : World) (e : ℕ) (t : ObjectType) (o : ℕ) (kept : Installed) : Type 0 where
  pub doomed : is_doomed r.program c.guards (type_at w e) ≡ true
  pub quiet : c.ending ≡ false
  pub native : exception_at w e ≡ native t o kept

-- it is entered, and the terminate handler kept with it is used
abbrev pub entered_next : {A : Type 0} → Running → Installed → ℕ → Context → World → Result A
entered_next r kept e c w = terminate_with r kept.terminate_handler (handling e c) (record w { items = w.items ++ Enter e ∷ [] })

-- the world in which the building of a new exception begins
abbrev pub begun : World → World
begun w = record w {
  last_number = w.last_number + 1;
  live = w.live ++ record { number = w.last_number + 1; exception = building } ∷ [];
  items = w.items ++ Make (w.last_number + 1) ∷ [];
}

-- and the one in which it has ended
abbrev pub built : ℕ → ℕ → World → World
built e o w = with_exception w e (native (part_type (object_at w o)) o w.installed)

-- Where an exception is doomed, it is entered next: at the end of its building, thrown again, and passed on by a specification out of its unexpected
-- handler. `raised` is the doomed test itself, to which the three others come.
pub record EntersNext (A : Type 0) : Type 0 where
  pub raised : (r : Running) (c : Context) (w : World) (e o : ℕ) (t : ObjectType) (kept : Installed) → IsDoomed r c w e t o kept →
      raise_exception {A = A} r e c w ≡ entered_next r kept e c w
  pub thrown : (r : Running) (c : Context) (build : Action ℕ) (w w2 : World) (o : ℕ) → SettlesIn r.program c build → Tells c.handled (story w) → is_full w ≡ false →
      build (begun w) ≡ done o w2 → let e = w.last_number + 1 in let w3 = built e o w2 in
      is_doomed r.program c.guards (type_at w3 e) ≡ true → c.ending ≡ false → throw_new {A = A} r c build w ≡ entered_next r w2.installed e c w3
  pub again : (r : Running) (c : Context) (w : World) (e o : ℕ) (es : List ℕ) (t : ObjectType) (kept : Installed) → c.handled ≡ e ∷ es → contains c.travelling e ≡ false →
      IsDoomed r c w e t o kept → rethrow {A = A} r c w ≡ entered_next r kept e c w
  pub passed : (r : Running) (types : List ObjectType) (first : Installed) (c : Context) (w : World) (f o : ℕ) (t : ObjectType) (kept : Installed) →
      allows r.program types (type_at w f) ≡ true → IsDoomed r c w f t o kept → pass_on {A = A} r types first f c w ≡ entered_next r kept f c w

-- What comes of terminate is final, and passes every scope, part, handler, building, destruction, barrier, try block and specification that is open:
-- nothing is destroyed, freed or caught.
pub record PassesOut (A : Type 0) : Type 0 where
  pub ends : (r : Running) (handler : Option ℕ) (c : Context) (w : World) → IsFinal (terminate_with {A = A} r handler c w)
  pub scopes : (r : Running) (c : Context) (destruction : Context → Action (Unit {0})) (s : Stop) (w : World) → is_final s ≡ true →
      (after_scope {A = A} r c destruction (stopped s w) ≡ stopped s w) × (after_part {A = A} r c destruction (stopped s w) ≡ stopped s w)
  pub handlers : (r : Running) (e : ℕ) (c : Context) (s : Stop) (w : World) → is_final s ≡ true → after_handler {A = A} r e c (stopped s w) ≡ stopped s w
  pub objects : (e : ℕ) (s : Stop) (w : World) → is_final s ≡ true → (after_building {A = A} e (stopped s w) ≡ stopped s w) × (after_destructor e (stopped s w) ≡ stopped s w)
  pub barriers : (r : Running) (c : Context) (s : Stop) (w : World) → is_final s ≡ true → after_barrier {A = A} r c (stopped s w) ≡ stopped s w
  pub tries : (caught : ℕ → Action A) (s : Stop) (w : World) → is_final s ≡ true → after_try caught (stopped s w) ≡ stopped s w
  pub specifications : (r : Running) (types : List ObjectType) (kept : Installed) (c : Context) (s : Stop) (w : World) → is_final s ≡ true →
      (after_extent {A = A} r types c (stopped s w) ≡ stopped s w) × (after_unexpected {A = A} r types kept c (stopped s w) ≡ stopped s w)

-- and its Enter is told next
abbrev pub EnterIsTold : Type 0 → Type 0
EnterIsTold A = (p : Checked) (limit fuel : ℕ) (kept : Installed) (e : ℕ) (c : Context) (w : World) →
    Follows (w.items ++ Enter e ∷ []) (items_left (entered_next {A = A} (running p limit fuel) kept e c w))

-- the operands of `throw` and the bad_exception of a specification are built by what settles what it makes
pub record BuildsSettle (p : Checked) (limit fuel : ℕ) (c : Context) : Type 0 where
  pub operands : (f : Frame) (x : Expression) → SettlesIn p c (operand_thrown (running p limit fuel) f x c)
  pub bad_exceptions : SettlesIn p c (new_bad_exception (running p limit fuel) c)

abbrev pub AllBuildsSettle : Type 0
AllBuildsSettle = (p : Checked) (limit fuel : ℕ) (c : Context) → BuildsSettle p limit fuel c

-- so it is of values and of statements
abbrev pub TerminateLaw : Type 0
TerminateLaw = EntersNext ℤ × EntersNext Flow × EnterIsTold ℤ × EnterIsTold Flow

abbrev pub FinalLaw : Type 0
FinalLaw = PassesOut ℤ × PassesOut Flow × PassesOut (Unit {0}) × PassesOut ℕ
