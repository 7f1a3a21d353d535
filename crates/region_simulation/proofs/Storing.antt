-- A value that is stored in a slot between calls.
use Rattle.std.proofs.Common.{◌≡◌, ℕ, ◌<◌, ◌≤◌, ℤ, true, false, List, ◌∷◌, Option, Some, refl, ap, ◌∙◌, arith}
use Rattle.std.specs.Prelude.{◌==◌, if◌then◌else◌}
use Rattle.std.proofs.lemmas.Bool.Decides.{nat_tests}
use Rattle.cxx_ast.specs.Plain.{Checked}
use Rattle.meaning_forms.specs.World.{World as SourceWorld}
use Rattle.meaning_forms.specs.Context.{Context as SourceContext}
use Rattle.region_forms.specs.Form.{Kinds, Value, number, load, unary, binary, call_value, Place, help_slot, store, Region, regions_from}
use Rattle.region_forms.specs.Layout.{Layout}
use Rattle.region_forms.specs.World.{number_word, number_in, Frame, World, with_slot}
use Rattle.region_forms.specs.Evaluation.{slot_location, read_location, value_in}
use Rattle.region_forms.specs.Effect.{if_some, finished, valued, stored_at}
use Rattle.region_forms.specs.Outcome.{State, Context, normal, done, continued, pure}
use Rattle.region_forms.specs.Ending.{Running, perform}
use Rattle.region_forms.specs.Meaning.{followed, operation}
use Rattle.linear_simulation.specs.Watched.{watched_all as regions}
use Rattle.region_forms.specs.LowerExpression.{slot_place, stored_in}
use Rattle.region_simulation.specs.Places.{Places}
use Rattle.region_simulation.specs.Stands.{Stands}
use Rattle.region_simulation.specs.Alike.{Follows}

-- a value without calls is stored
pub valued_as : (kinds : Kinds) (y : Value) (p : Option Place) (f : Frame) (w : World) (x : ℤ) → value_in kinds f w y ≡ Some x
    → valued kinds y p f w ≡ finished kinds p x f w
valued_as kinds (number n) p f w x e = ap (λ z. if_some z (λ x. finished kinds p x f w)) e
valued_as kinds (load q) p f w x e = ap (λ z. if_some z (λ x. finished kinds p x f w)) e
valued_as kinds (unary o y) p f w x e = ap (λ z. if_some z (λ x. finished kinds p x f w)) e
valued_as kinds (binary o y z) p f w x e = ap (λ z. if_some z (λ x. finished kinds p x f w)) e
valued_as kinds (call_value c args) p f w x e = absurd (cc e)

abbrev pub with_temporary : ℕ → ℤ → State → State
with_temporary t x s = record s { frame = with_slot t (number_word x) s.frame }

-- a value is stored in a slot that is no variable
pub stores : (b : Running) (t : ℕ) (y : Value) (x : ℤ) (c : Context) (s : State) → b.kinds t ≡ help_slot → value_in b.kinds s.frame s.world y ≡ Some x
    → operation b (store (slot_place t) y) c s ≡ done tt (with_temporary t x s)
stores b t y x c s kind e =
    ap (λ z. perform b z c s) (valued_as b.kinds y (Some (slot_place t)) s.frame s.world x e) ∙
    ap (λ k. perform b (stored_at (slot_location k s.frame.call t 0) x s.frame s.world) c s) kind

-- then what follows is done
pub stores_first : (b : Running) (t : ℕ) (y : Value) (x : ℤ) (rest : List Region) (c : Context) (s : State) → b.kinds t ≡ help_slot
    → value_in b.kinds s.frame s.world y ≡ Some x
    → regions b (regions_from (stored_in t y ∷ rest)) c s ≡ regions b (regions_from rest) c (with_temporary t x s)
stores_first b t y x rest c s kind e =
    ap (λ z. continued (continued z (λ u. pure normal)) (followed (regions b (regions_from rest) c))) (stores b t y x c s kind e)

pub same_number : (t : ℕ) → (t == t) ≡ true
same_number t = grind (arith, nat_tests)

pub other_number : (s t : ℕ) → s < t → (t == s) ≡ false
other_number s t lt = grind (arith, nat_tests, lt)

-- it is read back
pub stored_value : (kinds : Kinds) (t : ℕ) (f : Frame) (w : World) (x : ℤ) → kinds t ≡ help_slot → f.slots t ≡ number_word x
    → value_in kinds f w (load (slot_place t)) ≡ Some x
stored_value kinds t f w x kind e = ap (λ k. read_location f w (slot_location k f.call t 0)) kind ∙ ap number_in e

pub temporary_is : (t : ℕ) (x : ℤ) (s : State) → (with_temporary t x s).frame.slots t ≡ number_word x
temporary_is t x s = ap (λ b. if b then number_word x else s.frame.slots t) (same_number t)

-- nothing else is changed
abbrev pub follows_stored : (l : Layout) (p : Checked) (at : Places) (k : ℕ) (c : SourceContext) (w : SourceWorld) (s : State) (t : ℕ) (x : ℤ) → k ≤ t
    → Stands l p at c w s → Follows l p at k w s c w (with_temporary t x s)
follows_stored l p at k c w s t x le stands = record {
  places = at;
  stay = λ o lt. refl;
  objects = omega arith;
  calls = omega arith;
  open_calls = refl;
  keeps = record {
    call = refl;
    slots = λ q lt. ap (λ b. if b then number_word x else s.frame.slots q) (other_number q t (omega (arith, lt, le)));
  };
  stands = record {
    world = stands.world;
    turns = stands.turns;
    memory = stands.memory;
    globals = stands.globals;
    exceptions = stands.exceptions;
    made = stands.made;
    sound = stands.sound;
    handlers = stands.handlers;
    kept = stands.kept;
  };
}
