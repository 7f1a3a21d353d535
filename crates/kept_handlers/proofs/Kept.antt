-- What changes of the world keep of handlers, and so of what open calls have.
use Rattle.std.proofs.Common.{◌≡◌, ℕ, ◌+◌, ◌≤◌, Bool, true, false, ◌==◌, List, [], ◌∷◌, Option, Some, None, refl, sym, ap, ◌∙◌, if◌then◌else◌, arith}
use Rattle.std.specs.Prelude.{nat_le}
use Rattle.std.proofs.lemmas.Bool.Decides.{nat_tests}
use Rattle.meaning_forms.specs.World.{Installed}
use Rattle.region_forms.specs.Lives.{is_built, is_being_built}
use Rattle.region_forms.specs.World.{World, Frame, Exception, native, foreign, exception_in, exception_at, without_exception}
use Rattle.region_forms.specs.Effect.{with_new, kept, flies, entered, left}
use Rattle.linear_forms.specs.Stub.{Function, compiled, end_catch, terminating, call_unexpected}
use Rattle.linear_forms.specs.Activation.{Activation}
use Rattle.flight_homes.specs.Nest.{is_terminate}
use Rattle.linear_invariant.specs.Handled.{Unhandled, open_handlers}
use Rattle.linear_invariant.proofs.Lists.{found_appended, found_replaced, found_without}
use Rattle.linear_invariant.proofs.Worlds.{building_waits}
use Rattle.kept_handlers.specs.Depths.{Depths, unexpected_depth}
use Rattle.kept_handlers.specs.Handlers.{handled_at, depth_below, IsStopped, KeepsStopped, WaitsForHandler, CallOpens, UnlessEnding, HandlersStand}
use Rattle.kept_handlers.proofs.Handled.{entered_same, flown_same, left_same, unhandled_other}

abbrev pub called : Function → ℕ → Frame → Activation
called f p x = record { function = f; place = p; frame = x }

-- What a change keeps of the oldest handlers, so many: of which exception each is, and that this is of this language.
pub record Keeps (most : ℕ) (w v : World) : Type 0 where
  pub handled : (k n : ℕ) → k + 1 ≤ most → handled_at k w.caught ≡ Some n → handled_at k v.caught ≡ Some n
  pub same : (k n t : ℕ) (d : Option ℕ) (i : Installed) → k + 1 ≤ most → handled_at k w.caught ≡ Some n → exception_at w n ≡ native t d i → exception_at v n ≡ native t d i

pub keeps_then : (most : ℕ) (w v u : World) → Keeps most w v → Keeps most v u → Keeps most w u
keeps_then most w v u a b = record {
  handled = λ k n less h. b.handled k n less (a.handled k n less h);
  same = λ k n t d i less h e. b.same k n t d i less (a.handled k n less h) (a.same k n t d i less h e);
}

-- nothing is changed of exceptions
pub quiet_keeps : (most : ℕ) (w v : World) → v.live ≡ w.live → v.caught ≡ w.caught → Keeps most w v
quiet_keeps most w v live caught = record {
  handled = λ k n less h. ap (handled_at k) caught ∙ h;
  same = λ k n t d i less h e. ap (λ xs. exception_in xs n) live ∙ e;
}

pub new_keeps : (most : ℕ) (y : Exception) (w : World) → Keeps most w (with_new y w)
new_keeps most y w = record {
  handled = λ k n less h. h;
  same = λ k n t d i less h e. found_appended w.live (record { number = w.last_number + 1; exception = y }) n (ap is_built e) ∙ e;
}

pub flies_keeps : (most e : ℕ) (w : World) → Keeps most w (flies e w)
flies_keeps most e w = record { handled = λ k n less h. flown_same e k w.caught ∙ h; same = λ k n t d i less h j. j }

pub entered_keeps : (most e : ℕ) (w : World) → Keeps most w (entered e w)
entered_keeps most e w = record { handled = λ k n less h. entered_same e k n w.caught h; same = λ k n t d i less h j. j }

-- where there is one handler more
pub left_keeps : (most : ℕ) (w : World) → most + 1 ≤ open_handlers w.caught → Keeps most w (left w)
left_keeps most w more = record { handled = λ k n less h. left_same k w.caught (omega (arith, less, more)) ∙ h; same = λ k n t d i less h j. j }

-- an exception of this language is none that is being built, nor one of another language
pub apart_from : (w : World) (e n t : ℕ) (d : Option ℕ) (i : Installed) → ((exception_at w e ≡ native t d i) → ⊥) → exception_at w n ≡ native t d i → (n == e) ≡ false
apart_from w e n t d i other h = go (n == e) refl
  where
    go : (b : Bool) → (n == e) ≡ b → b ≡ false
    go true j = let same : n ≡ e = grind (arith, nat_tests, j) in absurd (other (ap (exception_at w) (sym same) ∙ h))
    go false j = refl

module _ (most e : ℕ) (w : World) where
  waits_for : (t : ℕ) (d : Option ℕ) (i : Installed) → is_being_built w e ≡ true → (exception_at w e ≡ native t d i) → ⊥
  waits_for t d i built h = let never : true ≡ false = sym (ap is_built h) ∙ building_waits w e built in absurd (cc never)

  pub kept_keeps : (t : ℕ) (d : Option ℕ) → is_being_built w e ≡ true → Keeps most w (kept e t d w)
  kept_keeps t d built = record {
    handled = λ k n less h. h;
    same = λ k n u c i less h j. found_replaced e (native t d w.installed) w.live n (apart_from w e n u c i (waits_for u c i built) j) ∙ j;
  }

  without_other : ((k n t : ℕ) (d : Option ℕ) (i : Installed) → handled_at k w.caught ≡ Some n → exception_at w n ≡ native t d i → (n == e) ≡ false) → Keeps most w (without_exception e w)
  without_other other = record { handled = λ k n less h. h; same = λ k n t d i less h j. found_without e w.live n (other k n t d i h j) ∙ j }

  pub without_unhandled : Unhandled e w.caught → Keeps most w (without_exception e w)
  without_unhandled none = without_other (λ k n t d i h j. unhandled_other e k n w.caught none h)

  pub without_building : is_being_built w e ≡ true → Keeps most w (without_exception e w)
  without_building built = without_other (λ k n t d i h j. apart_from w e n t d i (waits_for t d i built) j)

  pub without_foreign : (m token : ℕ) → exception_at w e ≡ foreign m token → Keeps most w (without_exception e w)
  without_foreign m token is = without_other (λ k n t d i h j. apart_from w e n t d i (λ own. let never : foreign m token ≡ native t d i = sym is ∙ own in absurd (cc never)) j)

-- ---- open calls

pub unless : (f : Function) (X : Type 0) → X → UnlessEnding f X
unless (compiled n) X h = h
unless end_catch X h = h
unless terminating X h = tt
unless call_unexpected X h = h

pub unless_not : (f : Function) (X : Type 0) → is_terminate f ≡ false → UnlessEnding f X → X
unless_not (compiled n) X other h = h
unless_not end_catch X other h = h
unless_not terminating X other h = absurd (cc other)
unless_not call_unexpected X other h = h

unless_map : (f : Function) (X Y : Type 0) → (X → Y) → UnlessEnding f X → UnlessEnding f Y
unless_map (compiled n) X Y g h = g h
unless_map end_catch X Y g h = g h
unless_map terminating X Y g h = tt
unless_map call_unexpected X Y g h = g h

-- as long as call_unexpected keeps what was stopped it has a handler, and two from its pad on
pub one_open : (p : ℕ) → 1 ≤ p → p ≤ 15 → 1 ≤ unexpected_depth p
one_open p first last = go (nat_le 17 p) (nat_le 16 p) (nat_le 6 p) (nat_le 1 p) (grind (arith, nat_tests, last)) (grind (arith, nat_tests, last)) (grind (arith, nat_tests, first))
  where
    go : (a b c e : Bool) → a ≡ false → b ≡ false → e ≡ true → 1 ≤ (if a then 0 else if b then 1 else if c then 2 else if e then 1 else 0)
    go true b c e i j l = absurd (cc i)
    go false true c e i j l = absurd (cc j)
    go false false true e i j l = omega arith
    go false false false true i j l = omega arith
    go false false false false i j l = absurd (cc l)

pub both_open : (p : ℕ) → p ≡ 15 → unexpected_depth p ≡ 2
both_open p is = ap unexpected_depth is

-- so the handler of what was stopped is not the last one that a newer call counts
pub stopped_below : (d : Depths) (f : Option Function) (p : ℕ) (x : Frame) (most older : ℕ) → older + depth_below d f (called call_unexpected p x) ≤ most → WaitsForHandler f (called call_unexpected p x) → 1 ≤ p → p ≤ 15 → older + 1 ≤ most
stopped_below d None p x most older few waits first last = let one = one_open p first last in omega (arith, few, one)
stopped_below d (Some (compiled n)) p x most older few waits first last = let one = one_open p first last in omega (arith, few, one)
stopped_below d (Some end_catch) p x most older few waits first last =
    let from = waits refl in
    let here : p ≡ 15 = omega (arith, from, last) in
    let both = both_open p here in
    omega (arith, few, both)
stopped_below d (Some terminating) p x most older few waits first last = let one = one_open p first last in omega (arith, few, one)
stopped_below d (Some call_unexpected) p x most older few waits first last = let one = one_open p first last in omega (arith, few, one)

module _ (d : Depths) (top : ℕ) (w v : World) (keeps : Keeps top w v) where
  is_stopped : (a : Activation) (older : ℕ) → older + 1 ≤ top → IsStopped a older w → IsStopped a older v
  is_stopped a older less h = record {
    number = h.number;
    object = h.object;
    handled = keeps.handled older h.number less h.handled;
    type = h.type;
    destructor = h.destructor;
    kept = h.kept;
    native = keeps.same older h.number h.type h.destructor h.kept less h.handled h.native;
  }

  stopped_kept : (g : Option Function) (f : Function) (p : ℕ) (x : Frame) (most older : ℕ) → most ≤ top → older + depth_below d g (called f p x) ≤ most → WaitsForHandler g (called f p x) →
      KeepsStopped f (called f p x) older w → KeepsStopped f (called f p x) older v
  stopped_kept g (compiled n) p x most older le few waits h = tt
  stopped_kept g end_catch p x most older le few waits h = tt
  stopped_kept g terminating p x most older le few waits h = tt
  stopped_kept g call_unexpected p x most older le few waits h =
      λ first last. let less = stopped_below d g p x most older few waits first last in is_stopped (called call_unexpected p x) older (omega (arith, less, le)) (h first last)

  pub call_kept : (g : Option Function) (a : Activation) (most older : ℕ) → most ≤ top → CallOpens d g a most older w → CallOpens d g a most older v
  call_kept g a most older le h = record {
    few = h.few;
    stopped = stopped_kept g a.function a.place a.frame most older le h.few h.waits h.stopped;
    waits = h.waits;
    goes_on = h.goes_on;
  }

  pub calls_kept : (f : Function) (fs : List Activation) (most : ℕ) → most ≤ top → HandlersStand d f fs most w → HandlersStand d f fs most v
  calls_kept f [] most le h = tt
  calls_kept f (a ∷ fs) most le h = unless_map f _ _ (λ i. let few = i.1.few in (i.0, call_kept (Some f) a most i.0 le i.1, calls_kept a.function fs i.0 (omega (arith, few, le)) i.2)) h

-- there may be more
pub calls_below : (d : Depths) (f : Function) (fs : List Activation) (most more : ℕ) (w : World) → most ≤ more → HandlersStand d f fs most w → HandlersStand d f fs more w
calls_below d f [] most more w le h = tt
calls_below d f (a ∷ fs) most more w le h =
    unless_map f _ _ (λ i. let few = i.1.few in (i.0, record { few = omega (arith, few, le); stopped = i.1.stopped; waits = i.1.waits; goes_on = i.1.goes_on }, i.2)) h
