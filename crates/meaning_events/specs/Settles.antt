-- What a computation leaves of exceptions, for whatever it is given: those that were made before are as they were, and those that it made are over, but for one
-- that comes out.
use Rattle.std.specs.Prelude.{◌≡◌, ◌⊎◌, ℕ, ◌≤◌, ◌<◌, Bool, true, false, List}
use Rattle.cxx_ast.specs.Plain.{Checked}
use Rattle.meaning_forms.specs.Class.{contains}
use Rattle.meaning_forms.specs.Context.{Context, Guard}
use Rattle.meaning_forms.specs.Guard.{is_doomed}
use Rattle.meaning_forms.specs.Outcome.{thrown, cancelled, Result, done, stopped, Action}
use Rattle.meaning_forms.specs.Running.{Running, Callee, Argument}
use Rattle.meaning_forms.specs.World.{World, Reference, exception_in, exception_type}
use Rattle.meaning_events.specs.Events.{AreAllowed}
use Rattle.meaning_events.specs.Fates.{Story, story, fate, IsWhole, IsOver, Tells}

abbrev pub Nobody : ℕ → Type 0
Nobody e = ⊥

-- one exception, unless it stays with others
abbrev pub Unless : Bool → ℕ → ℕ → Type 0
Unless kept e q = (q ≡ e) × (kept ≡ false)

-- an exception is the computation's to settle: one of its own from the beginning, or made since
abbrev pub IsOwn : (ℕ → Type 0) → Story → ℕ → Type 0
IsOwn own s e = own e ⊎ (s.last < e)

-- All others are as they were, and its own are over but for those that come out.
pub record Spares (own : ℕ → Type 0) (s s2 : Story) (out : ℕ → Type 0) : Type 0 where
  pub later : s.last ≤ s2.last
  pub spared : (e : ℕ) → (IsOwn own s e → ⊥) → fate s2 e ≡ fate s e
  pub over : (e : ℕ) → IsOwn own s e → out e ⊎ IsOver (fate s2 e)

pub record Settled (handled : List ℕ) (own : ℕ → Type 0) (s s2 : Story) (out : ℕ → Type 0) : Type 0 where
  pub tells : Tells handled s2
  pub spares : Spares own s s2 out

-- An exception that comes out is handled outside, or the computation's own, and whole, and no guard dooms it.
pub record ComesOut (p : Checked) (handled : List ℕ) (guards : List Guard) (own : ℕ → Type 0) (s s2 : Story) (e : ℕ) : Type 0 where
  pub known : (contains handled e ≡ true) ⊎ IsOwn own s e
  pub whole : IsWhole (fate s2 e)
  pub safe : is_doomed p guards (exception_type (exception_in s2.live e)) ≡ false

-- by how a computation comes out
abbrev pub Settles : {A : Type 0} → Checked → List ℕ → List Guard → (ℕ → Type 0) → Story → Result A → Type 0
Settles p hs gs own s (done a w) = Settled hs own s (story w) Nobody
Settles p hs gs own s (stopped (thrown e) w) = Settled hs own s (story w) (λ q. q ≡ e) × ComesOut p hs gs own s (story w) e
Settles p hs gs own s (stopped (cancelled n) w) = Settled hs own s (story w) Nobody
Settles p hs gs own s (stopped x w) = AreAllowed w.items

-- so it is of what neither throws nor unwinds
abbrev pub Inside : {A : Type 0} → List ℕ → (ℕ → Type 0) → Story → Result A → Type 0
Inside hs own s (done a w) = Settled hs own s (story w) Nobody
Inside hs own s (stopped (thrown e) w) = ⊥
Inside hs own s (stopped (cancelled n) w) = ⊥
Inside hs own s (stopped x w) = AreAllowed w.items

-- nothing comes out of terminate
abbrev pub Ends : {A : Type 0} → Result A → Type 0
Ends (done a w) = ⊥
Ends (stopped (thrown e) w) = ⊥
Ends (stopped (cancelled n) w) = ⊥
Ends (stopped x w) = AreAllowed w.items

-- so it is of an action in a context, and of one in each context
abbrev pub SettlesIn : {A : Type 0} → Checked → Context → Action A → Type 0
SettlesIn p c act = (w : World) → Tells c.handled (story w) → Settles p c.handled c.guards Nobody (story w) (act w)

abbrev pub AlwaysSettles : {A : Type 0} → Checked → (Context → Action A) → Type 0
AlwaysSettles p act = (c : Context) → SettlesIn p c (act c)

-- so it is of each call
abbrev pub CallsSettle : Running → Type 0
CallsSettle r = (callee : Callee) (this : Reference) (given : List Argument) → AlwaysSettles r.program (r.call callee this given)
