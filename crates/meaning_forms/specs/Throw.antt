-- Throw and rethrow, and the exceptions of modules.
use Rattle.std.specs.Prelude.{ℕ, ◌+◌, ℤ, pos, negsuc, Bool, nat_le, List, [], ◌∷◌, ◌++◌, length, Option, Some, None, slice_get, slice_set, if◌then◌else◌}
use Rattle.eh_outer.specs.declared.module.Reply.{Reply}
use Rattle.eh_outer.specs.declared.module.Reply.TheVariants.{Value, Raise}
use Rattle.run_items.specs.declared.item.Item.{Item}
use Rattle.run_items.specs.declared.item.Item.TheVariants.{Make, Foreign, Free}
use Rattle.meaning_forms.specs.Class.{contains}
use Rattle.meaning_forms.specs.Part.{part_type}
use Rattle.meaning_forms.specs.World.{World, Exception, building, native, foreign, object_at, type_at, with_exception, without_exception}
use Rattle.meaning_forms.specs.Context.{Context}
use Rattle.meaning_forms.specs.Outcome.{Action, Result, done, stopped, thrown, cancelled, pure, stop, world, change, emit, ◌>>=◌, ◌>>◌}
use Rattle.meaning_forms.specs.Guard.{is_doomed}
use Rattle.meaning_forms.specs.Running.{Running}
use Rattle.meaning_forms.specs.Terminate.{terminate, terminate_because}

-- a doomed exception calls terminate before any cleanup runs; any other travels to the guard that stops it
abbrev pub raise_exception : {A : Type 0} → Running → ℕ → Context → Action A
raise_exception r e c = do
  w ← world
  if is_doomed r.program c.guards (type_at w e) then terminate_because r e c else stop (thrown e)

-- at most 1,024 exceptions are live
abbrev pub is_full : World → Bool
is_full w = nat_le 1024 (length w.live)

-- a new live exception with the next number, which is the answer
abbrev pub new_exception : Exception → (ℕ → Item) → Action ℕ
new_exception x item w = let e = w.last_number + 1 in
    done e (record w { last_number = e; live = w.live ++ record { number = e; exception = x } ∷ []; items = w.items ++ item e ∷ [] })

-- an exception object is given back
abbrev pub free : ℕ → Action (Unit {0})
free e = do
  emit (Free e)
  change (λ w. without_exception w e)

-- where building exits by an exception or a forced unwind, the object is freed without being destroyed
abbrev pub after_building : {A : Type 0} → ℕ → Result A → Result A
after_building e (stopped (thrown f) w) = (free e >> stop (thrown f)) w
after_building e (stopped (cancelled n) w) = (free e >> stop (cancelled n)) w
after_building e result = result

-- after building, the exception is native, and the handlers then in effect are kept with it
abbrev pub keep : ℕ → ℕ → Action (Unit {0})
keep e o = change (λ w. with_exception w e (native (part_type (object_at w o)) o w.installed))

-- `throw` of an object that a computation builds; with 1,024 live exceptions terminate is called instead
abbrev pub throw_new : {A : Type 0} → Running → Context → Action ℕ → Action A
throw_new r c build = do
  w ← world
  if is_full w then terminate r c else do
    e ← new_exception building Make
    o ← (λ w. after_building e (build w))
    keep e o
    raise_exception r e c

-- the newest handled exception is thrown again; with none, or while it travels, terminate is called
abbrev pub rethrow_newest : {A : Type 0} → Running → List ℕ → Context → Action A
rethrow_newest r [] c = terminate r c
rethrow_newest r (e ∷ es) c = if contains c.travelling e then terminate r c else raise_exception r e c

-- `throw;`
abbrev pub rethrow : {A : Type 0} → Running → Context → Action A
rethrow r c = rethrow_newest r c.handled c

-- a module raises a foreign exception; with 1,024 live exceptions terminate is called instead
abbrev pub raise_foreign : {A : Type 0} → Running → (module_number token : ℕ) → Context → Action A
raise_foreign r k t c = do
  w ← world
  if is_full w then terminate r c else do
    e ← new_exception (foreign k t) (λ n. Foreign n k t)
    raise_exception r e c

-- a reply is the value of the call, or raises an exception
abbrev pub answered : Running → ℕ → Reply → Context → Action ℤ
answered r k (Value v) c = pure v
answered r k (Raise t) c = raise_foreign r k t c

-- the first reply left to module k is taken; with none left, or no such module, the value is 0
abbrev pub take_reply : Running → ℕ → Option (List Reply) → Context → Action ℤ
take_reply r k None c = pure (pos 0)
take_reply r k (Some []) c = pure (pos 0)
take_reply r k (Some (x ∷ left)) c = do
  change (λ w. record w { replies = slice_set w.replies k left })
  answered r k x c

-- `__module(k, a)`
abbrev pub call_module : Running → ℤ → Context → Action ℤ
call_module r (negsuc k) c = pure (pos 0)
call_module r (pos k) c = do
  w ← world
  take_reply r k (slice_get w.replies k) c
