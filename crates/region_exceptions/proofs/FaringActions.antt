-- Actions of a source that keep what is known of exceptions, one after the other and in scopes, specifications and try blocks.
use Rattle.std.proofs.Common.{◌≡◌, ℕ, zero, suc, ◌<◌, ◌≤◌, ◌⊎◌, ℤ, Bool, true, false, [], ◌∷◌, ◌++◌, Option, Some, refl, sym, ap, ◌∙◌, arith}
use Rattle.std.specs.Prelude.{find, cond, if◌then◌else◌}
use Rattle.meaning_forms.specs.World.{World, Reference}
use Rattle.meaning_forms.specs.Context.{Context, guarded_by}
use Rattle.meaning_forms.specs.Outcome.{Action, Result, done, stopped, thrown, cancelled, out_of_turns, pure, stop, world, ◌>>=◌, change, emit}
use Rattle.meaning_forms.specs.Running.{Running}
use Rattle.meaning_forms.specs.Terminate.{terminate}
use Rattle.meaning_forms.specs.Part.{Part}
use Rattle.meaning_forms.specs.Outcome.{new_object, read, write}
use Rattle.meaning_forms.specs.Throw.{throw_new}
use Rattle.meaning_forms.specs.Scope.{scope, until_complete}
use Rattle.meaning_forms.specs.Construct.{destroy}
use Rattle.cxx_ast.specs.Plain.{Specification, Handlers}
use Rattle.cxx_ast.specs.Plain.{Checked}
use Rattle.meaning_forms.specs.World.{type_at}
use Rattle.meaning_forms.specs.Outcome.{Flow}
use Rattle.meaning_forms.specs.Statement.{spend, spend_turn, ◌then◌, after_try, caught}
use Rattle.meaning_forms.specs.Frame.{Frame}
use Rattle.meaning_forms.specs.Specification.{under_specification}
use Rattle.meaning_forms.specs.Class.{ObjectType}
use Rattle.meaning_forms.specs.Class.{some_of, contains}
use Rattle.run_items.specs.declared.item.Item.{Item}
use Rattle.meaning_forms.specs.World.{written}
use Rattle.meaning_forms.specs.Context.{try_block}
use Rattle.meaning_forms.specs.Guard.{matches, stops, dooms, is_doomed}
use Rattle.meaning_forms.specs.Handler.{clauses_of}
use Rattle.meaning_forms.specs.Throw.{rethrow}
use Rattle.meaning_forms.specs.Outcome.{ended, undefined, deep, End}
use Rattle.meaning_forms.specs.Call.{destruction}
use Rattle.region_exceptions.specs.Raises.{CanBeRaised}
use Rattle.region_exceptions.specs.Fares.{IsOrderly, Fares, FaresIn, CallsFare}
use Rattle.region_exceptions.proofs.Faring.{goes_same, goes_live, goes_as, orderly_on, orderly_as, fares_on, fares_then, terminate_fares}
use Rattle.region_exceptions.proofs.FaringScopes.{scope_fares, part_fares}
use Rattle.region_exceptions.proofs.FaringThrows.{throw_fares, rethrow_fares as rethrow_fares_at}
use Rattle.region_exceptions.proofs.FaringHandlers.{destroy_fares, object_fares, read_fares as read_fares_at}
use Rattle.region_exceptions.proofs.FaringSpecifications.{specified_fares}

-- an action keeps what is known
pub record KeepsIn (p : Checked) (c : Context) (A : Type 0) (act : Action A) : Type 0 where
  pub at : FaresIn p c act

pub bind_fares : {p : Checked} {c : Context} {A B : Type 0} (first : Action A) (next : A → Action B) → KeepsIn p c A first → ((a : A) → KeepsIn p c B (next a)) → KeepsIn p c B (first >>= next)
bind_fares {p} {c} first next h k = record { at = λ n w few order. fares_then p n c w (first w) next few order (h.at n w few order) (λ a. (k a).at) }

pub if_fares : {p : Checked} {c : Context} {A : Type 0} (b : Bool) (x y : Action A) → KeepsIn p c A x → KeepsIn p c A y → KeepsIn p c A (if b then x else y)
if_fares true x y h k = h
if_fares false x y h k = k

pub pure_fares : {p : Checked} {c : Context} (A : Type 0) (a : A) → KeepsIn p c A (pure a)
pure_fares {p} {c} A a = record { at = λ n w few order. goes_same c w order }

pub world_fares : {p : Checked} {c : Context} → KeepsIn p c World world
world_fares {p} {c} = record { at = λ n w few order. goes_same c w order }

pub change_fares : {p : Checked} {c : Context} (f : World → World) → ((w : World) → (f w).live ≡ w.live) → ((w : World) → (f w).last_number ≡ w.last_number) → KeepsIn p c (Unit {0}) (change f)
change_fares {p} {c} f live last = record { at = λ n w few order. goes_live c w w (f w) (live w) (last w) (goes_same c w order) }

pub emit_fares : {p : Checked} {c : Context} (i : Item) → KeepsIn p c (Unit {0}) (emit i)
emit_fares i = change_fares (λ w. record w { items = w.items ++ i ∷ [] }) (λ w. refl) (λ w. refl)

pub write_fares : {p : Checked} {c : Context} (x : Reference) (v : ℤ) → KeepsIn p c (Unit {0}) (write x v)
write_fares x v = change_fares (λ w. written w x v) (λ w. refl) (λ w. refl)

pub new_object_fares : {p : Checked} {c : Context} (a : Part) → KeepsIn p c ℕ (new_object a)
new_object_fares {p} {c} a = record { at = object_fares p c a }

pub read_fares : {p : Checked} {c : Context} (x : Reference) → KeepsIn p c ℤ (read x)
read_fares {p} {c} x = record { at = read_fares_at p c x }

pub stop_undefined : {p : Checked} {c : Context} (A : Type 0) → KeepsIn p c A (stop undefined)
stop_undefined A = record { at = λ n w few order. tt }

pub stop_ended : {p : Checked} {c : Context} (A : Type 0) (x : End) → KeepsIn p c A (stop (ended x))
stop_ended A x = record { at = λ n w few order. tt }

pub stop_cancelled : {p : Checked} {c : Context} (A : Type 0) (v : ℤ) → KeepsIn p c A (stop (cancelled v))
stop_cancelled {p} {c} A v = record { at = λ n w few order. goes_same c w order }

pub stop_turns : {p : Checked} {c : Context} (A : Type 0) → KeepsIn p c A (stop out_of_turns)
stop_turns A = record { at = λ n w few order. tt }

pub terminated_fares : (A : Type 0) (r : Running) (c : Context) → KeepsIn r.program c A (terminate r c)
terminated_fares A r c = record { at = λ n w few order. terminate_fares A r r.program n c c w w }

pub turn_fares : {p : Checked} {c : Context} → KeepsIn p c (Unit {0}) spend_turn
turn_fares {p} {c} = record { at = λ n w few order. go w.turns n w order }
  where
    go : (m n : ℕ) (w : World) → IsOrderly c w → Fares p n c w (spend m w)
    go zero n w order = tt
    go (suc m) n w order = goes_live c w w (record w { turns = m }) refl refl (goes_same c w order)

pub destroy_in : (r : Running) (t : ObjectType) (x : Reference) (c : Context) → CallsFare r → KeepsIn r.program c (Unit {0}) (destroy r t x c)
destroy_in r t x c h = record { at = destroy_fares r h t x c }

pub scope_in : {A : Type 0} (r : Running) → CallsFare r → (c : Context) (destruction : Context → Action (Unit {0})) (act : Action A) → ((d : Context) → KeepsIn r.program d (Unit {0}) (destruction d)) → KeepsIn r.program c A act
    → KeepsIn r.program c A (scope r c destruction act)
scope_in r h c destruction act k g = record { at = λ n w few order. scope_fares r n c destruction (λ d. (k d).at) w (act w) few order (g.at n w few order) }

pub complete_in : {A : Type 0} (r : Running) → CallsFare r → (c : Context) (destruction : Context → Action (Unit {0})) (act : Action A) → ((d : Context) → KeepsIn r.program d (Unit {0}) (destruction d)) → KeepsIn r.program c A act
    → KeepsIn r.program c A (until_complete r c destruction act)
complete_in r h c destruction act k g = record { at = λ n w few order. part_fares r n c destruction (λ d. (k d).at) w (act w) few order (g.at n w few order) }

pub rethrow_in : {A : Type 0} (r : Running) (c : Context) → KeepsIn r.program c A (rethrow r c)
rethrow_in {A} r c = record { at = λ n w few order. rethrow_fares_at r n c w few order A }

pub throw_in : {A : Type 0} (r : Running) (c : Context) (build : Action ℕ) → KeepsIn r.program c ℕ build → KeepsIn r.program c A (throw_new r c build)
throw_in {A} r c build h = record { at = λ n w few order. throw_fares r n c w few order A build h.at }

pub specified_in : {A : Type 0} (r : Running) → CallsFare r → (o : Option Specification) (act : Context → Action A) (c : Context) → ((d : Context) → KeepsIn r.program d A (act d)) → KeepsIn r.program c A (under_specification r o act c)
specified_in r h o act c k = record { at = specified_fares r h o act (λ d. (k d).at) c }

-- what handlers do with an exception that came out, of which no clause that was tried before matches
abbrev pub CaughtFares : Running → Handlers → Frame → Context → ℕ → Type 0
CaughtFares r hs f c e =
    (n : ℕ) (w : World) → n ≤ w.last_number → IsOrderly c w → CanBeRaised c w e → (contains c.handled e ≡ true) ⊎ (n < e)
    → (some_of (matches r.program (type_at w e)) (clauses_of hs) ≡ false → is_doomed r.program c.guards (type_at w e) ≡ false) → Fares r.program n c w (caught r hs f c e w)

pub tried_fares : (r : Running) (n : ℕ) (c : Context) (w : World) (e : ℕ) (z : Bool) (this others : Action Flow) → Fares r.program n c w (this w) → (z ≡ false → Fares r.program n c w (others w))
    → Fares r.program n c w ((if z then this else others) w)
tried_fares r n c w e true this others h k = h
tried_fares r n c w e false this others h k = k refl

pub try_fares : (r : Running) (hs : Handlers) (f : Frame) (c : Context) (act : Action Flow) → ((e : ℕ) → CaughtFares r hs f c e) → KeepsIn r.program (guarded_by (try_block (clauses_of hs)) c) Flow act
    → KeepsIn r.program c Flow (λ w. after_try (caught r hs f c) (act w))
try_fares r hs f c act catches k = record { at = λ n w few order. go n w few order (act w) (k.at n w few (orderly_as c w (try_block (clauses_of hs) ∷ c.guards) c.ending order)) }
  where
    go : (n : ℕ) (w : World) → n ≤ w.last_number → IsOrderly c w → (x : Result Flow) → Fares r.program n (guarded_by (try_block (clauses_of hs)) c) w x
        → Fares r.program n c w (after_try (caught r hs f c) x)
    go n w few order (done u w2) h = goes_as c (try_block (clauses_of hs) ∷ c.guards) w w2 h
    go n w few order (stopped (thrown e) w2) h =
        let g = goes_as c (try_block (clauses_of hs) ∷ c.guards) w w2 h.0 in
        let later = g.later in
        fares_on r.program n c w w2 (caught r hs f c e w2) g
        (catches e n w2 (omega (arith, few, later)) (orderly_on c w w2 order g) (record { made = h.1.raised.made; rests = h.1.raised.rests; front = h.1.raised.front }) h.1.known
        (λ none. ap (λ z. dooms (type_at w2 e) (cond z (Some (try_block (clauses_of hs))) (find (stops r.program (type_at w2 e)) c.guards))) (sym none) ∙ h.1.safe))
    go n w few order (stopped (cancelled v) w2) h = goes_as c (try_block (clauses_of hs) ∷ c.guards) w w2 h
    go n w few order (stopped undefined w2) h = tt
    go n w few order (stopped (ended x) w2) h = tt
    go n w few order (stopped out_of_turns w2) h = tt
    go n w few order (stopped deep w2) h = tt
