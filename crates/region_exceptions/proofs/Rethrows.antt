-- The newest handled exception is thrown again alike.
use Rattle.std.proofs.Common.{◌≡◌, ℕ, suc, Bool, true, false, List, [], ◌∷◌, refl, sym, ap, ◌∙◌, subst, arith}
use Rattle.std.specs.Prelude.{◌==◌, ◌||◌, if◌then◌else◌}
use Rattle.std.proofs.lemmas.Bool.Decides.{nat_tests}
use Rattle.meaning_forms.specs.Class.{contains}
use Rattle.meaning_forms.specs.World.{World as SourceWorld}
use Rattle.meaning_forms.specs.Context.{Context as SourceContext}
use Rattle.meaning_forms.specs.Running.{Running as SourceRunning}
use Rattle.meaning_forms.specs.Terminate.{terminate as source_terminate}
use Rattle.meaning_forms.specs.Throw.{raise_exception, rethrow_newest}
use Rattle.region_forms.specs.Caught.{Entry, counted, handled_on, caught_of, only_front}
use Rattle.region_forms.specs.Form.{op, rethrow, regions_from}
use Rattle.region_forms.specs.Laws.{CaughtListFollows}
use Rattle.region_forms.specs.Layout.{Layout}
use Rattle.region_forms.specs.Effect.{rethrown, only_where, raises}
use Rattle.region_forms.specs.Outcome.{State, Context, Flow, normal, Result, continued, pure}
use Rattle.region_forms.specs.Ending.{Running, perform, terminate, raise}
use Rattle.region_forms.specs.Meaning.{followed}
use Rattle.linear_simulation.specs.Watched.{watched_all as regions}
use Rattle.region_forms.specs.LowerStatement.{variable_slot}
use Rattle.region_simulation.specs.Places.{Places}
use Rattle.region_simulation.specs.Stands.{AreTogether, Stands, context_of}
use Rattle.region_simulation.specs.Alike.{Alike}
use Rattle.region_simulation.specs.Flows.{FlowAgrees}
use Rattle.region_simulation.specs.Expressions.{source_running}
use Rattle.region_simulation.proofs.Following.{Agreement}
use Rattle.region_exceptions.specs.Same.{RunAlike}
use Rattle.region_exceptions.specs.Raises.{Never}
use Rattle.region_exceptions.specs.Throws.{RethrowsAlike}
use Rattle.region_exceptions.proofs.Ends.{ends_out, never_on, terminates as terminates_out}
use Rattle.region_exceptions.proofs.Raises.{raises as raises_out}
use Rattle.region_exceptions.proofs.Caught.{front_newest}
use Rattle.region_exceptions.proofs.Asked.{travels}

-- the newest entry: its exception, and whether it travels again
record Newest (e : ℕ) (again : Bool) (xs : List Entry) : Type 0 where
  more : ℕ
  others : List Entry
  is : xs ≡ record { number = e; more = more; again = again } ∷ others

newest : (e : ℕ) (again : Bool) (ys : List Entry) → Newest e again (handled_on e again ys)
newest e again [] = record { more = 0; others = []; is = refl }
newest e again (y ∷ ys) = go (y.number == e)
  where
    go : (z : Bool) → Newest e again (counted z e again y ys)
    go true = record { more = suc y.more; others = ys; is = refl }
    go false = record { more = 0; others = y ∷ ys; is = refl }

itself : (e : ℕ) (es : List ℕ) → contains (e ∷ es) e ≡ true
itself e es = let same : (e == e) ≡ true = grind (arith, nat_tests) in ap (λ b. b || contains es e) same

module _ (l : Layout) (a : SourceRunning) (b : Running) (same : RunAlike l a b) (laws : CaughtListFollows) {A : Type 0} (agree : Agreement A Flow) (at : Places) (k : ℕ) (c : SourceContext)
    (w : SourceWorld) (s : State) (stands : Stands l a.program at c w s) where
  abbrev ctx : Context
  ctx = context_of w.open_calls c

  abbrev behind : List Entry → Result Flow
  behind xs = continued (continued (perform b (rethrown xs s.world) ctx s) (λ u. pure normal)) (followed (pure normal))

  terminated : Alike l a.program at k c w s agree (source_terminate a c w) (continued (continued (terminate {A = Unit {0}} b ctx s) (λ u. pure normal)) (followed (pure normal)))
  terminated =
      never_on l a b same agree at k c w s (source_terminate a c w) (continued (terminate {A = Unit {0}} b ctx s) (λ u. pure normal)) (followed (pure normal))
      (never_on l a b same Never at k c w s (source_terminate a c w) (terminate {A = Unit {0}} b ctx s) (λ u. pure normal)
      (ends_out l a b same Never at k c w s (source_terminate a c w) (terminate {A = Unit {0}} b ctx s) (terminates_out l a b same A (Unit {0}) at c w s stands)))

  again : (e : ℕ) (es : List ℕ) → c.handled ≡ e ∷ es → (z : Bool) → contains c.travelling e ≡ z → (m : ℕ) (xs : List Entry)
      → Alike l a.program at k c w s agree ((if z then source_terminate a c else raise_exception a e c) w) (behind (record { number = e; more = m; again = z } ∷ xs))
  again e es is true travels m xs = terminated
  again e es is false rests m xs =
      let built = stands.sound.entered e (ap (λ hs. contains hs e) is ∙ itself e es) in
      subst (λ z. Alike l a.program at k c w s agree (raise_exception a e c w)
      (continued (continued (perform b (only_where z (raises e s.world)) ctx s) (λ u. pure normal)) (followed (pure normal)))) (sym (travels l a.program at c w s stands e built))
      (never_on l a b same agree at k c w s (raise_exception a e c w) (continued (raise {A = Unit {0}} b e ctx s) (λ u. pure normal)) (followed (pure normal))
      (never_on l a b same Never at k c w s (raise_exception a e c w) (raise {A = Unit {0}} b e ctx s) (λ u. pure normal)
      (raises_out l a b same laws A (Unit {0}) at c w s stands e (record {
        made = stands.sound.handled e (ap (λ hs. contains hs e) is ∙ itself e es);
        rests = rests;
        front = subst (λ hs. only_front e hs ≡ true) (sym is) (front_newest e es (subst AreTogether is stands.sound.together).0);
      }) built Never k)))

  pub rethrown_out : Alike l a.program at k c w s agree (rethrow_newest a c.handled c w) (regions b (regions_from (op rethrow ∷ [])) ctx s)
  rethrown_out =
      subst (λ xs. Alike l a.program at k c w s agree (rethrow_newest a c.handled c w) (behind xs)) (sym (ap (λ y. y.caught) stands.world)) (go c.handled refl)
    where
      go : (hs : List ℕ) → c.handled ≡ hs → Alike l a.program at k c w s agree (rethrow_newest a hs c w) (behind (caught_of c.travelling hs))
      go [] is = terminated
      go (e ∷ es) is =
          let x = newest e (contains c.travelling e) (caught_of c.travelling es) in
          subst (λ xs. Alike l a.program at k c w s agree (rethrow_newest a (e ∷ es) c w) (behind xs)) (sym x.is) (again e es is (contains c.travelling e) refl x.more x.others)

pub rethrows_alike : CaughtListFollows → RethrowsAlike
rethrows_alike laws l own gives call b v c same n i d at w s stands scope =
    rethrown_out l.layout (source_running l call) b same laws (FlowAgrees l gives i d) at (variable_slot l n) c w s stands
