-- Constructors are called alike, and copies are made behind barriers.
use Rattle.std.proofs.Common.{◌≡◌, ℕ, suc, ◌+◌, Bool, true, false, List, [], ◌∷◌, Option, Some, None, refl, sym, ap, subst, arith}
use Rattle.std.specs.Prelude.{◌&&◌, slice_get, unwrap_or, if◌then◌else◌}
use Rattle.std.proofs.lemmas.Bool.Decides.{nat_tests}
use Rattle.cxx_ast.specs.declared.types.Ty.{Ty}
use Rattle.cxx_ast.specs.declared.types.Ty.TheVariants.{Int, Void, Object, IntRef, ObjectRef}
use Rattle.cxx_ast.specs.declared.types.Param.{Param}
use Rattle.cxx_ast.specs.Plain.{Checked, Function}
use Rattle.meaning_forms.specs.Class.{class_type, class_named, class_at, no_function}
use Rattle.meaning_forms.specs.World.{World as SourceWorld, Reference}
use Rattle.meaning_forms.specs.Context.{Context as SourceContext, barrier as source_barrier, guarded_by}
use Rattle.meaning_forms.specs.Outcome.{pure as source_pure, continued as source_continued}
use Rattle.meaning_forms.specs.Running.{Running as SourceRunning, Argument as SourceArgument, by_reference, Constructor, constructor, implicit_copy}
use Rattle.meaning_forms.specs.Construct.{is_constructor, is_const_ref_to, takes_copy, is_copy_constructor, place_from, declared_or, copy_constructor, copy_object}
use Rattle.meaning_forms.specs.Expression.{types_of, constructor_types}
use Rattle.meaning_forms.specs.Terminate.{behind_barrier as source_behind_barrier}
use Rattle.region_forms.specs.Form.{Place, Argument, address_argument, arguments_from, construct, op, barrier}
use Rattle.region_forms.specs.Layout.{Layout}
use Rattle.region_forms.specs.Numbering.{number_of}
use Rattle.region_forms.specs.World.{Address, Word, address_word}
use Rattle.region_forms.specs.Evaluation.{with_some, words_in}
use Rattle.region_forms.specs.Effect.{if_some, calls}
use Rattle.region_forms.specs.Outcome.{State, normal, pure, continued}
use Rattle.region_forms.specs.Ending.{Running, perform, after_barrier}
use Rattle.region_forms.specs.Meaning.{outwards, operation}
use Rattle.linear_simulation.specs.Watched.{watched as region}
use Rattle.region_simulation.specs.Places.{Places, Refers}
use Rattle.region_simulation.specs.Stands.{Stands, context_of}
use Rattle.region_simulation.specs.Alike.{Alike}
use Rattle.region_simulation.specs.Calls.{IsCallable, SameArguments}
use Rattle.region_simulation.proofs.Following.{follows_now, keeps_all, alike_then}
use Rattle.region_simulation.proofs.Flowing.{alike_after}
use Rattle.region_exceptions.specs.Same.{RunAlike}
use Rattle.region_exceptions.specs.Barred.{CallsAreBarred, StaysInside}
use Rattle.region_exceptions.specs.Scopes.{Any, LeadsTo}
use Rattle.region_exceptions.specs.Copies.{CopiesAlike}
use Rattle.region_exceptions.proofs.Standing.{stands_guarded}
use Rattle.region_exceptions.proofs.Barriers.{barred_out}
use Rattle.region_exceptions.proofs.Protecting.{not_thrown_on}

-- the first function that passes a test passes it
record Found (test : Function → Bool) (fs : List Function) (n i : ℕ) : Type 0 where
  place : ℕ
  number : i ≡ n + place
  passes : test (unwrap_or (slice_get fs place) no_function) ≡ true

found : (test : Function → Bool) (fs : List Function) (n i : ℕ) → place_from n test fs ≡ Some i → Found test fs n i
found test [] n i e = absurd (cc e)
found test (f ∷ fs) n i e = go (test f) refl e (found test fs (n + 1) i)
  where
    number_is : Some n ≡ Some i → n ≡ i
    number_is e = cc e

    go : (b : Bool) → test f ≡ b → (if b then Some n else place_from (n + 1) test fs) ≡ Some i → (place_from (n + 1) test fs ≡ Some i → Found test fs (n + 1) i) → Found test (f ∷ fs) n i
    go true is e ih = record { place = 0; number = (let m = number_is e in omega (arith, m)); passes = is }
    go false is e ih = let h = ih e in let m = h.number in record { place = suc h.place; number = omega (arith, m); passes = h.passes }

both_are : (x y : Bool) → (x && y) ≡ true → y ≡ true
both_are true y e = e
both_are false y e = absurd (cc e)

module _ (l : Layout) (p : Checked) (at : Places) (source : Reference) (k : ℕ) (address : Address) (refers : Refers l p at source (class_type k) address) where
  reference_same : (t : Ty) → is_const_ref_to k t ≡ true → SameArguments l p at (t ∷ []) (by_reference source ∷ []) (address_word address ∷ [])
  reference_same (ObjectRef true n) e =
      let named : k ≡ class_named n = grind (arith, nat_tests, e) in
      ((refl, address, subst (λ j. Refers l p at source (class_type j) address) named refers, refl), tt)
  reference_same (ObjectRef false n) e = absurd (cc e)
  reference_same Int e = absurd (cc e)
  reference_same Void e = absurd (cc e)
  reference_same (Object n) e = absurd (cc e)
  reference_same (IntRef const) e = absurd (cc e)

  parameters_same : (ps : List Param) → takes_copy k ps ≡ true → SameArguments l p at (types_of ps) (by_reference source ∷ []) (address_word address ∷ [])
  parameters_same [] e = absurd (cc e)
  parameters_same (x ∷ []) e = reference_same x.ty e
  parameters_same (x ∷ y ∷ ps) e = absurd (cc e)

  -- a copy constructor takes one object of its class
  pub copy_passed : SameArguments l p at (constructor_types p k (copy_constructor p k)) (by_reference source ∷ []) (address_word address ∷ [])
  copy_passed = go (place_from 0 (is_copy_constructor k) (class_at p k).functions) refl
    where
      go : (o : Option ℕ) → place_from 0 (is_copy_constructor k) (class_at p k).functions ≡ o
          → SameArguments l p at (constructor_types p k (declared_or implicit_copy o)) (by_reference source ∷ []) (address_word address ∷ [])
      go None e = ((refl, address, refers, refl), tt)
      go (Some i) e =
          let h = found (is_copy_constructor k) (class_at p k).functions 0 i e in
          let n = h.number in
          let same : h.place ≡ i = omega (arith, n) in
          let f = unwrap_or (slice_get (class_at p k).functions h.place) no_function in
          subst (λ j. SameArguments l p at (types_of (unwrap_or (slice_get (class_at p k).functions j) no_function).parameters) (by_reference source ∷ []) (address_word address ∷ [])) same
          (parameters_same f.parameters (both_are (is_constructor f.kind) (takes_copy k f.parameters) h.passes))

module _ (l : Layout) (a : SourceRunning) (b : Running) (same : RunAlike l a b) where
  -- a constructor is called with the address of the object that it builds
  pub built_by : (at : Places) (n m : ℕ) (c : SourceContext) (w : SourceWorld) (s : State) (place : Place) (target : Reference) (k : ℕ) (which : Constructor)
      (given : List SourceArgument) (args : List Argument) (words : List Word)
      → IsCallable a.program (constructor k which) → Stands l a.program at c w s → LeadsTo l a.program at n b.kinds s.frame place target k
      → words_in b.kinds s.frame s.world (arguments_from args) ≡ Some words → SameArguments l a.program at (constructor_types a.program k which) given words
      → Alike l a.program at m c w s Any (source_continued (a.call (constructor k which) target given c w) (λ v. source_pure (tt {0})))
      (operation b (construct place (number_of a.program (constructor k which)) (arguments_from args)) (context_of w.open_calls c) s)
  built_by at n m c w s place target k which given args words there stands leads passes ok =
      let ctx = context_of w.open_calls c in
      let f = number_of a.program (constructor k which) in
      let x = source_continued (a.call (constructor k which) target given c w) (λ v. source_pure (tt {0})) in
      subst (λ z. Alike l a.program at m c w s Any x
      (perform b (if_some z (λ q. if_some (words_in b.kinds s.frame s.world (arguments_from args)) (λ ws. calls None f (address_word q ∷ ws)))) ctx s))
      (sym (leads.stays s.frame (keeps_all n s.frame)))
      (subst (λ z. Alike l a.program at m c w s Any x (perform b (if_some z (λ ws. calls None f (address_word leads.address ∷ ws))) ctx s)) (sym passes)
      (alike_then l a.program (λ x y w2 at2 s2. x ≡ y) Any at m c w s (a.call (constructor k which) target given c w)
      (b.call f (address_word leads.address ∷ words) ctx s) (λ v. source_pure (tt {0})) (λ v. pure (tt {0}))
      (same.calls at (constructor k which) target given (address_word leads.address ∷ words) m c w s there stands (leads.address, leads.refers, refl, ok))
      (λ v v2 w2 s2 h e. (tt, s2, refl, (follows_now l a.program h.places m c w2 s2 h.stands, tt)))))

  -- an object is copied behind a barrier
  pub copied_both : CallsAreBarred a → (at : Places) (n m : ℕ) (c : SourceContext) (w : SourceWorld) (s : State) (place from : Place) (target source : Reference) (k : ℕ)
      → IsCallable a.program (constructor k (copy_constructor a.program k)) → Stands l a.program at c w s
      → LeadsTo l a.program at n b.kinds s.frame place target k → LeadsTo l a.program at n b.kinds s.frame from source k
      → StaysInside (source_behind_barrier a c (copy_object a k target source) w) ×
      Alike l a.program at m c w s (λ u flow w2 at2 s2. flow ≡ normal) (source_behind_barrier a c (copy_object a k target source) w)
      (region b (barrier (op (construct place (number_of a.program (constructor k (copy_constructor a.program k))) (arguments_from (address_argument from ∷ []))))) (context_of w.open_calls c) s)
  copied_both bar at n m c w s place from target source k there stands leads comes =
      let d = guarded_by source_barrier c in
      let ctx = context_of w.open_calls c in
      let which = copy_constructor a.program k in
      let o = construct place (number_of a.program (constructor k which)) (arguments_from (address_argument from ∷ [])) in
      let act = copy_object a k target source in
      let y = operation b o (context_of w.open_calls d) s in
      let words : words_in b.kinds s.frame s.world (arguments_from (address_argument from ∷ [])) ≡ Some (address_word comes.address ∷ []) =
      ap (λ z. with_some (with_some z (λ q. Some (address_word q))) (λ x. with_some (Some []) (λ xs. Some (x ∷ xs)))) (comes.stays s.frame (keeps_all n s.frame)) in
      let inner = built_by at n m d w s place target k which (by_reference source ∷ []) (address_argument from ∷ []) (address_word comes.address ∷ []) there
      (stands_guarded l a.program at source_barrier c w s stands) leads words (copy_passed l a.program at source k comes.address comes.refers) in
      let done = alike_after l a.program Any (λ u flow w2 at2 s2. flow ≡ normal) at m d w s (act d w) y (λ u. normal) (λ u v w2 at2 s2 any. refl) inner in
      let out = barred_out l a b same (λ u flow w2 at2 s2. flow ≡ normal) at m c w s (act d w) (continued y (λ u. pure normal))
      (not_thrown_on (a.call (constructor k which) target (by_reference source ∷ []) d w) tt (bar (constructor k which) target (by_reference source ∷ []) c w stands.sound)) done in (
        out.0,
        alike_after l a.program (λ u flow w2 at2 s2. flow ≡ normal) (λ u flow w2 at2 s2. flow ≡ normal) at m c w s (source_behind_barrier a c act w)
            (after_barrier b ctx (continued y (λ u. pure normal))) outwards (λ u flow w2 at2 s2 e. ap outwards e) out.1,
      )

pub copies_alike : CopiesAlike
copies_alike l a b same bar at n m c w s place from target source k there stands leads comes =
    (copied_both l a b same bar at n m c w s place from target source k there stands leads comes).1
