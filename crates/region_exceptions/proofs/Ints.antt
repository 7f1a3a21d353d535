-- A thrown int is stored in the exception's object once its value is computed.
use Rattle.std.proofs.Common.{◌≡◌, ℕ, ℤ, Bool, true, false, List, [], ◌∷◌, ◌++◌, Option, Some, None, refl, sym, ap, ◌∙◌, subst, arith, length}
use Rattle.std.specs.Prelude.{◌==◌, if◌then◌else◌}
use Rattle.meaning_forms.specs.Class.{int_type}
use Rattle.meaning_forms.specs.Part.{cell, part_at}
use Rattle.meaning_forms.specs.Context.{Context as SourceContext}
use Rattle.meaning_forms.specs.Frame.{Frame as SourceFrame}
use Rattle.meaning_forms.specs.Outcome.{Result as SourceResult, done as source_done, stopped as source_stopped, thrown, cancelled, ended, undefined, out_of_turns, deep, Action as SourceAction, continued as source_continued, new_object, ◌>>=◌}
use Rattle.region_forms.specs.Form.{op, store, regions_from}
use Rattle.region_forms.specs.World.{of_exception, Address, address_word, object_address, address_in, same_base, same_address, written}
use Rattle.region_forms.specs.Evaluation.{location_behind, value_in}
use Rattle.region_forms.specs.Effect.{if_some, stored_at, only_where, goes}
use Rattle.region_forms.specs.Outcome.{State, Context, Flow, normal, Result, done, continued, pure}
use Rattle.region_forms.specs.Ending.{Running, perform}
use Rattle.region_forms.specs.Meaning.{followed}
use Rattle.linear_simulation.specs.Watched.{watched_all as regions}
use Rattle.region_forms.specs.LowerExpression.{Lowering, exception_slot, first_temporary, Lowered}
use Rattle.region_forms.specs.LowerStatement.{thrown_place}
use Rattle.region_simulation.specs.Places.{Stood, address_along}
use Rattle.region_simulation.specs.Stands.{context_of}
use Rattle.region_simulation.specs.Alike.{Alike}
use Rattle.region_simulation.specs.Evaluates.{IsComputed, Evaluates}
use Rattle.region_simulation.proofs.Parts.{nothing_there}
use Rattle.region_simulation.proofs.Following.{follows_on}
use Rattle.region_simulation.proofs.Joining.{joined}
use Rattle.region_simulation.proofs.Storing.{valued_as}
use Rattle.region_simulation.proofs.Writing.{both_true, base_is, address_itself}
use Rattle.region_simulation.proofs.Standing.{with_object, placed_new, follows_new}
use Rattle.region_exceptions.specs.Throws.{IsBuilt, BuildsAlike}
use Rattle.region_exceptions.specs.Operands.{LeavesUnbuilt}
use Rattle.region_exceptions.proofs.Sparing.{spared_is, follows_sparing}
use Rattle.region_simulation.proofs.There.{live_alike}
use Rattle.region_forms.specs.Lives.{is_live}

int_of : (m n : ℤ) → cell (Some m) ≡ cell (Some n) → Some m ≡ Some n
int_of m n e = cc e

no_int : (path : List ℕ) (n : ℤ) → part_at (cell None) path ≡ cell (Some n) → ⊥
no_int path n e = let f : cell None ≡ cell (Some n) = sym (nothing_there path) ∙ e in cc f

-- a write at an exception's object changes no other
elsewhere : (e : ℕ) (n : ℤ) (q : Address) (old : Option ℤ) → (q.base ≡ of_exception e → ⊥) → (if same_address (object_address e) q then Some n else old) ≡ old
elsewhere e n q old other = go (same_address (object_address e) q) refl
  where
    go : (z : Bool) → same_address (object_address e) q ≡ z → (if z then Some n else old) ≡ old
    go true is = absurd (other (sym (base_is (of_exception e) q.base (both_true (0 == q.offset) (same_base (of_exception e) q.base) is).1)))
    go false is = refl

module _ (l : Lowering) (own : Option ℕ) (b : Running) (v : SourceFrame) (c : SourceContext) where
  abbrev stored_last : Lowered → Context → State → Result Flow
  stored_last x ctx s = regions b (regions_from (op (store (thrown_place l) x.value) ∷ [])) ctx s

  -- the value is stored where the exception's object begins
  stores_there : (x : Lowered) (n : ℤ) (e : ℕ) (ctx : Context) (s : State) → value_in b.kinds s.frame s.world x.value ≡ Some n
      → s.frame.slots (exception_slot l) ≡ address_word (object_address e) → is_live s.world e ≡ true
      → stored_last x ctx s ≡ done normal (record s { world = written (object_address e) n s.world })
  stores_there x n e ctx s value slot live =
      ap (λ z. continued (continued (perform b z ctx s) (λ u. pure normal)) (followed (pure normal))) (valued_as b.kinds x.value (Some (thrown_place l)) s.frame s.world n value) ∙
      ap (λ z. continued (continued (perform b (if_some (location_behind 0 (address_in z)) (λ q. stored_at q n s.frame s.world)) ctx s) (λ u. pure normal)) (followed (pure normal))) slot ∙
      ap (λ z. continued (continued (perform b (only_where z (goes s.frame (written (object_address e) n s.world))) ctx s) (λ u. pure normal)) (followed (pure normal))) live

  pub int_built : (act : SourceAction ℤ) (x : Lowered) → Evaluates l own b v c (first_temporary l) act x → LeavesUnbuilt c act
      → BuildsAlike l own b v c int_type (act >>= (λ n. new_object (cell (Some n)))) (x.before ++ op (store (thrown_place l) x.value) ∷ [])
  int_built act x evaluates leaves at w s e stands reach slot made unbuilt empty =
      let ctx = context_of w.open_calls c in
      subst (λ z. Alike l.layout l.program at (first_temporary l) c w s (IsBuilt e int_type) (source_continued (act w) (λ n. new_object (cell (Some n)))) z)
      (sym (joined b ctx x.before (op (store (thrown_place l) x.value) ∷ []) s))
      (go (act w) refl (regions b (regions_from x.before) ctx s) (evaluates at w s stands reach))
    where
      -- the one int of the object
      holds : (n : ℤ) (old : Address → Option ℤ) (path : List ℕ) (m : ℤ) → part_at (cell (Some n)) path ≡ cell (Some m)
          → (if same_address (object_address e) (address_along l.layout l.program (record { base = of_exception e; type = int_type }) path) then Some n
          else old (address_along l.layout l.program (record { base = of_exception e; type = int_type }) path)) ≡ Some m
      holds n old [] m is = ap (λ z. if z then Some n else old (object_address e)) (address_itself (object_address e)) ∙ int_of n m is
      holds n old (i ∷ path) m is = absurd (no_int path m is)

      go : (r : SourceResult ℤ) → act w ≡ r → (y : Result Flow) → Alike l.layout l.program at (first_temporary l) c w s (IsComputed b.kinds x.value) r y
          → Alike l.layout l.program at (first_temporary l) c w s (IsBuilt e int_type) (source_continued r (λ n. new_object (cell (Some n))))
          (continued y (followed (stored_last x (context_of w.open_calls c))))
      go (source_done n w2) is y (flow, s2, same, (h, (fl, value))) =
          let there = h.keeps.slots (exception_slot l) (omega arith) ∙ slot in
          let g = follows_sparing l.layout l.program e at (first_temporary l) w s c w2 s2 empty (leaves w w2 n stands.sound is e made unbuilt).1 h in
          let o = length w2.objects in
          let s3 = record s2 { world = written (object_address e) n s2.world } in
          let empty2 : (q : ℕ) (z : Stood) → g.places q ≡ Some z → z.base ≡ of_exception e → ⊥ = λ q z f. (spared_is e (h.places q) z f).1 in
          let (last, gone) = leaves w w2 n stands.sound is e made unbuilt in
          let k = follows_new l.layout l.program g.places c w2 s2 g.stands (of_exception e) int_type (cell (Some n)) s3.world.memory empty2 (omega (arith, made, last), gone.0) tt
          (λ q other. elsewhere e n q (s2.world.memory q) other) (λ path m f. holds n s2.world.memory path m f) (first_temporary l) in (
            normal,
            s3,
            ap (λ z. continued z (followed (stored_last x (context_of w.open_calls c)))) same ∙ ap (λ f. followed (stored_last x (context_of w.open_calls c)) f s2) fl ∙
                stores_there x n e (context_of w.open_calls c) s2 value there (live_alike l.layout l.program h.places c w2 s2 h.stands e ∙ gone.0),
            (
              follows_on l.layout l.program at (first_temporary l) w s c w2 s2 c (with_object (cell (Some n)) w2) s3 g k,
              (refl, placed_new g.places o (record { base = of_exception e; type = int_type })),
            ),
          )
      go (source_stopped (thrown f) w2) is y (s2, same, h) = (s2, ap (λ z. continued z (followed (stored_last x (context_of w.open_calls c)))) same, h)
      go (source_stopped (cancelled n) w2) is y (s2, same, h) = (s2, ap (λ z. continued z (followed (stored_last x (context_of w.open_calls c)))) same, h)
      go (source_stopped undefined w2) is y h = tt
      go (source_stopped (ended f) w2) is y (s2, same, h) = (s2, ap (λ z. continued z (followed (stored_last x (context_of w.open_calls c)))) same, h)
      go (source_stopped out_of_turns w2) is y (s2, same, h) = (s2, ap (λ z. continued z (followed (stored_last x (context_of w.open_calls c)))) same, h)
      go (source_stopped deep w2) is y (s2, same, h) = (s2, ap (λ z. continued z (followed (stored_last x (context_of w.open_calls c)))) same, h)
