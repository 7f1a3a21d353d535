-- The search by tables agrees with the guards: inside a pad's extent as outside.
use Rattle.std.proofs.Common.{◌≡◌, ℕ, Bool, true, false, List, [], ◌∷◌, ◌++◌, length, Option, Some, None, refl, sym, ap, ◌∙◌}
use Rattle.std.specs.Prelude.{ℤ, is_none, not, ◌||◌, find, if◌then◌else◌}
use Rattle.meaning_forms.specs.Arithmetic.{int_equal}
use Rattle.meaning_forms.specs.Class.{some_of}
use Rattle.region_forms.specs.Form.{TypeRow}
use Rattle.region_forms.specs.Guard.{Guard, clauses, listed, matches, allows, stops, dooms, is_doomed}
use Rattle.linear_forms.specs.Tables.{Cover, bare, unpadded, padded, Sense, cleanup, clause, list_of}
use Rattle.linear_forms.specs.Verdict.{Verdict, target, no_way, clean, nothing_here, or_clean, judged, verdict, pad_verdict}
use Rattle.linear_forms.specs.Stub.{compiled}
use Rattle.linear_forms.specs.Activation.{Code, Activation, look, sense}
use Rattle.linear_forms.specs.Search.{found, found_at, found_by, found_above}
use Rattle.linear_forms.specs.Emission.{Emitting, chain_of, guarded, with_cleanup, cleaned, filters_of}
use Rattle.linear_forms.specs.Means.{Means, AllMean}
use Rattle.linear_forms.specs.Agrees.{Agrees, IsSited}
use Rattle.linear_forms.specs.Laws.{SearchIsRight}

-- a cleanup in front of a chain leaves the search as it is
found_clean : (v : Verdict) (d : ℕ) (r : Option ℕ) → found_by (or_clean v) d r ≡ found_by v d r
found_clean (target n) d r = refl
found_clean no_way d r = refl
found_clean clean d r = refl
found_clean nothing_here d r = refl

-- a pad without filters is passed by the search as one that says nothing
found_pad : (rows : List TypeRow) (senses : ℤ → Sense) (chain : List ℤ) (t : Option ℕ) (d : ℕ) (r : Option ℕ)
    → found_by (pad_verdict rows senses chain t) d r ≡ found_by (verdict rows senses chain t) d r
found_pad rows senses [] t d r = refl
found_pad rows senses (n ∷ chain) t d r = refl

-- the chain of a cover has its verdict
found_chain : (rows : List TypeRow) (senses : ℤ → Sense) (cover : Cover) → IsSited cover → (t : Option ℕ) (d : ℕ) (r : Option ℕ)
    → found_by (verdict rows senses (chain_of cover) t) d r ≡ found_at rows senses cover t d r
found_chain rows senses bare s t d r = absurd s
found_chain rows senses unpadded s t d r = refl
found_chain rows senses (padded p chain) s t d r = sym (found_pad rows senses chain t d r)

-- one filter of a cleanup, or none where there is one, leaves the search as it is
found_with_cleanup : (rows : List TypeRow) (senses : ℤ → Sense) (n : ℤ) → senses n ≡ cleanup → (chain : List ℤ) (t : Option ℕ) (d : ℕ) (r : Option ℕ)
    → found_by (verdict rows senses (with_cleanup n chain) t) d r ≡ found_by (verdict rows senses chain t) d r
found_with_cleanup rows senses n m chain t d r = go (some_of (int_equal n) chain)
  where
    go : (b : Bool) → found_by (verdict rows senses (if b then chain else n ∷ chain) t) d r ≡ found_by (verdict rows senses chain t) d r
    go true = refl
    go false = ap (λ x. found_by (judged rows t n x (verdict rows senses chain t)) d r) m ∙ found_clean (verdict rows senses chain t) d r

module _ (code : Code) (f : ℕ) (em : Emitting) where
  -- a pad with a cleanup round a part: the search goes on as outside
  found_inside : (cover : Cover) (p : ℕ) → IsSited cover → Means (code.sense_at f) em.filter cleanup → (t : Option ℕ) (fs : List Activation)
      → found code (compiled f) (cleaned em p cover) t fs ≡ found code (compiled f) cover t fs
  found_inside cover p s m t fs =
      let d = length fs in let r = found_above code t fs in
      found_pad code.rows (code.sense_at f) (with_cleanup (em.filter cleanup) (chain_of cover)) t d r ∙
      found_with_cleanup code.rows (code.sense_at f) (em.filter cleanup) m (chain_of cover) t d r ∙
      found_chain code.rows (code.sense_at f) cover s t d r

  agrees_clean : (gs : List Guard) (cover : Cover) (fs : List Activation) (p : ℕ) → IsSited cover → Means (code.sense_at f) em.filter cleanup
      → Agrees code (compiled f) gs cover fs → Agrees code (compiled f) gs (cleaned em p cover) fs
  agrees_clean gs cover fs p s m a = record { same = λ t. a.same t ∙ ap is_none (sym (found_inside cover p s m t fs)) }

  -- one clause in front of the rest of a chain
  clause_found : (b c : Bool) (n : ℤ) (v u : Verdict) (d : ℕ) (r : Option ℕ)
      → is_none (found_by v d r) ≡ (if c then false else is_none (found_by u d r))
      → is_none (found_by (if b then target n else v) d r) ≡ (if b || c then false else is_none (found_by u d r))
  clause_found true c n v u d r e = refl
  clause_found false c n v u d r e = e

  clauses_found : (ts : List (Option ℕ)) (chain : List ℤ) → AllMean (code.sense_at f) em.filter ts → (t : Option ℕ) (d : ℕ) (r : Option ℕ)
      → is_none (found_by (verdict code.rows (code.sense_at f) (filters_of em ts ++ chain) t) d r)
      ≡ (if some_of (matches code.rows t) ts then false else is_none (found_by (verdict code.rows (code.sense_at f) chain t) d r))
  clauses_found [] chain m t d r = refl
  clauses_found (u ∷ ts) chain m t d r =
      let v = verdict code.rows (code.sense_at f) (filters_of em ts ++ chain) t in
      ap (λ x. is_none (found_by (judged code.rows t (em.filter (clause u)) x v) d r)) m.0 ∙
      clause_found (matches code.rows t u) (some_of (matches code.rows t) ts) (em.filter (clause u)) v
      (verdict code.rows (code.sense_at f) chain t) d r (clauses_found ts chain m.1 t d r)

  -- a try block among the guards
  dooms_try : (b : Bool) (t : Option ℕ) (ts : List (Option ℕ)) (g : Option Guard)
      → dooms t (if b then Some (clauses ts) else g) ≡ (if b then false else dooms t g)
  dooms_try true t ts g = refl
  dooms_try false t ts g = refl

  agrees_catch : (gs : List Guard) (cover : Cover) (fs : List Activation) (p : ℕ) (ts : List (Option ℕ)) → IsSited cover
      → AllMean (code.sense_at f) em.filter ts → Agrees code (compiled f) gs cover fs
      → Agrees code (compiled f) (clauses ts ∷ gs) (guarded p (filters_of em ts) cover) fs
  agrees_catch gs cover fs p ts s m a = record {
    same = λ t. dooms_try (some_of (matches code.rows t) ts) t ts (find (stops code.rows t) gs) ∙
        ap (λ x. if some_of (matches code.rows t) ts then false else x)
        (a.same t ∙ ap is_none (sym (found_chain code.rows (code.sense_at f) cover s t (length fs) (found_above code t fs)))) ∙
        sym (clauses_found ts (chain_of cover) m t (length fs) (found_above code t fs)) ∙
        ap is_none (sym (found_pad code.rows (code.sense_at f) (filters_of em ts ++ chain_of cover) t (length fs) (found_above code t fs)));
  }

  -- a specification's list
  list_found : (b : Bool) (t : ℕ) (n : ℤ) (types : List ℕ) (g : Option Guard) (v : Verdict) (d : ℕ) (r : Option ℕ)
      → dooms (Some t) g ≡ is_none (found_by v d r)
      → dooms (Some t) (if not b then Some (listed types) else g) ≡ is_none (found_by (if b then v else target n) d r)
  list_found true t n types g v d r e = e
  list_found false t n types g v d r e = refl

  limit_same : (gs : List Guard) (cover : Cover) (fs : List Activation) (types : List ℕ) → IsSited cover → Means (code.sense_at f) em.filter (list_of types)
      → Agrees code (compiled f) gs cover fs → (t : Option ℕ)
      → is_doomed code.rows (listed types ∷ gs) t
      ≡ is_none (found_by (judged code.rows t (em.filter (list_of types)) (list_of types)
      (verdict code.rows (code.sense_at f) (chain_of cover) t)) (length fs) (found_above code t fs))
  limit_same gs cover fs types s m a None = refl
  limit_same gs cover fs types s m a (Some t) =
      list_found (allows code.rows types (Some t)) t (em.filter (list_of types)) types (find (stops code.rows (Some t)) gs)
      (verdict code.rows (code.sense_at f) (chain_of cover) (Some t)) (length fs) (found_above code (Some t) fs)
      (a.same (Some t) ∙ ap is_none (sym (found_chain code.rows (code.sense_at f) cover s (Some t) (length fs) (found_above code (Some t) fs))))

  agrees_limit : (gs : List Guard) (cover : Cover) (fs : List Activation) (p : ℕ) (types : List ℕ) → IsSited cover
      → Means (code.sense_at f) em.filter (list_of types) → Agrees code (compiled f) gs cover fs
      → Agrees code (compiled f) (listed types ∷ gs) (guarded p (em.filter (list_of types) ∷ []) cover) fs
  agrees_limit gs cover fs p types s m a = record {
    same = λ t. limit_same gs cover fs types s m a t ∙
        ap (λ x. is_none (found_by (judged code.rows t (em.filter (list_of types)) x
        (verdict code.rows (code.sense_at f) (chain_of cover) t)) (length fs) (found_above code t fs))) (sym m);
  }

  -- in a function that is called the frames are one more
  agrees_called : (g : ℕ) (a : Activation) (gs : List Guard) (cover : Cover) (fs : List Activation)
      → a.function ≡ compiled f → look code (compiled f) a.place ≡ cover → Agrees code (compiled f) gs cover fs
      → Agrees code (compiled g) gs unpadded (a ∷ fs)
  agrees_called g a gs cover fs ef ec ag = record {
    same = λ t. ag.same t ∙ ap (λ x. is_none (found_at code.rows (sense code (compiled f)) x t (length fs) (found_above code t fs))) (sym ec) ∙
        ap (λ x. is_none (found_at code.rows (sense code x) (look code x a.place) t (length fs) (found_above code t fs))) (sym ef);
  }

  pub search_is_right : SearchIsRight code f em
  search_is_right = record {
    cleaned = agrees_clean;
    caught = agrees_catch;
    limited = agrees_limit;
    barred = λ gs fs. record { same = λ t. refl };
    called = agrees_called;
    first = record { same = λ t. refl };
  }
