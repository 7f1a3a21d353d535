-- The search for a target, over the frames of open calls and in linear code.
use Rattle.std.proofs.Common.{◌≡◌, ◌∙◌, refl, ap, sym, arith, ℕ, suc, ◌+◌, ◌<◌, ◌==◌, ℤ, pos, negsuc, true, false, List, [], ◌∷◌, ◌++◌, length, inl, inr, if◌then◌else◌}
use Rattle.std.specs.Prelude.{⊤, ◌⊎◌, Option, Some, None}
use Rattle.std.proofs.lemmas.Bool.Decides.{nat_tests}
use Rattle.table_forms.specs.declared.found.Verdict as abi
use Rattle.table_forms.specs.declared.found.Verdict.TheVariants as abi_verdicts
use Rattle.table_forms.specs.Fde.{Fde}
use Rattle.table_forms.specs.Verdict.{Thrown}
use Rattle.rv64_isa.specs.State.{State}
use Rattle.frame_walk.specs.declared.frame.Frame.{Frame}
use Rattle.raise_core.specs.declared.goal.Goal.TheVariants as goals
use Rattle.raise_core.specs.Asked.{verdict_of, target_at}
use Rattle.raise_core.specs.First.{first_in, is_target}
use Rattle.linear_forms.specs.Tables.{Cover, bare, unpadded, padded}
use Rattle.linear_forms.specs.Verdict.{Verdict, target, no_way, clean, nothing_here}
use Rattle.linear_forms.specs.Stub.{Function}
use Rattle.linear_forms.specs.Activation.{Code, Activation, look, sense}
use Rattle.linear_forms.specs.Search.{found_by, found_at, found_above}
use Rattle.raise_simulation.specs.OpenCalls.{CallsStand, outward, frames_of}
use Rattle.raise_simulation.specs.Tables.{said}
use Rattle.raise_simulation.specs.Verdicts.{in_words, told_of, judged_by, cover_of}
use Rattle.raise_simulation.specs.Opens.{Open, activations, calls, TablesAgree, cfa_with, table_at, table_with}
use Rattle.raise_simulation.proofs.Outward.{IsFrame, outward_frame}
use Rattle.raise_simulation.proofs.Asking.{verdict_is, target_is, stops_here, passes_here}

pub waiting_length : (os : List Open) (tail : List Activation) → length (activations os ++ tail) ≡ length os + length tail
waiting_length [] tail = let e : length tail ≡ 0 + length tail = omega arith in e
waiting_length (o ∷ os) tail = let more = waiting_length os tail in omega (arith, more)

pub none_and_some : (o : Option ℕ) (d : ℕ) → o ≡ None → o ≡ Some d → ⊥
none_and_some None d none some = cc some
none_and_some (Some x) d none some = cc none

-- what a search finds is among the calls that it looks at
module _ (code : Code) (t : Option ℕ) where
  pub found_below : (fs : List Activation) (d : ℕ) → found_above code t fs ≡ Some d → d < length fs
  found_below [] d e = absurd (cc e)
  found_below (a ∷ fs) d e = by (λ e. found_below fs d e) (look code a.function a.place) e
    where
      by_verdict : (found_above code t fs ≡ Some d → d < length fs) → (v : Verdict) → found_by v (length fs) (found_above code t fs) ≡ Some d → d < suc (length fs)
      by_verdict more (target n) e = let same : length fs ≡ d = cc e in omega (arith, same)
      by_verdict more no_way e = absurd (cc e)
      by_verdict more clean e = let m = more e in omega (arith, m)
      by_verdict more nothing_here e = let m = more e in omega (arith, m)

      by : (found_above code t fs ≡ Some d → d < length fs) → (c : Cover) → found_at code.rows (sense code a.function) c t (length fs) (found_above code t fs) ≡ Some d → d < suc (length fs)
      by more bare e = absurd (cc e)
      by more unpadded e = let m = more e in omega (arith, m)
      by more (padded p chain) e = by_verdict more (judged_by code a t chain) e

-- an exception stops there, at a handler or a specification
abbrev pub IsHandling : abi.Verdict → Type 0
IsHandling (abi_verdicts.Handler pad n) = ⊤
IsHandling (abi_verdicts.Spec pad n) = ⊤
IsHandling _ = ⊥

pub words_handle : (pad : ℕ) (n : ℤ) → IsHandling (in_words pad (target n))
words_handle pad (pos n) = tt
words_handle pad (negsuc n) = tt

pub words_are_target : (pad : ℕ) (n : ℤ) → is_target (in_words pad (target n)) ≡ true
words_are_target pad (pos n) = refl
words_are_target pad (negsuc n) = refl

-- the canonical frame address of a call that is farther out than the first
pub farther : (d many sp : ℕ) (o : Open) (os : List Open) → d < length os + many → cfa_with d many sp (o ∷ os) ≡ cfa_with d many (sp + o.call.size) os
farther d many sp o os out =
    let other : (length os + many == d) ≡ false = grind (arith, nat_tests, out) in
    ap (λ b. if b then sp + o.call.size else cfa_with d many (sp + o.call.size) os) other

pub nearest : (d many sp : ℕ) (o : Open) (os : List Open) → length os + many ≡ d → cfa_with d many sp (o ∷ os) ≡ sp + o.call.size
nearest d many sp o os is =
    let same : (length os + many == d) ≡ true = grind (arith, nat_tests, is) in
    ap (λ b. if b then sp + o.call.size else cfa_with d many (sp + o.call.size) os) same

-- and its table
farther_table : (fdes : List Fde) (d many ip : ℕ) (o : Open) (os : List Open) → d < length os + many → table_with fdes d many ip (o ∷ os) ≡ table_with fdes d many o.call.back os
farther_table fdes d many ip o os out =
    let other : (length os + many == d) ≡ false = grind (arith, nat_tests, out) in
    ap (λ b. if b then table_at fdes ip else table_with fdes d many o.call.back os) other

nearest_table : (fdes : List Fde) (d many ip : ℕ) (o : Open) (os : List Open) → length os + many ≡ d → table_with fdes d many ip (o ∷ os) ≡ table_at fdes ip
nearest_table fdes d many ip o os is =
    let same : (length os + many == d) ≡ true = grind (arith, nat_tests, is) in
    ap (λ b. if b then table_at fdes ip else table_with fdes d many o.call.back os) same

module _ (code : Code) (at : Function → ℕ → ℕ) (fdes : List Fde) (thrown : Thrown) (t : Option ℕ) (s : State) (tail : List Activation) (rest : List Frame) where
  -- the frame of the target
  pub record TargetFound (d : ℕ) (f : Frame) (sp : ℕ) (opens : List Open) : Type 0 where
    pub frame : Frame
    pub first : first_in s fdes thrown goals.Target (frames_of f sp (calls opens) ++ rest) ≡ Some frame
    pub verdict : abi.Verdict
    pub says : verdict_of s fdes thrown frame ≡ verdict
    pub handles : IsHandling verdict
    pub target : target_at fdes frame ≡ Some (record { cfa = cfa_with d (length tail) sp opens; lsda = table_with fdes d (length tail) f.pc opens })

  pub search : (d : ℕ) (opens : List Open) (f : Frame) (sp : ℕ) → IsFrame f sp → CallsStand s fdes f.pc sp (calls opens) →
      TablesAgree code at (λ a. judged_by code a t) (said s fdes thrown) f.pc opens → found_above code t tail ≡ None → found_above code t (activations opens ++ tail) ≡ Some d → TargetFound d f sp opens
  search d [] f sp h stand agree none found = absurd (none_and_some (found_above code t tail) d none found)
  search d (o ∷ os) f sp h stand agree none found =
      by (λ found. search d os (outward f sp o.call) (sp + o.call.size) (outward_frame s fdes f.pc f sp o.call stand.0) stand.1 agree.1 none found) (cover_of code o.activation) refl found
    where
      a : Activation
      a = o.activation

      v_is : (c : Cover) → cover_of code a ≡ c → verdict_of s fdes thrown f ≡ told_of (at a.function) c (judged_by code a t)
      v_is c e = verdict_is s fdes thrown f h.plain ∙ agree.0 ∙ ap (λ x. told_of (at a.function) x (judged_by code a t)) e

      passes : (found_above code t (activations os ++ tail) ≡ Some d → TargetFound d (outward f sp o.call) (sp + o.call.size) os) → (v : abi.Verdict) → verdict_of s fdes thrown f ≡ v → is_target v ≡ false → found_above code t (activations os ++ tail) ≡ Some d → TargetFound d f sp (o ∷ os)
      passes next v is past found =
          let more = next found in
          let out : d < length os + length tail = let m = found_below code t (activations os ++ tail) d found in let n = waiting_length os tail in omega (arith, m, n) in
          record {
            frame = more.frame;
            first = passes_here s fdes thrown goals.Target f (frames_of (outward f sp o.call) (sp + o.call.size) (calls os) ++ rest) v is past ∙ more.first;
            verdict = more.verdict;
            says = more.says;
            handles = more.handles;
            target = more.target ∙ ap (λ n. Some (record { cfa = n; lsda = table_with fdes d (length tail) o.call.back os })) (sym (farther d (length tail) sp o os out))
                ∙ ap (λ a. Some (record { cfa = cfa_with d (length tail) sp (o ∷ os); lsda = a })) (sym (farther_table fdes d (length tail) f.pc o os out));
          }

      by_verdict : (found_above code t (activations os ++ tail) ≡ Some d → TargetFound d (outward f sp o.call) (sp + o.call.size) os) → (p : ℕ) (v : Verdict) → verdict_of s fdes thrown f ≡ in_words (at a.function p) v → found_by v (length (activations os ++ tail)) (found_above code t (activations os ++ tail)) ≡ Some d → TargetFound d f sp (o ∷ os)
      by_verdict next p (target n) is found =
          let here = target_is s fdes f sp o.call h stand.0 in
          let depth : length os + length tail ≡ d = let same : length (activations os ++ tail) ≡ d = cc found in sym (waiting_length os tail) ∙ same in
          record {
            frame = f;
            first = stops_here s fdes thrown goals.Target f (frames_of (outward f sp o.call) (sp + o.call.size) (calls os) ++ rest) (in_words (at a.function p) (target n)) is (words_are_target (at a.function p) n);
            verdict = in_words (at a.function p) (target n);
            says = is;
            handles = words_handle (at a.function p) n;
            target = here ∙ ap (λ n. Some (record { cfa = n; lsda = table_at fdes f.pc })) (sym (nearest d (length tail) sp o os depth))
                ∙ ap (λ a. Some (record { cfa = cfa_with d (length tail) sp (o ∷ os); lsda = a })) (sym (nearest_table fdes d (length tail) f.pc o os depth));
          }
      by_verdict next p no_way is found = absurd (cc found)
      by_verdict next p clean is found = passes next (abi_verdicts.Cleanup (at a.function p)) is refl found
      by_verdict next p nothing_here is found = passes next abi_verdicts.Nothing is refl found

      by : (found_above code t (activations os ++ tail) ≡ Some d → TargetFound d (outward f sp o.call) (sp + o.call.size) os) → (c : Cover) → cover_of code a ≡ c → found_at code.rows (sense code a.function) c t (length (activations os ++ tail)) (found_above code t (activations os ++ tail)) ≡ Some d → TargetFound d f sp (o ∷ os)
      by next bare e found = absurd (cc found)
      by next unpadded e found = passes next abi_verdicts.Nothing (v_is unpadded e) refl found
      by next (padded p chain) e found = by_verdict next p (judged_by code a t chain) (v_is (padded p chain) e) found

  -- or none, and then the first frame at which the phase stops ends the program
  abbrev pub NoneFound : Frame → ℕ → List Open → Type 0
  NoneFound f sp opens =
      ((g : Frame) × (first_in s fdes thrown goals.Target (frames_of f sp (calls opens) ++ rest) ≡ Some g) × (verdict_of s fdes thrown g ≡ abi_verdicts.Terminate)) ⊎
      (first_in s fdes thrown goals.Target (frames_of f sp (calls opens) ++ rest) ≡ first_in s fdes thrown goals.Target rest)

  pub search_none : (opens : List Open) (f : Frame) (sp : ℕ) → IsFrame f sp → CallsStand s fdes f.pc sp (calls opens) →
      TablesAgree code at (λ a. judged_by code a t) (said s fdes thrown) f.pc opens → found_above code t (activations opens ++ tail) ≡ None → NoneFound f sp opens
  search_none [] f sp h stand agree found = inr refl
  search_none (o ∷ os) f sp h stand agree found =
      by (λ found. search_none os (outward f sp o.call) (sp + o.call.size) (outward_frame s fdes f.pc f sp o.call stand.0) stand.1 agree.1 found) (cover_of code o.activation) refl found
    where
      a : Activation
      a = o.activation

      v_is : (c : Cover) → cover_of code a ≡ c → verdict_of s fdes thrown f ≡ told_of (at a.function) c (judged_by code a t)
      v_is c e = verdict_is s fdes thrown f h.plain ∙ agree.0 ∙ ap (λ x. told_of (at a.function) x (judged_by code a t)) e

      others : List Frame
      others = frames_of (outward f sp o.call) (sp + o.call.size) (calls os) ++ rest

      ends : verdict_of s fdes thrown f ≡ abi_verdicts.Terminate → NoneFound f sp (o ∷ os)
      ends is = inl (f, stops_here s fdes thrown goals.Target f others abi_verdicts.Terminate is refl, is)

      behind : (v : abi.Verdict) → verdict_of s fdes thrown f ≡ v → is_target v ≡ false → NoneFound (outward f sp o.call) (sp + o.call.size) os → NoneFound f sp (o ∷ os)
      behind v is past (inl (g, first, says)) = inl (g, passes_here s fdes thrown goals.Target f others v is past ∙ first, says)
      behind v is past (inr first) = inr (passes_here s fdes thrown goals.Target f others v is past ∙ first)

      passes : (found_above code t (activations os ++ tail) ≡ None → NoneFound (outward f sp o.call) (sp + o.call.size) os) → (v : abi.Verdict) → verdict_of s fdes thrown f ≡ v → is_target v ≡ false → found_above code t (activations os ++ tail) ≡ None → NoneFound f sp (o ∷ os)
      passes next v is past found = behind v is past (next found)

      by_verdict : (found_above code t (activations os ++ tail) ≡ None → NoneFound (outward f sp o.call) (sp + o.call.size) os) → (p : ℕ) (v : Verdict) → verdict_of s fdes thrown f ≡ in_words (at a.function p) v → found_by v (length (activations os ++ tail)) (found_above code t (activations os ++ tail)) ≡ None → NoneFound f sp (o ∷ os)
      by_verdict next p (target n) is found = absurd (cc found)
      by_verdict next p no_way is found = ends is
      by_verdict next p clean is found = passes next (abi_verdicts.Cleanup (at a.function p)) is refl found
      by_verdict next p nothing_here is found = passes next abi_verdicts.Nothing is refl found

      by : (found_above code t (activations os ++ tail) ≡ None → NoneFound (outward f sp o.call) (sp + o.call.size) os) → (c : Cover) → cover_of code a ≡ c → found_at code.rows (sense code a.function) c t (length (activations os ++ tail)) (found_above code t (activations os ++ tail)) ≡ None → NoneFound f sp (o ∷ os)
      by next bare e found = ends (v_is bare e)
      by next unpadded e found = passes next abi_verdicts.Nothing (v_is unpadded e) refl found
      by next (padded p chain) e found = by_verdict next p (judged_by code a t chain) (v_is (padded p chain) e) found
