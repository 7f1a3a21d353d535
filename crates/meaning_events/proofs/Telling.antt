-- What is told stays right behind each event.
use Rattle.std.proofs.Common.{◌≡◌, ℕ, ◌+◌, ◌≤◌, ◌⊎◌, inl, inr, ℤ, Bool, true, false, List, [], ◌∷◌, ◌++◌, refl, sym, ap, ◌∙◌, subst, arith}
use Rattle.std.specs.Prelude.{◌==◌, ◌||◌, ◌&&◌}
use Rattle.run_items.specs.declared.item.Item.{Item}
use Rattle.run_items.specs.declared.item.Item.TheVariants.{Line, Make, Foreign, Enter, Leave, Destroy, Free, Clean}
use Rattle.meaning_forms.specs.Class.{ObjectType, contains}
use Rattle.meaning_forms.specs.World.{Live, Exception, building, native, foreign, Installed, exception_in}
use Rattle.meaning_events.specs.Events.{one_if, is_make, is_raise, is_enter, is_leave, is_destroy, is_free, is_foreign_of, is_clean_of, makes, raises, enters, leaves, destroys, frees, IsNew}
use Rattle.meaning_events.specs.Fates.{Story, Fate, fate, entries, is_token, times, IsWhole, IsOver, IsBuilt, Tells}
use Rattle.meaning_events.proofs.Live.{number_is, same_number, other_number, taken, put, entries_added, exception_added, exception_new, foreign_added, entries_taken, entries_gone, exception_taken, foreign_taken, entries_put, exception_put, exception_put_there, foreign_put}
use Rattle.meaning_events.proofs.Told.{told_behind, told_same, told_more, allowed_behind, same_fate, fate_same}
use Rattle.meaning_events.proofs.Sparing.{never, made_before}

pub times_none : (hs : List ℕ) (e : ℕ) → contains hs e ≡ false → times e hs ≡ 0
times_none [] e none = refl
times_none (d ∷ hs) e none = go (d == e) none (λ n. times_none hs e n)
  where
    go : (b : Bool) → (b || contains hs e) ≡ false → (contains hs e ≡ false → times e hs ≡ 0) → one_if b + times e hs ≡ 0
    go true none ih = absurd (never none)
    go false none ih = let left = ih none in omega (arith, left)

pub held : (e q : ℕ) (hs : List ℕ) → contains (e ∷ hs) q ≡ true → (q ≡ e) ⊎ (contains hs q ≡ true)
held e q hs h = go (e == q) refl h
  where
    go : (b : Bool) → (e == q) ≡ b → (b || contains hs q) ≡ true → (q ≡ e) ⊎ (contains hs q ≡ true)
    go true is h = inl (sym (number_is e q is))
    go false is h = inr h

pub held_first : (e : ℕ) (hs : List ℕ) → contains (e ∷ hs) e ≡ true
held_first e hs = ap (λ b. b || contains hs e) (same_number e)

pub held_more : (e q : ℕ) (hs : List ℕ) → contains hs q ≡ true → contains (e ∷ hs) q ≡ true
held_more e q hs h = go (e == q)
  where
    go : (b : Bool) → (b || contains hs q) ≡ true
    go true = refl
    go false = h

-- what is handled is not what is unhandled
pub handled_other : (hs : List ℕ) (e q : ℕ) → contains hs e ≡ false → contains hs q ≡ true → q ≡ e → ⊥
handled_other hs e q none there same = never (sym there ∙ ap (contains hs) same ∙ none)

-- an item that tells of no fate
abbrev pub told : Item → Story → Story
told i s = record s { items = s.items ++ i ∷ [] }

abbrev pub Tacit : Item → Type 0
Tacit i = (q : ℕ) → (is_make q i ≡ 0) × (is_raise q i ≡ 0) × (is_destroy q i ≡ 0) × (is_free q i ≡ 0)

pub tacit_same : (i : Item) (s : Story) → Tacit i → (q : ℕ) → fate (told i s) q ≡ fate s q
tacit_same i s tacit q = let (a, b, d, f) = tacit q in fate_same q i s.last s.last s.live s.live s.items a b d f refl refl

pub tells_line : (hs : List ℕ) (s : Story) (z : ℤ) → Tells hs s → Tells hs (told (Line z) s)
tells_line hs s z h = record {
  allowed = allowed_behind s.items (Line z) h.allowed tt;
  unused = λ q lt. tacit_same (Line z) s (λ n. (refl, refl, refl, refl)) q ∙ h.unused q lt;
  whole = λ q there. subst IsWhole (sym (tacit_same (Line z) s (λ n. (refl, refl, refl, refl)) q)) (h.whole q there);
  handlers = λ q. (let a = told_same (is_enter q) s.items (Line z) refl in let b = told_same (is_leave q) s.items (Line z) refl in let e = h.handlers q in omega (arith, a, b, e));
  tokens = λ k t. (let a = told_same (is_foreign_of k t) s.items (Line z) refl in let b = told_same (is_clean_of k t) s.items (Line z) refl in let e = h.tokens k t in omega (arith, a, b, e));
}

pub tells_enter : (hs : List ℕ) (s : Story) (e : ℕ) → IsWhole (fate s e) → Tells hs s → Tells (e ∷ hs) (told (Enter e) s)
tells_enter hs s e whole h = record {
  allowed = allowed_behind s.items (Enter e) h.allowed (record { given = whole.given; whole = whole.undestroyed; there = whole.unfreed });
  unused = λ q lt. tacit_same (Enter e) s (λ n. (refl, refl, refl, refl)) q ∙ h.unused q lt;
  whole = λ q there. subst IsWhole (sym (tacit_same (Enter e) s (λ n. (refl, refl, refl, refl)) q)) (go q (held e q hs there));
  handlers = λ q. (let a = told_behind (is_enter q) s.items (Enter e) in let b = told_same (is_leave q) s.items (Enter e) refl in let x = h.handlers q in omega (arith, a, b, x));
  tokens = λ k t. (let a = told_same (is_foreign_of k t) s.items (Enter e) refl in let b = told_same (is_clean_of k t) s.items (Enter e) refl in let x = h.tokens k t in omega (arith, a, b, x));
}
  where
    go : (q : ℕ) → (q ≡ e) ⊎ (contains hs q ≡ true) → IsWhole (fate s q)
    go q (inl same) = subst (λ n. IsWhole (fate s n)) (sym same) whole
    go q (inr there) = h.whole q there

pub tells_leave : (hs : List ℕ) (s : Story) (e : ℕ) → Tells (e ∷ hs) s → Tells hs (told (Leave e) s)
tells_leave hs s e h = record {
  allowed = allowed_behind s.items (Leave e) h.allowed (let one : one_if (e == e) ≡ 1 = ap one_if (same_number e) in let x = h.handlers e in omega (arith, one, x));
  unused = λ q lt. tacit_same (Leave e) s (λ n. (refl, refl, refl, refl)) q ∙ h.unused q lt;
  whole = λ q there. subst IsWhole (sym (tacit_same (Leave e) s (λ n. (refl, refl, refl, refl)) q)) (h.whole q (held_more e q hs there));
  handlers = λ q. (let a = told_same (is_enter q) s.items (Leave e) refl in let b = told_behind (is_leave q) s.items (Leave e) in let x = h.handlers q in omega (arith, a, b, x));
  tokens = λ k t. (let a = told_same (is_foreign_of k t) s.items (Leave e) refl in let b = told_same (is_clean_of k t) s.items (Leave e) refl in let x = h.tokens k t in omega (arith, a, b, x));
}

-- an exception that no handler has
pub unhandled : (hs : List ℕ) (s : Story) (e : ℕ) → Tells hs s → contains hs e ≡ false → enters e s.items ≡ leaves e s.items
unhandled hs s e h none = let x = h.handlers e in let n = times_none hs e none in omega (arith, x, n)

-- its destruction
pub destroyed_other : (s : Story) (e q : ℕ) → (q ≡ e → ⊥) → fate (told (Destroy e) s) q ≡ fate s q
destroyed_other s e q other = fate_same q (Destroy e) s.last s.last s.live s.live s.items refl refl (ap one_if (other_number e q other)) refl refl refl

pub tells_destroy : (hs : List ℕ) (s : Story) (e : ℕ) → IsWhole (fate s e) → (fate s e).made ≡ 1 → contains hs e ≡ false → Tells hs s → Tells hs (told (Destroy e) s)
tells_destroy hs s e whole made none h = record {
  allowed = allowed_behind s.items (Destroy e) h.allowed (record { made = made; whole = whole.undestroyed; there = whole.unfreed; unhandled = unhandled hs s e h none });
  unused = λ q lt. destroyed_other s e q (λ same. (let le = made_before hs s e h whole.live in omega (arith, le, lt, same))) ∙ h.unused q lt;
  whole = λ q there. subst IsWhole (sym (destroyed_other s e q (handled_other hs e q none there))) (h.whole q there);
  handlers = λ q. (let a = told_same (is_enter q) s.items (Destroy e) refl in let b = told_same (is_leave q) s.items (Destroy e) refl in let x = h.handlers q in omega (arith, a, b, x));
  tokens = λ k t. (let a = told_same (is_foreign_of k t) s.items (Destroy e) refl in let b = told_same (is_clean_of k t) s.items (Destroy e) refl in let x = h.tokens k t in omega (arith, a, b, x));
}

-- an exception is no longer live
abbrev pub without : ℕ → Item → Story → Story
without e i s = record { last = s.last; live = taken e s.live; items = s.items ++ i ∷ [] }

pub freed_other : (s : Story) (e q : ℕ) → (q ≡ e → ⊥) → fate (without e (Free e) s) q ≡ fate s q
freed_other s e q other =
    fate_same q (Free e) s.last s.last s.live (taken e s.live) s.items refl refl refl (ap one_if (other_number e q other)) (entries_taken s.live e q other) (exception_taken s.live e q other)

-- an object can be freed, built or not
pub record IsObject (f : Fate) : Type 0 where
  pub live : f.live ≡ 1
  pub made : f.made ≡ 1
  pub given : f.made + f.raised ≡ 1
  pub unfreed : f.freed ≡ 0
  pub native : (k t : ℕ) → is_token k t f.exception ≡ 0

pub tells_free : (hs : List ℕ) (s : Story) (e : ℕ) → IsObject (fate s e) → contains hs e ≡ false → Tells hs s → Tells hs (without e (Free e) s)
tells_free hs s e this none h = record {
  allowed = allowed_behind s.items (Free e) h.allowed (record { made = this.made; there = this.unfreed; unhandled = unhandled hs s e h none });
  unused = λ q lt. freed_other s e q (λ same. (let le = made_before hs s e h this.live in omega (arith, le, lt, same))) ∙ h.unused q lt;
  whole = λ q there. subst IsWhole (sym (freed_other s e q (handled_other hs e q none there))) (h.whole q there);
  handlers = λ q. (let a = told_same (is_enter q) s.items (Free e) refl in let b = told_same (is_leave q) s.items (Free e) refl in let x = h.handlers q in omega (arith, a, b, x));
  tokens = λ k t. (
      let a = told_same (is_foreign_of k t) s.items (Free e) refl in let b = told_same (is_clean_of k t) s.items (Free e) refl in let x = h.tokens k t in
      let l = foreign_taken k t s.live e this.live in let n = this.native k t in omega (arith, a, b, x, l, n));
}

pub freed_is_over : (s : Story) (e : ℕ) → IsObject (fate s e) → IsOver (fate (without e (Free e) s) e)
freed_is_over s e this = record {
  gone = entries_gone s.live e;
  freed = (let one : one_if (e == e) ≡ 1 = ap one_if (same_number e) in let f = told_behind (is_free e) s.items (Free e) in let m = told_same (is_make e) s.items (Free e) refl in
      let x = this.made in let y = this.unfreed in omega (arith, one, f, m, x, y));
}

-- a foreign exception is cleaned
pub cleaned_other : (s : Story) (e k t q : ℕ) → (q ≡ e → ⊥) → fate (without e (Clean k t) s) q ≡ fate s q
cleaned_other s e k t q other =
    fate_same q (Clean k t) s.last s.last s.live (taken e s.live) s.items refl refl refl refl (entries_taken s.live e q other) (exception_taken s.live e q other)

pub tells_clean : (hs : List ℕ) (s : Story) (e k t : ℕ) → (fate s e).live ≡ 1 → exception_in s.live e ≡ foreign k t → contains hs e ≡ false → Tells hs s → Tells hs (without e (Clean k t) s)
tells_clean hs s e k t live is none h = record {
  allowed = allowed_behind s.items (Clean k t) h.allowed (
      let x = h.tokens k t in let l = foreign_taken k t s.live e live in let n : is_token k t (exception_in s.live e) ≡ 1 = ap (is_token k t) is ∙ token_itself in omega (arith, x, l, n));
  unused = λ q lt. cleaned_other s e k t q (λ same. (let le = made_before hs s e h live in omega (arith, le, lt, same))) ∙ h.unused q lt;
  whole = λ q there. subst IsWhole (sym (cleaned_other s e k t q (handled_other hs e q none there))) (h.whole q there);
  handlers = λ q. (let a = told_same (is_enter q) s.items (Clean k t) refl in let b = told_same (is_leave q) s.items (Clean k t) refl in let x = h.handlers q in omega (arith, a, b, x));
  tokens = λ j u. (
      let a = told_same (is_foreign_of j u) s.items (Clean k t) refl in let b = told_behind (is_clean_of j u) s.items (Clean k t) in let x = h.tokens j u in
      let l = foreign_taken j u s.live e live in let n : is_token j u (exception_in s.live e) ≡ one_if (k == j && t == u) = ap (is_token j u) is in omega (arith, a, b, x, l, n));
}
  where
    token_itself : one_if (k == k && t == t) ≡ 1
    token_itself = ap (λ b. one_if (b && t == t)) (same_number k) ∙ ap one_if (same_number t)

pub cleaned_is_over : (s : Story) (e k t : ℕ) → (fate s e).made ≡ 0 → (fate s e).freed ≡ 0 → IsOver (fate (without e (Clean k t) s) e)
cleaned_is_over s e k t made freed = record {
  gone = entries_gone s.live e;
  freed = (let f = told_same (is_free e) s.items (Clean k t) refl in let m = told_same (is_make e) s.items (Clean k t) refl in omega (arith, f, m, made, freed));
}

-- a new exception
abbrev pub newly : Exception → Item → Story → Story
newly x i s = record { last = s.last + 1; live = s.live ++ record { number = s.last + 1; exception = x } ∷ []; items = s.items ++ i ∷ [] }

pub new_other : (s : Story) (x : Exception) (i : Item) (q : ℕ) → is_make q i ≡ 0 → is_raise q i ≡ 0 → is_destroy q i ≡ 0 → is_free q i ≡ 0 → (q ≡ s.last + 1 → ⊥) → fate (newly x i s) q ≡ fate s q
new_other s x i q a b d f other =
    let y : Live = record { number = s.last + 1; exception = x } in
    let unlike = other_number (s.last + 1) q other in
    let none : one_if (s.last + 1 == q) ≡ 0 = ap one_if unlike in
    let more = entries_added s.live y q in
    fate_same q i s.last (s.last + 1) s.live (s.live ++ y ∷ []) s.items a b d f (omega (arith, more, none)) (exception_added s.live y q unlike)

pub new_live : (hs : List ℕ) (s : Story) (x : Exception) (i : Item) → Tells hs s → (entries (s.last + 1) (newly x i s).live ≡ 1) × (exception_in (newly x i s).live (s.last + 1) ≡ x)
new_live hs s x i h =
    let y : Live = record { number = s.last + 1; exception = x } in
    let none : entries (s.last + 1) s.live ≡ 0 = ap (λ f. f.live) (h.unused (s.last + 1) (omega arith)) in
    let more = entries_added s.live y (s.last + 1) in
    let one : one_if (s.last + 1 == s.last + 1) ≡ 1 = ap one_if (same_number (s.last + 1)) in
    (omega (arith, none, more, one), exception_new s.live y none)

-- nothing was told of a new number
pub is_new : (hs : List ℕ) (s : Story) → Tells hs s → IsNew (s.last + 1) s.items
is_new hs s h = let unused = h.unused (s.last + 1) (omega arith) in record { unmade = ap (λ f. f.made) unused; unraised = ap (λ f. f.raised) unused }

-- what is handled is not new
pub handled_old : (hs : List ℕ) (s : Story) (q : ℕ) → Tells hs s → contains hs q ≡ true → q ≤ s.last
handled_old hs s q h there = made_before hs s q h (h.whole q there).live

pub made_other : (s : Story) (q : ℕ) → (q ≡ s.last + 1 → ⊥) → fate (newly building (Make (s.last + 1)) s) q ≡ fate s q
made_other s q other = new_other s building (Make (s.last + 1)) q (ap one_if (other_number (s.last + 1) q other)) refl refl refl other

pub tells_make : (hs : List ℕ) (s : Story) → Tells hs s → Tells hs (newly building (Make (s.last + 1)) s)
tells_make hs s h =
    record {
      allowed = allowed_behind s.items (Make (s.last + 1)) h.allowed (is_new hs s h);
      unused = λ q lt. made_other s q (λ same. omega (arith, lt, same)) ∙ h.unused q (omega (arith, lt));
      whole = λ q there. subst IsWhole (sym (made_other s q (λ same. (let le = handled_old hs s q h there in omega (arith, le, same))))) (h.whole q there);
      handlers = λ q. (let a = told_same (is_enter q) s.items (Make (s.last + 1)) refl in let b = told_same (is_leave q) s.items (Make (s.last + 1)) refl in let x = h.handlers q in omega (arith, a, b, x));
      tokens = λ k t. (
          let a = told_same (is_foreign_of k t) s.items (Make (s.last + 1)) refl in let b = told_same (is_clean_of k t) s.items (Make (s.last + 1)) refl in let x = h.tokens k t in
          let l = foreign_added k t s.live (record { number = s.last + 1; exception = building }) in omega (arith, a, b, x, l));
    }

-- what is made is live and being built
pub made_fate : (hs : List ℕ) (s : Story) → Tells hs s → fate (newly building (Make (s.last + 1)) s) (s.last + 1)
    ≡ record { live = 1; exception = building; made = 1; raised = 0; destroyed = 0; freed = 0 }
made_fate hs s h =
    let unused = h.unused (s.last + 1) (omega arith) in
    let live = new_live hs s building (Make (s.last + 1)) h in
    same_fate (entries (s.last + 1) (newly building (Make (s.last + 1)) s).live) 1 (exception_in (newly building (Make (s.last + 1)) s).live (s.last + 1)) building
    (makes (s.last + 1) (s.items ++ Make (s.last + 1) ∷ [])) 1 (raises (s.last + 1) (s.items ++ Make (s.last + 1) ∷ [])) 0
    (destroys (s.last + 1) (s.items ++ Make (s.last + 1) ∷ [])) 0 (frees (s.last + 1) (s.items ++ Make (s.last + 1) ∷ [])) 0
    live.0 live.1 (told_more (is_make (s.last + 1)) s.items (Make (s.last + 1)) 0 (ap one_if (same_number (s.last + 1))) (ap (λ f. f.made) unused))
    (told_same (is_raise (s.last + 1)) s.items (Make (s.last + 1)) refl ∙ ap (λ f. f.raised) unused)
    (told_same (is_destroy (s.last + 1)) s.items (Make (s.last + 1)) refl ∙ ap (λ f. f.destroyed) unused)
    (told_same (is_free (s.last + 1)) s.items (Make (s.last + 1)) refl ∙ ap (λ f. f.freed) unused)

pub raise_other : (s : Story) (k t q : ℕ) → (q ≡ s.last + 1 → ⊥) → fate (newly (foreign k t) (Foreign (s.last + 1) k t) s) q ≡ fate s q
raise_other s k t q other = new_other s (foreign k t) (Foreign (s.last + 1) k t) q refl (ap one_if (other_number (s.last + 1) q other)) refl refl other

pub tells_raise : (hs : List ℕ) (s : Story) (k t : ℕ) → Tells hs s → Tells hs (newly (foreign k t) (Foreign (s.last + 1) k t) s)
tells_raise hs s k t h = record {
  allowed = allowed_behind s.items (Foreign (s.last + 1) k t) h.allowed (is_new hs s h);
  unused = λ q lt. raise_other s k t q (λ same. omega (arith, lt, same)) ∙ h.unused q (omega (arith, lt));
  whole = λ q there. subst IsWhole (sym (raise_other s k t q (λ same. (let le = handled_old hs s q h there in omega (arith, le, same))))) (h.whole q there);
  handlers = λ q. (
      let a = told_same (is_enter q) s.items (Foreign (s.last + 1) k t) refl in let b = told_same (is_leave q) s.items (Foreign (s.last + 1) k t) refl in let x = h.handlers q in omega (arith, a, b, x));
  tokens = λ j u. (
      let a = told_behind (is_foreign_of j u) s.items (Foreign (s.last + 1) k t) in let b = told_same (is_clean_of j u) s.items (Foreign (s.last + 1) k t) refl in let x = h.tokens j u in
      let l = foreign_added j u s.live (record { number = s.last + 1; exception = foreign k t }) in omega (arith, a, b, x, l));
}

pub raised_whole : (hs : List ℕ) (s : Story) (k t : ℕ) → Tells hs s → IsWhole (fate (newly (foreign k t) (Foreign (s.last + 1) k t) s) (s.last + 1))
raised_whole hs s k t h =
    let unused = h.unused (s.last + 1) (omega arith) in
    let live = new_live hs s (foreign k t) (Foreign (s.last + 1) k t) h in
    record {
      live = live.0;
      built = subst (λ x. IsBuilt x (makes (s.last + 1) (s.items ++ Foreign (s.last + 1) k t ∷ []))) (sym live.1)
          (told_same (is_make (s.last + 1)) s.items (Foreign (s.last + 1) k t) refl ∙ ap (λ f. f.made) unused);
      given = (
          let m = told_same (is_make (s.last + 1)) s.items (Foreign (s.last + 1) k t) refl in let x : makes (s.last + 1) s.items ≡ 0 = ap (λ f. f.made) unused in
          let n = told_more (is_raise (s.last + 1)) s.items (Foreign (s.last + 1) k t) 0 (ap one_if (same_number (s.last + 1))) (ap (λ f. f.raised) unused) in omega (arith, m, x, n));
      undestroyed = told_same (is_destroy (s.last + 1)) s.items (Foreign (s.last + 1) k t) refl ∙ ap (λ f. f.destroyed) unused;
      unfreed = told_same (is_free (s.last + 1)) s.items (Foreign (s.last + 1) k t) refl ∙ ap (λ f. f.freed) unused;
    }

-- an exception that was being built is built
abbrev pub kept_as : ℕ → Exception → Story → Story
kept_as e x s = record { last = s.last; live = put e x s.live; items = s.items }

pub kept_other : (s : Story) (e : ℕ) (x : Exception) (q : ℕ) → (q ≡ e → ⊥) → fate (kept_as e x s) q ≡ fate s q
kept_other s e x q other =
    same_fate (entries q (put e x s.live)) (entries q s.live) (exception_in (put e x s.live) q) (exception_in s.live q) (makes q s.items) (makes q s.items) (raises q s.items) (raises q s.items)
    (destroys q s.items) (destroys q s.items) (frees q s.items) (frees q s.items) (entries_put s.live e q x) (exception_put s.live e q x other) refl refl refl refl

pub tells_keep : (hs : List ℕ) (s : Story) (e : ℕ) (u : ObjectType) (o : ℕ) (kept : Installed) → IsObject (fate s e) → contains hs e ≡ false → Tells hs s → Tells hs (kept_as e (native u o kept) s)
tells_keep hs s e u o kept this none h = record {
  allowed = h.allowed;
  unused = λ q lt. kept_other s e (native u o kept) q (λ same. (let le = made_before hs s e h this.live in omega (arith, le, lt, same))) ∙ h.unused q lt;
  whole = λ q there. subst IsWhole (sym (kept_other s e (native u o kept) q (handled_other hs e q none there))) (h.whole q there);
  handlers = h.handlers;
  tokens = λ k t. (let x = h.tokens k t in let l = foreign_put k t s.live e (native u o kept) this.live in let n = this.native k t in omega (arith, x, l, n));
}

pub kept_whole : (s : Story) (e : ℕ) (u : ObjectType) (o : ℕ) (kept : Installed) → IsObject (fate s e) → (fate s e).destroyed ≡ 0 → IsWhole (fate (kept_as e (native u o kept) s) e)
kept_whole s e u o kept this whole = record {
  live = entries_put s.live e e (native u o kept) ∙ this.live;
  built = subst (λ x. IsBuilt x (makes e s.items)) (sym (exception_put_there s.live e (native u o kept) this.live)) this.made;
  given = this.given;
  undestroyed = whole;
  unfreed = this.unfreed;
}
