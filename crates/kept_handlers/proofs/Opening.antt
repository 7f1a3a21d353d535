-- Operations that go on with no more handlers than there are, and how they are put together.
use Rattle.std.proofs.Common.{◌≡◌, ℕ, zero, suc, ◌+◌, ◌≤◌, Bool, true, false, List, [], ◌∷◌, ◌++◌, length, Some, refl, ap, ◌∙◌, subst, arith}
use Rattle.std.specs.Prelude.{slice_get, not, if◌then◌else◌}
use Rattle.region_forms.specs.Form.{Op, evaluate, store, bind, call, construct, destroy, make, throw, rethrow, enter, leave, Cleanup, destroy_scope, destroy_part, free_object, leave_handler, Region, protect}
use Rattle.linear_forms.specs.Linear.{FunctionCode, LinearOp, plain, jump, jump_zero, jump_filter, resume}
use Rattle.linear_forms.specs.Tables.{Cover, bare, unpadded, padded}
use Rattle.linear_forms.specs.Sites.{Placed}
use Rattle.linear_forms.specs.CodeRuns.{HasAt}
use Rattle.linear_forms.specs.Exits.{Exit, exit_to, first_label, crosses, name_of}
use Rattle.linear_forms.specs.Emission.{Emitting, may_raise, quiet, put, set_way, leave_code, way_tests, no_way_out, pad_cleanup, exit_cleanup, exit_code}
use Rattle.cost_paths.specs.Control.{place_of}
use Rattle.cost_paths.proofs.Ranks.{alone}
use Rattle.kept_handlers.specs.Depths.{leaves}
use Rattle.kept_handlers.specs.Left.{is_leave, leaves_one}
use Rattle.kept_handlers.proofs.Scanning.{Scan, caught, elsewhere, after, after_all, with_open, exits_after}

leaves_none : (o : Op) → not (is_leave o) ≡ true → leaves (plain o) ≡ 0
leaves_none (evaluate v) e = refl
leaves_none (store p v) e = refl
leaves_none (bind s p) e = refl
leaves_none (call c args) e = refl
leaves_none (construct p k args) e = refl
leaves_none (destroy p k) e = refl
leaves_none (make s) e = refl
leaves_none (throw s t d) e = refl
leaves_none rethrow e = refl
leaves_none (enter s) e = refl
leaves_none leave e = absurd (cc e)

-- how many handlers are open in what has a cleanup
abbrev pub held : Cleanup → ℕ → ℕ
held leave_handler n = suc n
held c n = n

pub begins_held : (a : Region) (cl : Cleanup) (n : ℕ) → with_open (leaves_one (protect a cl)) n ≡ elsewhere (held cl n)
begins_held a (destroy_scope q d) n = refl
begins_held a (destroy_part q d) n = refl
begins_held a (free_object s) n = refl
begins_held a leave_handler n = refl

pub goes_held : (cl : Cleanup) (n o : ℕ) → after (after (record { phase = caught; many = held cl n }) (pad_cleanup cl).op) (resume o) ≡ elsewhere (held cl n)
goes_held (destroy_scope q d) n o = refl
goes_held (destroy_part q d) n o = refl
goes_held (free_object s) n o = refl
goes_held leave_handler n o = refl

pub cleaned_has : (cl : Cleanup) (n : ℕ) → (after (record { phase = caught; many = held cl n }) (pad_cleanup cl).op).many ≡ n
cleaned_has (destroy_scope q d) n = refl
cleaned_has (destroy_part q d) n = refl
cleaned_has (free_object s) n = refl
cleaned_has leave_handler n = refl

pub held_left : (em : Emitting) (cl : Cleanup) (n l : ℕ) (c : Cover) (xs : List Exit) (outs : List ℕ) → after_all (elsewhere (held cl n)) (exit_code em (exit_cleanup cl) c xs l outs) ≡ elsewhere n
held_left em (destroy_scope q d) n l c xs outs = exits_after em n l (destroy q d) c xs outs n refl
held_left em (destroy_part q d) n l c xs outs = refl
held_left em (free_object s) n l c xs outs = refl
held_left em leave_handler n l c xs outs = exits_after em (suc n) l leave c xs outs n refl

-- a function's code with how many handlers are open at each place, as its operations say
module _ (g : FunctionCode) (at : ℕ → Scan) (moves : (p : ℕ) (o : LinearOp) → slice_get g.ops p ≡ Some o → at (p + 1) ≡ after (at p) o) where
  abbrev pub Has : ℕ → List Placed → Type 0
  Has = HasAt (alone g) 0

  abbrev pub depth : ℕ → ℕ
  depth p = (at p).many

  pub moved : (p : ℕ) (s : Scan) (o : LinearOp) → at p ≡ s → slice_get g.ops p ≡ Some o → at (p + 1) ≡ after s o
  moved p s o e there = moves p o there ∙ ap (λ x. after x o) e

  reached : (p q : ℕ) (is : List Placed) → q ≡ p + length is → Has p is → at q ≡ after_all (at p) is
  reached p q [] e has = let same : q ≡ p = omega (arith, e) in ap at same
  reached p q (x ∷ is) e has = reached (p + 1) q is (omega (arith, e)) has.3 ∙ ap (λ s. after_all s is) (moves p x.op has.0)

  pub comes_to : (p q : ℕ) (s t : Scan) (is : List Placed) → q ≡ p + length is → Has p is → at p ≡ s → after_all s is ≡ t → at q ≡ t
  comes_to p q s t is e has here there = reached p q is e has ∙ (ap (λ x. after_all x is) here ∙ there)

  -- a cover's pad begins with no more, and so many are left on the way
  abbrev pub CoverOpens : ℕ → ℕ → Cover → Type 0
  CoverOpens n k bare = Unit {0}
  CoverOpens n k unpadded = Unit {0}
  CoverOpens n k (padded q chain) = depth (q + 1) + k ≤ n

  abbrev pub LeaveOpens : ℕ → LinearOp → Type 0
  LeaveOpens n (plain leave) = 1 ≤ n
  LeaveOpens n o = Unit {0}

  abbrev pub JumpOpens : ℕ → LinearOp → Type 0
  JumpOpens n (jump l) = depth (place_of g l) ≤ n
  JumpOpens n (jump_zero v l) = depth (place_of g l) ≤ n
  JumpOpens n (jump_filter s z l) = depth (place_of g l) ≤ n
  JumpOpens n o = Unit {0}

  abbrev pub Opens : ℕ → Placed → Type 0
  Opens p x = LeaveOpens (depth p) x.op × JumpOpens (depth p) x.op × CoverOpens (depth p) (leaves x.op) x.cover

  abbrev pub AllOpen : ℕ → List Placed → Type 0
  AllOpen p [] = Unit {0}
  AllOpen p (x ∷ xs) = Opens p x × AllOpen (p + 1) xs

  pub both_open : (p q : ℕ) (a b : List Placed) → q ≡ p + length a → AllOpen p a → AllOpen q b → AllOpen p (a ++ b)
  both_open p q [] b e h k = let same : q ≡ p = omega (arith, e) in subst (λ n. AllOpen n b) same k
  both_open p q (x ∷ a) b e h k = (h.0, both_open (p + 1) q a b (omega (arith, e)) h.1 k)

  -- the exits of a part and its pad have no more
  pub record Around (n : ℕ) (c : Cover) (xs : List Exit) : Type 0 where
    pub exits : (m : ℕ) → depth (place_of g (first_label m xs)) ≤ n
    pub cover : CoverOpens n 0 c

  pub covered : (n e k : ℕ) (c : Cover) → e + k ≤ n → CoverOpens e 0 c → CoverOpens n k c
  covered n e k bare le h = tt
  covered n e k unpadded le h = tt
  covered n e k (padded q chain) le h = omega (arith, le, h)

  pub has_many : (p : ℕ) (s : Scan) → at p ≡ s → depth p ≡ s.many
  has_many p s e = ap (λ x. x.many) e

  pub covered_at : (p n : ℕ) (c : Cover) → depth p ≡ n → CoverOpens n 0 c → CoverOpens (depth p) 0 c
  covered_at p n c e h = covered (depth p) n 0 c (omega (arith, e)) h

  -- a label has no more
  pub label_has : (l r n : ℕ) → place_of g l ≡ r → at r ≡ elsewhere n → depth (place_of g l) ≤ n
  label_has l r n e there = let same = ap depth e in let many = has_many r (elsewhere n) there in omega (arith, same, many)

  pub to_label : (l r n p : ℕ) → place_of g l ≡ r → at r ≡ elsewhere n → depth p ≡ n → depth (place_of g l) ≤ depth p
  to_label l r n p e there here = let le = label_has l r n e there in omega (arith, le, here)

  -- inside of a region that ends at a label
  pub inside : (l r n : ℕ) (c d : Cover) (xs : List Exit) → place_of g l ≡ r → at r ≡ elsewhere n → CoverOpens n 0 d → Around n c xs → Around n d (exit_to l ∷ xs)
  inside l r n c d xs e there cover around = record { exits = exits; cover = cover }
    where
      exits : (m : ℕ) → depth (place_of g (first_label m (exit_to l ∷ xs))) ≤ n
      exits zero = label_has l r n e there
      exits (suc m) = around.exits m

  put_covered : (p n : ℕ) (o : Op) (c : Cover) (b : Bool) → depth p ≡ n → leaves (plain o) ≡ 0 → CoverOpens n 0 c → CoverOpens (depth p) (leaves (plain o)) (if b then c else bare)
  put_covered p n o c true e none h = covered (depth p) n (leaves (plain o)) c (omega (arith, e, none)) h
  put_covered p n o c false e none h = tt

  leave_none : (o : Op) (n : ℕ) → not (is_leave o) ≡ true → LeaveOpens n (plain o)
  leave_none (evaluate v) n e = tt
  leave_none (store p v) n e = tt
  leave_none (bind s p) n e = tt
  leave_none (call c args) n e = tt
  leave_none (construct p k args) n e = tt
  leave_none (destroy p k) n e = tt
  leave_none (make s) n e = tt
  leave_none (throw s t d) n e = tt
  leave_none rethrow n e = tt
  leave_none (enter s) n e = tt
  leave_none leave n e = absurd (cc e)

  pub put_opens : (p n : ℕ) (o : Op) (c : Cover) → not (is_leave o) ≡ true → depth p ≡ n → CoverOpens n 0 c → Opens p (put o c)
  put_opens p n o c e here h = (leave_none o (depth p) e, tt, put_covered p n o c (may_raise o) here (leaves_none o e) h)

  module _ (em : Emitting) where
    pub leave_opens : (m p n : ℕ) (c : Cover) (xs : List Exit) → Has p (leave_code em m xs) → at p ≡ elsewhere n → Around n c xs → AllOpen p (leave_code em m xs)
    leave_opens m p n c xs has here around = go (crosses m xs) has
      where
        jumps : (q : ℕ) → depth q ≡ n → depth (place_of g (first_label m xs)) ≤ depth q
        jumps q e = let le = around.exits m in omega (arith, le, e)

        go : (b : Bool) → Has p (if b then set_way em (name_of m xs) ∷ quiet (jump (first_label m xs)) ∷ [] else quiet (jump (first_label m xs)) ∷ []) →
            AllOpen p (if b then set_way em (name_of m xs) ∷ quiet (jump (first_label m xs)) ∷ [] else quiet (jump (first_label m xs)) ∷ [])
        go true has = ((tt, tt, tt), ((tt, jumps (p + 1) (has_many (p + 1) (elsewhere n) (moved p (elsewhere n) (set_way em (name_of m xs)).op here has.0)), tt), tt))
        go false has = ((tt, jumps p (has_many p (elsewhere n) here), tt), tt)

    pub ways_open : (p n : ℕ) (c : Cover) (xs : List Exit) (outs : List ℕ) → Has p (way_tests em xs outs) → at p ≡ elsewhere n → Around n c xs → AllOpen p (way_tests em xs outs)
    ways_open p n c xs [] has here around = tt
    ways_open p n c xs (m ∷ outs) has here around =
        let le = around.exits m in
        let many = has_many p (elsewhere n) here in
        ((tt, omega (arith, le, many), tt), ways_open (p + 1) n c xs outs has.3 (moves p _ has.0 ∙ ap elsewhere many) around)

    pub no_way_opens : (p : ℕ) (outs : List ℕ) → AllOpen p (no_way_out em outs)
    no_way_opens p [] = tt
    no_way_opens p (m ∷ outs) = ((tt, tt, tt), tt)

    pub cleanup_opens : (p n : ℕ) (cl : Cleanup) → depth p ≡ held cl n → Opens p (pad_cleanup cl)
    cleanup_opens p n (destroy_scope q d) e = (tt, tt, tt)
    cleanup_opens p n (destroy_part q d) e = (tt, tt, tt)
    cleanup_opens p n (free_object s) e = (tt, tt, tt)
    cleanup_opens p n leave_handler e = (omega (arith, e), tt, tt)
