-- A walk over instructions: what is left behind one of them, and how long a row holds on.
use Rattle.std.proofs.Common.{◌≡◌, ◌≤◌, ◌<◌, ◌+◌, ℕ, zero, suc, true, false, List, [], ◌∷◌, Option, Some, None, Ok, Err, refl, ap, sym, ◌∙◌, subst, arith, nat_lt, fold}
use Rattle.std.proofs.lemmas.Bool.Decides.{nat_tests}
use Rattle.eh_bytes.specs.Memory.{Part}
use Rattle.table_forms.specs.declared.found.Row.{Row}
use Rattle.table_forms.specs.Fault.{Fault}
use Rattle.table_forms.specs.Fde.{Fde, row_at}
use Rattle.table_forms.specs.Instruction.{Instruction, nop, go_to, advance, set_cfa, set_cfa_register, set_cfa_offset, set_rule, restore, remember_state, restore_state, Coding, instruction_at}
use Rattle.table_forms.specs.Instructions.{states_after, instructions_after, instructions_within}
use Rattle.table_forms.specs.Row.{Folding, begun, row_of, restored, after, location_after, stepped, with_initial}
use Rattle.table_forms.proofs.RowFold.{fold_off, stepped_off, stepped_on}
use Rattle.frame_read.specs.Known.{IsKnown}
use Rattle.frame_read.specs.RowWalk.{AtEnd, Comes, Goes, HoldsUntil, IsCommon, IsIn, IsLeft, IsNext, IsOwn, Stops}
use Rattle.frame_read.specs.Seen.{coding_seen}
use Rattle.frame_read.specs.declared.lookup.FdeHere.{FdeHere}
use Rattle.frame_read.specs.declared.row_walk.Stretch.{Stretch}
use Rattle.frame_read.specs.States.{list_of, states_of}
use Rattle.frame_read.proofs.Folds.{begins_with, fails_at, ends_at, and_states, and_list, states_read}

-- what is left behind the instruction at a place
pub record LeftBehind (c : Coding) (part : Part) (stop states : ℕ) (i : Instruction) (next : ℕ) (left : List Instruction) (behind : ℕ) : Type 0 where
  pub states' : ℕ
  pub rest : List Instruction
  pub counts : states_after i states ≡ Some states'
  pub first : left ≡ i ∷ rest
  pub is : IsLeft c part stop states' next rest behind

pub left_behind : {c : Coding} {part : Part} {stop states p : ℕ} {left : List Instruction} {behind : ℕ} (i : Instruction) (next : ℕ) → p < stop → nat_lt p stop ≡ true → p < next →
    instruction_at c part stop p ≡ Ok (i, next) → IsLeft c part stop states p left behind → LeftBehind c part stop states i next left behind
left_behind {c = c} {part = part} {stop = stop} {states = states} {p = p} {left = left} {behind = behind} i next inside test on read l = by l.fuel l.enough l.list l.kept
  where
    by : (n : ℕ) → stop ≤ p + n → left ≡ list_of (instructions_within n c part stop p states) → states_of (instructions_within n c part stop p states) ≡ Ok behind →
        LeftBehind c part stop states i next left behind
    by zero enough list kept = absurd (omega (arith, enough, inside))
    by (suc n) enough list kept = go (states_after i states) refl
      where
        first : instructions_within (suc n) c part stop p states ≡ instructions_after (part.file_at + p) i (states_after i states) (instructions_within n c part stop next)
        first = begins_with c part stop states p n i next test read

        go : (o : Option ℕ) → states_after i states ≡ o → LeftBehind c part stop states i next left behind
        go None e =
            let wrong : states_of (instructions_after (part.file_at + p) i None (instructions_within n c part stop next)) ≡ Ok behind =
            subst (λ o. states_of (instructions_after (part.file_at + p) i o (instructions_within n c part stop next)) ≡ Ok behind) e (sym (ap states_of first) ∙ kept) in
            absurd cc
        go (Some states') e =
            let rest = instructions_within n c part stop next states' in
            let all = first ∙ ap (λ o. instructions_after (part.file_at + p) i o (instructions_within n c part stop next)) e in
            let kept' = sym (and_states i rest) ∙ ap states_of (sym all) ∙ kept in
            record {
              states' = states';
              rest = list_of rest;
              counts = e;
              first = list ∙ ap list_of all ∙ and_list i rest behind kept';
              is = record { fuel = n; enough = omega (arith, enough, on); list = refl; kept = kept' };
            }

-- none is refused
pub left_whole : {c : Coding} {part : Part} {stop states p : ℕ} {left : List Instruction} {behind : ℕ} (f : Fault) → p < stop → nat_lt p stop ≡ true →
    instruction_at c part stop p ≡ Err f → IsLeft c part stop states p left behind → ⊥
left_whole {c = c} {part = part} {stop = stop} {states = states} {p = p} {left = left} {behind = behind} f inside test read l = by l.fuel l.enough l.kept
  where
    by : (n : ℕ) → stop ≤ p + n → states_of (instructions_within n c part stop p states) ≡ Ok behind → ⊥
    by zero enough kept = omega (arith, enough, inside)
    by (suc n) enough kept = let wrong : Err f ≡ Ok behind = ap states_of (sym (fails_at c part stop states p n f test read)) ∙ kept in cc

-- at the end nothing is
pub left_none : {c : Coding} {part : Part} {stop states p : ℕ} {left : List Instruction} {behind : ℕ} → nat_lt p stop ≡ false → IsLeft c part stop states p left behind → (left ≡ []) × (behind ≡ states)
left_none {c = c} {part = part} {stop = stop} {states = states} {p = p} outside l =
    let e = ends_at c part stop states p outside l.fuel in (l.list ∙ ap list_of e, ap states_read (sym l.kept ∙ ap states_of e))

-- one instruction on, which moves to no place above the pc
pub comes_on : {c : Coding} {part : Part} {stop pc : ℕ} {s : Folding} {before : List Instruction} {behind : ℕ} {t : Folding} {states p : ℕ} (i : Instruction) (next states' : ℕ) (u : Folding) →
    p < stop → nat_lt p stop ≡ true → p < next → instruction_at c part stop p ≡ Ok (i, next) → states_after i states ≡ Some states' → t.stopped ≡ false → location_after i t.location ≤ pc → u ≡ after t i →
    Comes c part stop pc s before behind t states p → Comes c part stop pc s before behind u states' next
comes_on {c = c} {part = part} {stop = stop} {pc = pc} {s = s} {before = before} {behind = behind} {t = t} {states = states} {p = p} i next states' u inside test on read counts goes low is come =
    let l = left_behind i next inside test on read come.is in
    record {
      left = l.rest;
      is = subst (λ n. IsLeft c part stop n next l.rest behind) (some_same (sym l.counts ∙ counts)) l.is;
      same = λ q from. stepping q from l.rest ∙ ap (fold (stepped q) t) (sym l.first) ∙ come.same q from;
    }
  where
    some_same : {m n : ℕ} → Some m ≡ Some n → m ≡ n
    some_same e = cc

    stepping : (q : ℕ) → pc ≤ q → (rest : List Instruction) → fold (stepped q) u rest ≡ fold (stepped q) t (i ∷ rest)
    stepping q from rest =
        let below : nat_lt q (location_after i t.location) ≡ false = grind (arith, nat_tests, low, from) in
        ap (λ x. fold (stepped q) x rest) (is ∙ sym (stepped_on q t i goes below))

-- the fold over what is left stops before the next instruction
stops_at : (q : ℕ) (s : Folding) (i : Instruction) (rest : List Instruction) → s.stopped ≡ false → q < location_after i s.location → fold (stepped q) s (i ∷ rest) ≡ record s { stopped = true }
stops_at q s i rest goes above =
    let test : nat_lt q (location_after i s.location) ≡ true = grind (arith, nat_tests, above) in
    let off = stepped_off q s i goes test in
    ap (λ x. fold (stepped q) x rest) off ∙ fold_off q (record s { stopped = true }) rest refl

-- so the row holds on up to where it moves, or to the end
pub own_holds : (stop p : ℕ) (f : Fde) (pc : ℕ) (s : Folding) (left : List Instruction) (until : Option ℕ) → s.stopped ≡ false → Stops stop pc s left p until →
    ((q : ℕ) → pc ≤ q → (fold (stepped q) s left).row ≡ row_at f q) → HoldsUntil f pc s.row until
own_holds stop p f pc s left None goes none gives = λ q from. sym (gives q from) ∙ ap (λ is. (fold (stepped q) s is).row) none.0
own_holds stop p f pc s left (Some l) goes (i, rest, first, at, above) gives =
    (above, λ q from to. sym (gives q from) ∙ ap (λ is. (fold (stepped q) s is).row) first ∙ ap (λ (x : Folding). x.row) (stops_at q s i rest goes (subst (λ n. q < n) (sym at) to)))

pub common_holds : (stop p : ℕ) (f : Fde) (pc : ℕ) (s : Folding) (left behind : List Instruction) (l : ℕ) → s.stopped ≡ false → Stops stop pc s left p (Some l) →
    ((q : ℕ) → pc ≤ q → (fold (stepped q) (with_initial (fold (stepped q) s left)) behind).row ≡ row_at f q) → HoldsUntil f pc s.row (Some l)
common_holds stop p f pc s left behind l goes (i, rest, first, at, above) gives = (
  above,
  λ q from to.
      sym (gives q from) ∙ ap (λ is. (fold (stepped q) (with_initial (fold (stepped q) s is)) behind).row) first
      ∙ ap (λ x. (fold (stepped q) (with_initial x) behind).row) (stops_at q s i rest goes (subst (λ n. q < n) (sym at) to))
      ∙ ap (λ (x : Folding). x.row) (fold_off q (with_initial (record s { stopped = true })) behind refl),
)

-- ---- before the first instruction
begins : (part : Part) (h : FdeHere) (f : Fde) (known : IsKnown part h f) (s : Folding) → s ≡ begun h.fde.region.start → (q : ℕ) →
    (fold (stepped q) (with_initial (fold (stepped q) s known.common.list)) known.own.list).row ≡ row_at f q
unfolding row_of
begins part h f known s is q =
    ap (λ x. (fold (stepped q) (with_initial (fold (stepped q) x known.common.list)) known.own.list).row) is ∙ sym (ap (λ (x : Fde). row_at x q) known.same)

pub starts_common : (part : Part) (size : ℕ) (h : FdeHere) (f : Fde) (own : Stretch) (s : Folding) (states : ℕ) → own.first ≡ h.fde.first → own.stop ≡ h.fde.stop → own.first ≤ own.stop → own.stop ≤ size →
    s ≡ begun h.fde.region.start → states ≡ 0 → IsKnown part h f → IsCommon (coding_seen h.cie.coding) part size own h.cie.stop states h.cie.first s f f.region.start
starts_common part size h f own s states same_first same_stop first stop is none known =
    let c = coding_seen h.cie.coding in
    let common : IsLeft c part h.cie.stop 0 h.cie.first known.common.list known.common.states =
    record { fuel = h.cie.stop; enough = omega arith; list = sym (ap list_of known.common_read); kept = ap states_of known.common_read } in
    let behind : IsLeft c part h.fde.stop known.common.states h.fde.first known.own.list known.own.states =
    record { fuel = h.fde.stop; enough = omega arith; list = sym (ap list_of known.own_read); kept = ap states_of known.own_read } in
    record {
      left = known.common.list;
      between = known.common.states;
      is = subst (λ n. IsLeft c part h.cie.stop n h.cie.first known.common.list known.common.states) (sym none) common;
      behind = known.own.list;
      after = known.own.states;
      own_is = subst (λ a. IsLeft c part a known.common.states own.first known.own.list known.own.states) (sym same_stop)
          (subst (λ b. IsLeft c part h.fde.stop known.common.states b known.own.list known.own.states) (sym same_first) behind);
      own_first = first;
      own_stop = stop;
      gives = λ q from. begins part h f known s is q;
    }

-- ---- from one place to the next
module _ (c : Coding) (part : Part) (size stop : ℕ) (f : Fde) (from pc : ℕ) (before : from ≤ pc) (s t : Folding) (states p states' p' : ℕ) (until : Option ℕ) (goes : t.stopped ≡ false) where
  abbrev own_on : (o : IsOwn c part stop states p s f from) → Goes c part stop pc s o.left o.after t states' p' until → IsOwn c part stop states' p' t f pc
  own_on o g = record {
    left = g.0.left;
    after = o.after;
    is = g.0.is;
    gives = λ q behind. ap (λ (x : Folding). x.row) (g.0.same q behind) ∙ o.gives q (omega (arith, before, behind));
  }

  abbrev common_on : (own : Stretch) (o : IsCommon c part size own stop states p s f from) → Goes c part stop pc s o.left o.between t states' p' until → IsCommon c part size own stop states' p' t f pc
  common_on own o g = record {
    left = g.0.left;
    between = o.between;
    is = g.0.is;
    behind = o.behind;
    after = o.after;
    own_is = o.own_is;
    own_first = o.own_first;
    own_stop = o.own_stop;
    gives = λ q behind. ap (λ x. (fold (stepped q) (with_initial x) o.behind).row) (g.0.same q behind) ∙ o.gives q (omega (arith, before, behind));
  }

-- what is left of a walk's list, where that is gone over
abbrev pub ListLeft : (c : Coding) (part : Part) (size : ℕ) (own : Option Stretch) (stop states p : ℕ) (s : Folding) (f : Fde) (pc : ℕ) → Type 0
ListLeft c part size own stop states p s f pc = (left : List Instruction) × (after' : ℕ) × IsLeft c part stop states p left after'

pub list_left : (c : Coding) (part : Part) (size : ℕ) (own : Option Stretch) (stop states p : ℕ) (s : Folding) (f : Fde) (pc : ℕ) → IsIn c part size own stop states p s f pc → ListLeft c part size own stop states p s f pc
list_left c part size None stop states p s f pc o = (o.left, o.after, o.is)
list_left c part size (Some own) stop states p s f pc o = (o.left, o.between, o.is)

-- the fold goes over any instructions that are left
abbrev pub GoesOver : Coding → Part → ℕ → ℕ → Folding → ℕ → ℕ → Folding → ℕ → ℕ → Option ℕ → Type 0
GoesOver c part stop pc s states p t states' p' until = (left : List Instruction) (after' : ℕ) → IsLeft c part stop states p left after' → Goes c part stop pc s left after' t states' p' until

-- it stops before an instruction of the list
pub walks_on : (c : Coding) (part : Part) (size : ℕ) (own : Option Stretch) (stop : ℕ) (f : Fde) (from pc : ℕ) → from ≤ pc → (s t : Folding) (states p states' p' l : ℕ) → t.stopped ≡ false →
    IsIn c part size own stop states p s f from → GoesOver c part stop pc s states p t states' p' (Some l) →
    IsIn c part size own stop states' p' t f pc × HoldsUntil f pc t.row (Some l)
walks_on c part size None stop f from pc before s t states p states' p' l goes o over =
    let g = over o.left o.after o.is in
    let on = own_on c part size stop f from pc before s t states p states' p' (Some l) goes o g in
    (on, own_holds stop p' f pc t on.left (Some l) goes g.1 on.gives)
walks_on c part size (Some own) stop f from pc before s t states p states' p' l goes o over =
    let g = over o.left o.between o.is in
    let on = common_on c part size stop f from pc before s t states p states' p' (Some l) goes own o g in
    (on, common_holds stop p' f pc t on.left on.behind l goes g.1 on.gives)

-- it comes to the end of the list
pub walks_out : (c : Coding) (part : Part) (size : ℕ) (own : Option Stretch) (stop : ℕ) (f : Fde) (from pc : ℕ) → from ≤ pc → (s t : Folding) (states p states' p' : ℕ) → t.stopped ≡ false →
    IsIn c part size own stop states p s f from → GoesOver c part stop pc s states p t states' p' None → AtEnd c part size own stop states' p' t f pc
walks_out c part size None stop f from pc before s t states p states' p' goes o over =
    let g = over o.left o.after o.is in (own_on c part size stop f from pc before s t states p states' p' None goes o g, g.1.0)
walks_out c part size (Some own) stop f from pc before s t states p states' p' goes o over =
    let g = over o.left o.between o.is in
    let on = common_on c part size stop f from pc before s t states p states' p' None goes own o g in
    let ended = g.1.1 in
    let test : nat_lt p' stop ≡ false = grind (arith, nat_tests, ended) in
    let same = (left_none test on.is).1 in
    record {
      behind = on.behind;
      after = on.after;
      own_is = subst (λ n. IsLeft c part own.stop n own.first on.behind on.after) same on.own_is;
      own_first = on.own_first;
      own_stop = on.own_stop;
      gives = λ q behind. sym (ap (λ is. (fold (stepped q) (with_initial (fold (stepped q) t is)) on.behind).row) g.1.0) ∙ on.gives q behind;
    }

-- behind it come the instructions of the FDE
pub walks_behind : (c : Coding) (part : Part) (size : ℕ) (own : Stretch) (f : Fde) (pc : ℕ) (s k t : Folding) (states counted states' p' : ℕ) (until : Option ℕ) → t.stopped ≡ false → k ≡ with_initial s →
    counted ≡ states → IsNext c part size own states s f pc → GoesOver c part own.stop pc k counted own.first t states' p' until →
    IsOwn c part own.stop states' p' t f pc × HoldsUntil f pc t.row until
walks_behind c part size own f pc s k t states counted states' p' until goes is count o over =
    let g = over o.behind o.after (subst (λ n. IsLeft c part own.stop n own.first o.behind o.after) (sym count) o.own_is) in
    let on : IsOwn c part own.stop states' p' t f pc = record {
      left = g.0.left;
      after = o.after;
      is = g.0.is;
      gives = λ q behind. ap (λ (x : Folding). x.row) (g.0.same q behind) ∙ ap (λ x. (fold (stepped q) x o.behind).row) is ∙ o.gives q behind;
    } in
    (on, own_holds own.stop p' f pc t on.left until goes g.1 on.gives)

-- an instruction stops nothing
pub after_goes : (s : Folding) (i : Instruction) → (after s i).stopped ≡ s.stopped
after_goes s nop = refl
after_goes s (go_to l) = refl
after_goes s (advance n) = refl
after_goes s (set_cfa r n) = refl
after_goes s (set_cfa_register r) = refl
after_goes s (set_cfa_offset n) = refl
after_goes s (set_rule r rule) = refl
after_goes s (restore r) = refl
after_goes s remember_state = refl
after_goes s restore_state = by s.states
  where
    by : (rows : List Row) → (restored s rows).stopped ≡ s.stopped
    by [] = refl
    by (row ∷ rows) = refl
