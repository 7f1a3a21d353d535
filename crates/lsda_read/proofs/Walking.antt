-- A chain on its way: what stands, what is known, and what its end will say of the records on the path.
use Rattle.std.proofs.Common.{◌≡◌, ◌≤◌, ◌<◌, ◌+◌, ◌-◌, ◌==◌, ◌⊎◌, inl, inr, ℕ, ℤ, zero, suc, Bool, true, false, List, [], ◌∷◌, ◌++◌, length, take, nat_lt, Option, Some, None, refl, ap, sym, subst, ◌∙◌, arith, if◌then◌else◌}
use Rattle.std.specs.Prelude.{is_some}
use Rattle.std.specs.List.{AllByRecursion}
use Rattle.std.proofs.lemmas.Bool.Decides.{nat_tests}
use Rattle.std.proofs.lemmas.List.{length-append, length-take}
use Rattle.eh_bytes.specs.Memory.{Part, Memory}
use Rattle.table_forms.specs.declared.found.Next.TheVariants.{Goes}
use Rattle.table_forms.specs.declared.found.Action.TheVariants.{Record, Outside}
use Rattle.table_forms.specs.Fault.{Fault, joined, least}
use Rattle.table_forms.specs.LsdaHead.{Head}
use Rattle.table_forms.specs.LsdaChain.{action_at, action_end}
use Rattle.table_forms.specs.LsdaTypes.{filter_faults}
use Rattle.table_forms.proofs.Least.{joined_joined, joined_none}
use Rattle.table_forms.proofs.Beyond.{action_behind}
use Rattle.lsda_read.specs.declared.known.ChainEnd.{ChainEnd}
use Rattle.lsda_read.specs.declared.known.ChainEnd.TheVariants as ends
use Rattle.lsda_read.specs.Rests.{chain_rest}
use Rattle.lsda_read.specs.Known.{AddsWithin, AddsFrom, IsKnown, Walked, enough, unknown, is_on, end_fault}
use Rattle.lsda_read.specs.Turns.{GoesOn, IsOver}
use Rattle.lsda_read.proofs.Absorbed.{Absorbs, absorbs_more, taken_in}
use Rattle.lsda_read.proofs.Adds.{adds_more, adds_later, adds_through, adds_back, adds_loop, adds_over}
use Rattle.lsda_read.proofs.Chains.{chain_goes}
use Rattle.lsda_read.proofs.Path.{all_push, all_front, all_last, all_by, all_of, all_each, all_at, on_front, on_last}
use Rattle.lsda_read.proofs.Unknown.{Grows, unknown_below, unknown_less}

-- the walk began with so many unknown places, and stands at x; the path has the records that it met
pub record Walking (memory : Memory) (part : Part) (h : Head) (whole : ℕ → ℕ → Option Fault) (room : ℕ) (stands : Option Fault) (chains : ℕ → Option ChainEnd) (path : List ℕ) (x : ℕ) : Type 0 where
  pub small : room ≤ length part.bytes
  pub within : unknown chains (length part.bytes) + length path ≤ room
  pub total : (site a : ℕ) → whole site a ≡ joined stands (chain_rest memory part h site a (1 + length part.bytes - length path) x)
  pub known : (p : ℕ) (e : ChainEnd) → chains p ≡ Some e → AddsFrom memory part h stands (1 + length part.bytes - room) p e ⊎ ((e ≡ ends.Repeated) × (is_on path p ≡ true))
  pub leads : (more : Option Fault) (b : ℕ) (e : ChainEnd) → Absorbs stands more → AddsFrom memory part h more b x e →
      AllByRecursion (λ p. AddsFrom memory part h more (b + length path) p e) path
  pub turns : (more : Option Fault) (n : ℕ) → Absorbs stands more → AllByRecursion (λ p. AddsWithin memory part h more n p ends.Repeated) path →
      AddsWithin memory part h more n x ends.Repeated → AllByRecursion (λ p. AddsWithin memory part h more (suc n) p ends.Repeated) path

pub begins : (memory : Memory) (part : Part) (h : Head) (stands : Option Fault) (chains : ℕ → Option ChainEnd) (x : ℕ) → IsKnown memory part h stands chains →
    Walking memory part h (λ site a. joined stands (chain_rest memory part h site a (1 + length part.bytes) x)) (unknown chains (length part.bytes)) stands chains [] x
begins memory part h stands chains x known =
    let all : 1 + length part.bytes - 0 ≡ 1 + length part.bytes = omega arith in
    record {
      small = unknown_below chains (length part.bytes);
      within = omega arith;
      total = λ site a. ap (λ n. joined stands (chain_rest memory part h site a n x)) (sym all);
      known = λ p e at. inl (known p e at);
      leads = λ more b e absorbs adds. tt;
      turns = λ more n absorbs all adds. tt;
    }

-- a record lies before the end of its part
pub record_inside : (part : Part) (h : Head) (p q : ℕ) (filter : ℤ) → action_at part h p ≡ Record filter (Goes q) → p < length part.bytes
record_inside part h p q filter read = cases (nat_lt p (length part.bytes)) refl
  where
    end : ℕ
    end = action_end part h.types

    short : length (take end part.bytes) ≤ length part.bytes
    short = omega (arith, length-take end part.bytes)

    differ : Outside ≡ Record filter (Goes q) → ⊥
    differ e = cc

    cases : (b : Bool) → nat_lt p (length part.bytes) ≡ b → p < length part.bytes
    cases true below = grind (arith, nat_tests)
    cases false above =
        let behind : length part.bytes ≤ p = grind (arith, nat_tests) in
        absurd (differ (sym (action_behind (take end part.bytes) h.actions_at p (omega (arith, behind, short))) ∙ read))

-- what a map has with one more key
abbrev pub Puts : (ℕ → Option ChainEnd) → (ℕ → Option ChainEnd) → ℕ → ChainEnd → Type 0
Puts chains now x e = (q : ℕ) → now q ≡ (if x == q then Some e else chains q)

put_grows : (chains now : ℕ → Option ChainEnd) (x : ℕ) (e : ChainEnd) → Puts chains now x e → Grows chains now
put_grows chains now x e puts q is = ap is_some (puts q) ∙ by (x == q)
  where
    by : (b : Bool) → is_some (if b then Some e else chains q) ≡ true
    by true = refl
    by false = is

put_here : (chains now : ℕ → Option ChainEnd) (x : ℕ) (e : ChainEnd) → Puts chains now x e → is_some (now x) ≡ true
put_here chains now x e puts = let same : (x == x) ≡ true = grind (arith, nat_tests) in ap is_some (puts x ∙ ap (λ b. if b then Some e else chains x) same)

module _ (memory : Memory) (part : Part) (h : Head) (whole : ℕ → ℕ → Option Fault) (room : ℕ) where
  len : ℕ
  len = length part.bytes

  -- a record that is met, and where it goes on
  pub goes_on : (stands now : Option Fault) (chains chains' : ℕ → Option ChainEnd) (path : List ℕ) (x q : ℕ) → Walking memory part h whole room stands chains path x →
      GoesOn memory part h stands now x q → chains x ≡ None → Puts chains chains' x ends.Repeated → Walking memory part h whole room now chains' (path ++ x ∷ []) q
  goes_on stands now chains chains' path x q w on new puts =
      let ff = least (filter_faults memory part h h.types x on.filter) in
      let inside : x < length part.bytes = record_inside part h x q on.filter on.next in
      let less : unknown chains' (length part.bytes) < unknown chains (length part.bytes) =
      unknown_less chains chains' (length part.bytes) x inside (ap is_some new) (put_here chains chains' x ends.Repeated puts) (put_grows chains chains' x ends.Repeated puts) in
      let longer : length (path ++ x ∷ []) ≡ length path + 1 = length-append path (x ∷ []) in
      let within : unknown chains (length part.bytes) + length path ≤ room = w.within in
      let small : room ≤ length part.bytes = w.small in
      let left : 1 + length part.bytes - length path ≡ suc (1 + length part.bytes - length (path ++ x ∷ [])) = omega (arith, longer, within, small, less) in
      let absorbs : (more : Option Fault) → Absorbs now more → Absorbs stands more = λ more a y e. a y (rw on.stands (absorbs_more stands ff y e)) in
      let taken : (more : Option Fault) → Absorbs now more → joined more ff ≡ more = λ more a. a ff (rw on.stands (taken_in stands ff)) in
      record {
        small = small;
        within = omega (arith, longer, within, less);
        total = λ site a.
            w.total site a ∙ ap (λ n. joined stands (chain_rest memory part h site a n x)) left ∙
            ap (joined stands) (chain_goes memory part h site a x (1 + length part.bytes - length (path ++ x ∷ [])) q on.filter on.next) ∙
            joined_joined stands ff (chain_rest memory part h site a (1 + length part.bytes - length (path ++ x ∷ [])) q) ∙
            ap (λ o. joined o (chain_rest memory part h site a (1 + length part.bytes - length (path ++ x ∷ [])) q)) (sym on.stands);
        known = λ p e at. by_key p e (x == p) refl (sym (puts p) ∙ at);
        leads = λ more b e a adds.
            let here : AddsFrom memory part h more (suc b) x e = adds_back memory part h more b x q on.filter e on.next (taken more a) adds in
            all_push (λ p. AddsFrom memory part h more (b + length (path ++ x ∷ [])) p e) path x
            (all_by (λ p. AddsFrom memory part h more (suc b + length path) p e) (λ p. AddsFrom memory part h more (b + length (path ++ x ∷ [])) p e) path
            (λ p adds. adds_later memory part h more (suc b + length path) (b + length (path ++ x ∷ [])) p e (omega (arith, longer)) adds)
            (w.leads more (suc b) e (absorbs more a) here))
            (adds_later memory part h more (suc b) (b + length (path ++ x ∷ [])) x e (omega (arith, longer)) here);
        turns = λ more n a all adds.
            let P : ℕ → Type 0 = λ p. AddsWithin memory part h more n p ends.Repeated in
            all_push (λ p. AddsWithin memory part h more (suc n) p ends.Repeated) path x
            (w.turns more n (absorbs more a) (all_front P path x all) (all_last P path x all))
            (adds_through memory part h more n x q on.filter ends.Repeated on.next (taken more a) adds);
      }
    where
      some_same : (e f : ChainEnd) → Some e ≡ Some f → f ≡ e
      some_same e f same = cc

      by_key : (p : ℕ) (e : ChainEnd) (b : Bool) → (x == p) ≡ b → (if b then Some ends.Repeated else chains p) ≡ Some e →
          AddsFrom memory part h now (1 + length part.bytes - room) p e ⊎ ((e ≡ ends.Repeated) × (is_on (path ++ x ∷ []) p ≡ true))
      by_key p e true here at = inr (some_same ends.Repeated e at, on_last path x p here)
      by_key p e false here at = old (w.known p e at)
        where
          old : AddsFrom memory part h stands (1 + length part.bytes - room) p e ⊎ ((e ≡ ends.Repeated) × (is_on path p ≡ true)) →
              AddsFrom memory part h now (1 + length part.bytes - room) p e ⊎ ((e ≡ ends.Repeated) × (is_on (path ++ x ∷ []) p ≡ true))
          old (inl adds) = inl (adds_more memory part h stands now (least (filter_faults memory part h h.types x on.filter)) (1 + length part.bytes - room) p e on.stands adds)
          old (inr (r, on')) = inr (r, on_front path x p on')

  -- what was known before, as more is refused and more is known
  others_stay : (stands now more : Option Fault) (chains : ℕ → Option ChainEnd) (path : List ℕ) (x p : ℕ) (e : ChainEnd) → now ≡ joined stands more → Walking memory part h whole room stands chains path x →
      chains p ≡ Some e → AddsFrom memory part h now (enough part chains) p e ⊎ (is_on path p ≡ true)
  others_stay stands now more chains path x p e is w at = by (w.known p e at)
    where
      fewer : 1 + length part.bytes - room ≤ enough part chains
      fewer = let within : unknown chains (length part.bytes) + length path ≤ room = w.within in omega (arith, within)

      by : AddsFrom memory part h stands (1 + length part.bytes - room) p e ⊎ ((e ≡ ends.Repeated) × (is_on path p ≡ true)) →
          AddsFrom memory part h now (enough part chains) p e ⊎ (is_on path p ≡ true)
      by (inl adds) = inl (adds_later memory part h now (1 + length part.bytes - room) (enough part chains) p e fewer (adds_more memory part h stands now more (1 + length part.bytes - room) p e is adds))
      by (inr (r, on)) = inr on

  -- the chain ends at x
  pub is_over : (stands now : Option Fault) (chains : ℕ → Option ChainEnd) (path : List ℕ) (x : ℕ) (e : ChainEnd) → Walking memory part h whole room stands chains path x →
      IsOver memory part h stands now x e → Walked memory part h whole now chains path e
  is_over stands now chains path x e w over =
      let within : unknown chains (length part.bytes) + length path ≤ room = w.within in
      let small : room ≤ length part.bytes = w.small in
      let left : 1 + length part.bytes - length path ≡ suc (length part.bytes - length path) = omega (arith, within, small) in
      let absorbs : Absorbs stands now = λ y e. rw over.stands (absorbs_more stands over.more y e) in
      record {
        total = λ site a.
            w.total site a ∙ ap (λ n. joined stands (chain_rest memory part h site a n x)) left ∙ ap (joined stands) (over.rest site a (length part.bytes - length path)) ∙
            joined_joined stands over.more (end_fault part h site a e) ∙ ap (λ o. joined o (end_fault part h site a e)) (sym over.stands);
        walked = all_by (λ p. AddsFrom memory part h now (1 + length path) p e) (λ p. AddsFrom memory part h now (enough part chains) p e) path
            (λ p adds. adds_later memory part h now (1 + length path) (enough part chains) p e (omega (arith, within, small)) adds)
            (w.leads now 1 e absorbs (adds_over memory part h stands now x e over));
        others = λ p e' at. others_stay stands now over.more chains path x p e' over.stands w at;
      }

  -- all records of a loop, once it is closed, for any number of records
  closed : (stands : Option Fault) (chains : ℕ → Option ChainEnd) (path : List ℕ) (x n : ℕ) → Walking memory part h whole room stands chains path x → is_on path x ≡ true →
      AllByRecursion (λ p. AddsWithin memory part h stands n p ends.Repeated) path
  closed stands chains path x zero w on = all_of (λ p. AddsWithin memory part h stands 0 p ends.Repeated) path (λ p. adds_loop memory part h stands p)
  closed stands chains path x (suc n) w on =
      let all = closed stands chains path x n w on in
      w.turns stands n (λ y e. e) all (all_at (λ p. AddsWithin memory part h stands n p ends.Repeated) path x all on)

  met_known : (stands : Option Fault) (chains : ℕ → Option ChainEnd) (path : List ℕ) (x : ℕ) (e : ChainEnd) → Walking memory part h whole room stands chains path x →
      AddsFrom memory part h stands (1 + length part.bytes - room) x e → Walked memory part h whole stands chains path e
  met_known stands chains path x e w adds =
      let within : unknown chains (length part.bytes) + length path ≤ room = w.within in
      let small : room ≤ length part.bytes = w.small in
      record {
        total = λ site a. w.total site a ∙ adds (1 + length part.bytes - length path) (omega (arith, within, small)) site a;
        walked = all_by (λ p. AddsFrom memory part h stands (1 + length part.bytes - room + length path) p e) (λ p. AddsFrom memory part h stands (enough part chains) p e) path
            (λ p adds. adds_later memory part h stands (1 + length part.bytes - room + length path) (enough part chains) p e (omega (arith, within, small)) adds)
            (w.leads stands (1 + length part.bytes - room) e (λ y e. e) adds);
        others = λ p e' at. others_stay stands stands None chains path x p e' (joined_none stands) w at;
      }

  met_again : (stands : Option Fault) (chains : ℕ → Option ChainEnd) (path : List ℕ) (x : ℕ) → Walking memory part h whole room stands chains path x →
      is_on path x ≡ true → Walked memory part h whole stands chains path ends.Repeated
  met_again stands chains path x w on =
      let all : (n : ℕ) → AllByRecursion (λ p. AddsWithin memory part h stands n p ends.Repeated) path = λ n. closed stands chains path x n w on in
      record {
        total = λ site a. w.total site a ∙ all_at (λ p. AddsWithin memory part h stands (1 + length part.bytes - length path) p ends.Repeated) path x (all (1 + length part.bytes - length path)) on site a;
        walked = all_by (λ p. (n : ℕ) → AddsWithin memory part h stands n p ends.Repeated) (λ p. AddsFrom memory part h stands (enough part chains) p ends.Repeated) path
            (λ p adds n enough. adds n) (all_each (λ n p. AddsWithin memory part h stands n p ends.Repeated) path all);
        others = λ p e' at. others_stay stands stands None chains path x p e' (joined_none stands) w at;
      }

  -- the chain comes to a record that is known
  pub is_met : (stands : Option Fault) (chains : ℕ → Option ChainEnd) (path : List ℕ) (x : ℕ) (e : ChainEnd) → Walking memory part h whole room stands chains path x →
      chains x ≡ Some e → Walked memory part h whole stands chains path e
  is_met stands chains path x e w at = by (w.known x e at)
    where
      by : AddsFrom memory part h stands (1 + length part.bytes - room) x e ⊎ ((e ≡ ends.Repeated) × (is_on path x ≡ true)) → Walked memory part h whole stands chains path e
      by (inl adds) = met_known stands chains path x e w adds
      by (inr (r, on)) = subst (Walked memory part h whole stands chains path) (sym r) (met_again stands chains path x w on)

-- a record that is noted was unknown
pub fewer : (part : Part) (h : Head) (chains chains' : ℕ → Option ChainEnd) (x q : ℕ) (filter : ℤ) → action_at part h x ≡ Record filter (Goes q) →
    chains x ≡ None → Puts chains chains' x ends.Repeated → unknown chains' (length part.bytes) < unknown chains (length part.bytes)
fewer part h chains chains' x q filter next new puts =
    unknown_less chains chains' (length part.bytes) x (record_inside part h x q filter next) (ap is_some new) (put_here chains chains' x ends.Repeated puts)
    (put_grows chains chains' x ends.Repeated puts)
