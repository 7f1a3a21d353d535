-- A list on its way: what stands, what is known, and what its end will say of the indices on the path.
use Rattle.std.proofs.Common.{◌≡◌, ◌≤◌, ◌<◌, ◌+◌, ◌==◌, ◌||◌, ℕ, zero, suc, Bool, true, false, List, [], ◌∷◌, ◌++◌, length, Option, Some, refl, ap, sym, subst, ◌∙◌, arith, if◌then◌else◌}
use Rattle.std.proofs.lemmas.Bool.Decides.{nat_tests}
use Rattle.eh_bytes.specs.Memory.{Part, Memory}
use Rattle.table_forms.specs.Fault.{Fault, joined, least, refusal_of}
use Rattle.table_forms.specs.LsdaHead.{Head, Types}
use Rattle.table_forms.specs.LsdaTypes.{entry_at}
use Rattle.table_forms.proofs.Least.{joined_joined}
use Rattle.lsda_read.specs.declared.known.ListEnd.{ListEnd}
use Rattle.lsda_read.specs.declared.list_walk.Met.{Met}
use Rattle.lsda_read.specs.KnownLists.{AddsList, AreAlong, AreListsKnown, IsEntryJudged, IsIndex, IsListOver, IsListWalked, and_outside, end_along, list_end, open_fault, outside_fault, rest_of_list, with_indices}
use Rattle.lsda_read.proofs.Absorbed.{Absorbs, absorbs_more, same_added, skipped, taken_in}
use Rattle.lsda_read.proofs.Indices.{list_goes}
use Rattle.lsda_read.proofs.Judged.{twice}

-- ---- ends
both_outside : (part : Part) (named_at : ℕ) (a b : Bool) (o : Option Fault) →
    joined (outside_fault part named_at a) (joined (outside_fault part named_at b) o) ≡ joined (outside_fault part named_at (a || b)) o
both_outside part named_at true true o =
    let f = outside_fault part named_at true in joined_joined f f o ∙ ap (λ x. joined x o) (twice f)
both_outside part named_at true false o = refl
both_outside part named_at false b o = refl

pub end_push : (path : List Met) (m : Met) (e : ListEnd) → end_along (path ++ m ∷ []) e ≡ end_along path (and_outside m.outside e)
end_push [] m e = refl
end_push (n ∷ path) m e = ap (and_outside n.outside) (end_push path m e)

module _ (memory : Memory) (part : Part) (h : Head) (types : Types) where
  -- one index further back
  adds_before : (stands more : Option Fault) (p k next : ℕ) (outside : Bool) (e : ListEnd) → IsIndex part p k next → joined stands more ≡ stands →
      ((named_at : ℕ) → least (refusal_of (entry_at memory part h types named_at k)) ≡ joined more (outside_fault part named_at outside)) →
      AddsList memory part h types stands next e → AddsList memory part h types stands p (and_outside outside e)
  adds_before stands more p k next outside e i taken entry adds zero named_at first enough =
      let on : p < next = i.on in let inside : next ≤ length part.bytes = i.inside in absurd (omega (arith, enough, on, inside))
  adds_before stands more p k next outside e i taken entry adds (suc n) named_at first enough =
      let rest = rest_of_list memory part h types named_at first n next in
      let out = outside_fault part named_at outside in
      let on : p < next = i.on in
      ap (joined stands) (list_goes memory part h types named_at first p k next n i.some (i.read first)) ∙
      ap (λ o. joined stands (joined o rest)) (entry named_at) ∙ ap (joined stands) (sym (joined_joined more out rest)) ∙
      skipped stands more (joined out rest) taken ∙ joined_joined stands out rest ∙
      same_added stands out rest (list_end part named_at first e) (adds n named_at first (omega (arith, enough, on))) ∙
      sym (joined_joined stands out (list_end part named_at first e)) ∙
      ap (joined stands) (both_outside part named_at outside e.outside (open_fault part first e.cut))

  adds_over : (stands now : Option Fault) (p : ℕ) (e : ListEnd) → p ≤ length part.bytes → IsListOver memory part h types stands now p e → AddsList memory part h types now p e
  adds_over stands now p e inside over zero named_at first enough = absurd (omega (arith, inside, enough))
  adds_over stands now p e inside over (suc n) named_at first enough =
      ap (joined now) (over.rest named_at first n) ∙ skipped now over.more (list_end part named_at first e) (rw over.stands (taken_in stands over.more))

  along_push : (stands : Option Fault) (path : List Met) (m : Met) (e : ListEnd) → AreAlong memory part h types stands (and_outside m.outside e) path →
      AddsList memory part h types stands m.place (and_outside m.outside e) → AreAlong memory part h types stands e (path ++ m ∷ [])
  along_push stands [] m e all one = (one, tt)
  along_push stands (n ∷ path) m e all one =
      let P : ListEnd → Type 0 = λ x. AddsList memory part h types stands n.place (and_outside n.outside x) in
      (subst P (sym (end_push path m e)) all.0, along_push stands path m e all.1 one)

  module _ (named_at first : ℕ) (whole : Option Fault) where
    -- the walk stands at x; the path has the indices that it met
    pub record ListWalking (stands : Option Fault) (lists : ℕ → Option ListEnd) (path : List Met) (x : ℕ) : Type 0 where
      pub inside : x ≤ length part.bytes
      pub fuel : ℕ
      pub enough : length part.bytes < x + fuel
      pub total : whole ≡ joined stands (rest_of_list memory part h types named_at first fuel x)
      pub known : (p : ℕ) (e : ListEnd) → lists p ≡ Some e → AddsList memory part h types stands p e
      pub leads : (more : Option Fault) (e : ListEnd) → Absorbs stands more → AddsList memory part h types more x e → AreAlong memory part h types more e path

    -- an index that is met
    pub list_goes_on : (stands now : Option Fault) (lists : ℕ → Option ListEnd) (path : List Met) (m : Met) (k next : ℕ) → ListWalking stands lists path m.place →
        IsIndex part m.place k next → IsEntryJudged memory part h types stands now named_at k m.outside → ListWalking now lists (path ++ m ∷ []) next
    list_goes_on stands now lists path m k next w i j = by_fuel w.fuel w.enough w.total
      where
        entry : Option Fault
        entry = least (refusal_of (entry_at memory part h types named_at k))

        absorbs : (more : Option Fault) → Absorbs now more → Absorbs stands more
        absorbs more a y e = a y (rw j.stands (absorbs_more stands entry y e))

        -- all but the entry's lying outside is taken in
        taken : (more : Option Fault) → Absorbs now more → joined more j.more ≡ more
        taken more a =
            let out = outside_fault part named_at m.outside in
            let whole_entry : now ≡ joined (joined stands j.more) out = j.stands ∙ ap (joined stands) (j.entry named_at) ∙ joined_joined stands j.more out in
            a j.more (rw whole_entry (absorbs_more (joined stands j.more) out j.more (taken_in stands j.more)))

        by_fuel : (n : ℕ) → length part.bytes < m.place + n → whole ≡ joined stands (rest_of_list memory part h types named_at first n m.place) →
            ListWalking now lists (path ++ m ∷ []) next
        by_fuel zero enough total = let inside : m.place ≤ length part.bytes = w.inside in absurd (omega (arith, enough, inside))
        by_fuel (suc n) enough total =
            let on : m.place < next = i.on in
            let rest = rest_of_list memory part h types named_at first n next in
            record {
              inside = i.inside;
              fuel = n;
              enough = omega (arith, enough, on);
              total = total ∙ ap (joined stands) (list_goes memory part h types named_at first m.place k next n i.some (i.read first)) ∙
                  joined_joined stands entry rest ∙ ap (λ o. joined o rest) (sym j.stands);
              known = λ p e at' n' named first' more. rw j.stands (same_added stands entry (rest_of_list memory part h types named first' n' p) (list_end part named first' e) (w.known p e at' n' named first' more));
              leads = λ more e a adds.
                  let here = adds_before more j.more m.place k next m.outside e i (taken more a) j.entry adds in
                  along_push more path m e (w.leads more (and_outside m.outside e) (absorbs more a) here) here;
            }

    -- the list ends at x
    pub list_is_over : (stands now : Option Fault) (lists : ℕ → Option ListEnd) (path : List Met) (x : ℕ) (e : ListEnd) → ListWalking stands lists path x →
        IsListOver memory part h types stands now x e → IsListWalked memory part h types named_at first whole now lists path e
    list_is_over stands now lists path x e w over = by_fuel w.fuel w.enough w.total
      where
        by_fuel : (n : ℕ) → length part.bytes < x + n → whole ≡ joined stands (rest_of_list memory part h types named_at first n x) →
            IsListWalked memory part h types named_at first whole now lists path e
        by_fuel zero enough total = let inside : x ≤ length part.bytes = w.inside in absurd (omega (arith, enough, inside))
        by_fuel (suc n) enough total = record {
          total = total ∙ ap (joined stands) (over.rest named_at first n) ∙ joined_joined stands over.more (list_end part named_at first e) ∙
              ap (λ o. joined o (list_end part named_at first e)) (sym over.stands);
          walked = w.leads now e (λ y a. rw over.stands (absorbs_more stands over.more y a)) (adds_over stands now x e w.inside over);
          others = λ p e' at' n' named first' more. rw over.stands (same_added stands over.more (rest_of_list memory part h types named first' n' p) (list_end part named first' e') (w.known p e' at' n' named first' more));
        }

    -- the list comes to an index that is known
    pub list_is_met : (stands : Option Fault) (lists : ℕ → Option ListEnd) (path : List Met) (x : ℕ) (e : ListEnd) → ListWalking stands lists path x → lists x ≡ Some e →
        IsListWalked memory part h types named_at first whole stands lists path e
    list_is_met stands lists path x e w at' = record {
      total = w.total ∙ w.known x e at' w.fuel named_at first w.enough;
      walked = w.leads stands e (λ y a. a) (w.known x e at');
      others = w.known;
    }

  pub list_begins : (named_at first : ℕ) (stands : Option Fault) (lists : ℕ → Option ListEnd) → first ≤ length part.bytes → h.types ≡ Some types → AreListsKnown memory part h stands lists →
      ListWalking named_at first (joined stands (rest_of_list memory part h types named_at first (1 + length part.bytes) first)) stands lists [] first
  list_begins named_at first stands lists inside typed known = record {
    inside = inside;
    fuel = 1 + length part.bytes;
    enough = omega arith;
    total = refl;
    known = λ p e at'. known types p e typed at';
    leads = λ more e a adds. tt;
  }

  -- once the ends along the path are noted, all is known
  along_known : (stands : Option Fault) (lists : ℕ → Option ListEnd) (path : List Met) (end : ListEnd) (p : ℕ) (e : ListEnd) → AreAlong memory part h types stands end path →
      ((q : ℕ) (x : ListEnd) → lists q ≡ Some x → AddsList memory part h types stands q x) → with_indices path end lists p ≡ Some e → AddsList memory part h types stands p e
  along_known stands lists [] end p e all others at' = others p e at'
  along_known stands lists (m ∷ path) end p e all others at' = by (m.place == p) refl at' (along_known stands lists path end p e all.1 others)
    where
      same : (x : ListEnd) → Some x ≡ Some e → x ≡ e
      same x s = cc

      by : (b : Bool) → (m.place == p) ≡ b → (if b then Some (end_along (m ∷ path) end) else with_indices path end lists p) ≡ Some e →
          (with_indices path end lists p ≡ Some e → AddsList memory part h types stands p e) → AddsList memory part h types stands p e
      by true here at' rest =
          let place : m.place ≡ p = grind (arith, nat_tests, here) in
          let P : ℕ → Type 0 = λ q. AddsList memory part h types stands q (end_along (m ∷ path) end) in
          let Q : ListEnd → Type 0 = λ x. AddsList memory part h types stands p x in
          subst Q (same (end_along (m ∷ path) end) at') (subst P place all.0)
      by false here at' rest = rest at'

pub list_walked_known : (memory : Memory) (part : Part) (h : Head) (types : Types) (named_at first : ℕ) (whole stands : Option Fault) (lists lists' : ℕ → Option ListEnd) (path : List Met) (end : ListEnd) →
    h.types ≡ Some types → IsListWalked memory part h types named_at first whole stands lists path end → ((p : ℕ) → lists' p ≡ with_indices path end lists p) →
    AreListsKnown memory part h stands lists'
list_walked_known memory part h types named_at first whole stands lists lists' path end typed w noted types' p e typed' at' =
    let same : types ≡ types' = same_types (sym typed ∙ typed') in
    let P : Types → Type 0 = λ t. AddsList memory part h t stands p e in
    subst P same (along_known memory part h types stands lists path end p e w.walked w.others (sym (noted p) ∙ at'))
  where
    same_types : Some types ≡ Some types' → types ≡ types'
    same_types s = cc

pub with_last : (path : List Met) (m : Met) (e : ListEnd) (lists now : ℕ → Option ListEnd) (p : ℕ) → now p ≡ (if m.place == p then Some (and_outside m.outside e) else lists p) →
    with_indices (path ++ m ∷ []) e lists p ≡ with_indices path (and_outside m.outside e) now p
with_last [] m e lists now p puts = sym puts
with_last (n ∷ path) m e lists now p puts =
    ap (λ x. if n.place == p then Some (and_outside n.outside x) else with_indices (path ++ m ∷ []) e lists p) (end_push path m e) ∙
    ap (λ o. if n.place == p then Some (end_along (n ∷ path) (and_outside m.outside e)) else o) (with_last path m e lists now p puts)
