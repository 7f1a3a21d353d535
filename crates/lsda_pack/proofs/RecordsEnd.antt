-- The action records that are read of packed bytes end with the action table at the latest.
use Rattle.std.proofs.Common.{◌≡◌, ◌≢◌, ◌+◌, ◌-◌, ◌==◌, ◌≤◌, ◌<◌, ◌^◌, ℕ, ℤ, zero, suc, Bool, true, false, List, [], ◌∷◌, ◌++◌, length, take, drop, refl, ap, sym, subst, ◌∙◌, arith, append_assoc, if◌then◌else◌}
use Rattle.std.specs.Prelude.{Option, Some, None, flat_map, unwrap_or}
use Rattle.std.specs.List.{AllByRecursion}
use Rattle.std.proofs.lemmas.Bool.Decides.{nat_tests}
use Rattle.std.proofs.lemmas.List.{drop-drop, drop-append-le, length-drop}
use Rattle.eh_bytes.specs.declared.frames.Region64.{Region64}
use Rattle.eh_bytes.specs.declared.table.ListSite.{ListSite}
use Rattle.eh_bytes.specs.Field.{at}
use Rattle.eh_bytes.specs.Leb128.{sleb}
use Rattle.eh_bytes.specs.Listed.{ListedTable}
use Rattle.eh_bytes.specs.Memory.{Part}
use Rattle.eh_bytes.specs.Spelling.{sleb_spelling}
use Rattle.eh_bytes.proofs.Spelled.{magnitude}
use Rattle.table_forms.specs.declared.found.Action.TheVariants.{Record}
use Rattle.table_forms.specs.declared.found.Next.TheVariants.{Goes}
use Rattle.table_forms.specs.LsdaHead.{Head, Types}
use Rattle.table_forms.specs.LsdaSites.{SiteRecord}
use Rattle.table_forms.specs.LsdaChain.{Link, action_end, chain_of, first_record, links_from, links_within}
use Rattle.table_forms.proofs.Alls.{all_more}
use Rattle.eh_write.specs.CanWrite.{ChainIsGood, ChainIsThere}
use Rattle.eh_write.specs.Fits.{IsSignedWord}
use Rattle.eh_write.specs.Written.{action_of, site_bytes}
use Rattle.eh_write.proofs.Alls.{all_append, all_at, all_map}
use Rattle.eh_write.proofs.ChainsFound.{cut_stands, signed_fits}
use Rattle.eh_write.proofs.Lengths.{inside}
use Rattle.eh_write.proofs.Readable.{item_at}
use Rattle.eh_write.proofs.SitesRead.{records_of}
use Rattle.lsda_pack.specs.Suffixes.{Actions, actions_for, displacement, place_of, record_bytes}
use Rattle.lsda_pack.specs.TableEnd.{behind, chain_ends, record_end}
use Rattle.lsda_pack.proofs.BodyRead.{BodyIs, actions_place, head_with, not_empty, number_at, numbers_of, records_in}
use Rattle.lsda_pack.proofs.BytesRead.{ends}
use Rattle.lsda_pack.proofs.ChainsFrame.{actions_of}
use Rattle.lsda_pack.proofs.NamesRead.{room}
use Rattle.lsda_pack.proofs.SuffixesFit.{at_place, few}
use Rattle.lsda_pack.proofs.SuffixesRead.{Stands, TableIs, first_read, leads, next_stands, placed_holds, sleb_stands, small_displacement}
use Rattle.lsda_pack.proofs.SuffixesStand.{HoldsAs, IsClosed, RecordStands, closed, place_below, placed, size_append}

abbrev pub EndBy : Part → Head → ℕ → List Link → Type 0
EndBy part h stop links = AllByRecursion (λ l. record_end (actions_of part h) l.at ≤ stop) links

first_end : (part : Part) (h : Head) (a : Actions) (place : ℕ) (f : ℤ) (fs : List ℤ) → TableIs part h a → magnitude f < 2 ^ 63 → place < length a.bytes → RecordStands a place f fs →
    record_end (actions_of part h) (h.actions_at + place) ≤ h.actions_at + length a.bytes
first_end part h a place f fs table fits low r =
    let bytes = actions_of part h in
    let x = sleb_spelling f in
    let d = displacement (place + length x) fs r.goes in
    let y = sleb_spelling d in
    let p = h.actions_at + place in
    let here : Stands bytes p (record_bytes place f fs r.goes) (r.rest ++ table.rest) =
    sym (drop-drop place h.actions_at bytes) ∙ ap (drop place) table.bytes ∙ drop-append-le place a.bytes table.rest (omega (arith, low)) ∙
    ap (λ xs. xs ++ table.rest) r.bytes ∙ append_assoc (record_bytes place f fs r.goes) r.rest table.rest in
    let one : Stands bytes p x (y ++ (r.rest ++ table.rest)) = here ∙ append_assoc x y (r.rest ++ table.rest) in
    let two : Stands bytes (p + length x) y (r.rest ++ table.rest) = next_stands bytes p x (y ++ (r.rest ++ table.rest)) one in
    let first = sleb_stands bytes p f (y ++ (r.rest ++ table.rest)) fits one in
    let second = sleb_stands bytes (p + length x) d (r.rest ++ table.rest) (small_displacement a place f fs table.small r) two in
    let end : record_end bytes p ≡ p + length x + length y = ap (λ q. behind (behind p q) (at sleb bytes (behind p q))) first ∙ ap (behind (p + length x)) second in
    let sizes = ap length r.bytes in
    let left = length-drop place a.bytes in
    let whole = size_append (record_bytes place f fs r.goes) r.rest in
    let own = size_append x y in
    omega (arith, end, sizes, left, whole, own, low)

chain_end : (n : ℕ) (part : Part) (h : Head) (a : Actions) (place : ℕ) (c : List ℤ) → TableIs part h a → IsClosed a → AllByRecursion (λ z. magnitude z < 2 ^ 63) c →
    place < length a.bytes → length c ≤ n → HoldsAs a place c → EndBy part h (h.actions_at + length a.bytes) (links_within n part h (h.actions_at + place)).links
unfolding links_within
chain_end n part h a place [] table closed fits low enough holds = absurd holds
chain_end zero part h a place (f ∷ fs) table closed fits low enough holds = absurd (omega (arith, enough))
chain_end (suc n) part h a place (f ∷ []) table closed fits low enough holds =
    let p = h.actions_at + place in
    subst (λ x. EndBy part h (h.actions_at + length a.bytes) (links_from p x (links_within n part h)).links) (sym (first_read part h a place f [] table fits.0 low holds))
    (first_end part h a place f [] table fits.0 low holds, tt)
chain_end (suc n) part h a place (f ∷ g ∷ gs) table closed fits low enough holds =
    let p = h.actions_at + place in
    let to = leads a h.actions_at place f g gs holds.goes holds.on in
    let k = to.0 in
    let behind_it = chain_end n part h a k (g ∷ gs) table closed fits.1 (place_below (length a.bytes) a.suffixes (g ∷ gs) k closed.below to.2) (omega (arith, enough))
    (placed_holds a a.suffixes (g ∷ gs) k closed.hold to.2) in
    let leading : EndBy part h (h.actions_at + length a.bytes) (links_from p (Record f (Goes (h.actions_at + k))) (links_within n part h)).links =
    (first_end part h a place f (g ∷ gs) table fits.0 low holds, behind_it) in
    subst (λ x. EndBy part h (h.actions_at + length a.bytes) (links_from p x (links_within n part h)).links)
    (sym (first_read part h a place f (g ∷ gs) table fits.0 low holds ∙ ap (λ x. Record f x) to.1)) leading

-- the chain of a site
pub site_end : (list : ListedTable) (part : Part) (region : Region64) (types : Option Types) (e : ℕ) (rest : List ℕ) → BodyIs list part.bytes e rest →
    AllByRecursion (ChainIsGood list) list.chains → AllByRecursion (AllByRecursion IsSignedWord) list.chains → length (records_in list) < 2 ^ 63 →
    actions_place list e + length (records_in list) ≤ action_end part types → (o : Option ℕ) → ChainIsThere list o → action_of (numbers_of list) o ≢ 0 →
    EndBy part (head_with list region types e) (actions_place list e + length (records_in list)) (chain_of part (head_with list region types e) (action_of (numbers_of list) o)).links
site_end list part region types e rest body good words short room None there some = absurd (some refl)
site_end list part region types e rest body good words short room (Some c) there some =
    let a = actions_for list.chains in
    let h = head_with list region types e in
    let stop = action_end part types in
    let p = actions_place list e in
    let item = item_at list.chains c there in
    let chain = item.0 in
    let full = not_empty chain (all_at (ChainIsGood list) list.chains c chain good item.1).0 in
    let place = all_at (λ x. x ≢ [] → (k : ℕ) × (place_of a.suffixes x ≡ Some k)) list.chains c chain (placed list.chains) item.1 full in
    let k = place.0 in
    let table : TableIs part h a = record {
      rest = take (stop - (p + length (records_in list))) rest;
      bytes = cut_stands part.bytes p stop (records_in list) rest body.actions room;
      small = short;
    } in
    let fits = all_more IsSignedWord (λ z. magnitude z < 2 ^ 63) signed_fits chain (all_at (AllByRecursion IsSignedWord) list.chains c chain words item.1) in
    let shorter = at_place (λ fs. length fs ≤ length a.bytes) a.suffixes chain k (few list.chains) place.1 in
    let within = inside part.bytes p (records_in list) rest body.actions in
    let is = closed list.chains in
    let number : action_of (numbers_of list) (Some c) ≡ k + 1 = ap (λ o. unwrap_or o 0) (number_at list c chain item.1) ∙ ap (λ o. unwrap_or o 0 + 1) place.1 in
    let first : first_record h (k + 1) ≡ h.actions_at + k = omega arith in
    let ends = chain_end (1 + length part.bytes) part h a k chain table is fits (place_below (length a.bytes) a.suffixes chain k is.below place.1) (omega (arith, shorter, within))
    (placed_holds a a.suffixes chain k is.hold place.1) in
    subst (λ n. EndBy part h (p + length (records_in list)) (links_within (1 + length part.bytes) part h n).links) (sym (ap (first_record h) number ∙ first)) ends

pub sites_end : (list : ListedTable) (part : Part) (h : Head) (stop q : ℕ) (ss : List ListSite) → AllByRecursion (λ s. ChainIsThere list s.chain) ss →
    ((o : Option ℕ) → ChainIsThere list o → action_of (numbers_of list) o ≢ 0 → EndBy part h stop (chain_of part h (action_of (numbers_of list) o)).links) →
    AllByRecursion (λ n. n ≤ stop) (flat_map (λ (r : SiteRecord). if r.action == 0 then [] else chain_ends part h r.action) (records_of q (numbers_of list) ss))
sites_end list part h stop q [] there ends = tt
sites_end list part h stop q (s ∷ ss) there ends =
    let a = action_of (numbers_of list) s.chain in
    let next = q + length (site_bytes (numbers_of list) s) in
    all_append (λ n. n ≤ stop) (if a == 0 then [] else chain_ends part h a)
    (flat_map (λ (r : SiteRecord). if r.action == 0 then [] else chain_ends part h r.action) (records_of next (numbers_of list) ss))
    (by (a == 0) refl) (sites_end list part h stop next ss there.1 ends)
  where
    by : (b : Bool) → (action_of (numbers_of list) s.chain == 0) ≡ b → AllByRecursion (λ n. n ≤ stop) (if b then [] else chain_ends part h (action_of (numbers_of list) s.chain))
    by true e = tt
    by false e =
        all_map (λ n. n ≤ stop) (λ l. record_end (actions_of part h) l.at) (chain_of part h (action_of (numbers_of list) s.chain)).links
        (ends s.chain there.0 (λ z. absurd (grind (arith, nat_tests, e, z))))
