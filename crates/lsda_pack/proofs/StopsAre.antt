-- Where a table ends is where its parts end as they are read.
use Rattle.std.proofs.Common.{◌≡◌, ◌≤◌, ◌+◌, ◌-◌, ◌==◌, ℕ, ℤ, zero, suc, Bool, true, false, nat_lt, List, [], ◌∷◌, ◌++◌, length, take, map, Option, Some, None, Result, Ok, Err, refl, ap, sym, ◌∙◌, arith, if◌then◌else◌}
use Rattle.std.proofs.lemmas.List.{take_all, length-map}
use Rattle.std.specs.Prelude.{fold, max, flat_map, option_map}
use Rattle.eh_bytes.specs.declared.error.ByteError.{ByteError}
use Rattle.eh_bytes.specs.declared.error.ByteError.TheVariants as causes
use Rattle.eh_bytes.specs.Memory.{Part}
use Rattle.eh_bytes.specs.Field.{at}
use Rattle.eh_bytes.specs.Leb128.{uleb, sleb}
use Rattle.eh_bytes.specs.declared.frames.Region64.{Region64}
use Rattle.table_forms.specs.declared.found.Next.{Next}
use Rattle.table_forms.specs.declared.found.Next.TheVariants.{Ends, Leaves, Goes}
use Rattle.table_forms.specs.declared.found.Action.TheVariants.{Record, Outside}
use Rattle.table_forms.specs.Keys.{keys}
use Rattle.table_forms.specs.Lsda.{Table}
use Rattle.table_forms.specs.LsdaHead.{Head, Types}
use Rattle.table_forms.specs.LsdaSites.{SiteRecord, site_of, site_records}
use Rattle.table_forms.specs.LsdaTypes.{cut_by}
use Rattle.table_forms.specs.LsdaChain.{Chain, Link, next_of, fails_at, with_displacement, with_filter, action_in, links_from, links_within, action_end, first_record}
use Rattle.table_forms.proofs.Beyond.{sleb_behind, uleb_behind}
use Rattle.lsda_read.specs.Left.{next_place}
use Rattle.lsda_read.specs.Names.{types_named, lists_named}
use Rattle.lsda_read.specs.WholeTable.{value_of, indices_at, IsWhole}
use Rattle.lsda_pack.specs.TableEnd.{behind, record_end, chain_ends, end_from, list_end_within, list_end, name_ends, table_end}
use Rattle.lsda_pack.specs.Ends.{with_next, with_first, record_step, and_step, steps_within, action_steps, site_steps, index_end, indices_end, list_stop, list_stops, base_stops, name_stops, before_base, stop_of}

pub fold_both : (n : ℕ) (xs ys : List ℕ) → fold max n (xs ++ ys) ≡ fold max (fold max n xs) ys
fold_both n [] ys = refl
fold_both n (x ∷ xs) ys = fold_both (max n x) xs ys

abbrev unless_before : Bool → Option (ℕ × Option ℕ) → Option (ℕ × Option ℕ)
unless_before b o = if b then None else o

-- behind the end of the bytes nothing is read
pub step_behind : (bytes : List ℕ) (actions_at p : ℕ) → length bytes ≤ p → record_step bytes actions_at p ≡ None
unfolding record_step
step_behind bytes actions_at p short = ap (λ r. if nat_lt p actions_at then None else with_first bytes r) (sleb_behind p bytes short) ∙ same_both (nat_lt p actions_at)
  where
    same_both : (b : Bool) → unless_before b None ≡ None
    same_both true = refl
    same_both false = refl

pub end_behind : (bytes : List ℕ) (p : ℕ) → length bytes ≤ p → indices_end (1 + length bytes) bytes p ≡ p
end_behind bytes p short =
    ap (λ m. indices_end m bytes p) (let e : 1 + length bytes ≡ suc (length bytes) = omega arith in e) ∙
    ap (λ r. index_end r p (indices_end (length bytes) bytes)) (uleb_behind p bytes short)

-- a number that can't be read ends a chain
no_record : (end : Link → ℕ) (p q : ℕ) (more : ℕ → Chain) (c : ByteError) → map end (links_from p (fails_at q c) more).links ≡ []
no_record end p q more causes.Truncated = refl
no_record end p q more causes.LebRange = refl
no_record end p q more causes.Encoding = refl

abbrev record_stop : List ℕ → Link → ℕ
record_stop bytes l = record_end bytes l.at

-- the chain goes on alike
abbrev Alike : List ℕ → (ℕ → Chain) → (ℕ → List ℕ) → Type 0
Alike bytes more steps = (q : ℕ) → map (record_stop bytes) (more q).links ≡ steps q

goes_on : (bytes : List ℕ) (p stop : ℕ) (filter : ℤ) (more : ℕ → Chain) (steps : ℕ → List ℕ) (n : Next) → record_end bytes p ≡ stop → Alike bytes more steps →
    map (record_stop bytes) (links_from p (Record filter n) more).links ≡ and_step (Some (stop, next_place n)) steps
goes_on bytes p stop filter more steps Ends e alike = ap (λ x. x ∷ []) e
goes_on bytes p stop filter more steps Leaves e alike = ap (λ x. x ∷ []) e
goes_on bytes p stop filter more steps (Goes q) e alike = ap (λ x. x ∷ map (record_stop bytes) (more q).links) e ∙ ap (λ xs. stop ∷ xs) (alike q)

second : (bytes : List ℕ) (p next : ℕ) (filter : ℤ) (more : ℕ → Chain) (steps : ℕ → List ℕ) (r : Result (ℤ × ℕ) ByteError) →
    at sleb bytes p ≡ Ok (filter, next) → at sleb bytes next ≡ r → Alike bytes more steps →
    map (record_stop bytes) (links_from p (with_displacement filter next r) more).links ≡ and_step (with_next next r) steps
second bytes p next filter more steps (Err c) first e alike = no_record (record_stop bytes) p next more c
second bytes p next filter more steps (Ok (d, stop)) first e alike =
    let here : record_end bytes p ≡ stop = ap (λ r. behind (behind p r) (at sleb bytes (behind p r))) first ∙ ap (behind next) e in
    goes_on bytes p stop filter more steps (next_of next d) here alike

first : (bytes : List ℕ) (p : ℕ) (more : ℕ → Chain) (steps : ℕ → List ℕ) (r : Result (ℤ × ℕ) ByteError) → at sleb bytes p ≡ r → Alike bytes more steps →
    map (record_stop bytes) (links_from p (with_filter bytes p r) more).links ≡ and_step (with_first bytes r) steps
first bytes p more steps (Err c) e alike = no_record (record_stop bytes) p p more c
first bytes p more steps (Ok (filter, next)) e alike = second bytes p next filter more steps (at sleb bytes next) e refl alike

step_is : (bytes : List ℕ) (actions_at p : ℕ) (more : ℕ → Chain) (steps : ℕ → List ℕ) → Alike bytes more steps →
    map (record_stop bytes) (links_from p (action_in bytes actions_at p) more).links ≡ and_step (record_step bytes actions_at p) steps
unfolding action_in record_step
step_is bytes actions_at p more steps alike = by (nat_lt p actions_at)
  where
    by : (b : Bool) → map (record_stop bytes) (links_from p (if b then Outside else with_filter bytes p (at sleb bytes p)) more).links ≡
        and_step (unless_before b (with_first bytes (at sleb bytes p))) steps
    by true = refl
    by false = first bytes p more steps (at sleb bytes p) refl alike

steps_are : (part : Part) (h : Head) (n p : ℕ) →
    map (record_stop (take (action_end part h.types) part.bytes)) (links_within n part h p).links ≡ steps_within n (take (action_end part h.types) part.bytes) h.actions_at p
unfolding links_within
steps_are part h zero p = refl
steps_are part h (suc n) p =
    step_is (take (action_end part h.types) part.bytes) h.actions_at p (links_within n part h) (steps_within n (take (action_end part h.types) part.bytes) h.actions_at) (steps_are part h n)

-- of all sites
site_is : (part : Part) (h : Head) (a : ℕ) →
    (if a == 0 then [] else chain_ends part h a) ≡ action_steps (1 + length part.bytes) (take (action_end part h.types) part.bytes) h.actions_at a
site_is part h a = ap (λ xs. if a == 0 then [] else xs) (steps_are part h (1 + length part.bytes) (first_record h a))

sites_are : (part : Part) (h : Head) (region : Region64) (rs : List SiteRecord) →
    flat_map (λ r. if r.action == 0 then [] else chain_ends part h r.action) rs ≡
    site_steps (1 + length part.bytes) (take (action_end part h.types) part.bytes) h.actions_at (map (site_of h region) rs)
sites_are part h region [] = refl
sites_are part h region (r ∷ rs) =
    ap (λ xs. xs ++ flat_map (λ r. if r.action == 0 then [] else chain_ends part h r.action) rs) (site_is part h r.action) ∙
    ap (λ xs. action_steps (1 + length part.bytes) (take (action_end part h.types) part.bytes) h.actions_at r.action ++ xs) (sites_are part h region rs)

-- of the lists
index_is : (part : Part) (q p : ℕ) (r : Result (ℕ × ℕ) ByteError) (one two : ℕ → ℕ) → ((x : ℕ) → one x ≡ two x) → end_from (cut_by part q p r) p one ≡ index_end r p two
index_is part q p (Err c) one two alike = refl
index_is part q p (Ok (zero, next)) one two alike = refl
index_is part q p (Ok (suc k, next)) one two alike = alike next

pub list_is : (part : Part) (q n p : ℕ) → list_end_within n part q p ≡ indices_end n part.bytes p
unfolding list_end_within
list_is part q zero p = refl
list_is part q (suc n) p = index_is part q p (at uleb part.bytes p) (list_end_within n part q) (indices_end n part.bytes) (list_is part q n)

abbrev pairs : {A : Type 0} → (ℕ → A) → List ℕ → List (ℕ × A)
pairs {A} f ks = map {B = ℕ × A} (λ k. (k, f k)) ks

lists_are : (part : Part) (types : Types) (f : ℕ → List ℕ) (js : List ℕ) → map (λ (l : ℕ × List ℕ). list_end part types l.0) (pairs f js) ≡ list_stops part.bytes types.base js
lists_are part types f [] = refl
lists_are part types f (j ∷ js) =
    ap (λ x. x ∷ map (λ (l : ℕ × List ℕ). list_end part types l.0) (pairs f js)) (list_is part (types.base + j - 1) (1 + length part.bytes) (types.base + j - 1)) ∙
    ap (λ xs. list_stop part.bytes types.base j ∷ xs) (lists_are part types f js)

names_are : (part : Part) (o : Option Types) (t : Table) (is js : List ℕ) → t.types ≡ pairs (value_of t) is → t.lists ≡ pairs (indices_at t) js →
    name_ends part o t ≡ name_stops part.bytes (option_map (λ (x : Types). x.base) o) is js
names_are part None t is js et el = refl
names_are part (Some types) t is js et el =
    let count : length t.types ≡ length is = ap length et ∙ length-map is (λ k. (k, value_of t k)) in
    let at_base : ℕ → List ℕ = λ n. if n == 0 then [] else types.base ∷ [] in
    ap (λ n. at_base n ++ map (λ (l : ℕ × List ℕ). list_end part types l.0) t.lists) count ∙
    ap (λ ls. base_stops types.base is ++ map (λ (l : ℕ × List ℕ). list_end part types l.0) ls) el ∙
    ap (λ xs. base_stops types.base is ++ xs) (lists_are part types (indices_at t) js)

before_is : (part : Part) (o : Option Types) → take (action_end part o) part.bytes ≡ before_base (option_map (λ (x : Types). x.base) o) part.bytes
before_is part None = take_all (length part.bytes) part.bytes (omega arith)
before_is part (Some types) = refl

-- the end of a table that was read
pub stop_is : (part : Part) (h : Head) (region : Region64) (t : Table) → t.sites ≡ map (site_of h region) (site_records part h).records → IsWhole t →
    stop_of part.bytes h.actions_at (option_map (λ (x : Types). x.base) h.types) t.sites (keys (types_named t)) (keys (lists_named t)) ≡ table_end part h t
unfolding stop_of table_end
stop_is part h region t es w =
    let most = 1 + length part.bytes in
    let names = names_are part h.types t (keys (types_named t)) (keys (lists_named t)) w.types w.lists in
    let sites = sites_are part h region (site_records part h).records ∙ ap (site_steps most (take (action_end part h.types) part.bytes) h.actions_at) (sym es) ∙
    ap (λ bs. site_steps most bs h.actions_at t.sites) (before_is part h.types) in
    sym (ap (λ xs. fold max h.actions_at (xs ++ name_ends part h.types t)) sites ∙
    ap (λ xs. fold max h.actions_at (site_steps most (before_base (option_map (λ (x : Types). x.base) h.types) part.bytes) h.actions_at t.sites ++ xs)) names)
