-- What the calls of modules do to the replies that they have left.
use Rattle.std.proofs.Common.{◌≡◌, ◌∙◌, refl, sym, ap, ℕ, zero, suc, List, [], ◌∷◌, ◌++◌, drop, slice_get, slice_set, Option, Some, None, option_map}
use Rattle.std.proofs.lemmas.Option.{slice_get-map}
use Rattle.run_items.specs.declared.item.Item.TheVariants as items
use Rattle.eh_outer.specs.declared.module.Reply.{Reply}
use Rattle.eh_outer.specs.Module.{ModuleView, reply_of, replied as used_up}
use Rattle.foreign_host.specs.Host.{changed_at, reply_at}
use Rattle.caught_stack.specs.declared.header.HeaderKind.{HeaderKind}
use Rattle.caught_stack.specs.declared.header.HeaderKind.TheVariants.{Building, Native, Foreign}
use Rattle.cxa_runtime.specs.declared.object.Object.{Object}
use Rattle.cxa_runtime.specs.World.{World, goes, gives, a0}
use Rattle.cxa_runtime.specs.Raising.{Image}
use Rattle.cxa_runtime.specs.Foreign.{asked, replied}
use Rattle.cxa_runtime.specs.Catch.{told}
use Rattle.cxa_runtime.specs.Kept.{replies_of}
use Rattle.cxa_runtime.specs.Turns.{after_cleanups, cleanups_of}

-- what is told of an exception that is let go has no cleanup but that of its module
pub told_cleanups : (o : Object) (kind : HeaderKind) (w : World) (ms : List ModuleView) (n : ℕ) → w.shown ≡ items.Leave n ∷ [] →
    after_cleanups (told o kind w).shown ms ≡ after_cleanups (cleanups_of kind) ms
told_cleanups o Building w ms n h = ap (λ s. after_cleanups s ms) h
told_cleanups o (Native type destructor) w ms n h = ap (λ s. after_cleanups (s ++ items.Destroy o.header.number ∷ []) ms) h
told_cleanups o (Foreign k token) w ms n h = ap (λ s. after_cleanups (s ++ items.Clean k token ∷ []) ms) h

-- no module is changed where there is none of the number
unchanged : (ms : List ModuleView) (k : ℕ) → slice_get ms k ≡ None → changed_at k used_up ms ≡ ms
unchanged [] k h = refl
unchanged (m ∷ ms) zero h = absurd (cc h)
unchanged (m ∷ ms) (suc k) h = ap (λ x. m ∷ x) (unchanged ms k h)

-- the first reply of a module is used up
used : (ms : List ModuleView) (k : ℕ) (m : ModuleView) → slice_get ms k ≡ Some m → replies_of (changed_at k used_up ms) ≡ slice_set (replies_of ms) k (drop 1 m.rest)
used [] k m h = absurd (cc h)
used (x ∷ ms) zero m h = let same : x ≡ m = cc h in ap (λ (y : ModuleView). drop 1 y.rest ∷ replies_of ms) same
used (x ∷ ms) (suc k) m h = ap (λ r. x.rest ∷ r) (used ms k m h)

replies_at : (ms : List ModuleView) (k : ℕ) → slice_get (replies_of ms) k ≡ option_map (λ (m : ModuleView). m.rest) (slice_get ms k)
replies_at ms k = slice_get-map (λ (m : ModuleView). m.rest) ms k

-- the call of a module that is not there
pub module_missing : (image : Image) (wish : ℕ) (before after : List ModuleView) (k : ℕ) (w : World) → w.replies ≡ replies_of before → None ≡ reply_at k before → after ≡ changed_at k used_up before →
    goes (gives a0 0 (record w { replies = replies_of after })) ≡ asked image wish w k (slice_get (replies_of before) k)
module_missing image wish before after k w left none changed = go (slice_get before k) refl
  where
    go : (m : Option ModuleView) → slice_get before k ≡ m → goes (gives a0 0 (record w { replies = replies_of after })) ≡ asked image wish w k (slice_get (replies_of before) k)
    go None h =
        ap (λ r. goes (gives a0 0 (record w { replies = r }))) (ap replies_of (changed ∙ unchanged before k h) ∙ sym left)
        ∙ ap (asked image wish w k) (sym (replies_at before k ∙ ap (option_map (λ (m : ModuleView). m.rest)) h))
    go (Some m) h = absurd (let wrong : None ≡ Some (reply_of m.rest) = none ∙ ap (option_map (λ (x : ModuleView). reply_of x.rest)) h in cc wrong)

-- the call of a module, by its reply
pub module_replied : (image : Image) (wish : ℕ) (before after : List ModuleView) (k : ℕ) (reply : Reply) (w : World) → w.replies ≡ replies_of before → Some reply ≡ reply_at k before → after ≡ changed_at k used_up before →
    replied image wish (record w { replies = replies_of after }) k reply ≡ asked image wish w k (slice_get (replies_of before) k)
module_replied image wish before after k reply w left is changed = go (slice_get before k) refl
  where
    go : (m : Option ModuleView) → slice_get before k ≡ m → replied image wish (record w { replies = replies_of after }) k reply ≡ asked image wish w k (slice_get (replies_of before) k)
    go None h = absurd (let wrong : Some reply ≡ None = is ∙ ap (option_map (λ (x : ModuleView). reply_of x.rest)) h in cc wrong)
    go (Some m) h =
        let known : Some reply ≡ Some (reply_of m.rest) = is ∙ ap (option_map (λ (x : ModuleView). reply_of x.rest)) h in
        let same : reply ≡ reply_of m.rest = cc known in
        ap (λ r. replied image wish (record w { replies = r }) k reply) (ap replies_of changed ∙ used before k m h ∙ ap (λ r. slice_set r k (drop 1 m.rest)) (sym left))
        ∙ ap (replied image wish (record w { replies = slice_set w.replies k (drop 1 m.rest) }) k) same
        ∙ ap (asked image wish w k) (sym (replies_at before k ∙ ap (option_map (λ (x : ModuleView). x.rest)) h))
