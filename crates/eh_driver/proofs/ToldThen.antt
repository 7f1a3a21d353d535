-- What is told of some file is told of it by what follows from that.
use Rattle.std.proofs.Common.{ℕ, List, [], Option, Some, None}
use Rattle.eh_outer.specs.Store.{StoreView}
use Rattle.eh_commands.specs.File.{Asked, Told, ToldInput, ToldBoth, input_limit}

pub told_then : (limit : ℕ) (store : StoreView) (name : List ℕ) (P Q : List ℕ → Type 0) → ((file : List ℕ) → P file → Q file) → Told limit store name P → Told limit store name Q
told_then limit store name P Q then (file, is, holds) = (file, is, then file holds)

input_then : (store : StoreView) (i : Option (List ℕ)) (P Q : List ℕ → Type 0) → ((input : List ℕ) → P input → Q input) → ToldInput store i P → ToldInput store i Q
input_then store None P Q then told = then [] told
input_then store (Some name) P Q then told = told_then input_limit store name P Q then told

pub both_then : (limit : ℕ) (a : Asked) (store : StoreView) (P Q : List ℕ → List ℕ → Type 0) → ((file input : List ℕ) → P file input → Q file input) → ToldBoth limit a store P → ToldBoth limit a store Q
both_then limit a store P Q then told =
    told_then limit store a.source (λ file. ToldInput store a.input (P file)) (λ file. ToldInput store a.input (Q file))
    (λ file. input_then store a.input (P file) (Q file) (then file)) told
